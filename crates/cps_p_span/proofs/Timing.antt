-- Between which times a span starts and ends.
use Rattle.std.proofs.Common.{◌≡◌, ◌+ℤ◌, ◌-ℤ◌, ◌≤ℤ◌, inl, ℤ, ℕ, zero, suc, ◌<◌, length, get_or, refl, Option, Some, None, List, [], ◌∷◌, ◌++◌, ap, sym, subst, arith}
use Rattle.std.specs.Prelude.{IfSome}
use Rattle.std.specs.List.{AllZip}
use Rattle.std.proofs.lemmas.Int.{ints}
use Rattle.cps_instance.specs.declared.task.Span.{Span}
use Rattle.cps_domain.proofs.Tests.{le_true, true_le}
use Rattle.cps_literal.specs.declared.atom.Atom.{Atom}
use Rattle.cps_literal.specs.declared.atom.Op.TheVariants.{Ge, Le}
use Rattle.cps_literal.specs.Truth.{value_at}
use Rattle.cps_trail.specs.Trail.{Trail, IsInside}
use Rattle.cps_propagate.specs.Now.{IsOpenTo}
use Rattle.cps_propagate.specs.Strength.{MayEndAt}
use Rattle.cps_p_span.specs.declared.hull.Hull.{Hull}
use Rattle.cps_p_span.specs.declared.seen.Times.{Times}
use Rattle.cps_p_span.specs.Hulls.{IsHullNow}
use Rattle.cps_p_span.specs.Spans.{start_at, end_of, end_at, lead, AreTimes, SaysOfTimes, KeepsStartFrom, KeepsStartUpTo, KeepsEndUpTo}

inside_as : (x y : ℤ) → x ≡ y → IsInside y → IsInside x
inside_as x y e h = subst IsInside (sym e) h

pub times_some : (s : Trail) (p : Span) (far : ℤ) (h : Hull) (v : Times) → p.length ≡ Some far → IsHullNow s p.start h → v.start_low ≡ h.low → v.start_high ≡ h.high → v.end_low ≡ h.low +ℤ far → v.end_high ≡ h.high +ℤ far → AreTimes s p v
times_some s p far h v e m a b c d = record {
  start_low = λ x o. (let k = m.least x o in omega (arith, ints));
  start_high = λ x o. (let k = m.greatest x o in omega (arith, ints));
  end_low = λ x y o q. (let k = m.least x o in let i = ap (λ (l : Option ℤ). end_of l x y) e in omega (arith, ints));
  end_high = λ x y o q. (let k = m.greatest x o in let i = ap (λ (l : Option ℤ). end_of l x y) e in omega (arith, ints));
  start_fixed = λ f x o. (let k = f h.high x m.high o in omega (arith, ints));
  end_fixed = λ f g x y o q. (let k = f h.low x m.low o in let i = ap (λ (l : Option ℤ). end_of l x y) e in omega (arith, ints));
  start_last = subst (λ (x : ℤ). IsOpenTo s p.start x) (sym b) m.high;
  end_first = subst (λ (l : Option ℤ). MayEndAt s p.start p.end l v.end_low) (sym e) (h.low, m.low, c);
  end_most = λ x o. (let k = subst (λ (l : Option ℤ). MayEndAt s p.start p.end l x) e o in let g = m.greatest k.0 k.1 in let i = k.2 in omega (arith, ints));
  inside = record {
    start_low = inside_as v.start_low h.low a m.low_inside;
    start_high = inside_as v.start_high h.high b m.high_inside;
    end_low = inside_as (v.end_low -ℤ lead p.length) h.low (let l = ap lead e in omega (arith, ints)) m.low_inside;
    end_high = inside_as (v.end_high -ℤ lead p.length) h.high (let l = ap lead e in omega (arith, ints)) m.high_inside;
  };
}

pub times_none : (s : Trail) (p : Span) (h u : Hull) (v : Times) → p.length ≡ None → IsHullNow s p.start h → IsHullNow s p.end u → v.start_low ≡ h.low → v.start_high ≡ h.high → v.end_low ≡ u.low → v.end_high ≡ u.high → AreTimes s p v
times_none s p h u v e m n a b c d = record {
  start_low = λ x o. (let k = m.least x o in omega (arith, ints));
  start_high = λ x o. (let k = m.greatest x o in omega (arith, ints));
  end_low = λ x y o q. (let k = n.least y q in let i = ap (λ (l : Option ℤ). end_of l x y) e in omega (arith, ints));
  end_high = λ x y o q. (let k = n.greatest y q in let i = ap (λ (l : Option ℤ). end_of l x y) e in omega (arith, ints));
  start_fixed = λ f x o. (let k = f h.high x m.high o in omega (arith, ints));
  end_fixed = λ f g x y o q. (let k = g u.low y n.low q in let i = ap (λ (l : Option ℤ). end_of l x y) e in omega (arith, ints));
  start_last = subst (λ (x : ℤ). IsOpenTo s p.start x) (sym b) m.high;
  end_first = subst (λ (l : Option ℤ). MayEndAt s p.start p.end l v.end_low) (sym e) (subst (λ (y : ℤ). IsOpenTo s p.end y) (sym c) n.low);
  end_most = λ x o. (let g = n.greatest x (subst (λ (l : Option ℤ). MayEndAt s p.start p.end l x) e o) in omega (arith, ints));
  inside = record {
    start_low = inside_as v.start_low h.low a m.low_inside;
    start_high = inside_as v.start_high h.high b m.high_inside;
    end_low = inside_as (v.end_low -ℤ lead p.length) u.low (let l = ap lead e in omega (arith, ints)) n.low_inside;
    end_high = inside_as (v.end_high -ℤ lead p.length) u.high (let l = ap lead e in omega (arith, ints)) n.high_inside;
  };
}

pub zip_push : {A B : Type 0} (R : A → B → Type 0) (xs : List A) (ys : List B) (x : A) (y : B) → AllZip R xs ys → R x y → AllZip R (xs ++ x ∷ []) (ys ++ y ∷ [])
zip_push R [] [] x y h r = (r, tt)
zip_push R [] (b ∷ ys) x y h r = absurd h
zip_push R (a ∷ xs) [] x y h r = absurd h
zip_push R (a ∷ xs) (b ∷ ys) x y h r = (h.0, zip_push R xs ys x y h.1 r)

pub zip_length : {A B : Type 0} (R : A → B → Type 0) (xs : List A) (ys : List B) → AllZip R xs ys → length xs ≡ length ys
zip_length R [] [] h = refl
zip_length R [] (b ∷ ys) h = absurd h
zip_length R (a ∷ xs) [] h = absurd h
zip_length R (a ∷ xs) (b ∷ ys) h = let rest = zip_length R xs ys h.1 in omega arith

pub zip_at : {A B : Type 0} (R : A → B → Type 0) (xs : List A) (ys : List B) (k : ℕ) (d : A) (e : B) → AllZip R xs ys → k < length xs → R (get_or xs k d) (get_or ys k e)
zip_at R [] ys k d e h l = absurd (omega arith)
zip_at R (x ∷ xs) [] k d e h l = absurd h
zip_at R (x ∷ xs) (y ∷ ys) zero d e h l = h.0
zip_at R (x ∷ xs) (y ∷ ys) (suc k) d e h l = zip_at R xs ys k d e h.1 (omega arith)

-- what a bound of a start says of the end that is so far from it
pub says_end_from : (p : Span) (u : Atom) (far time sooner : ℤ) → p.length ≡ Some far → sooner ≡ time -ℤ far → SaysOfTimes p u (λ xs. sooner ≤ℤ start_at xs p) → SaysOfTimes p u (λ xs. time ≤ℤ end_at xs p)
says_end_from p u far time sooner e same h = record {
  place = h.place;
  says = λ xs a. (let k = h.says xs a in let i = ap (λ (l : Option ℤ). end_of l (value_at xs p.start) (value_at xs p.end)) e in omega (arith, ints));
  said = λ xs a. h.said xs (let i = ap (λ (l : Option ℤ). end_of l (value_at xs p.start) (value_at xs p.end)) e in omega (arith, ints));
}

pub says_end_up_to : (p : Span) (u : Atom) (far time sooner : ℤ) → p.length ≡ Some far → sooner ≡ time -ℤ far → SaysOfTimes p u (λ xs. start_at xs p ≤ℤ sooner) → SaysOfTimes p u (λ xs. end_at xs p ≤ℤ time)
says_end_up_to p u far time sooner e same h = record {
  place = h.place;
  says = λ xs a. (let k = h.says xs a in let i = ap (λ (l : Option ℤ). end_of l (value_at xs p.start) (value_at xs p.end)) e in omega (arith, ints));
  said = λ xs a. h.said xs (let i = ap (λ (l : Option ℤ). end_of l (value_at xs p.start) (value_at xs p.end)) e in omega (arith, ints));
}

pub says_start_from : (p : Span) (time v : ℤ) → v ≡ time → SaysOfTimes p (record { subject = p.start; op = Ge; value = v }) (λ xs. time ≤ℤ start_at xs p)
says_start_from p time v e = record {
  place = inl refl;
  says = λ xs a. (let k = true_le v (value_at xs p.start) a in omega (arith, ints));
  said = λ xs a. le_true v (value_at xs p.start) (omega (arith, ints));
}

pub says_start_up_to : (p : Span) (time v : ℤ) → v ≡ time → SaysOfTimes p (record { subject = p.start; op = Le; value = v }) (λ xs. start_at xs p ≤ℤ time)
says_start_up_to p time v e = record {
  place = inl refl;
  says = λ xs a. (let k = true_le (value_at xs p.start) v a in omega (arith, ints));
  said = λ xs a. le_true (value_at xs p.start) v (omega (arith, ints));
}

-- what a bound that is true now keeps
pub keeps_start_from : (p : Span) (time v : ℤ) → v ≡ time → KeepsStartFrom p time (record { subject = p.start; op = Ge; value = v })
keeps_start_from p time v e = λ s h x o. (let k = true_le v x (h x o) in omega (arith, ints))

pub keeps_start_up_to : (p : Span) (time v : ℤ) → v ≡ time → KeepsStartUpTo p time (record { subject = p.start; op = Le; value = v })
keeps_start_up_to p time v e = λ s h x o. (let k = true_le x v (h x o) in omega (arith, ints))

pub keeps_end_up_to : (p : Span) (time v : ℤ) → p.length ≡ None → v ≡ time → KeepsEndUpTo p time (record { subject = p.end; op = Le; value = v })
keeps_end_up_to p time v e f = λ s h x m. (let k = true_le x v (h x (subst (λ (l : Option ℤ). MayEndAt s p.start p.end l x) e m)) in omega (arith, ints))

pub keeps_end_by_start : (p : Span) (u : Atom) (far time sooner : ℤ) → p.length ≡ Some far → sooner ≡ time -ℤ far → KeepsStartUpTo p sooner u → KeepsEndUpTo p time u
keeps_end_by_start p u far time sooner e f h = λ s t x m.
    let k = subst (λ (l : Option ℤ). MayEndAt s p.start p.end l x) e m in
    let b = h s t k.0 k.1 in
    let q = k.2 in
    omega (arith, ints)

pub IfSome-map : {A : Type 0} (o : Option A) {P Q : A → Type 0} → ((x : A) → P x → Q x) → IfSome o P → IfSome o Q
IfSome-map (Some x) f h = f x h
IfSome-map None f h = tt
