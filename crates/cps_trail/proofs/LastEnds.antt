-- Up to where no end of a subject's domain has moved.
use Rattle.std.proofs.Common.{ℕ, ◌+◌, ◌-◌, ◌≤◌, ◌<◌, ℤ, ◌≡◌, ◌≢◌, Bool, true, false, ◌&&◌, List, [], ◌∷◌, ◌++◌, length, take, drop, get_or, refl, sym, ◌∙◌, ap, subst, arith, length-append, ◌↔◌}
use Rattle.std.proofs.lemmas.Int.{ints}
use Rattle.std.proofs.lemmas.List.{take_more, get_or-take, length-take, take_all, take-take, take-append-le, get_or_append_left, take-append-drop}
use Rattle.std.proofs.Math.Seq.{get_or-append_seam}
use Rattle.std.specs.Prelude.{not}
use Rattle.cps_domain.specs.Window.{equals}
use Rattle.cps_domain.proofs.Tests.{le_false, false_le, equals_yes}
use Rattle.cps_literal.specs.declared.atom.Atom.{Atom}
use Rattle.cps_literal.specs.declared.atom.Op.{Op}
use Rattle.cps_literal.specs.declared.atom.Op.TheVariants.{Le, Ge, Eq, Ne}
use Rattle.cps_literal.specs.Truth.{meets, IsFalseOn}
use Rattle.cps_trail.specs.Trail.{Domains, Entry, admits, IsLastOn}
use Rattle.cps_trail.specs.Changes.{IsHull, IsEntryOn, IsLastEnd, KeepsEnds}
use Rattle.cps_trail.proofs.Keeping.{hull_same}
use Rattle.cps_trail.proofs.Laws.{admits-push, admits-append}
use Rattle.cps_trail.proofs.Times.{and_left, and_right, and_both}
use Rattle.cps_trail.proofs.Walks.{skip, leaves_on}

-- a set between two with the same ends has these ends
pub hull_between : (p q r : ℤ → Bool) (h : ℤ × ℤ) → ((x : ℤ) → r x ≡ true → q x ≡ true) → ((x : ℤ) → q x ≡ true → p x ≡ true) → IsHull p h → IsHull r h → IsHull q h
hull_between p q r h rq qp a b = record { low = rq h.0 b.low; high = rq h.1 b.high; least = λ x e. a.least x (qp x e); greatest = λ x e. a.greatest x (qp x e) }

-- a set that loses neither end keeps both, and its ends were those before
pub hull_kept : (p keeps : ℤ → Bool) (h : ℤ × ℤ) → IsHull p h → keeps h.0 ≡ true → keeps h.1 ≡ true → IsHull (λ x. p x && keeps x) h
hull_kept p keeps h a low high = record {
  low = and_both (p h.0) (keeps h.0) a.low low;
  high = and_both (p h.1) (keeps h.1) a.high high;
  least = λ x e. a.least x (and_left (p x) (keeps x) e);
  greatest = λ x e. a.greatest x (and_left (p x) (keeps x) e);
}

pub hull_back : (p keeps : ℤ → Bool) (h g : ℤ × ℤ) → IsHull p h → keeps h.0 ≡ true → keeps h.1 ≡ true → IsHull (λ x. p x && keeps x) g → IsHull p g
hull_back p keeps h g a low high b = record {
  low = and_left (p g.0) (keeps g.0) b.low;
  high = and_left (p g.1) (keeps g.1) b.high;
  least = λ x e. let s = b.least h.0 (and_both (p h.0) (keeps h.0) a.low low) in let t = a.least x e in omega (arith, ints, s, t);
  greatest = λ x e. let s = b.greatest h.1 (and_both (p h.1) (keeps h.1) a.high high) in let t = a.greatest x e in omega (arith, ints, s, t);
}

is_equal : (x v : ℤ) → meets Ne v x ≡ false → x ≡ v
is_equal x v e = same_of x v (negated (equals x v) e)
  where
    negated : (b : Bool) → not b ≡ false → b ≡ true
    negated true e = refl
    negated false e = sym e

    same_of : (x v : ℤ) → equals x v ≡ true → x ≡ v
    same_of x v e = grind (arith, ints)

equal_is : (x v : ℤ) → x ≡ v → meets Ne v x ≡ false
equal_is x v e = ap not (subst (λ (y : ℤ). equals x y ≡ true) e (equals_yes x))

-- a comparison but `=` is false on a set where it is false on another with the same ends
pub false_by_ends : (p q : ℤ → Bool) (h : ℤ × ℤ) (op : Op) (v : ℤ) → op ≢ Eq → IsHull p h → IsHull q h → IsFalseOn p op v → IsFalseOn q op v
false_by_ends p q h Le v ne a b f x e = let s = false_le h.0 v (f h.0 a.low) in let t = b.least x e in le_false x v (omega (arith, ints, s, t))
false_by_ends p q h Ge v ne a b f x e = let s = false_le v h.1 (f h.1 a.high) in let t = b.greatest x e in le_false v x (omega (arith, ints, s, t))
false_by_ends p q h Eq v ne a b f x e = absurd (ne refl)
false_by_ends p q h Ne v ne a b f x e =
    let low = is_equal h.0 v (f h.0 a.low) in
    let high = is_equal h.1 v (f h.1 a.high) in
    let s = b.least x e in
    let t = b.greatest x e in
    equal_is x v (omega (arith, ints, low, high, s, t))

-- what is left after more entries was left after fewer
pub admits_fewer : (first : Domains) (es : List Entry) (i : ℕ) (x : ℤ) (m n : ℕ) → m ≤ n → admits first (take n es) i x ≡ true → admits first (take m es) i x ≡ true
admits_fewer first es i x m n l a =
    let split : take m es ++ drop m (take n es) ≡ take n es = ap (λ (fs : List Entry). fs ++ drop m (take n es)) (sym (take-take m n es l)) ∙ take-append-drop m (take n es) in
    admits-append first (take m es) (drop m (take n es)) i x (ap (λ fs. admits first fs i x) split ∙ a)

pub hull_squeezed : (first : Domains) (es : List Entry) (i : ℕ) (h : ℤ × ℤ) (m n k : ℕ) → m ≤ n → n ≤ k → IsHull (admits first (take m es) i) h → IsHull (admits first (take k es) i) h → IsHull (admits first (take n es) i) h
hull_squeezed first es i h m n k a b low high =
    hull_between (admits first (take m es) i) (admits first (take n es) i) (admits first (take k es) i) h (λ x e. admits_fewer first es i x n k b e) (λ x e. admits_fewer first es i x m n a e) low high

-- a subject had these ends after the first n entries, and still at a moment from the first m on
pub record IsHullSince (first : Domains) (es : List Entry) (i n m : ℕ) (h : ℤ × ℤ) : Type 0 where
  pub place : ℕ
  pub above : m ≤ place
  pub low : IsHull (admits first (take n es) i) h
  pub high : IsHull (admits first (take place es) i) h

pub hull_at : (first : Domains) (es : List Entry) (i n m : ℕ) (h : ℤ × ℤ) → n ≤ m → IsHullSince first es i n m h → IsHull (admits first (take m es) i) h
hull_at first es i n m h l s = hull_squeezed first es i h n m s.place l s.above s.low s.high

-- entries about other subjects move no end of this one
pub end_extended : (first : Domains) (es : List Entry) (i m n r : ℕ) → m ≤ n → n ≤ length es → ((k : ℕ) (d : Entry) → m ≤ k → k < n → (get_or es k d).atom.subject ≢ i) → IsLastEnd first (take m es) i r → IsLastEnd first (take n es) i r
end_extended first es i m n r l w none h =
    let len : length (take m es) ≡ m = omega (arith, length-take m es, l, w) in
    let len' : length (take n es) ≡ n = omega (arith, length-take n es, w) in
    let short : take r (take m es) ≡ take r es = take-take r m es (omega (arith, h.within, len)) in
    let long : take r (take n es) ≡ take r es = take-take r n es (omega (arith, h.within, len, l)) in
    record {
      within = omega (arith, h.within, len, len', l);
      here = λ k d e.
          ap (λ (f : Entry). f.atom.subject) (get_or-take n es k d (omega (arith, e, h.within, len, l)) ∙ sym (get_or-take m es k d (omega (arith, e, h.within, len)))) ∙ h.here k d e;
      ends = λ hull g.
          subst (λ fs. IsHull (admits first fs i) hull) (short ∙ sym long)
          (h.ends hull (hull_same (admits first (take n es) i) (admits first (take m es) i) hull (λ x. sym (skip first es i x m n l w none)) g));
    }

pub end_reached : (first : Domains) (es : List Entry) (i n last r : ℕ) → n ≤ length es → IsLastOn (take n es) i last → IsLastEnd first (take last es) i r → IsLastEnd first (take n es) i r
end_reached first es i n last r w l h =
    let len : length (take n es) ≡ n = omega (arith, length-take n es, w) in
    end_extended first es i last n r (omega (arith, l.within, len)) w (λ k d a b e. l.after k d a (omega (arith, len, b)) (ap (λ (f : Entry). f.atom.subject) (get_or-take n es k d b) ∙ e)) h

pub last_subject : (es : List Entry) (i n last : ℕ) → 0 < last → n ≤ length es → IsLastOn (take n es) i last → (d : Entry) → (get_or es (last - 1) d).atom.subject ≡ i
last_subject es i n last p w l d =
    let len : length (take n es) ≡ n = omega (arith, length-take n es, w) in
    ap (λ (f : Entry). f.atom.subject) (sym (get_or-take n es (last - 1) d (omega (arith, p, l.within, len)))) ∙ l.here (last - 1) d (omega (arith, p))

pub end_none : (first : Domains) (es : List Entry) (i : ℕ) → IsLastEnd first (take 0 es) i 0
end_none first es i = record {
  within = omega arith;
  here = λ k d e. absurd (omega (arith, e));
  ends = λ hull g. subst (λ fs. IsHull (admits first fs i) hull) (sym (take-take 0 0 es (omega arith))) g;
}

pub end_whole : (first : Domains) (es : List Entry) (i n : ℕ) → IsLastEnd first (take (length es) es) i n → IsLastEnd first es i n
end_whole first es i n h = subst (λ fs. IsLastEnd first fs i n) (take_all (length es) es (omega arith)) h

pub some_entry : (fs : List Entry) (j : ℕ) → j < length fs → Entry
some_entry [] j b = absurd (omega (arith, b))
some_entry (f ∷ fs) j b = f

-- one step back from an entry about the subject to the one before it that moved an end
pub record IsEndStep (first : Domains) (es : List Entry) (i place n : ℕ) : Type 0 where
  pub lower : n < place
  pub within : n ≤ length es
  pub here : IsEntryOn es i n
  pub ends : (hull : ℤ × ℤ) → IsHull (admits first (take (place - 1) es) i) hull → IsHull (admits first (take n es) i) hull

pub end_step : (first : Domains) (es : List Entry) (i place n : ℕ) → 0 < place → place ≤ length es → IsEntryOn es i place → ((d : Entry) → IsLastEnd first (take (place - 1) es) (get_or es (place - 1) d).atom.subject n) → IsEndStep first es i place n
end_step first es i place n p l on last =
    let d = some_entry es (place - 1) (omega (arith, p, l)) in
    let h = subst (λ j. IsLastEnd first (take (place - 1) es) j n) (on.here (place - 1) d (omega (arith, p))) (last d) in
    let len : length (take (place - 1) es) ≡ place - 1 = omega (arith, length-take (place - 1) es, l) in
    record {
      lower = omega (arith, h.within, len, p);
      within = omega (arith, h.within, len, l);
      here = record { here = λ k c e. sym (ap (λ (f : Entry). f.atom.subject) (get_or-take (place - 1) es k c (omega (arith, e, h.within, len)))) ∙ h.here k c e };
      ends = λ hull g. subst (λ fs. IsHull (admits first fs i) hull) (take-take n (place - 1) es (omega (arith, h.within, len))) (h.ends hull g);
    }

pub end_on : (first : Domains) (es : List Entry) (i n : ℕ) → IsLastEnd first es i n → IsEntryOn es i n
end_on first es i n h = record { here = h.here }

-- one more entry about the subject
pushed : (first : Domains) (es : List Entry) (e : Entry) (i : ℕ) (x : ℤ) → e.atom.subject ≡ i → admits first (es ++ e ∷ []) i x ≡ (admits first es i x && meets e.atom.op e.atom.value x)
pushed first es e i x s = admits-push first es e i x ∙ ap (λ b. admits first es i x && b) (leaves_on e i x s)

push_length : (es : List Entry) (e : Entry) → length (es ++ e ∷ []) ≡ length es + 1
push_length es e = length-append es (e ∷ [])

pub end_here : (first : Domains) (es : List Entry) (e : Entry) (i n : ℕ) → e.atom.subject ≡ i → n ≡ length es + 1 → IsLastEnd first (es ++ e ∷ []) i n
end_here first es e i n s q = record {
  within = omega (arith, q, push_length es e);
  here = λ k d r. ap (λ (f : Entry). f.atom.subject) (ap (λ j. get_or (es ++ e ∷ []) j d) (let t : k ≡ length es = omega (arith, q, r) in t) ∙ get_or-append_seam es e [] d) ∙ s;
  ends = λ hull g. subst (λ fs. IsHull (admits first fs i) hull) (sym (take_all n (es ++ e ∷ []) (omega (arith, q, push_length es e)))) g;
}

pub end_stays : (first : Domains) (es : List Entry) (e : Entry) (i n : ℕ) (h : ℤ × ℤ) → e.atom.subject ≡ i → IsLastEnd first es i n → IsHull (admits first es i) h
    → meets e.atom.op e.atom.value h.0 ≡ true → meets e.atom.op e.atom.value h.1 ≡ true → IsLastEnd first (es ++ e ∷ []) i n
end_stays first es e i n h s last a low high = record {
  within = omega (arith, last.within, push_length es e);
  here = λ k d r. ap (λ (f : Entry). f.atom.subject) (get_or_append_left es (e ∷ []) d k (omega (arith, r, last.within))) ∙ last.here k d r;
  ends = λ hull g.
      subst (λ fs. IsHull (admits first fs i) hull) (sym (take-append-le n es (e ∷ []) last.within))
      (last.ends hull (hull_back (admits first es i) (meets e.atom.op e.atom.value) h hull a low high
      (hull_same (admits first (es ++ e ∷ []) i) (λ x. admits first es i x && meets e.atom.op e.atom.value x) hull (λ x. sym (pushed first es e i x s)) g)));
}

-- an entry keeps both ends where both meet its atom
after_cut : (first : Domains) (es : List Entry) (k : ℕ) (t : Atom) → k < length es → ((d : Entry) → (get_or es k d).atom ≡ t) → (x : ℤ)
    → admits first (take (k + 1) es) t.subject x ≡ (admits first (take k es) t.subject x && meets t.op t.value x)
after_cut first es k t l read x =
    let d = some_entry es k l in
    ap (λ fs. admits first fs t.subject x) (take_more es k d l) ∙ pushed first (take k es) (get_or es k d) t.subject x (ap (λ (u : Atom). u.subject) (read d))
    ∙ ap (λ (u : Atom). admits first (take k es) t.subject x && meets u.op u.value x) (read d)

keeps : (first : Domains) (es : List Entry) (k : ℕ) (t : Atom) (h : ℤ × ℤ) → k < length es → ((d : Entry) → (get_or es k d).atom ≡ t) → IsHull (admits first (take k es) t.subject) h
    → (meets t.op t.value h.0 ≡ true) × (meets t.op t.value h.1 ≡ true) → KeepsEnds first es k
keeps first es k t h l read a m = record {
  ends = λ d hull b.
      let g = subst (λ (u : Atom). IsHull (admits first (take k es) u.subject) hull) (read d) b in
      let low : h.0 ≡ hull.0 = (let x = a.least hull.0 g.low in let y = g.least h.0 a.low in omega (arith, ints, x, y)) in
      let high : h.1 ≡ hull.1 = (let x = a.greatest hull.1 g.high in let y = g.greatest h.1 a.high in omega (arith, ints, x, y)) in
      subst (λ (u : Atom). IsHull (admits first (take (k + 1) es) u.subject) hull) (sym (read d))
      (hull_same (λ x. admits first (take k es) t.subject x && meets t.op t.value x) (admits first (take (k + 1) es) t.subject) hull (λ x. after_cut first es k t l read x)
      (hull_kept (admits first (take k es) t.subject) (meets t.op t.value) hull g (subst (λ x. meets t.op t.value x ≡ true) low m.0) (subst (λ x. meets t.op t.value x ≡ true) high m.1)));
}

kept_ends : (first : Domains) (es : List Entry) (k : ℕ) (t : Atom) (h : ℤ × ℤ) → k < length es → ((d : Entry) → (get_or es k d).atom ≡ t) → IsHull (admits first (take k es) t.subject) h
    → KeepsEnds first es k → (meets t.op t.value h.0 ≡ true) × (meets t.op t.value h.1 ≡ true)
kept_ends first es k t h l read a both =
    let d = some_entry es k l in
    let g = subst (λ (u : Atom). IsHull (admits first (take (k + 1) es) u.subject) h) (read d) (both.ends d h (subst (λ (u : Atom). IsHull (admits first (take k es) u.subject) h) (sym (read d)) a)) in (
      and_right (admits first (take k es) t.subject h.0) (meets t.op t.value h.0) (sym (after_cut first es k t l read h.0) ∙ g.low),
      and_right (admits first (take k es) t.subject h.1) (meets t.op t.value h.1) (sym (after_cut first es k t l read h.1) ∙ g.high),
    )

pub keeps_ends : (first : Domains) (es : List Entry) (k : ℕ) (t : Atom) (h : ℤ × ℤ) → k < length es → ((d : Entry) → (get_or es k d).atom ≡ t) → IsHull (admits first (take k es) t.subject) h
    → ((meets t.op t.value h.0 ≡ true) × (meets t.op t.value h.1 ≡ true)) ↔ KeepsEnds first es k
keeps_ends first es k t h l read a = (λ m. keeps first es k t h l read a m, λ both. kept_ends first es k t h l read a both)
