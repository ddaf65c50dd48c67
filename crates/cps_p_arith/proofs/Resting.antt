-- What is possible at each end of a demand's subjects, and how strong that makes a task at rest.
use Rattle.std.proofs.Common.{ℕ, zero, suc, ◌+◌, ◌<◌, ◌≤◌, ℤ, pos, ◌≤ℤ◌, ◌<ℤ◌, Bool, true, false, true≢false, Option, Some, None, List, [], ◌∷◌, length, get_or, ◌≡◌, ◌≢◌, ◌⊎◌, inl, inr, refl, sym, ◌∙◌, ap, subst, arith, All, IfSome}
use Rattle.std.specs.List.{AllZip}
use Rattle.std.proofs.lemmas.Int.{ints, by_lt_z}
use Rattle.std.proofs.lemmas.List.Elements.{All-nil, All-cons}
use Rattle.cps_literal.specs.declared.atom.Atom.{Atom}
use Rattle.cps_literal.specs.Truth.{value_at, atom_holds, meets}
use Rattle.cps_trail.specs.Trail.{Trail, IsTrueNow}
use Rattle.cps_propagate.specs.Now.{IsOpenTo, IsEndNow}
use Rattle.cps_propagate.specs.Arithmetic.{IsInHull, IsInHullAt, Ranges, IsDivision, MayDivideIn, MayLeaveIn, MayMultiply, MayMultiplyIn, MayBeGreatest, FallsShort, IsStrongGreatest, IsUnexcludedAtEnds}
use Rattle.cps_propagate.specs.Strength.{IsStrongBody, IsExcludedBody}
use Rattle.cps_rule.specs.declared.rule.Narrowing.{Narrowing}
use Rattle.cps_p_arith.specs.declared.ends.Ends.{Ends}
use Rattle.cps_p_arith.specs.declared.bounds.Bounds.{Bounds}
use Rattle.cps_p_arith.specs.declared.bounds.Demand.{Demand}
use Rattle.cps_p_arith.specs.declared.bounds.Place.{Place}
use Rattle.cps_p_arith.specs.declared.narrow.Side.{Side}
use Rattle.cps_p_arith.specs.declared.narrow.Side.TheVariants.{Low, High}
use Rattle.cps_p_arith.specs.declared.relation.Relation.{Relation}
use Rattle.cps_p_arith.specs.declared.relation.Relation.TheVariants.{Quotient, Remainder, Product, Greatest}
use Rattle.cps_p_arith.specs.Ranges.{IsIn, AreIn, IsOrdered}
use Rattle.cps_p_arith.specs.Maxima.{MayReach, IsAlone, IsOnlyReaching}
use Rattle.cps_p_arith.specs.Demands.{body_by, AreEndsNow, AreMeasured, LieWithinBounds, IsDemandMissed, IsDemandSubject, IsHeldPlace, IsImplied, AreImplied, AddsNarrowing, MayDivideEach, MayLeaveEach, Admits, AdmitsOrdered, IsCutAt, AreCut, IsPossibleAt, IsMissedAt, AreAdmitted, end_of, IsPast, IsFoundAt, IsEndTried, AllTrueNow, AreEndsPossible, TriesPlace, member_of, IsPassedOver, AreTried}
use Rattle.cps_p_arith.proofs.Leaving.{leave_wider}
use Rattle.cps_p_arith.proofs.Zips.{zip_length, zip_at, zip_weaker}
use Rattle.cps_p_arith.proofs.Holding.{either, all_but_last, all_last}

abbrev is_greatest : Relation → Bool
is_greatest Quotient = false
is_greatest Remainder = false
is_greatest Product = false
is_greatest Greatest = true

no_greatest_quotient : Quotient ≡ Greatest → ⊥
no_greatest_quotient h = true≢false (sym (ap is_greatest h))

no_greatest_remainder : Remainder ≡ Greatest → ⊥
no_greatest_remainder h = true≢false (sym (ap is_greatest h))

no_greatest_product : Product ≡ Greatest → ⊥
no_greatest_product h = true≢false (sym (ap is_greatest h))

pub equal_or : (i j : ℕ) → (i ≡ j) ⊎ (i ≢ j)
equal_or zero zero = inl refl
equal_or zero (suc j) = inr (λ e. absurd (omega arith))
equal_or (suc i) zero = inr (λ e. absurd (omega arith))
equal_or (suc i) (suc j) = elim (equal_or i j) [ inl e ↦ inl (ap suc e) | inr n ↦ inr (λ e. n (omega arith)) ]

pub any_default : {A : Type 0} (xs : List A) (k : ℕ) (a b : A) → k < length xs → get_or xs k a ≡ get_or xs k b
any_default [] k a b l = absurd (omega arith)
any_default (x ∷ xs) zero a b l = refl
any_default (x ∷ xs) (suc k) a b l = any_default xs k a b (omega arith)

zip_right : {A B : Type 0} (R : A → B → Type 0) (Q : B → Type 0) → ((a : A) (b : B) → R a b → Q b) → (xs : List A) (ys : List B) → AllZip R xs ys → All Q ys
zip_right R Q f [] [] h = All-nil Q
zip_right R Q f [] (b ∷ ys) h = absurd h
zip_right R Q f (a ∷ xs) [] h = absurd h
zip_right R Q f (a ∷ xs) (b ∷ ys) h = All-cons Q b ys (f a b h.0) (zip_right R Q f xs ys h.1)

zip_through : {A B C : Type 0} (R : A → B → Type 0) (S : B → C → Type 0) (T : A → C → Type 0) → ((a : A) (b : B) (c : C) → R a b → S b c → T a c)
    → (xs : List A) (ys : List B) (zs : List C) → AllZip R xs ys → AllZip S ys zs → AllZip T xs zs
zip_through R S T f [] [] [] h g = tt
zip_through R S T f [] [] (c ∷ zs) h g = absurd g
zip_through R S T f [] (b ∷ ys) zs h g = absurd h
zip_through R S T f (a ∷ xs) [] zs h g = absurd h
zip_through R S T f (a ∷ xs) (b ∷ ys) [] h g = absurd g
zip_through R S T f (a ∷ xs) (b ∷ ys) (c ∷ zs) h g = (f a b c h.0 g.0, zip_through R S T f xs ys zs h.1 g.1)

abbrev none : Ends
none = record { low = pos 0; high = pos 0 }

abbrev one : ℤ → Ends
one v = record { low = v; high = v }

abbrev place_at : ℕ → ℤ → Place
place_at i v = record { subject = i; ends = one v }

abbrev ends_of : ℤ → ℤ → Ends
ends_of l h = record { low = l; high = h }

are_one : (e : Ends) (v : ℤ) → e.low ≡ v → e.high ≡ v → e ≡ one v
are_one e v p q = ap (λ a. ends_of a e.high) p ∙ ap (ends_of v) q

-- ends that a store gives, or one value alone
module _ (s : Trail) where
  ordered_hull : (i : ℕ) (e : Ends) → AreEndsNow s i e → IsOrdered e
  ordered_hull i e h = h.least e.high h.high

  in_hull : (i : ℕ) (e : Ends) (x : ℤ) → AreEndsNow s i e → IsIn e x → IsInHull s i x
  in_hull i e x h b = record { from = (e.low, h.low, b.from); to = (e.high, h.high, b.to) }

  module _ (i : ℕ) (v : ℤ) where
    ordered_cut : (j : ℕ) (e : Ends) → IsCutAt s (place_at i v) j e → IsOrdered e
    ordered_cut j e c = elim (equal_or j i) [
      | inl same ↦ (let v-le : v ≤ℤ v = omega (arith, ints) in subst IsOrdered (sym (c.own same)) v-le)
      | inr other ↦ ordered_hull j e (c.other other)
    ]

    module _ (o : IsOpenTo s i v) where
      low_open : (j : ℕ) (e : Ends) → IsCutAt s (place_at i v) j e → IsOpenTo s j e.low
      low_open j e c = elim (equal_or j i) [
        | inl same ↦ subst (λ k. IsOpenTo s k e.low) (sym same) (subst (λ a. IsOpenTo s i a.low) (sym (c.own same)) o)
        | inr other ↦ (c.other other).low
      ]

      high_open : (j : ℕ) (e : Ends) → IsCutAt s (place_at i v) j e → IsOpenTo s j e.high
      high_open j e c = elim (equal_or j i) [
        | inl same ↦ subst (λ k. IsOpenTo s k e.high) (sym same) (subst (λ a. IsOpenTo s i a.high) (sym (c.own same)) o)
        | inr other ↦ (c.other other).high
      ]

      in_cut : (j : ℕ) (e : Ends) (x : ℤ) → IsCutAt s (place_at i v) j e → IsIn e x → IsInHullAt s i v j x
      in_cut j e x c b = record {
        inside = record { from = (e.low, low_open j e c, b.from); to = (e.high, high_open j e c, b.to) };
        fixed = λ same. (let at : IsIn (one v) x = subst (λ a. IsIn a x) (c.own same) b in let from = at.from in let to = at.to in omega (arith, ints));
      }

  -- where a subject has one value anyway, it has no other
  as_cut : (i : ℕ) (v : ℤ) → AreEndsNow s i (one v) → (j : ℕ) (e : Ends) → AreEndsNow s j e → IsCutAt s (place_at i v) j e
  as_cut i v f j e h = record {
    own = λ same. (let g : AreEndsNow s i e = subst (λ k. AreEndsNow s k e) same h in
        are_one e v
        (let a = f.least e.low g.low in let b = f.greatest e.low g.low in omega (arith, ints))
        (let a = f.least e.high g.high in let b = f.greatest e.high g.high in omega (arith, ints)));
    other = λ _. h;
  }

pub possible_at : (s : Trail) (d : Demand) (i : ℕ) (v : ℤ) (trial : Bounds) → AreCut s d (place_at i v) trial → AdmitsOrdered d.relation trial.target trial.members.items → IsPossibleAt s d i v
possible_at s d i v trial c a = record {
  bounds = trial;
  cut = c;
  admitted = a.at (ordered_cut s i v d.target trial.target c.target) (zip_right (IsCutAt s (place_at i v)) IsOrdered (ordered_cut s i v) d.exprs.items trial.members.items c.members);
}

pub missed_at : (b trial : Bounds) (d : Demand) (i : ℕ) (v : ℤ) → ((xs : List ℤ) → LieWithinBounds b d xs → IsIn (one v) (value_at xs i) → LieWithinBounds trial d xs) → IsDemandMissed trial d → IsMissedAt b d i v
missed_at b trial d i v held missed = record {
  at = λ xs h e m. missed.at xs (held xs h (record { from = omega (arith, ints); to = omega (arith, ints) })) m;
}

pub admitted_now : (s : Trail) (d : Demand) (b : Bounds) → AreMeasured s d b → AdmitsOrdered d.relation b.target b.members.items → AreAdmitted s d b
admitted_now s d b m a = record {
  measured = m;
  admitted = a.at (ordered_hull s d.target b.target m.target) (zip_right (AreEndsNow s) IsOrdered (ordered_hull s) d.exprs.items b.members.items m.members);
}

-- the first atom of an end, and the next ones
pub found_first : (b : Bounds) (d : Demand) (p : Place) (side : Side) (u : Atom) (v : ℤ) → IsHeldPlace b d p → u.subject ≡ p.subject
    → ((x : ℤ) → IsPast side x v → meets u.op u.value x ≡ false) → ((x : ℤ) → meets u.op u.value x ≡ false → IsPast side x v)
    → IsPast side (end_of side p.ends) v → ((x : ℤ) → IsIn p.ends x → IsPast side x v → x ≡ end_of side p.ends)
    → IsMissedAt b d p.subject (end_of side p.ends) → IsFoundAt b d p side u
found_first b d p side u v place same denies only past next missed = record {
  implied = record {
    named = subst (IsDemandSubject d) (sym same) place.named;
    at = λ xs h met. elim (either (atom_holds xs u)) [
      | inl holds ↦ holds
      | inr fails ↦ (
          let false_there : meets u.op u.value (value_at xs p.subject) ≡ false = subst (λ i. meets u.op u.value (value_at xs i) ≡ false) same fails in
          absurd (missed.at xs h (next (value_at xs p.subject) (place.held xs h) (only (value_at xs p.subject) false_there)) met))
    ];
  };
  subject = same;
  denies = denies (end_of side p.ends) past;
}

pub past_both : (side : Side) (a b c : ℤ) → IsPast side a b → IsPast side b c → IsPast side a c
past_both Low a b c p q = omega (arith, ints)
past_both High a b c p q = omega (arith, ints)

pub found_next : (b : Bounds) (d : Demand) (p : Place) (side : Side) (u : Atom) (from v : ℤ) → IsImplied b d u → u.subject ≡ p.subject
    → ((x : ℤ) → IsPast side x v → meets u.op u.value x ≡ false) → IsPast side (end_of side p.ends) from → IsPast side from v → IsFoundAt b d p side u
found_next b d p side u from v implied same denies past more = record {
  implied = implied;
  subject = same;
  denies = denies (end_of side p.ends) (past_both side (end_of side p.ends) from v past more);
}

adds_keep : (s : Trail) (best : Option Atom) (old new : List Narrowing) → AddsNarrowing best old new → AllTrueNow s new → AllTrueNow s old
adds_keep s None old new a h = subst (AllTrueNow s) a h
adds_keep s (Some u) old new a h = all_but_last (λ n. IsTrueNow s n.target) old a.0 (subst (AllTrueNow s) a.2 h)

end_open : (s : Trail) (i : ℕ) (side : Side) (e : Ends) → AreEndsNow s i e → IsOpenTo s i (end_of side e)
end_open s i Low e h = h.low
end_open s i High e h = h.high

same_end : (side : Side) (e : Ends) → e.low ≡ e.high → one (end_of side e) ≡ e
same_end Low e h = ap (ends_of e.low) h
same_end High e h = ap (λ a. ends_of a e.high) (sym h)

-- one value alone is possible where the whole is
fixed_end : (s : Trail) (d : Demand) (b : Bounds) (p : Place) (side : Side) → AreAdmitted s d b → AreEndsNow s p.subject p.ends → p.ends.low ≡ p.ends.high → IsPossibleAt s d p.subject (end_of side p.ends)
fixed_end s d b p side a h e =
    let v = end_of side p.ends in
    let f : AreEndsNow s p.subject (one v) = subst (AreEndsNow s p.subject) (sym (same_end side p.ends e)) h in
    record {
      bounds = b;
      cut = record {
        target = as_cut s p.subject v f d.target b.target a.measured.target;
        members = zip_weaker (AreEndsNow s) (IsCutAt s (place_at p.subject v)) (as_cut s p.subject v f) d.exprs.items b.members.items a.measured.members;
      };
      admitted = a.admitted;
    }

end_possible : (s : Trail) (b : Bounds) (d : Demand) (p : Place) (side : Side) (best : Option Atom) (old new : List Narrowing) → IsEndTried b d p side best → AddsNarrowing best old new
    → AreAdmitted s d b → AreEndsNow s p.subject p.ends → AllTrueNow s new → IsPossibleAt s d p.subject (end_of side p.ends)
end_possible s b d p side None old new t adds a h trues =
    by_lt_z p.ends.low p.ends.high
    (λ less. t less s a.measured)
    (λ more. fixed_end s d b p side a h (let o = ordered_hull s p.subject p.ends h in omega (arith, ints)))
end_possible s b d p side (Some u) old new t adds a h trues =
    let there : IsTrueNow s adds.0.target = all_last (λ n. IsTrueNow s n.target) old adds.0 (subst (AllTrueNow s) adds.2 trues) in
    let now : IsTrueNow s u = subst (IsTrueNow s) adds.1 there in
    let met = now (end_of side p.ends) (subst (λ i. IsOpenTo s i (end_of side p.ends)) (sym t.subject) (end_open s p.subject side p.ends h)) in
    absurd (true≢false (sym met ∙ t.denies))

pub place_tried : (b : Bounds) (d : Demand) (p : Place) (low high : Option Atom) (old middle new : List Narrowing) → IsEndTried b d p Low low → IsEndTried b d p High high
    → AddsNarrowing low old middle → AddsNarrowing high middle new → TriesPlace b d p old new
place_tried b d p low high old middle new l h m n = record {
  keeps = λ s t. adds_keep s low old middle m (adds_keep s high middle new n t);
  possible = λ s a e t. record {
    low = end_possible s b d p Low low old middle l m a e (adds_keep s high middle new n t);
    high = end_possible s b d p High high middle new h n a e t;
  };
}

pub tried_implied : (b : Bounds) (d : Demand) (p : Place) (side : Side) (best : Option Atom) → IsEndTried b d p side best → IfSome best (λ u. IsImplied b d u)
tried_implied b d p side None t = tt
tried_implied b d p side (Some u) t = t.implied

-- what is possible of ends is possible of the values between them
module _ (R : ℕ → Ends → Type 0) (may : Ranges) (f : (j : ℕ) (e : Ends) (x : ℤ) → R j e → IsIn e x → may j x) where
  multiply_in : (t : ℕ) (is : List ℕ) (e : Ends) (es : List Ends) → R t e → AllZip R is es → MayMultiply (AreIn es) (IsIn e) → MayMultiplyIn t is may
  multiply_in t is e es own rest h =
      let l = h.low in
      let g = h.high in
      record {
        low = (l.0, l.1, zip_through R IsIn may f is es l.0 rest l.2, f t e l.1 own l.3, l.4);
        high = (g.0, g.1, zip_through R IsIn may f is es g.0 rest g.2, f t e g.1 own g.3, g.4);
      }

  division_in : (n d t : ℕ) (a b e : Ends) → R n a → R d b → R t e → IsDivision (IsIn a) (IsIn b) (IsIn e) → IsDivision (may n) (may d) (may t)
  division_in n d t a b e rn rd rt h = record {
    n = h.n;
    d = h.d;
    x = h.x;
    number = f n a h.n rn h.number;
    divisor = f d b h.d rd h.divisor;
    target = f t e h.x rt h.target;
  }

  divide_in : (t : ℕ) (is : List ℕ) (e : Ends) (es : List Ends) → R t e → AllZip R is es → MayDivideEach e es → MayDivideIn t is may
  unfolding division_in
  divide_in t [] e [] own rest h = absurd h
  divide_in t [] e (b ∷ es) own rest h = absurd rest
  divide_in t (i ∷ is) e [] own rest h = absurd rest
  divide_in t (i ∷ []) e (a ∷ []) own rest h = absurd h
  divide_in t (i ∷ []) e (a ∷ b ∷ es) own rest h = absurd rest.1
  divide_in t (i ∷ j ∷ is) e (a ∷ []) own rest h = absurd rest.1
  divide_in t (i ∷ j ∷ []) e (a ∷ b ∷ []) own rest h = record {
    low = division_in i j t a b e rest.0 rest.1.0 own h.low;
    at_most = h.at_most;
    high = division_in i j t a b e rest.0 rest.1.0 own h.high;
    at_least = h.at_least;
    one_sign = h.one_sign;
  }
  divide_in t (i ∷ j ∷ []) e (a ∷ b ∷ c ∷ es) own rest h = absurd rest.1.1
  divide_in t (i ∷ j ∷ k ∷ is) e (a ∷ b ∷ []) own rest h = absurd rest.1.1
  divide_in t (i ∷ j ∷ k ∷ is) e (a ∷ b ∷ c ∷ es) own rest h = absurd h

  leave_in : (t : ℕ) (is : List ℕ) (e : Ends) (es : List Ends) → R t e → AllZip R is es → MayLeaveEach e es → MayLeaveIn t is may
  leave_in t [] e [] own rest h = absurd h
  leave_in t [] e (b ∷ es) own rest h = absurd rest
  leave_in t (i ∷ is) e [] own rest h = absurd rest
  leave_in t (i ∷ []) e (a ∷ []) own rest h = absurd h
  leave_in t (i ∷ []) e (a ∷ b ∷ es) own rest h = absurd rest.1
  leave_in t (i ∷ j ∷ is) e (a ∷ []) own rest h = absurd rest.1
  leave_in t (i ∷ j ∷ []) e (a ∷ b ∷ []) own rest h =
      leave_wider (IsIn a) (IsIn b) (IsIn e) (may i) (may j) (may t) (λ x g. f i a x rest.0 g) (λ x g. f j b x rest.1.0 g) (λ x g. f t e x own g) h
  leave_in t (i ∷ j ∷ []) e (a ∷ b ∷ c ∷ es) own rest h = absurd rest.1.1
  leave_in t (i ∷ j ∷ k ∷ is) e (a ∷ b ∷ []) own rest h = absurd rest.1.1
  leave_in t (i ∷ j ∷ k ∷ is) e (a ∷ b ∷ c ∷ es) own rest h = absurd h

module _ (s : Trail) (d : Demand) (b : Bounds) (a : AreAdmitted s d b) where
  m : AreMeasured s d b
  m = a.measured

  here : (k : ℕ) → k < length d.exprs.items → AreEndsNow s (get_or d.exprs.items k 0) (get_or b.members.items k none)
  here k l = zip_at (AreEndsNow s) d.exprs.items b.members.items k 0 none m.members l

  same_length : length d.exprs.items ≡ length b.members.items
  same_length = zip_length (AreEndsNow s) d.exprs.items b.members.items m.members

  unseen_greatest : MayReach b.target b.members.items → MayBeGreatest s d.target d.exprs.items
  unseen_greatest h =
      let e = same_length in
      let r = h.reached in
      let l : r.0 < length d.exprs.items = (let k = r.1 in omega arith) in
      record {
        reached = (b.target.low, r.0, (get_or b.members.items r.0 none).high, m.target.low, l, (here r.0 l).high, r.2 none);
        above = λ k l. (b.target.high, (get_or b.members.items k none).low, m.target.high, (here k l).low, h.above k none (omega arith));
      }

  unseen_at : (k : Relation) → d.relation ≡ k → IsExcludedBody (body_by k d.target d.exprs.items) s → ⊥
  unseen_at Quotient e excluded = excluded (divide_in (AreEndsNow s) (IsInHull s) (in_hull s) d.target d.exprs.items b.target b.members.items m.target m.members (subst (λ k. Admits k b.target b.members.items) e a.admitted))
  unseen_at Remainder e excluded = excluded (leave_in (AreEndsNow s) (IsInHull s) (in_hull s) d.target d.exprs.items b.target b.members.items m.target m.members (subst (λ k. Admits k b.target b.members.items) e a.admitted))
  unseen_at Product e excluded = excluded (multiply_in (AreEndsNow s) (IsInHull s) (in_hull s) d.target d.exprs.items b.target b.members.items m.target m.members (subst (λ k. Admits k b.target b.members.items) e a.admitted))
  unseen_at Greatest e excluded = excluded (unseen_greatest (subst (λ k. Admits k b.target b.members.items) e a.admitted))

  -- an end is one of two
  end_is : (i : ℕ) (e : Ends) (v : ℤ) → AreEndsNow s i e → IsPossibleAt s d i e.low → IsPossibleAt s d i e.high → IsEndNow s i v → IsPossibleAt s d i v
  end_is i e v h low high end' = elim end'.last [
    | inl least ↦ subst (IsPossibleAt s d i) (let x = least e.low h.low in let y = h.least v end'.reached in let z : e.low ≡ v = omega (arith, ints) in z) low
    | inr most ↦ subst (IsPossibleAt s d i) (let x = most e.high h.high in let y = h.greatest v end'.reached in let z : e.high ≡ v = omega (arith, ints) in z) high
  ]

  module _ (t : AreTried s d b) where
    -- where no member is passed over
    each_end : (d.relation ≡ Greatest → ⊥) → (k : ℕ) (z : ℕ) → k < length (d.target ∷ d.exprs.items) → (v : ℤ) → IsEndNow s (get_or (d.target ∷ d.exprs.items) k z) v
        → IsPossibleAt s d (get_or (d.target ∷ d.exprs.items) k z) v
    each_end other zero z l v e = end_is d.target b.target v m.target t.target.low t.target.high e
    each_end other (suc k) z l v e =
        let l' : k < length d.exprs.items = omega arith in
        let same = any_default d.exprs.items k 0 z l' in
        elim (t.members k l') [
          | inl p ↦ subst (λ i. IsPossibleAt s d i v) same (end_is (get_or d.exprs.items k 0) (get_or b.members.items k none) v (here k l') p.low p.high (subst (λ i. IsEndNow s i v) (sym same) e))
          | inr q ↦ absurd (other q.relation)
        ]

    at_end : (MayHold : Ranges → Type 0) → (d.relation ≡ Greatest → ⊥)
        → ((i : ℕ) (v : ℤ) → IsOpenTo s i v → (p : IsPossibleAt s d i v) → MayHold (IsInHullAt s i v)) → IsUnexcludedAtEnds MayHold s (d.target ∷ d.exprs.items)
    at_end MayHold other f k z l v e = f (get_or (d.target ∷ d.exprs.items) k z) v e.reached (each_end other k z l v e)

    strong_greatest : d.relation ≡ Greatest → IsStrongGreatest s d.target d.exprs.items
    strong_greatest is = record {
      reached = λ x o.
          (let p = t.target.high in
          let g = reach p.bounds p.admitted in
          let r = g.reached in
          let l : r.0 < length d.exprs.items = (let e = cut_length _ p.bounds p.cut.members in let k = r.1 in omega arith) in
          let mine = p.cut.target.own refl in
          let c = zip_at (IsCutAt s (place_at d.target b.target.high)) d.exprs.items p.bounds.members.items r.0 0 none p.cut.members l in
          let over : b.target.high ≤ℤ (get_or p.bounds.members.items r.0 none).high = subst (λ z. z.low ≤ℤ (get_or p.bounds.members.items r.0 none).high) mine (r.2 none) in
          (r.0, (get_or p.bounds.members.items r.0 none).high, l, high_open s d.target b.target.high m.target.high _ _ c, (let up = m.target.greatest x o in omega (arith, ints))));
      above = λ x k o l.
          (let p = t.target.low in
          let g = reach p.bounds p.admitted in
          let mine = p.cut.target.own refl in
          let c = zip_at (IsCutAt s (place_at d.target b.target.low)) d.exprs.items p.bounds.members.items k 0 none p.cut.members l in
          let under : (get_or p.bounds.members.items k none).low ≤ℤ b.target.low = subst (λ z. (get_or p.bounds.members.items k none).low ≤ℤ z.high) mine (g.above k none (let e = cut_length _ p.bounds p.cut.members in omega arith)) in
          ((get_or p.bounds.members.items k none).low, low_open s d.target b.target.low m.target.low _ _ c, (let up = m.target.least x o in omega (arith, ints))));
      below = λ y k l o. elim (t.members k l) [
        | inl q ↦ (
            let p = q.high in
            let g = reach p.bounds p.admitted in
            let c = zip_at (IsCutAt s (place_at (get_or d.exprs.items k 0) (get_or b.members.items k none).high)) d.exprs.items p.bounds.members.items k 0 none p.cut.members l in
            let under : (get_or b.members.items k none).high ≤ℤ p.bounds.target.high = subst (λ z. z.low ≤ℤ p.bounds.target.high) (c.own refl) (g.above k none (let e = cut_length _ p.bounds p.cut.members in omega arith)) in
            (p.bounds.target.high, high_open s (get_or d.exprs.items k 0) (get_or b.members.items k none).high (here k l).high _ _ p.cut.target, (let up = (here k l).greatest y o in omega (arith, ints))))
        | inr q ↦ (b.target.high, m.target.high, (let up = (here k l).greatest y o in let h = q.high in omega (arith, ints)))
      ];
      last = λ y k l short o. (b.target.low, m.target.low, (let from = reaches k l short in let low = (here k l).least y o in omega (arith, ints)));
    }
      where
        reach : (c : Bounds) → Admits d.relation c.target c.members.items → MayReach c.target c.members.items
        reach c h = subst (λ k. Admits k c.target c.members.items) is h

        cut_length : (R : ℕ → Ends → Type 0) (c : Bounds) → AllZip R d.exprs.items c.members.items → length d.exprs.items ≡ length c.members.items
        cut_length R c h = zip_length R d.exprs.items c.members.items h

        alone : (k : ℕ) → ((j : ℕ) → j < length d.exprs.items → j ≢ k → FallsShort s d.target (get_or d.exprs.items j 0)) → IsAlone b.target b.members.items k
        alone k short j z l ne =
            let e = same_length in
            let l' : j < length d.exprs.items = omega arith in
            subst (λ x. x.high <ℤ b.target.low) (any_default b.members.items j none z l) (short j l' ne b.target.low (get_or b.members.items j none).high m.target.low (here j l').high)

        reaches : (k : ℕ) → k < length d.exprs.items → ((j : ℕ) → j < length d.exprs.items → j ≢ k → FallsShort s d.target (get_or d.exprs.items j 0)) → b.target.low ≤ℤ (get_or b.members.items k none).low
        reaches k l short =
            by_lt_z (get_or b.members.items k none).low b.target.low
            (λ less. elim (t.members k l) [
              | inl q ↦ (
                  let p = q.low in
                  let r = (reach p.bounds p.admitted).reached in
                  let lj : r.0 < length d.exprs.items = (let e = cut_length _ p.bounds p.cut.members in let n = r.1 in omega arith) in
                  let i = get_or d.exprs.items k 0 in
                  let v = (get_or b.members.items k none).low in
                  let o = (here k l).low in
                  let c = zip_at (IsCutAt s (place_at i v)) d.exprs.items p.bounds.members.items r.0 0 none p.cut.members lj in
                  let own = m.target.least p.bounds.target.low (low_open s i v o d.target p.bounds.target p.cut.target) in
                  let over = r.2 none in
                  elim (equal_or (get_or d.exprs.items r.0 0) i) [
                    | inl same ↦ (let high : p.bounds.target.low ≤ℤ v = subst (λ z. p.bounds.target.low ≤ℤ z.high) (c.own same) over in absurd (omega (arith, ints)))
                    | inr differ ↦ (
                        let falls = short r.0 lj (λ e. differ (ap (λ j. get_or d.exprs.items j 0) e)) p.bounds.target.low (get_or p.bounds.members.items r.0 none).high
                        (low_open s i v o d.target p.bounds.target p.cut.target) (high_open s i v o (get_or d.exprs.items r.0 0) (get_or p.bounds.members.items r.0 none) c) in
                        absurd (omega (arith, ints)))
                  ])
              | inr q ↦ elim (q.low (alone k short)) [
                | inl from ↦ from
                | inr under ↦ (
                    let r = (reach b a.admitted).reached in
                    let over = r.2 none in
                    elim (equal_or r.0 k) [
                      | inl same ↦ (let over' : b.target.low ≤ℤ (get_or b.members.items k none).high = subst (λ j. b.target.low ≤ℤ (get_or b.members.items j none).high) same over in absurd (omega (arith, ints)))
                      | inr differ ↦ (let falls = alone k short r.0 none r.1 differ in absurd (omega (arith, ints)))
                    ])
              ]
            ])
            (λ more. more)

    strong_at : (k : Relation) → d.relation ≡ k → IsStrongBody (body_by k d.target d.exprs.items) s
    strong_at Quotient e =
        at_end (MayDivideIn d.target d.exprs.items) (λ g. no_greatest_quotient (sym e ∙ g))
        (λ i v o p. divide_in (IsCutAt s (place_at i v)) (IsInHullAt s i v) (in_cut s i v o) d.target d.exprs.items p.bounds.target p.bounds.members.items p.cut.target p.cut.members (subst (λ k. Admits k p.bounds.target p.bounds.members.items) e p.admitted))
    strong_at Remainder e =
        at_end (MayLeaveIn d.target d.exprs.items) (λ g. no_greatest_remainder (sym e ∙ g))
        (λ i v o p. leave_in (IsCutAt s (place_at i v)) (IsInHullAt s i v) (in_cut s i v o) d.target d.exprs.items p.bounds.target p.bounds.members.items p.cut.target p.cut.members (subst (λ k. Admits k p.bounds.target p.bounds.members.items) e p.admitted))
    strong_at Product e =
        at_end (MayMultiplyIn d.target d.exprs.items) (λ g. no_greatest_product (sym e ∙ g))
        (λ i v o p. multiply_in (IsCutAt s (place_at i v)) (IsInHullAt s i v) (in_cut s i v o) d.target d.exprs.items p.bounds.target p.bounds.members.items p.cut.target p.cut.members (subst (λ k. Admits k p.bounds.target p.bounds.members.items) e p.admitted))
    strong_at Greatest e = strong_greatest e

pub unseen : (s : Trail) (d : Demand) (b : Bounds) → AreAdmitted s d b → IsExcludedBody (body_by d.relation d.target d.exprs.items) s → ⊥
unseen s d b a = unseen_at s d b a d.relation refl

pub strong : (s : Trail) (d : Demand) (b : Bounds) → AreAdmitted s d b → AreTried s d b → IsStrongBody (body_by d.relation d.target d.exprs.items) s
strong s d b a t = strong_at s d b a t d.relation refl

-- a member that is not worth trying
pub passed_over : (d : Demand) (b : Bounds) (k : ℕ) (only : Option ℕ) (is-only : Bool) → length b.members.items ≡ length d.exprs.items → k < length d.exprs.items → IsOnlyReaching b.target b.members.items only
    → (only ≡ Some k → is-only ≡ true) → d.relation ≡ Greatest → (member_of d b k).ends.high ≤ℤ b.target.high
    → (is-only ≡ true → (b.target.low ≤ℤ (member_of d b k).ends.low) ⊎ ((member_of d b k).ends.high <ℤ b.target.low))
    → IsPassedOver d b.target b.members.items k (member_of d b k).ends
passed_over d b k only is-only len l reaching at relation high low = record {
  relation = relation;
  high = high;
  low = λ alone. by_lt_z (get_or b.members.items k none).high b.target.low
      (λ less. inr less)
      (λ more. low (at (reaching k (omega arith) (λ z. subst (λ e. b.target.low ≤ℤ e.high) (any_default b.members.items k none z (omega arith)) more) alone)));
}

same_place : (p q : Place) → p.subject ≡ q.subject → p.ends ≡ q.ends → p ≡ q
same_place p q a b = ap (λ i. record { subject = i; ends = p.ends }) a ∙ ap (λ e. record { subject = q.subject; ends = e }) b

pub is_member_place : (b : Bounds) (d : Demand) (k i : ℕ) (e : Ends) → k < length d.exprs.items → length b.members.items ≡ length d.exprs.items → i ≡ get_or d.exprs.items k i → e ≡ get_or b.members.items k e
    → record { subject = i; ends = e } ≡ member_of d b k
is_member_place b d k i e l same is es =
    same_place (record { subject = i; ends = e }) (member_of d b k) (is ∙ any_default d.exprs.items k i 0 l) (es ∙ any_default b.members.items k e none (omega arith))

-- what was narrowed after the target and some of the members
pub record NarrowsUpTo (b : Bounds) (d : Demand) (k : ℕ) (ns : List Narrowing) : Type 0 where
  pub implied : AreImplied b d ns
  pub target : (s : Trail) → AreAdmitted s d b → AllTrueNow s ns → AreEndsPossible s d (record { subject = d.target; ends = b.target })
  pub members : (s : Trail) → AreAdmitted s d b → AllTrueNow s ns → (j : ℕ) → j < k
      → AreEndsPossible s d (member_of d b j) ⊎ IsPassedOver d b.target b.members.items j (member_of d b j).ends

pub narrows_target : (b : Bounds) (d : Demand) (p : Place) (old new : List Narrowing) → p.subject ≡ d.target → p.ends ≡ b.target → AreImplied b d new → TriesPlace b d p old new → NarrowsUpTo b d 0 new
narrows_target b d p old new subject ends implied t = record {
  implied = implied;
  target = λ s a trues. subst (AreEndsPossible s d) (same_place p (record { subject = d.target; ends = b.target }) subject ends)
      (t.possible s a (subst (λ i. AreEndsNow s i p.ends) (sym subject) (subst (AreEndsNow s d.target) (sym ends) a.measured.target)) trues);
  members = λ s a trues j l. absurd (omega arith);
}

more_members : (b : Bounds) (d : Demand) (k : ℕ) (old new : List Narrowing) → NarrowsUpTo b d k old → AreImplied b d new → ((s : Trail) → AllTrueNow s new → AllTrueNow s old)
    → ((s : Trail) → AreAdmitted s d b → AllTrueNow s new → AreEndsPossible s d (member_of d b k) ⊎ IsPassedOver d b.target b.members.items k (member_of d b k).ends)
    → NarrowsUpTo b d (k + 1) new
more_members b d k old new h implied keeps this = record {
  implied = implied;
  target = λ s a trues. h.target s a (keeps s trues);
  members = λ s a trues j l. elim (equal_or j k) [
    | inl same ↦ subst (λ i. AreEndsPossible s d (member_of d b i) ⊎ IsPassedOver d b.target b.members.items i (member_of d b i).ends) (sym same) (this s a trues)
    | inr differ ↦ h.members s a (keeps s trues) j (omega arith)
  ];
}

pub narrows_member : (b : Bounds) (d : Demand) (k : ℕ) (p : Place) (old new : List Narrowing) → k < length d.exprs.items → p ≡ member_of d b k → NarrowsUpTo b d k old → AreImplied b d new → TriesPlace b d p old new
    → NarrowsUpTo b d (k + 1) new
narrows_member b d k p old new l is h implied t =
    more_members b d k old new h implied t.keeps
    (λ s a trues. inl (subst (AreEndsPossible s d) is (t.possible s a (subst (λ q. AreEndsNow s q.subject q.ends) (sym is) (here s d b a k l)) trues)))

pub narrows_over : (b : Bounds) (d : Demand) (k : ℕ) (ns : List Narrowing) → NarrowsUpTo b d k ns → IsPassedOver d b.target b.members.items k (member_of d b k).ends → NarrowsUpTo b d (k + 1) ns
narrows_over b d k ns h over = more_members b d k ns ns h h.implied (λ s t. t) (λ s a trues. inr over)

pub narrows_all : (b : Bounds) (d : Demand) (k : ℕ) (ns : List Narrowing) → length d.exprs.items ≤ k → NarrowsUpTo b d k ns → (s : Trail) → AreAdmitted s d b → AllTrueNow s ns → AreTried s d b
narrows_all b d k ns past h s a trues = record { target = h.target s a trues; members = λ j l. h.members s a trues j (omega arith) }
