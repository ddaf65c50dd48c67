-- What the rule on demands gives: no value of a demand's domain is negative.
use Rattle.std.specs.Prelude.{All, map, ◌&&◌, int_le, neg_ℤ, if◌then◌else◌, Option, Some, None, slice_get}
use Rattle.std.specs.Int.{int_min}
use Rattle.std.specs.List.{list_all, AllZip}
use Rattle.std.proofs.Common.{◌≡◌, ℕ, zero, suc, ◌+◌, ◌<◌, ◌^◌, List, [], ◌∷◌, ◌++◌, length, get_or, Bool, true, false, refl, sym, ◌∙◌, subst, arith, ℤ, pos, negsuc, ◌+ℤ◌, ◌*ℤ◌, ◌≤ℤ◌}
use Rattle.std.proofs.lemmas.Int.{ints}
use Rattle.std.proofs.lemmas.List.Elements.{All-nil, All-cons}
use borrow.Author.Tests.{ltb-true}
use Rattle.cps_model.specs.declared.model.LinearExpr.{LinearExpr}
use Rattle.cps_model.specs.declared.model.Variable.{Variable}
use Rattle.cps_model.specs.Values.{variable_of, reference_value, expression_value}
use Rattle.cps_model.specs.Within.{is_within}
use Rattle.cps_model.specs.Solutions.{are_within}
use Rattle.cps_model.specs.Start.{least_sum}
use Rattle.cps_model.specs.Ranges.{least_value}
use Rattle.cps_model.specs.Rules.{names, names_variables}
use Rattle.cps_model.specs.KindRules.{is_never_negative}
use Rattle.cps_model.proofs.Tests.{and_true}
use Rattle.cps_model.proofs.Ranges.{least_sum-least, value-least}
use Rattle.cps_instance.specs.declared.term.Term.{Term}
use Rattle.cps_instance.specs.Terms.{Domains, AreIntervals, domain_at, least_of, greatest_of, least_of_terms}
use Rattle.cps_instance.specs.Sums.{DefinedSum, IsSumOf, AreSumsFrom, least_sum_of}
use Rattle.cps_instance.specs.Writing.{term_of, terms_of_reference, terms_of, has_no_opposite, plain_subject, StandsFor, sum_of as defined_sum}
use Rattle.cps_instance.specs.Problem.{IsSubjectOf}
use Rattle.cps_instance.specs.Posting.{HaveValuesOf}
use Rattle.cps_instance.specs.Fitting.{IsNeverNegative}
use Rattle.cps_instance.proofs.Intervals.{least_among, greatest_among, least_of-least}
use Rattle.cps_instance.proofs.Extending.{value_at-extended}
use Rattle.cps_instance.proofs.Summing.{opposites, two_halves, is_least_of_type}
use Rattle.cps_instance.proofs.Standing.{plain_inside}
use Rattle.cps_instance.proofs.Fits.{AreOf, terms_subjects}

both_true : (p q : Bool) → p ≡ true → q ≡ true → (p && q) ≡ true
both_true true q e f = f
both_true false q e f = e

-- the assignment of each domain's least value, and that of each domain's greatest value
leasts : Domains → List ℤ
leasts ds = map least_of ds

greatests : Domains → List ℤ
greatests ds = map greatest_of ds

length-leasts : (ds : Domains) → length (leasts ds) ≡ length ds
unfolding leasts
length-leasts [] = refl
length-leasts (d ∷ ds) = let rest = length-leasts ds in omega arith

leasts_at : (ds : Domains) (i : ℕ) → i < length ds → get_or (leasts ds) i (pos 0) ≡ least_of (domain_at ds i)
unfolding leasts
leasts_at [] i l = absurd (omega arith)
leasts_at (d ∷ ds) zero l = refl
leasts_at (d ∷ ds) (suc i) l = leasts_at ds i (omega arith)

greatests_at : (ds : Domains) (i : ℕ) → i < length ds → get_or (greatests ds) i (pos 0) ≡ greatest_of (domain_at ds i)
unfolding greatests
greatests_at [] i l = absurd (omega arith)
greatests_at (d ∷ ds) zero l = refl
greatests_at (d ∷ ds) (suc i) l = greatests_at ds i (omega arith)

leasts_within : (vs : List Variable) (ds : Domains) → HaveValuesOf vs ds → are_within vs (leasts ds) ≡ true
unfolding leasts
leasts_within [] [] h = refl
leasts_within [] (d ∷ ds) h = absurd h
leasts_within (v ∷ vs) [] h = absurd h
leasts_within (v ∷ vs) (d ∷ ds) h = both_true (is_within v.domain (least_of d)) (are_within vs (leasts ds)) (sym (h.0.values (least_of d)) ∙ least_among d h.0.sound) (leasts_within vs ds h.1)

greatests_within : (vs : List Variable) (ds : Domains) → HaveValuesOf vs ds → are_within vs (greatests ds) ≡ true
unfolding greatests
greatests_within [] [] h = refl
greatests_within [] (d ∷ ds) h = absurd h
greatests_within (v ∷ vs) [] h = absurd h
greatests_within (v ∷ vs) (d ∷ ds) h = both_true (is_within v.domain (greatest_of d)) (are_within vs (greatests ds)) (sym (h.0.values (greatest_of d)) ∙ greatest_among d h.0.sound) (greatests_within vs ds h.1)

min_above : (m x y : ℤ) → m ≤ℤ x → m ≤ℤ y → m ≤ℤ int_min x y
min_above m x y p q = grind (arith, ints)

one_min : (m x y : ℤ) → m ≤ℤ x → m ≤ℤ y → m ≤ℤ (int_min x y +ℤ pos 0)
one_min m x y p q = let h = min_above m x y p q in omega (arith, ints)

two_mins : (m x y : ℤ) → m ≤ℤ (x +ℤ x) → m ≤ℤ (y +ℤ y) → m ≤ℤ (int_min x y +ℤ (int_min x y +ℤ pos 0))
two_mins m x y p q = grind (arith, ints)

least_of_terms-append : (ds : Domains) (ts us : List Term) → least_of_terms ds (ts ++ us) ≡ least_of_terms ds ts +ℤ least_of_terms ds us
least_of_terms-append ds [] us = omega (arith, ints)
least_of_terms-append ds (t ∷ ts) us = let rest = least_of_terms-append ds ts us in omega (arith, ints)

plus_nothing : (m x : ℤ) → m ≤ℤ (x +ℤ pos 0) → m ≤ℤ x
plus_nothing m x h = omega (arith, ints)

-- the terms of a reference are no less than what the domains of the variables leave it
module _ (vs : List Variable) (front ds : Domains) (of : AreOf vs front) (same : (i : ℕ) → i < length front → domain_at front i ≡ domain_at ds i) where
  by_least : (c r : ℤ) → least_sum vs (r ∷ []) (c ∷ []) ≤ℤ (c *ℤ reference_value (leasts front) r)
  by_least c r = plus_nothing _ _ (least_sum-least vs (leasts front) (r ∷ []) (c ∷ []) of.faults (leasts_within vs front of.values))

  by_greatest : (c r : ℤ) → least_sum vs (r ∷ []) (c ∷ []) ≤ℤ (c *ℤ reference_value (greatests front) r)
  by_greatest c r = plus_nothing _ _ (least_sum-least vs (greatests front) (r ∷ []) (c ∷ []) of.faults (greatests_within vs front of.values))

  low_at : (i : ℕ) → i < length front → get_or (leasts front) i (pos 0) ≡ least_of (domain_at ds i)
  low_at i l = subst (λ d. get_or (leasts front) i (pos 0) ≡ least_of d) (same i l) (leasts_at front i l)

  high_at : (i : ℕ) → i < length front → get_or (greatests front) i (pos 0) ≡ greatest_of (domain_at ds i)
  high_at i l = subst (λ d. get_or (greatests front) i (pos 0) ≡ greatest_of d) (same i l) (greatests_at front i l)

  opposite_term : (c : ℤ) (i : ℕ) (m : ℤ) → m ≤ℤ (c *ℤ neg_ℤ (least_of (domain_at ds i))) → m ≤ℤ (c *ℤ neg_ℤ (greatest_of (domain_at ds i))) → m ≤ℤ least_of_terms ds (terms_of_reference c (negsuc i))
  opposite_term c i m p q =
      let low = least_of (domain_at ds i) in
      let high = greatest_of (domain_at ds i) in
      elim (has_no_opposite c) as (λ b. has_no_opposite c ≡ b → m ≤ℤ least_of_terms ds (if b then term_of (pos (2 ^ 62)) i ∷ term_of (pos (2 ^ 62)) i ∷ [] else term_of (neg_ℤ c) i ∷ [])) [
        | true ↦ λ e. (
            let l = is_least_of_type c e in
            let p' : m ≤ℤ (pos (2 ^ 62) *ℤ low +ℤ pos (2 ^ 62) *ℤ low) = subst (λ z. m ≤ℤ z) (sym (two_halves low)) (subst (λ d. m ≤ℤ (d *ℤ neg_ℤ low)) l p) in
            let q' : m ≤ℤ (pos (2 ^ 62) *ℤ high +ℤ pos (2 ^ 62) *ℤ high) = subst (λ z. m ≤ℤ z) (sym (two_halves high)) (subst (λ d. m ≤ℤ (d *ℤ neg_ℤ high)) l q) in
            two_mins m (pos (2 ^ 62) *ℤ low) (pos (2 ^ 62) *ℤ high) p' q')
        | false ↦ λ e. one_min m (neg_ℤ c *ℤ low) (neg_ℤ c *ℤ high) (subst (λ z. m ≤ℤ z) (sym (opposites c low)) p) (subst (λ z. m ≤ℤ z) (sym (opposites c high)) q)
      ] refl

  term_from : (c r : ℤ) → variable_of r < length front → least_sum vs (r ∷ []) (c ∷ []) ≤ℤ least_of_terms ds (terms_of_reference c r)
  term_from c (pos i) l =
      one_min (least_sum vs (pos i ∷ []) (c ∷ [])) (c *ℤ least_of (domain_at ds i)) (c *ℤ greatest_of (domain_at ds i))
      (subst (λ v. least_sum vs (pos i ∷ []) (c ∷ []) ≤ℤ (c *ℤ v)) (low_at i l) (by_least c (pos i)))
      (subst (λ v. least_sum vs (pos i ∷ []) (c ∷ []) ≤ℤ (c *ℤ v)) (high_at i l) (by_greatest c (pos i)))
  term_from c (negsuc i) l =
      opposite_term c i (least_sum vs (negsuc i ∷ []) (c ∷ []))
      (subst (λ v. least_sum vs (negsuc i ∷ []) (c ∷ []) ≤ℤ (c *ℤ neg_ℤ v)) (low_at i l) (by_least c (negsuc i)))
      (subst (λ v. least_sum vs (negsuc i ∷ []) (c ∷ []) ≤ℤ (c *ℤ neg_ℤ v)) (high_at i l) (by_greatest c (negsuc i)))

  terms_from : (rs cs : List ℤ) → list_all (names (length front)) rs ≡ true → least_sum vs rs cs ≤ℤ least_of_terms ds (terms_of rs cs)
  terms_from [] cs h = omega (arith, ints)
  terms_from (r ∷ rs) [] h = omega (arith, ints)
  terms_from (r ∷ rs) (c ∷ cs) h =
      let both = and_true (names (length front) r) (list_all (names (length front)) rs) h in
      let here = term_from c r (ltb-true _ _ both.0) in
      let rest = terms_from rs cs both.1 in
      let whole = least_of_terms-append ds (terms_of_reference c r) (terms_of rs cs) in
      omega (arith, ints)

at_least : (v : ℤ) → int_le (pos 0) v ≡ true → pos 0 ≤ℤ v
at_least v h = grind (arith, ints)

-- the sum of a number is among the sums from one on
sum_among : (ds : Domains) (n : ℕ) (ss : List DefinedSum) (k : ℕ) (s : DefinedSum) → AreSumsFrom ds n ss → slice_get ss k ≡ Some s → IsSumOf ds (n + k) s
sum_among ds n [] k s h e = cc
sum_among ds n (r ∷ ss) zero s h e =
    let same : r ≡ s = cc in
    let place : n ≡ n + 0 = omega arith in
    subst (λ (i : ℕ). IsSumOf ds i s) place (subst (λ (w : DefinedSum). IsSumOf ds n w) same h.0)
sum_among ds n (r ∷ ss) (suc k) s h e =
    let place : (n + 1) + k ≡ n + suc k = omega arith in
    subst (λ (i : ℕ). IsSumOf ds i s) place (sum_among ds (n + 1) ss k s h.1 e)

-- where an expression is never negative, its subject is not
module _ (vs : List Variable) (front ds : Domains) (n : ℕ) (defs : List DefinedSum) (of : AreOf vs front) (long : length front ≡ n)
    (same : (i : ℕ) → i < length front → domain_at front i ≡ domain_at ds i) (sound : (i : ℕ) → i < n + length defs → AreIntervals (domain_at ds i)) (sums : AreSumsFrom ds n defs) where
  plain_demand : (e : LinearExpr) (i v : ℕ) → plain_subject e ≡ Some v → i ≡ v → list_all (names n) e.vars ≡ true → IsSubjectOf n defs e i → pos 0 ≤ℤ least_value vs e → IsNeverNegative ds i
  plain_demand e i v plain is named h low x among =
      let inside : i < n = (let w : v < n = plain_inside n e v plain (terms_subjects n e.vars e.coeffs named) in omega arith) in
      let front_inside : i < length front = omega arith in
      let many : length (leasts front) ≡ n = length-leasts front ∙ long in
      let value : get_or (leasts front) i (pos 0) ≡ expression_value (leasts front) e = sym (value_at-extended defs (leasts front) i (omega arith)) ∙ h.value (leasts front) many in
      let least : get_or (leasts front) i (pos 0) ≡ least_of (domain_at ds i) = subst (λ d. get_or (leasts front) i (pos 0) ≡ least_of d) (same i front_inside) (leasts_at front i front_inside) in
      let above = value-least vs (leasts front) e of.faults (leasts_within vs front of.values) in
      let below = least_of-least (domain_at ds i) x (sound i (omega arith)) among in
      omega (arith, ints)

  sum_demand : (e : LinearExpr) (i k : ℕ) → i ≡ n + k → slice_get defs k ≡ Some (defined_sum e) → i < n + length defs → list_all (names n) e.vars ≡ true → pos 0 ≤ℤ least_value vs e → IsNeverNegative ds i
  sum_demand e i k is got within named low x among =
      let sum : IsSumOf ds i (defined_sum e) = subst (λ (j : ℕ). IsSumOf ds j (defined_sum e)) (sym is) (sum_among ds n defs k (defined_sum e) sums got) in
      let from = terms_from vs front ds of same e.vars e.coeffs (subst (λ (m : ℕ). list_all (names m) e.vars ≡ true) (sym long) named) in
      let least : least_of (domain_at ds i) ≡ least_sum_of ds (defined_sum e) = subst (λ d. least_of d ≡ least_sum_of ds (defined_sum e)) (sym sum.domain) refl in
      let below = least_of-least (domain_at ds i) x (sound i within) among in
      omega (arith, ints)

  one_demand : (e : LinearExpr) (i : ℕ) (o : Option ℕ) → plain_subject e ≡ o → StandsFor o n defs (defined_sum e) i → IsSubjectOf n defs e i → list_all (names n) e.vars ≡ true → pos 0 ≤ℤ least_value vs e → IsNeverNegative ds i
  one_demand e i (Some v) plain own h named low = plain_demand e i v plain own named h low
  one_demand e i None plain own h named low = sum_demand e i own.0 own.1.0 own.1.1 h.within named low

  pub demands_fit : (es : List LinearExpr) (is : List ℕ) → n ≡ length vs → AllZip (IsSubjectOf n defs) es is → list_all (names_variables vs) es ≡ true → list_all (is_never_negative vs) es ≡ true → All (IsNeverNegative ds) is
  demands_fit [] [] en h named rule = All-nil (IsNeverNegative ds)
  demands_fit [] (i ∷ is) en h named rule = absurd h
  demands_fit (e ∷ es) [] en h named rule = absurd h
  demands_fit (e ∷ es) (i ∷ is) en h named rule =
      let names_all = and_true (names_variables vs e) (list_all (names_variables vs) es) named in
      let rules = and_true (is_never_negative vs e) (list_all (is_never_negative vs) es) rule in
      let here : list_all (names n) e.vars ≡ true = subst (λ (m : ℕ). list_all (names m) e.vars ≡ true) (sym en) names_all.0 in
      All-cons (IsNeverNegative ds) i is
      (one_demand e i (plain_subject e) refl h.0.own h.0 here (at_least (least_value vs e) rules.0))
      (demands_fit es is en h.1 names_all.1 rules.1)
