-- The least and the greatest value of a sum that a log may define.
use Rattle.std.specs.Prelude.{All, None, unsigned_abs, ◌==◌}
use Rattle.std.specs.List.{list_all}
use Rattle.std.proofs.Common.{◌≡◌, ℕ, ◌+◌, ◌-◌, ◌<◌, ◌≤◌, ◌^◌, List, [], ◌∷◌, length, Bool, true, refl, sym, ◌∙◌, lt-ltb, arith, ℤ, ◌+ℤ◌, ◌≤ℤ◌}
use Rattle.std.proofs.Math.Path.{fun_ext}
use Rattle.std.proofs.lemmas.Int.{ints}
use borrow.Author.Tests.{ltb-true}
use Rattle.cps_model.specs.declared.model.LinearExpr.{LinearExpr}
use Rattle.cps_model.specs.declared.model.Variable.{Variable}
use Rattle.cps_model.specs.Values.{variable_of}
use Rattle.cps_model.specs.Reach.{reach_of}
use Rattle.cps_model.specs.Rules.{names}
use Rattle.cps_model.specs.Validity.{variable_fault}
use Rattle.cps_model.proofs.Tests.{and_true, both_true}
use Rattle.cps_domain.specs.Window.{Window}
use Rattle.cps_unit.specs.Boxes.{Box}
use Rattle.cps_log.specs.Boxes.{Spans, HasEnds}
use Rattle.cps_log.specs.Subjects.{IsDefinable, sum_domain}
use Rattle.cps_rup.specs.Domains.{box_in}
use Rattle.cps_subjects.specs.Domains.{HasReach, IsSmallSum, HasDomainsOf}
use Rattle.cps_subjects.proofs.SumEnds.{IsBelowDomains, reach_left, end_bounded}
use Rattle.cps_model.proofs.Sums.{unsigned_abs-add}
use Rattle.cps_subjects.proofs.Roots.{IsWhole, root_ends}

-- what a variable below names one of more
pub names_more : (n m : ℕ) (rs : List ℤ) → n ≤ m → list_all (names n) rs ≡ true → list_all (names m) rs ≡ true
names_more n m [] l h = refl
names_more n m (r ∷ rs) l h =
    let both = and_true (names n r) (list_all (names n) rs) h in
    let below : variable_of r < n = ltb-true _ _ both.0 in
    let more : variable_of r < m = omega arith in
    both_true _ _ (lt-ltb _ _ more) (names_more n m rs l both.1)

whole_of : (domains : List Window) (vs : List Variable) → HasDomainsOf domains vs → IsWhole vs (box_in domains)
whole_of domains vs h = record { same = λ i l. fun_ext (h.same i l) }

below_of : (domains : List Window) (vs : List Variable) → HasDomainsOf domains vs → IsBelowDomains vs (box_in domains)
below_of domains vs h = record { at = λ s x l e. sym (h.same s l x) ∙ e }

pub nat_same : (m n : ℕ) → (m == n) ≡ true → m ≡ n
nat_same m n h = grind arith

reach_is : (vs : List Variable) (e : LinearExpr) → IsDefinable vs e → reach_of vs e.vars e.coeffs + unsigned_abs e.offset < 2 ^ 62
reach_is vs e d = ltb-true _ _ d.small

pub small_sum : (domains : List Window) (vs : List Variable) (e : LinearExpr) → All (λ v. variable_fault v ≡ None) vs → HasDomainsOf domains vs → IsDefinable vs e → IsSmallSum (box_in domains) (length domains) e.vars e.coeffs
small_sum domains vs e f h d =
    let reach = reach_is vs e d in
    record {
      named = names_more (length vs) (length domains) e.vars h.many d.named;
      paired = nat_same (length e.vars) (length e.coeffs) d.paired;
      small = reach_left vs (box_in domains) e.vars e.coeffs (2 ^ 62 - 1) f (below_of domains vs h) d.named (omega arith);
    }

-- ends are no further from 0 than the reach
ends_bounded : (box : Box) (rs cs : List ℤ) (n : ℕ) (l h : ℤ) → HasReach box rs cs n → HasEnds box rs cs l h → (unsigned_abs l ≤ n) × (unsigned_abs h ≤ n)
ends_bounded box [] cs n l h r e = (rw e.0 (omega arith), rw e.1 (omega arith))
ends_bounded box (x ∷ rs) [] n l h r e = (rw e.0 (omega arith), rw e.1 (omega arith))
ends_bounded box (x ∷ rs) (c ∷ cs) n l h r e =
    let here = end_bounded box x c e.0 e.1 r.0 r.1 e.4 in
    let rest = ends_bounded box rs cs (n - r.0) e.2 e.3 r.3 e.5 in
    let a = here.0 in
    let b = here.1 in
    let c' = rest.0 in
    let d = rest.1 in
    let within = r.2 in
    let one = unsigned_abs-add e.0 e.2 in
    let two = unsigned_abs-add e.1 e.3 in
    (rw e.6 (omega arith), rw e.7 (omega arith))

span_ordered : (admits : ℤ → Bool) (f : ℤ → ℤ) (l h : ℤ) → Spans admits f l h → l ≤ℤ h
span_ordered admits f l h s = let low = s.lowest in rw (← low.2) (s.below low.0 low.1)

ends_ordered : (box : Box) (rs cs : List ℤ) (l h : ℤ) → HasEnds box rs cs l h → l ≤ℤ h
ends_ordered box [] cs l h e = rw (e.0, e.1) (omega (arith, ints))
ends_ordered box (x ∷ rs) [] l h e = rw (e.0, e.1) (omega (arith, ints))
ends_ordered box (x ∷ rs) (c ∷ cs) l h e =
    let here = span_ordered _ _ e.0 e.1 e.4 in
    let rest = ends_ordered box rs cs e.2 e.3 e.5 in
    rw (e.6, e.7) (omega (arith, ints))

-- the numbers of a sum's domain
pub record HasBounds (vs : List Variable) (e : LinearExpr) (low high : ℤ) : Type 0 where
  pub low_small : unsigned_abs (low +ℤ e.offset) < 2 ^ 62
  pub high_small : unsigned_abs (high +ℤ e.offset) < 2 ^ 62
  pub ordered : (low +ℤ e.offset) ≤ℤ (high +ℤ e.offset)
  pub is : (low +ℤ e.offset) ∷ (high +ℤ e.offset) ∷ [] ≡ sum_domain vs e

pub bounds_of : (domains : List Window) (vs : List Variable) (e : LinearExpr) (low high : ℤ) → All (λ v. variable_fault v ≡ None) vs → HasDomainsOf domains vs → IsDefinable vs e → HasEnds (box_in domains) e.vars e.coeffs low high → HasBounds vs e low high
bounds_of domains vs e low high f h d ends =
    let reach = reach_is vs e d in
    let n : ℕ = 2 ^ 62 - 1 - unsigned_abs e.offset in
    let left = reach_left vs (box_in domains) e.vars e.coeffs n f (below_of domains vs h) d.named (omega arith) in
    let near = ends_bounded (box_in domains) e.vars e.coeffs n low high left ends in
    let near_low = near.0 in
    let near_high = near.1 in
    let one = unsigned_abs-add low e.offset in
    let two = unsigned_abs-add high e.offset in
    let same = root_ends vs (box_in domains) e.vars e.coeffs low high f (whole_of domains vs h) d.named ends in
    record {
      low_small = omega arith;
      high_small = omega arith;
      ordered = (let order = ends_ordered (box_in domains) e.vars e.coeffs low high ends in omega (arith, ints));
      is = rw (same.lows, same.highs) refl;
    }
