-- What is said of an item whose box leaves each subject a value.
use Rattle.std.specs.Prelude.{if◌then◌else◌, All, None, Some, Option, nat_lt, slice_get, unsigned_abs}
use Rattle.std.proofs.Common.{◌≡◌, ℕ, zero, suc, ◌+◌, ◌-◌, ◌<◌, ◌≤◌, ◌^◌, List, [], ◌∷◌, length, get_or, Bool, true, false, refl, sym, ◌∙◌, ap, subst, arith, ℤ}
use Rattle.std.proofs.Math.Path.{fun_ext}
use Rattle.std.proofs.lemmas.Option.{get_or_from_slice_get}
use borrow.Author.Tests.{ltb-true}
use Rattle.cps_model.specs.declared.model.CpModel.{CpModel}
use Rattle.cps_model.specs.declared.model.LinearExpr.{LinearExpr}
use Rattle.cps_model.specs.declared.model.Variable.{Variable}
use Rattle.cps_model.specs.declared.constraint.Constraint.{Constraint}
use Rattle.cps_model.specs.Reach.{reach_of}
use Rattle.cps_model.specs.Validity.{IsValid}
use Rattle.cps_model.proofs.Faults.{parts_of}
use Rattle.cps_domain.specs.Window.{Window}
use Rattle.cps_literal.specs.declared.atom.Atom.{Atom}
use Rattle.cps_unit.specs.Boxes.{Box, HasValues}
use Rattle.cps_log.specs.Boxes.{box_of}
use Rattle.cps_log.specs.Deriving.{Derivation}
use Rattle.cps_log.specs.Subjects.{IsDefinable, IsNear, IsClauseOver, subject_domains, subject_count, sum_at}
use Rattle.cps_log.specs.declared.item.LogItem.TheVariants as items
use Rattle.cps_rup.specs.Domains.{box_in}
use Rattle.cps_cert.specs.declared.claim.Claim.{Claim}
use Rattle.cps_log.specs.Rows.{clause_box}
use Rattle.cps_cert.specs.Accepting.{IsObjectiveRefuted, AreEndsApart, IsAccepted}
use Rattle.cps_subjects.specs.Domains.{AreDomains, IsSmallSum}
use Rattle.cps_cert.specs.Domains.{IsSmallObjective}
use Rattle.cps_cert.specs.Refuting.{Refutes}
use Rattle.cps_cert.specs.Trying.{IsBoxOf}
use Rattle.cps_cert.proofs.Accepted.{Tells, judged, tells_of_box, tells_filled, reason_told, ends_told}
use Rattle.cps_subjects.proofs.Counted.{domain_count}
use Rattle.cps_cert.proofs.Boxed.{below_box, definable_over, objective_over}

-- what is left of the subjects' domains is the box of the clause
pub box_kept : (m : CpModel) (sums : List LinearExpr) (clause : List Atom) (first now left : List Window) → AreDomains first (subject_domains m.variables sums) → length now ≡ length first → ((s : ℕ) (x : ℤ) → box_in now s x ≡ box_of (subject_domains m.variables sums) clause s x) → left ≡ now → HasValues (length now) (box_in now) → IsBoxOf m sums clause left
box_kept m sums clause first now left are many same is values = record {
  many = ap length is ∙ many ∙ domain_count first m.variables sums are;
  same = λ s x. ap (λ (ds : List Window). box_in ds s x) is ∙ same s x;
  values = subst (λ (ds : List Window). HasValues (length ds) (box_in ds)) (sym is) values;
}

-- ---- what the judges ask for

pub objective_small : (m : CpModel) (sums : List LinearExpr) (clause : List Atom) (ds : List Window) → IsValid m → IsBoxOf m sums clause ds → IsSmallObjective (box_in ds) (length ds) m.objective
objective_small m sums clause ds valid left =
    let parts = parts_of m valid in
    let long = left.many in
    let many : length m.variables ≤ length ds = omega arith in
    objective_over m.variables (box_in ds) (length ds) m.objective parts.variables (below_box m.variables sums clause (box_in ds) left.same) many parts.objective

there : {X : Type 0} (xs : List X) (k : ℕ) (x : X) → slice_get xs k ≡ Some x → k < length xs
there [] k x e = cc
there (y ∷ ys) zero x e = omega arith
there (y ∷ ys) (suc k) x e =
    let before = there ys k x e in
    omega arith

behind : {X : Type 0} (b : Bool) (o : Option X) (x : X) → (if b then None else o) ≡ Some x → (b ≡ false) × (o ≡ Some x)
behind true o x e = cc
behind false o x e = (refl, e)

-- the sum that a subject stands for may be defined
pub sum_definable : (vs : List Variable) (sums : List LinearExpr) (subject : ℕ) (e : LinearExpr) → All (IsDefinable vs) sums → sum_at vs sums subject ≡ Some e → IsDefinable vs e
sum_definable vs sums subject e definable is =
    let k = subject - length vs in
    let at = behind (nat_lt subject (length vs)) (slice_get sums k) e is in
    subst (IsDefinable vs) (get_or_from_slice_get sums k e e at.1) (definable k e (there sums k e at.1))

pub sum_small : (m : CpModel) (sums : List LinearExpr) (clause : List Atom) (ds : List Window) (e : LinearExpr) → IsValid m → IsBoxOf m sums clause ds → IsDefinable m.variables e → IsSmallSum (box_in ds) (length ds) e.vars e.coeffs
sum_small m sums clause ds e valid left definable =
    let long = left.many in
    let many : length m.variables ≤ length ds = omega arith in
    definable_over m.variables (box_in ds) (length ds) e (parts_of m valid).variables (below_box m.variables sums clause (box_in ds) left.same) many definable

pub offset_near : (vs : List Variable) (e : LinearExpr) → IsDefinable vs e → IsNear e.offset
offset_near vs e definable =
    let small : reach_of vs e.vars e.coeffs + unsigned_abs e.offset < 2 ^ 62 = ltb-true _ _ definable.small in
    omega arith

-- ---- what their answers say

module _ (m : CpModel) (claim : Claim) (g : Derivation) (clause : List Atom) (ds : List Window) (b : Bool) (over : IsClauseOver (subject_count m.variables g.sums) clause) (left : IsBoxOf m g.sums clause ds) where
  values : HasValues (subject_count m.variables g.sums) (box_in ds)
  values = subst (λ (n : ℕ). HasValues n (box_in ds)) left.many left.values

  pub reason_of_box : (k : ℕ) → k < length m.constraints → ((d : Constraint) → Tells b (Refutes m g.sums clause (get_or m.constraints k d))) → Tells b (IsAccepted m claim g (items.Reason k clause))
  reason_of_box k l said = reason_told m claim g clause k b over l (λ d. tells_filled (Refutes m g.sums clause (get_or m.constraints k d)) (subject_count m.variables g.sums) (box_in ds) (clause_box m g clause) b left.same values (said d))

  pub objective_of_box : Tells b (IsObjectiveRefuted m.objective claim (box_in ds)) → Tells b (IsAccepted m claim g (items.Objective clause))
  objective_of_box said = tells_of_box m g clause (IsObjectiveRefuted m.objective claim) (box_in ds) b over left.same values said

  pub ends_of_box : (subject : ℕ) (e : LinearExpr) → sum_at m.variables g.sums subject ≡ Some e → Tells b (AreEndsApart (box_in ds) subject e) → Tells b (IsAccepted m claim g (items.Ends subject clause))
  ends_of_box subject e is said = ends_told m claim g clause subject e b over is (judged (λ (box : Box). AreEndsApart box subject e) (subject_count m.variables g.sums) (box_in ds) (clause_box m g clause) b (fun_ext (λ s. fun_ext (λ x. left.same s x))) values said)
