-- What the judges of the ledger say of items.
use Rattle.std.specs.Prelude.{◌&&◌, not, None, Some, Option, IsSomeAnd, slice_get}
use Rattle.std.proofs.Common.{◌≡◌, ℕ, zero, suc, ◌<◌, ◌≤◌, List, [], ◌∷◌, length, get_or, map, Bool, true, false, ◌⊎◌, inl, inr, refl, sym, ◌∙◌, ap, subst, arith, ℤ}
use Rattle.std.proofs.Math.Path.{fun_ext}
use Rattle.std.proofs.lemmas.List.{length-append, length-map}
use Rattle.std.proofs.lemmas.Option.{slice_get_past, get_or_from_slice_get}
use Rattle.cps_model.specs.declared.model.CpModel.{CpModel}
use Rattle.cps_model.specs.declared.model.LinearExpr.{LinearExpr}
use Rattle.cps_model.specs.declared.constraint.Constraint.{Constraint}
use Rattle.cps_model.specs.declared.model.Variable.{Variable}
use Rattle.cps_domain.specs.Window.{Window}
use Rattle.cps_literal.specs.declared.atom.Atom.{Atom}
use Rattle.cps_unit.specs.Boxes.{Box, is_made_true, IsEmpty, denied, HasValues}
use Rattle.cps_log.specs.Boxes.{box_of}
use Rattle.cps_log.specs.Deriving.{Derivation}
use Rattle.cps_unit.specs.Propagation.{LeadsToConflict}
use Rattle.cps_log.specs.declared.item.LogItem.TheVariants as items
use Rattle.cps_log.specs.Subjects.{variable_domain, sum_domain, subject_domains, subject_count, sum_at, IsClauseOver}
use Rattle.cps_rup.specs.Domains.{box_in}
use Rattle.cps_cert.specs.declared.claim.Claim.{Claim}
use Rattle.cps_log.specs.Rows.{clause_box, IsJustified}
use Rattle.cps_cert.specs.Accepting.{IsObjectiveRefuted, AreEndsApart, IsReasonOf, IsEndsOf, IsAccepted}
use Rattle.cps_cert.specs.Refuting.{Refutes}
use Rattle.cps_subjects.specs.Domains.{AreDomains}
use Rattle.cps_subjects.proofs.Counted.{domain_count, denied_box}

-- ---- items whose clause is judged by its box

-- a box with values is not empty
not_empty : (count : ℕ) (box : Box) → HasValues count box → IsEmpty count box → ⊥
not_empty count box values empty =
    let some = values.some empty.subject empty.within in
    let none = empty.none some.0 in
    cc

pub judged : (R : Box → Type 0) (count : ℕ) (new whole : Box) (b : Bool) → new ≡ whole → HasValues count new → (b ≡ true → R new) × (R new → b ≡ true) → (b ≡ true → IsEmpty count whole ⊎ R whole) × (IsEmpty count whole ⊎ R whole → b ≡ true)
judged R count new whole b same values said = (
  λ t. inr (subst R same (said.0 t)),
  λ shown. elim shown [
    | inl empty ↦ absurd (not_empty count new values (subst (IsEmpty count) (sym same) empty))
    | inr holds ↦ said.1 (subst R (sym same) holds)
  ],
)

-- a clause that is not over the subjects is not justified
pub unjustified : (m : CpModel) (g : Derivation) (clause : List Atom) (R : Type 0) → (IsClauseOver (subject_count m.variables g.sums) clause → ⊥) → IsJustified m g clause R → ⊥
unjustified m g clause R not_over j = not_over j.over

-- what is said of a test
abbrev pub Tells : Bool → Type 0 → Type 0
Tells b P = (b ≡ true → P) × (P → b ≡ true)

pub tells_no : (P : Type 0) → (P → ⊥) → Tells false P
tells_no P none = (λ t. cc, λ p. absurd (none p))

pub tells_yes : (P : Type 0) → P → Tells true P
tells_yes P p = (λ t. p, λ q. refl)

pub tells_justified : (m : CpModel) (g : Derivation) (clause : List Atom) (R : Type 0) (b : Bool) → IsClauseOver (subject_count m.variables g.sums) clause → Tells b (IsEmpty (subject_count m.variables g.sums) (clause_box m g clause) ⊎ R) → Tells b (IsJustified m g clause R)
tells_justified m g clause R b over said = (λ t. record { over = over; shown = said.0 t }, λ j. said.1 j.shown)

-- by what the judge says of the box that is left
pub tells_of_box : (m : CpModel) (g : Derivation) (clause : List Atom) (R : Box → Type 0) (box : Box) (b : Bool) → IsClauseOver (subject_count m.variables g.sums) clause → ((s : ℕ) (x : ℤ) → box s x ≡ clause_box m g clause s x) → HasValues (subject_count m.variables g.sums) box → Tells b (R box) → Tells b (IsJustified m g clause (R (clause_box m g clause)))
tells_of_box m g clause R box b over same values said =
    tells_justified m g clause (R (clause_box m g clause)) b over (judged R (subject_count m.variables g.sums) box (clause_box m g clause) b (fun_ext (λ s. fun_ext (λ x. same s x))) values said)

-- of the thing that a number names
pub tells_at : {X : Type 0} (o : Option X) (x : X) (P : X → Type 0) (b : Bool) → o ≡ Some x → Tells b (P x) → Tells b (IsSomeAnd o P)
tells_at None x P b e said = absurd (let f = e in cc)
tells_at {X} (Some y) x P b e said = subst (λ (o : Option X). Tells b (IsSomeAnd o P)) (sym e) said

pub tells_none : {X : Type 0} (o : Option X) (P : X → Type 0) → o ≡ None → Tells false (IsSomeAnd o P)
tells_none None P e = tells_no ⊥ (λ h. h)
tells_none (Some y) P e = absurd (let f = e in cc)

-- where each subject is left a value, the box is not empty
pub tells_filled : (R : Type 0) (count : ℕ) (box whole : Box) (b : Bool) → ((s : ℕ) (x : ℤ) → box s x ≡ whole s x) → HasValues count box → Tells b R → Tells b (IsEmpty count whole ⊎ R)
tells_filled R count box whole b same values said =
    judged (λ (o : Box). R) count box whole b (fun_ext (λ s. fun_ext (λ x. same s x))) values said

some_at : {X : Type 0} (xs : List X) (k : ℕ) → k < length xs → (x : X) × (slice_get xs k ≡ Some x)
some_at [] k l = absurd (omega arith)
some_at (x ∷ xs) zero l = (x, refl)
some_at (x ∷ xs) (suc k) l = some_at xs k (omega arith)

none_of : {X : Type 0} (o : Option X) (P : X → Type 0) → ((x : X) → P x → ⊥) → IsSomeAnd o P → ⊥
none_of None P f h = h
none_of (Some x) P f h = f x h

module _ (m : CpModel) (claim : Claim) (g : Derivation) (clause : List Atom) where
  pub reason_missing : (k : ℕ) → length m.constraints ≤ k → Tells false (IsAccepted m claim g (items.Reason k clause))
  reason_missing k l = tells_none (slice_get m.constraints k) (IsReasonOf m g clause) (slice_get_past m.constraints k l)

  pub reason_not_over : (k : ℕ) → (IsClauseOver (subject_count m.variables g.sums) clause → ⊥) → Tells false (IsAccepted m claim g (items.Reason k clause))
  reason_not_over k not_over = tells_no (IsSomeAnd (slice_get m.constraints k) (IsReasonOf m g clause)) (none_of (slice_get m.constraints k) (IsReasonOf m g clause) (λ c r. not_over r.justified.over))

  pub reason_told : (k : ℕ) (b : Bool) → IsClauseOver (subject_count m.variables g.sums) clause → k < length m.constraints → ((d : Constraint) → Tells b (IsEmpty (subject_count m.variables g.sums) (clause_box m g clause) ⊎ Refutes m g.sums clause (get_or m.constraints k d))) → Tells b (IsAccepted m claim g (items.Reason k clause))
  reason_told k b over l said =
      let there = some_at m.constraints k l in
      let c : Constraint = there.0 in
      let is : get_or m.constraints k c ≡ c = get_or_from_slice_get m.constraints k c c there.1 in
      let at : Tells b (IsEmpty (subject_count m.variables g.sums) (clause_box m g clause) ⊎ Refutes m g.sums clause c) = subst (λ (d : Constraint). Tells b (IsEmpty (subject_count m.variables g.sums) (clause_box m g clause) ⊎ Refutes m g.sums clause d)) is (said c) in
      tells_at (slice_get m.constraints k) c (IsReasonOf m g clause) b there.1
      (λ t. record { justified = record { over = over; shown = at.0 t } }, λ r. at.1 r.justified.shown)

  pub objective_not_over : (IsClauseOver (subject_count m.variables g.sums) clause → ⊥) → Tells false (IsAccepted m claim g (items.Objective clause))
  objective_not_over not_over = tells_no (IsAccepted m claim g (items.Objective clause)) (λ j. not_over j.over)

  pub objective_told : (b : Bool) → IsClauseOver (subject_count m.variables g.sums) clause → Tells b (IsEmpty (subject_count m.variables g.sums) (clause_box m g clause) ⊎ IsObjectiveRefuted m.objective claim (clause_box m g clause)) → Tells b (IsAccepted m claim g (items.Objective clause))
  objective_told b over said = tells_justified m g clause (IsObjectiveRefuted m.objective claim (clause_box m g clause)) b over said

  pub ends_missing : (subject : ℕ) → sum_at m.variables g.sums subject ≡ None → Tells false (IsAccepted m claim g (items.Ends subject clause))
  ends_missing subject e = tells_none (sum_at m.variables g.sums subject) (IsEndsOf m g subject clause) e

  pub ends_not_over : (subject : ℕ) → (IsClauseOver (subject_count m.variables g.sums) clause → ⊥) → Tells false (IsAccepted m claim g (items.Ends subject clause))
  ends_not_over subject not_over = tells_no (IsSomeAnd (sum_at m.variables g.sums subject) (IsEndsOf m g subject clause)) (none_of (sum_at m.variables g.sums subject) (IsEndsOf m g subject clause) (λ e r. not_over r.justified.over))

  pub ends_told : (subject : ℕ) (e : LinearExpr) (b : Bool) → IsClauseOver (subject_count m.variables g.sums) clause → sum_at m.variables g.sums subject ≡ Some e → Tells b (IsEmpty (subject_count m.variables g.sums) (clause_box m g clause) ⊎ AreEndsApart (clause_box m g clause) subject e) → Tells b (IsAccepted m claim g (items.Ends subject clause))
  ends_told subject e b over is said =
      let at = tells_justified m g clause (AreEndsApart (clause_box m g clause) subject e) b over said in
      tells_at (sum_at m.variables g.sums subject) e (IsEndsOf m g subject clause) b is (λ t. record { justified = at.0 t }, λ r. at.1 r.justified)

  pub learnt_not_over : (IsClauseOver (subject_count m.variables g.sums) clause → ⊥) → Tells false (IsAccepted m claim g (items.Learnt clause))
  learnt_not_over not_over = tells_no (IsAccepted m claim g (items.Learnt clause)) (λ j. not_over j.over)

  -- by the propagation's own domains, which have what the subjects' have
  pub learnt_told : (ds : List Window) (b : Bool) → AreDomains ds (subject_domains m.variables g.sums) → IsClauseOver (length ds) clause → Tells b (IsEmpty (length ds) (denied (box_in ds) clause) ⊎ LeadsToConflict g.clauses (denied (box_in ds) clause)) → Tells b (IsAccepted m claim g (items.Learnt clause))
  learnt_told ds b are over said =
      let many = domain_count ds m.variables g.sums are in
      let whole = denied_box ds (subject_domains m.variables g.sums) clause are in
      let one = subst (λ (n : ℕ). Tells b (IsEmpty n (denied (box_in ds) clause) ⊎ LeadsToConflict g.clauses (denied (box_in ds) clause))) many said in
      let two = subst (λ (o : Box). Tells b (IsEmpty (subject_count m.variables g.sums) o ⊎ LeadsToConflict g.clauses o)) whole one in
      tells_justified m g clause (LeadsToConflict g.clauses (clause_box m g clause)) b (subst (λ (n : ℕ). IsClauseOver n clause) many over) two

-- a clause is over as many subjects as there are domains
pub over_subjects : (ds : List Window) (vs : List Variable) (sums : List LinearExpr) (count : ℕ) (clause : List Atom) → AreDomains ds (subject_domains vs sums) → count ≡ length ds → IsClauseOver count clause → IsClauseOver (subject_count vs sums) clause
over_subjects ds vs sums count clause are e over = subst (λ (n : ℕ). IsClauseOver n clause) (e ∙ domain_count ds vs sums are) over
