-- Over what a box leaves, the sums of a valid model are small, and all that it reads is there.
use Rattle.std.specs.Prelude.{◌&&◌, not, All, None, Some, Option, unsigned_abs}
use Rattle.std.specs.List.{list_all}
use Rattle.std.proofs.Common.{◌≡◌, ℕ, ◌+◌, ◌-◌, ◌<◌, ◌≤◌, ◌^◌, List, [], ◌++◌, length, get_or, map, Bool, true, sym, ◌∙◌, subst, arith, ℤ, pos, negsuc}
use Rattle.std.proofs.Math.Path.{fun_ext}
use Rattle.std.proofs.lemmas.List.{get_or_append_left, length-map}
use Rattle.std.proofs.lemmas.List.Elements.{All-nil, All-cons}
use Rattle.std.proofs.lemmas.List.Folds.{list_all-append}
use Rattle.std.proofs.lemmas.List.Sums.{AllPass-from_list_all}
use borrow.Author.Tests.{ltb-true}
use Rattle.cps_model.specs.declared.model.CpModel.{CpModel}
use Rattle.cps_model.specs.declared.model.LinearExpr.{LinearExpr}
use Rattle.cps_model.specs.declared.model.Objective.{Objective}
use Rattle.cps_model.specs.declared.model.Variable.{Variable}
use Rattle.cps_model.specs.declared.constraint.Constraint.{Constraint}
use Rattle.cps_model.specs.Reach.{reach_of}
use Rattle.cps_model.specs.Rules.{names, names_boolean, names_variables, is_paired, has_small_reach, literals_of, references_of, sums_of, sum_of_objective, has_matching_lists}
use Rattle.cps_model.specs.Validity.{variable_fault, constraint_fault, objective_fault, IsValid}
use Rattle.cps_model.specs.Within.{is_within}
use Rattle.cps_model.proofs.Faults.{rule_kept, parts_of}
use Rattle.cps_model.proofs.Tests.{and_true}
use Rattle.cps_domain.specs.Window.{Window}
use Rattle.cps_literal.specs.declared.atom.Atom.{Atom}
use Rattle.cps_unit.specs.Boxes.{Box, is_made_true}
use Rattle.cps_log.specs.Boxes.{box_of}
use Rattle.cps_log.specs.Deriving.{literal_clause}
use Rattle.cps_log.specs.Subjects.{IsDefinable, IsAtomOver, IsClauseOver, variable_domain, sum_domain, subject_domains, subject_count}
use Rattle.cps_rup.specs.Domains.{box_in}
use Rattle.cps_subjects.specs.Domains.{IsSmallSum}
use Rattle.cps_cert.specs.Domains.{IsSmallObjective}
use Rattle.cps_cert.specs.Refuting.{IsRefutedAs, Refutes}
use Rattle.cps_cert.specs.Trying.{IsBoxOf}
use Rattle.cps_subjects.proofs.SumEnds.{IsBelowDomains, reach_left}
use Rattle.cps_subjects.proofs.Spanned.{names_more, nat_same}
use Rattle.cps_subjects.proofs.Literals.{literal_over}

-- what the box of a clause leaves to a variable lies in its domain
pub below_box : (vs : List Variable) (sums : List LinearExpr) (clause : List Atom) (box : Box) → ((s : ℕ) (x : ℤ) → box s x ≡ box_of (subject_domains vs sums) clause s x) → IsBelowDomains vs box
below_box vs sums clause box same = record {
  at = λ s x l h. (
      let inside = (and_true (is_within (get_or (subject_domains vs sums) s []) x) (not (is_made_true clause s x)) (sym (same s x) ∙ h)).0 in
      let here : s < length (map variable_domain vs) = rw (length-map vs variable_domain) l in
      subst (λ (bs : List ℤ). is_within bs x ≡ true) (get_or_append_left (map variable_domain vs) (map (sum_domain vs) sums) [] s here) inside);
}

-- a sum with the rules of every sum is small
pub small_over : (vs : List Variable) (box : Box) (count : ℕ) (e : LinearExpr) → All (λ v. variable_fault v ≡ None) vs → IsBelowDomains vs box → length vs ≤ count → names_variables vs e ≡ true → is_paired e ≡ true → has_small_reach vs e ≡ true → IsSmallSum box count e.vars e.coeffs
small_over vs box count e f below many named paired small =
    let reach : reach_of vs e.vars e.coeffs + unsigned_abs e.offset < 2 ^ 62 = ltb-true _ _ small in
    record {
      named = names_more (length vs) count e.vars many named;
      paired = nat_same (length e.vars) (length e.coeffs) paired;
      small = reach_left vs box e.vars e.coeffs (2 ^ 62 - 1) f below named (omega arith);
    }

-- a sum that may be defined is small
pub definable_over : (vs : List Variable) (box : Box) (count : ℕ) (e : LinearExpr) → All (λ v. variable_fault v ≡ None) vs → IsBelowDomains vs box → length vs ≤ count → IsDefinable vs e → IsSmallSum box count e.vars e.coeffs
definable_over vs box count e f below many d = small_over vs box count e f below many d.named d.paired d.small

-- what the judge of a constraint asks for
pub record IsReadable (box : Box) (count : ℕ) (c : Constraint) : Type 0 where
  pub enforcement : list_all (names count) c.enforcement ≡ true
  pub named : list_all (names count) (literals_of c.kind) ≡ true
  pub sums : All (λ (e : LinearExpr). IsSmallSum box count e.vars e.coeffs) (sums_of c.kind)

pub readable : (vs : List Variable) (cs : List Constraint) (box : Box) (count : ℕ) (c : Constraint) → All (λ v. variable_fault v ≡ None) vs → IsBelowDomains vs box → length vs ≤ count → constraint_fault vs cs c ≡ None → IsReadable box count c
readable vs cs box count c f below many e =
    let literals = c.enforcement ++ literals_of c.kind in
    let named = rule_kept 3 _ _ e in
    let boolean = rule_kept 4 (list_all (names_boolean vs) literals) _ named.1 in
    let paired = rule_kept 5 (list_all is_paired (sums_of c.kind) && has_matching_lists c.kind) _ boolean.1 in
    let reach = rule_kept 6 (list_all (has_small_reach vs) (sums_of c.kind)) _ paired.1 in
    let more = and_true (list_all (names (length vs)) literals && list_all (names_variables vs) (sums_of c.kind)) (list_all (names (length vs)) (references_of c.kind)) named.0 in
    let sums = and_true (list_all (names (length vs)) literals) (list_all (names_variables vs) (sums_of c.kind)) more.0 in
    let both = and_true (list_all (names (length vs)) c.enforcement) (list_all (names (length vs)) (literals_of c.kind)) (sym (list_all-append (names (length vs)) c.enforcement (literals_of c.kind)) ∙ sums.0) in
    let pairs = and_true (list_all is_paired (sums_of c.kind)) (has_matching_lists c.kind) paired.0 in
    record {
      enforcement = names_more (length vs) count c.enforcement many both.0;
      named = names_more (length vs) count (literals_of c.kind) many both.1;
      sums = λ k d l. small_over vs box count (get_or (sums_of c.kind) k d) f below many
          (AllPass-from_list_all (names_variables vs) (sums_of c.kind) sums.1 k d l)
          (AllPass-from_list_all is_paired (sums_of c.kind) pairs.0 k d l)
          (AllPass-from_list_all (has_small_reach vs) (sums_of c.kind) reach.0 k d l);
    }

pub objective_over : (vs : List Variable) (box : Box) (count : ℕ) (o : Option Objective) → All (λ v. variable_fault v ≡ None) vs → IsBelowDomains vs box → length vs ≤ count → objective_fault vs o ≡ None → IsSmallObjective box count o
objective_over vs box count None f below many e = tt
objective_over vs box count (Some o) f below many e =
    let named = rule_kept 3 _ _ e in
    let paired = rule_kept 5 (is_paired (sum_of_objective o)) _ named.1 in
    let reach = rule_kept 6 (has_small_reach vs (sum_of_objective o)) _ paired.1 in
    small_over vs box count (sum_of_objective o) f below many named.0 paired.0 reach.0

-- a constraint that a number names
pub readable_at : (m : CpModel) (sums : List LinearExpr) (clause : List Atom) (domains : List Window) (k : ℕ) (c : Constraint) → IsValid m → IsBoxOf m sums clause domains → k < length m.constraints → c ≡ get_or m.constraints k c → IsReadable (box_in domains) (length domains) c
readable_at m sums clause domains k c valid b l at =
    let parts = parts_of m valid in
    let long = b.many in
    let many : length m.variables ≤ length domains = omega arith in
    let kept : constraint_fault m.variables m.constraints c ≡ None = subst (λ (d : Constraint). constraint_fault m.variables m.constraints d ≡ None) (sym at) (parts.constraints k c l) in
    readable m.variables m.constraints (box_in domains) (length domains) c parts.variables (below_box m.variables sums clause (box_in domains) b.same) many kept

-- what is said of the box that is left is said of the clause's
pub refuted_at : (m : CpModel) (sums : List LinearExpr) (clause : List Atom) (box : Box) (c c' : Constraint) (b : Bool) → ((s : ℕ) (x : ℤ) → box s x ≡ box_of (subject_domains m.variables sums) clause s x) → c ≡ c' → (b ≡ true → IsRefutedAs m sums clause box c c.kind) × (IsRefutedAs m sums clause box c c.kind → b ≡ true) → (b ≡ true → Refutes m sums clause c') × (Refutes m sums clause c' → b ≡ true)
refuted_at m sums clause box c c' b same e said =
    let whole : box ≡ box_of (subject_domains m.variables sums) clause = fun_ext (λ s. fun_ext (λ x. same s x)) in
    let there = subst (λ (o : Box). (b ≡ true → IsRefutedAs m sums clause o c c.kind) × (IsRefutedAs m sums clause o c c.kind → b ≡ true)) whole said in
    subst (λ (d : Constraint). (b ≡ true → Refutes m sums clause d) × (Refutes m sums clause d → b ≡ true)) e there

-- the clause of an assumption is over the variables
pub assumption_over : (m : CpModel) (sums : List LinearExpr) (k : ℕ) (r : ℤ) → IsValid m → k < length m.assumptions → r ≡ get_or m.assumptions k r → IsClauseOver (subject_count m.variables sums) (literal_clause r)
assumption_over m sums k r valid l at =
    let kept = (parts_of m valid).assumptions k r l in
    let named = (rule_kept 3 (names (length m.variables) (get_or m.assumptions k r)) _ kept).0 in
    literal_over m.variables sums r (subst (λ (q : ℤ). names (length m.variables) q ≡ true) (sym at) named)
