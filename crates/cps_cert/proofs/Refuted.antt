-- Where a constraint refutes a box, no free assignment lies in it.
use Rattle.std.specs.Prelude.{All, ◌%◌}
use Rattle.std.specs.List.{list_all}
use Rattle.std.proofs.Common.{◌≡◌, List, [], ◌∷◌, length, true, ◌⊎◌, inl, inr, refl, subst, arith, ℤ, pos}
use Rattle.cps_model.specs.declared.model.CpModel.{CpModel}
use Rattle.cps_model.specs.declared.model.LinearExpr.{LinearExpr}
use Rattle.cps_model.specs.declared.constraint.Constraint.{Constraint}
use Rattle.cps_model.specs.declared.constraint.Kind.{Kind}
use Rattle.cps_model.specs.declared.constraint.Kind.TheVariants.{BoolOr, BoolAnd, AtMostOne, ExactlyOne, BoolXor, Linear}
use Rattle.cps_model.specs.Values.{literals_hold}
use Rattle.cps_model.specs.Within.{is_within}
use Rattle.cps_model.specs.Booleans.{true_count}
use Rattle.cps_model.specs.Meaning.{IsSatisfied, Holds}
use Rattle.cps_model.specs.Rules.{names, literals_of, sums_of}
use Rattle.cps_model.specs.Ready.{is_ready, is_ready_constraint}
use Rattle.cps_model.proofs.Tests.{and_true}
use Rattle.cps_literal.specs.declared.atom.Atom.{Atom}
use Rattle.cps_log.specs.Subjects.{subject_count}
use Rattle.cps_unit.specs.Boxes.{Box}
use Rattle.cps_log.specs.Boxes.{IsFixedTrue, IsFixedFalse}
use Rattle.cps_cert.specs.Refuting.{AtTwo, IsRefutedInForce, LiesInBox, IsRefutedAs}
use Rattle.cps_cert.proofs.Literals.{Lies, all_true, none_true, not_all_true, none_counted, two_true, true_count_is}
use Rattle.cps_cert.proofs.Ends.{sum_outside}

-- what of a constraint has values: its enforcement literals, its literals, the references of its sums
pub record IsNamed (a : List ℤ) (enforcement : List ℤ) (kind : Kind) : Type 0 where
  pub enforcement_named : list_all (names (length a)) enforcement ≡ true
  pub literals_named : list_all (names (length a)) (literals_of kind) ≡ true
  pub sums_ready : list_all (is_ready a) (sums_of kind) ≡ true

pub named_of : (a : List ℤ) (c : Constraint) → is_ready_constraint a c ≡ true → IsNamed a c.enforcement c.kind
named_of a c e =
    let outer = and_true _ _ e in
    let next = and_true _ _ outer.0 in
    let sums = and_true _ _ next.0 in
    let literals = and_true _ _ sums.0 in
    record { enforcement_named = literals.0; literals_named = literals.1; sums_ready = sums.1 }

first_named : (a : List ℤ) (e : LinearExpr) (es : List LinearExpr) → list_all (is_ready a) (e ∷ es) ≡ true → list_all (names (length a)) e.vars ≡ true
first_named a e es h =
    let here = and_true (is_ready a e) (list_all (is_ready a) es) h in
    let paired = and_true _ _ here.0 in
    (and_true _ _ paired.0).0

module _ (m : CpModel) (sums : List LinearExpr) (clause : List Atom) (c : Constraint) (a : List ℤ) (box : Box) (lies : Lies box sums a (subject_count m.variables sums)) (held : IsSatisfied m.constraints a c) (in_box : LiesInBox m sums clause a) where
  in_force : {R : Type 0} (kind : Kind) → IsNamed a c.enforcement kind → IsRefutedInForce box c.enforcement R → literals_hold a c.enforcement ≡ true
  in_force kind n r = all_true box sums a (subject_count m.variables sums) lies c.enforcement n.enforcement_named r.enforced

  exactly_one : (literals : List ℤ) → list_all (names (length a)) literals ≡ true → true_count a literals ≡ 1 → All (IsFixedFalse box) literals ⊎ AtTwo (IsFixedTrue box) literals → ⊥
  exactly_one literals n one (inl none) =
      let is = none_counted box sums a (subject_count m.variables sums) lies literals n none in
      omega arith
  exactly_one literals n one (inr two) =
      let is = two_true box sums a (subject_count m.variables sums) lies literals n two in
      omega arith

  refuted_as : (kind : Kind) → c.kind ≡ kind → IsNamed a c.enforcement kind → IsRefutedAs m sums clause box c kind → ⊥
  refuted_as (Linear vars coeffs domain) e n r =
      let holds : Holds m.constraints a (Linear vars coeffs domain) = subst (λ (k : Kind). Holds m.constraints a k) e (held (in_force (Linear vars coeffs domain) n r)) in
      let outside = sum_outside box sums a (subject_count m.variables sums) vars coeffs (is_within domain) lies (first_named a (record { vars = vars; coeffs = coeffs; offset = pos 0 }) [] n.sums_ready) r.refuted in
      cc
  refuted_as (BoolOr literals) e n r =
      let holds : Holds m.constraints a (BoolOr literals) = subst (λ (k : Kind). Holds m.constraints a k) e (held (in_force (BoolOr literals) n r)) in
      let none = none_true box sums a (subject_count m.variables sums) lies literals n.literals_named r.refuted in
      cc
  refuted_as (BoolAnd literals) e n r =
      let holds : Holds m.constraints a (BoolAnd literals) = subst (λ (k : Kind). Holds m.constraints a k) e (held (in_force (BoolAnd literals) n r)) in
      let none = not_all_true box sums a (subject_count m.variables sums) lies literals n.literals_named r.refuted in
      cc
  refuted_as (AtMostOne literals) e n r =
      let holds : Holds m.constraints a (AtMostOne literals) = subst (λ (k : Kind). Holds m.constraints a k) e (held (in_force (AtMostOne literals) n r)) in
      let two = two_true box sums a (subject_count m.variables sums) lies literals n.literals_named r.refuted in
      omega arith
  refuted_as (ExactlyOne literals) e n r =
      let holds : Holds m.constraints a (ExactlyOne literals) = subst (λ (k : Kind). Holds m.constraints a k) e (held (in_force (ExactlyOne literals) n r)) in
      exactly_one literals n.literals_named holds r.refuted
  refuted_as (BoolXor literals) e n r =
      let holds : Holds m.constraints a (BoolXor literals) = subst (λ (k : Kind). Holds m.constraints a k) e (held (in_force (BoolXor literals) n r)) in
      let is = true_count_is box sums a (subject_count m.variables sums) lies literals r.refuted.count n.literals_named r.refuted.is in
      let even = r.refuted.even in
      let odd : r.refuted.count % 2 ≡ 1 = rw (← is) holds in
      omega arith
  refuted_as kind e n r = r.none a in_box held

  pub refuted : IsNamed a c.enforcement c.kind → IsRefutedAs m sums clause box c c.kind → ⊥
  refuted n r = refuted_as c.kind refl n r
