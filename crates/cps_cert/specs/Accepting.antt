-- When an item of a log is accepted: its clause is one that each assignment makes true that would show the claim wrong.
use Rattle.std.specs.Prelude.{◌≡◌, ℕ, ◌⊎◌, Bool, true, false, ◌&&◌, ℤ, pos, ◌+ℤ◌, ◌<ℤ◌, int_lt, List, Contains, Option, Some, None, IsSomeAnd, slice_get}
use Rattle.cps_model.specs.declared.model.CpModel.{CpModel}
use Rattle.cps_model.specs.declared.model.LinearExpr.{LinearExpr}
use Rattle.cps_model.specs.declared.model.Objective.{Objective}
use Rattle.cps_model.specs.declared.constraint.Constraint.{Constraint}
use Rattle.cps_model.specs.Within.{is_allowed}
use Rattle.cps_literal.specs.declared.atom.Atom.{Atom}
use Rattle.cps_log.specs.declared.item.LogItem.{LogItem}
use Rattle.cps_log.specs.declared.item.LogItem.TheVariants as items
use Rattle.cps_log.specs.Subjects.{sum_at, IsDefinable}
use Rattle.cps_unit.specs.Boxes.{Box}
use Rattle.cps_log.specs.Boxes.{Spans, HasEnds, IsSumOutside}
use Rattle.cps_log.specs.Deriving.{Derivation}
use Rattle.cps_log.specs.Rows.{clause_box, IsJustified, IsLearntRow}
use Rattle.cps_cert.specs.Refuting.{Refutes}
use Rattle.cps_cert.specs.declared.claim.Claim.{Claim}
use Rattle.cps_cert.specs.declared.claim.Claim.TheVariants as claims

-- ---- by the objective

-- the objectives that a claim leaves to be refuted: for optimality those below the value
abbrev pub is_at_issue : Claim → ℤ → Bool
is_at_issue (claims.Optimal v) x = int_lt x v
is_at_issue (claims.Infeasible literals) x = true

-- No objective between its ends over the box is one that the model admits and the claim leaves. Without an objective
-- the value is 0, and no domain limits it.
abbrev pub IsObjectiveRefuted : Option Objective → Claim → Box → Type 0
IsObjectiveRefuted None claim box = is_at_issue claim (pos 0) ≡ false
IsObjectiveRefuted (Some o) claim box =
    IsSumOutside box o.vars o.coeffs (λ x. is_allowed o.domain x && is_at_issue claim x)

-- ---- by the ends of a sum

-- a number that is left to the sum's subject lies between no ends that the sum has
pub record AreEndsApart (box : Box) (subject : ℕ) (e : LinearExpr) : Type 0 where
  pub low : ℤ
  pub high : ℤ
  pub ends : HasEnds box e.vars e.coeffs low high
  pub least : ℤ
  pub greatest : ℤ
  pub domain : Spans (box subject) (λ x. x) least greatest
  pub apart : ((high +ℤ e.offset) <ℤ least) ⊎ (greatest <ℤ (low +ℤ e.offset))

-- ---- by an assumption

-- a claim of infeasibility rests on the literals that it lists alone
abbrev pub MayAssume : Claim → ℤ → Type 0
MayAssume (claims.Optimal v) r = Unit {0}
MayAssume (claims.Infeasible literals) r = Contains literals r

-- ---- each item

pub record IsReasonOf (m : CpModel) (g : Derivation) (clause : List Atom) (c : Constraint) : Type 0 where
  pub justified : IsJustified m g clause (Refutes m g.sums clause c)

pub record IsEndsOf (m : CpModel) (g : Derivation) (subject : ℕ) (clause : List Atom) (e : LinearExpr) : Type 0 where
  pub justified : IsJustified m g clause (AreEndsApart (clause_box m g clause) subject e)

abbrev pub IsAccepted : CpModel → Claim → Derivation → LogItem → Type 0
IsAccepted m claim g (items.Sum e) = IsDefinable m.variables e
IsAccepted m claim g (items.Reason constraint clause) =
    IsSomeAnd (slice_get m.constraints constraint) (IsReasonOf m g clause)
IsAccepted m claim g (items.Objective clause) =
    IsJustified m g clause (IsObjectiveRefuted m.objective claim (clause_box m g clause))
IsAccepted m claim g (items.Ends subject clause) =
    IsSomeAnd (sum_at m.variables g.sums subject) (IsEndsOf m g subject clause)
IsAccepted m claim g (items.Assumed number) = IsSomeAnd (slice_get m.assumptions number) (MayAssume claim)
IsAccepted m claim g (items.Learnt clause) = IsLearntRow m g clause
