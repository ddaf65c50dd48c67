-- The log of an outcome. Where one is kept there is one worker, so it is that of the first worker, and it stays with
-- what is seen of this worker.
use Rattle.std.specs.Prelude.{◌≡◌, ℤ, Option, None, List, [], ◌∷◌, Contains}
use Rattle.cps_model.specs.declared.model.CpModel.{CpModel}
use Rattle.cps_model.specs.declared.status.Status.TheVariants.{Infeasible}
use Rattle.cps_literal.specs.declared.atom.Atom.{Atom}
use Rattle.cps_log.specs.declared.item.LogItem.{LogItem}
use Rattle.cps_log.specs.Runs.{IsLogOf}
use Rattle.cps_port.specs.Order.{IsBelow}
use Rattle.cps_search.specs.Ends.{Ending}
use Rattle.cps_search.specs.Logged.{clauses_learnt}
use Rattle.cps_crew.specs.declared.outcome.Outcome.{Outcome}
use Rattle.cps_crew.specs.Deciding.{IsDecided}

-- the log of the first worker, if it kept one
abbrev pub log_of : List Ending → Option (List LogItem)
log_of [] = None
log_of (e ∷ es) = e.log

-- the clauses that the first worker learnt, in order
abbrev pub learnt_by_first : List Ending → List (List Atom)
learnt_by_first [] = []
learnt_by_first (e ∷ es) = clauses_learnt e.journal

-- What a log says of an outcome. Items that define sums, assume or learn are as a checker accepts them; an infeasible
-- outcome assumes what its core lists alone. The clauses of the other items are true where their constraint holds, their
-- sum has its value, or the objective lies in its domain and below the upper bound. The learnt clauses with atoms are
-- those of the worker's journal, in order. The empty clause is the last item exactly where the outcome is decided.
abbrev pub IsLogOfOutcome : CpModel → Outcome → List LogItem → Type 0
IsLogOfOutcome m o items =
    IsLogOf m (λ r. o.status ≡ Infeasible → Contains o.core r) (λ v. IsBelow v o.upper) (learnt_by_first o.ends)
    (IsDecided o) items
