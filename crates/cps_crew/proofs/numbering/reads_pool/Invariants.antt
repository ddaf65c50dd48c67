-- None of the workers so far searches near solutions.
use Rattle.std.proofs.Common.{◌≡◌, ◌<◌, ℕ}
use Rattle.cps_search.specs.declared.end.WorkerKind.TheVariants as kinds
use Rattle.cps_crew.specs.Workers.{worker_kind}
use Rattle.cps_crew.proofs.numbering.reads_pool.Given as goal

abbrev pub invariant-loop-number : goal.invariant-loop-number
invariant-loop-number l = (n : ℕ) → n < l.number → worker_kind n ≡ kinds.Near → ⊥
