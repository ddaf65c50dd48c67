use Rattle.std.specs.Int.{int_min}
use Rattle.std.proofs.Common.{◌∙◌, ap, subst, sym, ℤ, pos, w64, to_z, of_z}
use Rattle.cps_instance.specs.declared.task.Task.{Task}
use Rattle.cps_instance.specs.Tasks.{HoldsTask, lowered}
use Rattle.cps_trail.specs.Notes.{ByTask, IsGivenAt}
use Rattle.cps_propagation_tests.specs.Noted.{AreNotesOf}
use Rattle.cps_propagation_tests.proofs.Noting.{lowered_fit, none_fit, none_noted}
use Rattle.cps_propagation_tests.proofs.SumFits.{cut_fits}
use Rattle.cps_propagation_tests.proofs.sums.run_twice.Goals as goal

pub run-requires-clause-fits : goal.run-requires-clause-fits
run-requires-clause-fits c = cut_fits c.in_ok-store.store.first c.args.linear.now.task (pos 3) c.in_ok-store.ensures.first c.requires

pub run-requires-clause-notes : goal.run-requires-clause-notes
run-requires-clause-notes c = none_fit (IsGivenAt (ByTask 7 (HoldsTask c.args.linear.now.task))) c.in_ok-store.store (none_noted c.in_ok-store.store c.in_ok-store.ensures.none)

pub run-requires-2-clause-fits : goal.run-requires-2-clause-fits
run-requires-2-clause-fits c =
    let upper : ℤ = to_z w64 (of_z w64 c.args.upper) in
    let then = c.in_ok-is_settled.ensures in
    cut_fits c.run.new.store.first c.lower.new.self.task (int_min (pos 3) upper) (then.first ∙ c.in_ok-store.ensures.first)
    (c.lower.ensures.task ∙ ap (λ (t : Task). lowered upper t) (then.task ∙ c.requires))

pub run-requires-2-clause-notes : goal.run-requires-2-clause-notes
run-requires-2-clause-notes c =
    let upper : ℤ = to_z w64 (of_z w64 c.args.upper) in
    let then = c.in_ok-is_settled.ensures in
    subst (λ (t : Task). AreNotesOf 7 t c.run.new.store) (sym (c.lower.ensures.task ∙ ap (λ (t : Task). lowered upper t) then.task))
    (lowered_fit 7 upper c.args.linear.now.task c.run.new.store then.notes)
