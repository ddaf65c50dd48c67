use Rattle.std.proofs.Common.{ℕ, ◌<◌, ◌∙◌, Ok, length, ap, sym, subst}
use Rattle.std.specs.List.{All}
use Rattle.cps_instance.specs.declared.task.Task.{Task}
use Rattle.cps_instance.specs.Tasks.{HoldsTask, subjects_of}
use Rattle.cps_instance.specs.Terms.{Domains}
use Rattle.cps_instance.specs.Fitting.{IsFitting}
use Rattle.cps_trail.specs.Notes.{ByTask, IsGivenAt}
use Rattle.cps_rule_tests.proofs.Noting.{none_fit, none_noted}
use Rattle.cps_rule_tests.proofs.Readiness.{ready_fits}
use Rattle.cps_rule_tests.proofs.runs.run.Goals as goal

pub settle-requires-clause-fits : goal.settle-requires-clause-fits
settle-requires-clause-fits g c =
    let s = c.args.store.now in
    let t = g.P.Propagator.task c.args.propagator.now in
    let told : All (λ i. i < length s.first) (subjects_of t) = subst (λ (n : ℕ). All (λ i. i < n) (subjects_of t)) c.len.ensures (c.in_ok-is_told.ensures (ap Ok c.if-not-is_told.false)) in
    subst (λ (ds : Domains). IsFitting ds t) (sym c.in_ok-decide_all.ensures.first) (ready_fits s.first t c.requires.fresh.sound c.requires.ready told)

pub settle-requires-clause-notes : goal.settle-requires-clause-notes
settle-requires-clause-notes g c =
    none_fit (IsGivenAt (ByTask 7 (HoldsTask (g.P.Propagator.task c.args.propagator.now)))) c.decide_all.new.store (c.in_ok-decide_all.ensures.notes (none_noted c.args.store.now c.requires.fresh.none))

pub is_at_rest-requires : goal.is_at_rest-requires
is_at_rest-requires g c =
    let s = c.args.store.now in
    let t = g.P.Propagator.task c.args.propagator.now in
    let then = c.in_ok-is_settled.ensures in
    let told : All (λ i. i < length s.first) (subjects_of t) = subst (λ (n : ℕ). All (λ i. i < n) (subjects_of t)) c.len.ensures (c.in_ok-is_told.ensures (ap Ok c.if-not-is_told.false)) in
    subst (λ (u : Task). IsFitting c.settle.new.store.first u) (sym then.task)
    (subst (λ (ds : Domains). IsFitting ds t) (sym (then.first ∙ c.in_ok-decide_all.ensures.first)) (ready_fits s.first t c.requires.fresh.sound c.requires.ready told))
