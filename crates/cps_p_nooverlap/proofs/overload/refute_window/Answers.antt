-- The counted spans are more than the window holds.
use Rattle.std.proofs.Common.{◌<◌, ◌<ℤ◌, ◌+ℤ◌, pos, false, arith, rules}
use Rattle.std.specs.List.{sum}
use Rattle.std.proofs.lemmas.Int.{ints}
use Rattle.cps_model.specs.Scheduling.{IsNoOverlap}
use Rattle.cps_instance.specs.Parts.{span_runs}
use Rattle.cps_p_nooverlap.specs.declared.crowd.Ends.TheVariants.{Both}
use Rattle.cps_p_nooverlap.specs.Crowds.{AreRuns}
use Rattle.cps_p_span.proofs.Citing.{cites_as}
use Rattle.cps_p_nooverlap.proofs.Crowding.{overfull}
use Rattle.cps_p_span.proofs.Refusing.{refused}
use Rattle.cps_p_nooverlap.proofs.overload.refute_window.Goals as goal
use Rattle.cps_instance.specs.Tasks.{span_subjects}

pub cite_runs-requires-clause-each : goal.cite_runs-requires-clause-each
cite_runs-requires-clause-each c = c.in-Some.ensures.each

pub returns-else-not-is_overfull : goal.returns-else-not-is_overfull
returns-else-not-is_overfull c e =
    let ps = c.args.spans.now in
    let ws = c.args.weights.now in
    let w = c.args.overload in
    let count = c.in-Some.ensures in
    let is = count.is in
    let some = count.some in
    let more = c.is_overfull.ensures c.if-not-is_overfull.false in
    let full : w.to <ℤ (w.from +ℤ pos (sum ws)) = omega (arith, ints) in
    let much : 0 < sum ws = omega arith in
    cites_as c.args.past.now (span_subjects ps) c.args.facts.now.items c.cite_runs.new.facts.items (λ xs. AreRuns Both false xs ps ws w.from w.to) (λ xs. IsNoOverlap (span_runs xs ps) → ⊥)
    (λ xs are h. overfull false xs ps ws w.from w.to count.each much full are h) (search rules)

pub returns-then-not-is_overfull : goal.returns-then-not-is_overfull
returns-then-not-is_overfull c e = refused e

pub returns-in-None : goal.returns-in-None
returns-in-None c e = refused e
