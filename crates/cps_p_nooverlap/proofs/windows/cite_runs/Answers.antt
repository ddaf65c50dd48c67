-- Each span that was seen is cited; all were seen at the end.
use Rattle.std.proofs.Common.{◌<◌, ◌+◌, length, get_or, arith, rules}
use Rattle.cps_p_nooverlap.specs.Crowds.{AreRunsUpTo, IsRun}
use Rattle.cps_p_span.proofs.Citing.{cites_none, cites_as, cites_then, cites_among}
use Rattle.cps_p_nooverlap.proofs.Crowding.{runs_more, runs_all}
use Rattle.cps_p_span.proofs.Refusing.{refused}
use Rattle.cps_p_nooverlap.proofs.windows.cite_runs.Goals as goal
use Rattle.cps_instance.specs.Tasks.{subjects_of_span, span_subjects}
use Rattle.cps_p_nooverlap.proofs.Claims.{span_own}

pub loop-place-init : goal.loop-place-init
loop-place-init c = cites_none c.args.past.now (span_subjects c.args.spans.now) c.args.facts.now.items _ (λ xs k l. absurd (omega arith))

pub loop-place-preserved : goal.loop-place-preserved
loop-place-preserved c =
    let s = c.args.past.now in
    let n = c.loop-place.place in
    let a = c.args.facts.now.items in
    let b = c.loop-place.facts.items in
    let d = c.cite_counted.new.facts.items in
    let ps = c.args.spans.now in
    let ws = c.args.weights.now in
    let q = c.index-spans-place.result in
    let w = c.args.window in
    let l : c.loop-place.place < length c.args.spans.now = search rules in
    cites_as s (span_subjects ps) a d (λ xs. AreRunsUpTo n w.ends w.is_reversed xs ps ws w.from w.to × (0 < get_or ws n 0 → IsRun w.ends w.is_reversed xs q (get_or ws n 0) w.from w.to)) (λ xs. AreRunsUpTo (n + 1) w.ends w.is_reversed xs ps ws w.from w.to)
    (λ xs h. runs_more n w.ends w.is_reversed xs ps ws w.from w.to q l c.index-spans-place.is h.0 h.1)
    (cites_then s (span_subjects ps) a b d (λ xs. AreRunsUpTo n w.ends w.is_reversed xs ps ws w.from w.to) (λ xs. 0 < get_or ws n 0 → IsRun w.ends w.is_reversed xs q (get_or ws n 0) w.from w.to) c.loop-place.invariant
    (cites_among s (subjects_of_span q) (span_subjects ps) b d (λ xs. 0 < get_or ws n 0 → IsRun w.ends w.is_reversed xs q (get_or ws n 0) w.from w.to) (span_own ps n l q c.index-spans-place.is) (search rules)))

pub returns : goal.returns
returns c e =
    cites_as c.args.past.now (span_subjects c.args.spans.now) c.args.facts.now.items c.loop-place.facts.items (λ xs. AreRunsUpTo c.loop-place.place c.args.window.ends c.args.window.is_reversed xs c.args.spans.now c.args.weights.now c.args.window.from c.args.window.to) _
    (λ xs h. runs_all c.loop-place.place c.args.window.ends c.args.window.is_reversed xs c.args.spans.now c.args.weights.now c.args.window.from c.args.window.to c.loop-place-test.false h) c.loop-place.invariant

pub returns-then-not-branch : goal.returns-then-not-branch
returns-then-not-branch c e = refused e
