-- There is no room after the span for the others, so it comes after one of them.
use Rattle.std.proofs.Common.{Ok, ◌≡◌, ◌<ℤ◌, ◌+ℤ◌, pos, true, List, ℕ, length, rules, subst, FitsSigned, arith}
use Rattle.std.proofs.lemmas.Int.{ints, to_z-of_z}
use mir.Syntax.{w64}
use Rattle.cps_p_nooverlap.specs.declared.crowd.Ends.TheVariants.{End}
use Rattle.cps_p_span.specs.Citing.{Cites}
use Rattle.cps_p_nooverlap.specs.Crowds.{AreRuns, IsUncounted}
use Rattle.cps_p_nooverlap.proofs.Claims.{cites_not_first}
use Rattle.cps_p_span.proofs.Citing.{span_of}
use Rattle.cps_p_span.proofs.Refusing.{refused}
use Rattle.cps_p_nooverlap.proofs.not_first.cite_not_first.Goals as goal
use Rattle.cps_instance.specs.Tasks.{span_subjects}

pub returns-else-not-branch : goal.returns-else-not-branch
returns-else-not-branch c e =
    let f : FitsSigned w64 c.args.crowd.pushed.time = search rules in
    let g : FitsSigned w64 c.args.crowd.to = search rules in
    let h : FitsSigned w64 c.args.crowd.end = search rules in
    let one : c.cite_late.result ≡ Ok true = search rules in
    let whole = c.as_slice-whole.ensures.value in
    let more = c.is_overfull.ensures c.if-not-is_overfull.false in
    let full : c.args.crowd.to <ℤ (c.args.crowd.end +ℤ pos c.in-Some.counted) = omega (arith, ints) in
    let aside : IsUncounted (length c.args.spans.now) c.args.marks.now.whole.items c.args.crowd.pushed.place c.in-Some.counted = subst (λ (ws : List ℕ). IsUncounted (length c.args.spans.now) ws c.args.crowd.pushed.place c.in-Some.counted) c.as_slice-whole.ensures.value c.in-Some.ensures in
    let runs = rw (to_z-of_z w64 c.args.crowd.to g) at (rw (to_z-of_z w64 c.args.crowd.pushed.time f) at (c.cite_runs.ensures e)) in
    cites_not_first c.args.spans.now c.args.crowd.pushed.place aside.place c.index-spans-crowd.result c.index-spans-crowd.is c.args.past.now c.args.crowd.pushed.is_reversed c.args.facts.now.items c.cite_late.new.facts.items c.cite_runs.new.facts.items c.args.marks.now.whole.items c.in-Some.counted aside
    c.args.crowd.to c.args.crowd.end c.args.crowd.pushed.time full (rw (to_z-of_z w64 c.args.crowd.end h) at (c.cite_late.ensures one))
    (subst (λ (ws : List ℕ). Cites c.args.past.now (span_subjects c.args.spans.now) c.cite_late.new.facts.items c.cite_runs.new.facts.items (λ xs. AreRuns End c.args.crowd.pushed.is_reversed xs c.args.spans.now ws c.args.crowd.pushed.time c.args.crowd.to)) c.as_slice-whole.ensures.value runs)

pub bounds-spans-crowd : goal.bounds-spans-crowd
bounds-spans-crowd c = c.in-Some.ensures.place

pub cite_late-requires : goal.cite_late-requires
cite_late-requires c = span_of c.args.past.now.first c.args.spans.now c.args.crowd.pushed.place c.index-spans-crowd.result c.requires.spans c.in-Some.ensures.place c.index-spans-crowd.is

pub cite_runs-requires-clause-each : goal.cite_runs-requires-clause-each
cite_runs-requires-clause-each c = c.in-Some.ensures.count.each

pub returns-then-not-is_overfull : goal.returns-then-not-is_overfull
returns-then-not-is_overfull c e = refused e

pub returns-then-not-branch : goal.returns-then-not-branch
returns-then-not-branch c e = refused e

pub returns-in-None : goal.returns-in-None
returns-in-None c e = refused e
