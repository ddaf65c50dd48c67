-- The others leave no room for the span in their window, so it comes after all that start late.
use Rattle.std.proofs.Common.{Ok, ◌≡◌, ◌≤ℤ◌, ◌+ℤ◌, pos, true, List, ℕ, rules, subst, FitsSigned, arith}
use Rattle.std.proofs.lemmas.Int.{ints, to_z-of_z}
use mir.Syntax.{w64}
use Rattle.cps_p_nooverlap.specs.declared.crowd.Ends.TheVariants.{Both}
use Rattle.cps_p_span.specs.Citing.{Cites}
use Rattle.cps_p_nooverlap.specs.Crowds.{AreRuns}
use Rattle.cps_p_nooverlap.proofs.Claims.{cites_edge}
use Rattle.cps_p_span.proofs.Citing.{span_of}
use Rattle.cps_p_span.proofs.Refusing.{refused}
use Rattle.cps_p_nooverlap.proofs.edge_finding.cite_edge.Goals as goal
use Rattle.cps_instance.specs.Tasks.{span_subjects}

pub returns-else-not-branch-2 : goal.returns-else-not-branch-2
returns-else-not-branch-2 c e =
    let w = c.args.crowd in
    let f : FitsSigned w64 c.args.crowd.from = search rules in
    let g : FitsSigned w64 c.args.crowd.to = search rules in
    let most = c.is_reached.ensures c.if-not-is_reached.false in
    let reached : c.args.crowd.pushed.time ≤ℤ (c.args.crowd.edge +ℤ pos c.in-Some.counted) = omega (arith, ints) in
    let one : c.cite_early.result ≡ Ok true = search rules in
    let two : c.cite_runs.result ≡ Ok true = search rules in
    let runs = rw (to_z-of_z w64 c.args.crowd.to g) at (rw (to_z-of_z w64 c.args.crowd.from f) at (c.cite_runs.ensures two)) in
    cites_edge c.args.spans.now c.args.marks.now.whole.items c.args.marks.now.part.items c.args.crowd c.in-Some.counted c.index-spans-crowd.result c.in-Some.ensures c.index-spans-crowd.is c.args.past.now c.args.crowd.pushed.is_reversed
    c.args.facts.now.items c.cite_early.new.facts.items c.cite_runs.new.facts.items c.cite_runs-in-Some.new.facts.items reached (rw (to_z-of_z w64 c.args.crowd.from f) at (c.cite_early.ensures one))
    (subst (λ (ws : List ℕ). Cites c.args.past.now (span_subjects c.args.spans.now) c.cite_early.new.facts.items c.cite_runs.new.facts.items (λ xs. AreRuns Both c.args.crowd.pushed.is_reversed xs c.args.spans.now ws c.args.crowd.from c.args.crowd.to)) c.as_slice.ensures.value runs)
    (search rules)

pub bounds-spans-crowd : goal.bounds-spans-crowd
bounds-spans-crowd c = c.in-Some.ensures.place

pub cite_early-requires : goal.cite_early-requires
cite_early-requires c = span_of c.args.past.now.first c.args.spans.now c.args.crowd.pushed.place c.index-spans-crowd.result c.requires.spans c.in-Some.ensures.place c.index-spans-crowd.is

pub cite_runs-requires-clause-each : goal.cite_runs-requires-clause-each
cite_runs-requires-clause-each c = rw c.as_slice.ensures.value c.in-Some.ensures.every

pub cite_runs-requires-in-Some-clause-each : goal.cite_runs-requires-in-Some-clause-each
cite_runs-requires-in-Some-clause-each c = rw c.as_slice-in-Some.ensures.value c.in-Some.ensures.late.each

pub returns-then-not-is_reached : goal.returns-then-not-is_reached
returns-then-not-is_reached c e = refused e

pub returns-then-not-branch : goal.returns-then-not-branch
returns-then-not-branch c e = refused e

pub returns-then-not-branch-2 : goal.returns-then-not-branch-2
returns-then-not-branch-2 c e = refused e
