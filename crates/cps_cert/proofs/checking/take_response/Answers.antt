-- A line is taken or the response stops at it, and where no line is left it stops too.
use Rattle.std.proofs.Common.{ℕ, sym, subst}
use Rattle.cps_log.specs.Deriving.{empty_derivation}
use Rattle.cps_cert.specs.Lines.{at_status, in_log}
use Rattle.cps_cert.specs.Progress.{Passes}
use Rattle.cps_cert.specs.ResponsePhases.{phase_of}
use Rattle.cps_cert.proofs.Passed.{line_passed, still_fits, stops_here, stuck_at_line}
use Rattle.cps_cert.proofs.checking.take_response.Goals as goal

pub next_line-requires : goal.next_line-requires
next_line-requires c =
    still_fits c.args.model.now at_status (phase_of c.loop-line.phase) c.args.start.rest.now c.loop-line.cursor.rest.now c.args.start.number c.loop-line.cursor.number c.loop-line.invariant.passes c.requires

pub returns-in-None : goal.returns-in-None
returns-in-None c =
    let phase = phase_of c.loop-line.phase in
    let rest = c.loop-line.cursor.rest.now in
    stops_here c.args.model.now at_status phase c.args.start.rest.now rest c.args.start.number c.loop-line.cursor.number c.loop-line.invariant.passes
    (stuck_at_line c.args.model.now phase rest c.in-Some.line.now c.in-Some.behind.rest.now c.in-Some.ensures.0 (rw c.in-None.is at c.in_ok-take_line.ensures.next))

pub returns-in-Some-Log : goal.returns-in-Some-Log
returns-in-Some-Log c =
    let claim = c.in-Some-Log.claim in
    let line = c.in-Some.line.now in
    let after = c.in-Some.behind.rest.now in
    let phase = phase_of c.loop-line.phase in
    let judged = rw c.in-Some-Log.is at c.in_ok-take_line.ensures.next in
    let takes = rw c.in-Some-Log.field-0-is at judged in
    let nears = rw c.in-Some-Log.is at c.in_ok-take_line.ensures.near in
    let near = rw c.in-Some-Log.field-0-is at nears in
    let passes = line_passed c.args.model.now at_status phase (in_log claim empty_derivation) c.args.start.rest.now c.loop-line.cursor.rest.now line after c.args.start.number c.loop-line.cursor.number c.loop-line.invariant.passes c.in-Some.ensures.0 takes in
    let numbered = subst (λ (k : ℕ). Passes c.args.model.now at_status c.args.start.rest.now c.args.start.number (in_log claim empty_derivation) after k) (sym c.in-Some.ensures.1) passes in
    rw c.in-Some-Log.field-0-is (near, numbered)

pub loop-line-preserved : goal.loop-line-preserved
loop-line-preserved c =
    let next = c.in-Some-Response.next in
    let line = c.in-Some.line.now in
    let after = c.in-Some.behind.rest.now in
    let phase = phase_of c.loop-line.phase in
    let judged = rw c.in-Some-Response.is at c.in_ok-take_line.ensures.next in
    let takes = rw c.in-Some-Response.field-0-is at judged in
    let nears = rw c.in-Some-Response.is at c.in_ok-take_line.ensures.near in
    let near = rw c.in-Some-Response.field-0-is at nears in
    let passes = line_passed c.args.model.now at_status phase (phase_of next) c.args.start.rest.now c.loop-line.cursor.rest.now line after c.args.start.number c.loop-line.cursor.number c.loop-line.invariant.passes c.in-Some.ensures.0 takes in
    let numbered = subst (λ (k : ℕ). Passes c.args.model.now at_status c.args.start.rest.now c.args.start.number (phase_of next) after k) (sym c.in-Some.ensures.1) passes in
    rw c.in-Some-Response.field-0-is (record { passes = numbered; near = near })
