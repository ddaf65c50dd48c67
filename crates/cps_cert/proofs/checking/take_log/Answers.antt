-- An item is added, or it closes the log, or the log stops at its line.
use Rattle.std.proofs.Common.{ℕ, sym, subst}
use Rattle.cps_log.specs.Deriving.{empty_derivation}
use Rattle.cps_cert.specs.Ledgers.{derivation_of}
use Rattle.cps_cert.specs.Lines.{in_log, at_end}
use Rattle.cps_cert.specs.Progress.{Passes}
use Rattle.cps_cert.proofs.Passed.{line_passed, still_fits, stops_here, stuck_at_line, stuck_unended}
use Rattle.cps_cert.proofs.checking.take_log.Goals as goal

pub next_line-requires : goal.next_line-requires
next_line-requires c =
    let start = in_log c.args.claim.now empty_derivation in
    let phase = in_log c.args.claim.now (derivation_of c.loop-line.ledger) in
    still_fits c.args.model.now start phase c.args.start.rest.now c.loop-line.cursor.rest.now c.args.start.number c.loop-line.cursor.number c.loop-line.invariant.passes c.requires.fits

pub returns-in-Refused : goal.returns-in-Refused
returns-in-Refused c =
    let start = in_log c.args.claim.now empty_derivation in
    let phase = in_log c.args.claim.now (derivation_of c.loop-line.ledger) in
    let rest = c.loop-line.cursor.rest.now in
    stops_here c.args.model.now start phase c.args.start.rest.now rest c.args.start.number c.loop-line.cursor.number c.loop-line.invariant.passes
    (stuck_at_line c.args.model.now phase rest c.in-Some.line.now c.in-Some.behind.rest.now c.in-Some.ensures.0 (rw c.in-Refused.is at c.in_ok-take_item.ensures.taken))

pub returns-in-Closing : goal.returns-in-Closing
returns-in-Closing c =
    let m = c.args.model.now in
    let start = in_log c.args.claim.now empty_derivation in
    let phase = in_log c.args.claim.now (derivation_of c.loop-line.ledger) in
    let bytes = c.args.start.rest.now in
    let after = c.in-Some.behind.rest.now in
    let takes = rw c.in-Closing.is at c.in_ok-take_item.ensures.taken in
    let passes = line_passed m start phase at_end bytes c.loop-line.cursor.rest.now c.in-Some.line.now after c.args.start.number c.loop-line.cursor.number c.loop-line.invariant.passes c.in-Some.ensures.0 takes in
    subst (λ (k : ℕ). Passes m start bytes c.args.start.number at_end after k) (sym c.in-Some.ensures.1) passes

pub loop-line-preserved : goal.loop-line-preserved
loop-line-preserved c =
    let m = c.args.model.now in
    let start = in_log c.args.claim.now empty_derivation in
    let phase = in_log c.args.claim.now (derivation_of c.loop-line.ledger) in
    let next = in_log c.args.claim.now (derivation_of c.take_item.new.self) in
    let bytes = c.args.start.rest.now in
    let after = c.in-Some.behind.rest.now in
    let takes = rw c.in-Added.is at c.in_ok-take_item.ensures.taken in
    let passes = line_passed m start phase next bytes c.loop-line.cursor.rest.now c.in-Some.line.now after c.args.start.number c.loop-line.cursor.number c.loop-line.invariant.passes c.in-Some.ensures.0 takes in
    record {
      passes = subst (λ (k : ℕ). Passes m start bytes c.args.start.number next after k) (sym c.in-Some.ensures.1) passes;
      ledger = c.in_ok-take_item.ensures.ledger;
    }

pub returns : goal.returns
returns c =
    let start = in_log c.args.claim.now empty_derivation in
    let phase = in_log c.args.claim.now (derivation_of c.loop-line.ledger) in
    let rest = c.loop-line.cursor.rest.now in
    stops_here c.args.model.now start phase c.args.start.rest.now rest c.args.start.number c.loop-line.cursor.number c.loop-line.invariant.passes
    (stuck_unended c.args.model.now phase rest c.in_default.ensures (λ e. cc))
