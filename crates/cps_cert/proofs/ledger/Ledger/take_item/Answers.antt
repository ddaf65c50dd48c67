-- A line is one item at most, so that one which is not accepted leads nowhere.
use Rattle.std.specs.Prelude.{◌≢◌}
use Rattle.std.proofs.Common.{◌≡◌, Option, MatchOption, sym, subst}
use Rattle.cps_log.specs.declared.item.LogItem.{LogItem}
use Rattle.cps_log.specs.Deriving.{Derivation}
use Rattle.cps_log.specs.Fitting.{FitsItem}
use Rattle.cps_log.specs.Writing.{item_line}
use Rattle.cps_cert.specs.Accepting.{IsAccepted}
use Rattle.cps_cert.specs.Ledgers.{derivation_of}
use Rattle.cps_cert.proofs.Taking.{unaccepted}
use Rattle.cps_cert.proofs.ledger.Ledger.take_item.Goals as goal

pub returns-then-not-branch-clause-taken : goal.returns-then-not-branch-clause-taken
returns-then-not-branch-clause-taken c =
    let line = c.args.line.now in
    let item = c.in-Some.item in
    let read : FitsItem item × (line ≡ item_line item) = subst (λ (o : Option LogItem). MatchOption o ((i : LogItem) → FitsItem i → line ≢ item_line i) (λ i. FitsItem i × (line ≡ item_line i))) c.in-Some.is c.in_ok-item.ensures in
    unaccepted c.args.model.now c.args.claim.now (derivation_of c.args.self.now) line item read.0 read.1 (λ accepted.
    let yes = c.in_ok-accepts.ensures.accepted.1 accepted in
    let no = c.if-not-branch.true in
    cc)

pub add-requires-clause-accepted : goal.add-requires-clause-accepted
add-requires-clause-accepted c =
    let accepted = c.in_ok-accepts.ensures.accepted.0 c.if-not-branch.false in
    (c.args.claim.now, subst (λ (g : Derivation). IsAccepted c.args.model.now c.args.claim.now g c.in-Some.item) (sym c.in_ok-accepts.ensures.same) accepted)
