use Rattle.std.proofs.Common.{Some, refl, ℕ, ◌≡◌, ◌<◌, pos, get_or, subst}
use Rattle.cps_literal.specs.declared.atom.Atom.{Atom}
use Rattle.cps_literal.specs.declared.atom.Op.TheVariants.{Le}
use Rattle.cps_instance.specs.declared.task.Body.TheVariants.{NoOverlap}
use Rattle.cps_p_span.specs.Spans.{no_seen}
use Rattle.cps_p_span.proofs.Pairing.{denied_in, gives_proposed}
use Rattle.cps_p_span.proofs.Settling.{proposed}
use Rattle.cps_p_span.proofs.pairs.exclude.Goals as goal

pub bounds-seen-pair : goal.bounds-seen-pair
bounds-seen-pair c = subst (λ (n : ℕ). c.args.pair.before < n) c.requires.known.each c.requires.pair.before

abbrev no_atom : Atom
no_atom = record { subject = 0; op = Le; value = pos 0 }

pub returns-in_ok-push-clause-kept : goal.returns-in_ok-push-clause-kept
returns-in_ok-push-clause-kept c = λ s h. (proposed s (Some c.negate.result) c.args.found.now.items c.push.new.self.items (c.hint.result, c.in_ok-push.ensures.items) h).0

pub returns-in_ok-push-clause-given : goal.returns-in_ok-push-clause-given
returns-in_ok-push-clause-given c =
    let d = c.index-spans-pair.result in
    let same : c.as_slice-atoms.result.now ≡ (get_or c.args.spans.now c.args.pair.before d).presence = c.as_slice-atoms.ensures in
    λ s are. gives_proposed (NoOverlap c.args.spans.now) s (Some c.negate.result) c.args.found.now.items c.push.new.self.items
    (denied_in s c.args.spans.now c.args.seen.now are.spans are.seen c.args.pair.before (get_or c.args.seen.now c.args.pair.before no_seen).presence.last d no_atom c.negate.result c.as_slice-atoms.result.now same c.requires.pair.before (c.requires.absent s are) c.if-open-atoms.true refl c.negate.ensures.subject c.negate.ensures.negated)
    (c.hint.result, c.in_ok-push.ensures.items)
