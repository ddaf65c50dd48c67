use Rattle.std.proofs.Common.{◌≡◌, List, pos, refl, ap, get_or, sym, subst}
use Rattle.std.specs.List.{All}
use Rattle.cps_literal.specs.declared.atom.Atom.{Atom}
use Rattle.cps_literal.specs.declared.atom.Op.TheVariants.{Le}
use Rattle.cps_p_span.specs.declared.seen.Seen.{Seen}
use Rattle.cps_p_span.specs.Spans.{IsSmallAtom}
use Rattle.cps_p_boxes.proofs.Boxing.{last_makes}
use Rattle.cps_p_boxes.proofs.pairs.last_atom.Goals as goal

abbrev no_atom : Atom
no_atom = record { subject = 0; op = Le; value = pos 0 }

pub returns-then-last-atoms-clause-small : goal.returns-then-last-atoms-clause-small
returns-then-last-atoms-clause-small c =
    let d = c.index-as_slice-place.result in
    let atoms = c.as_slice-atoms.ensures in
    let there = c.index-as_slice-place.is in
    let spans = c.as_slice.ensures in
    let same : c.as_slice-atoms.result.now ≡ (get_or c.args.direction.now.spans c.args.place c.index-as_slice-place.result).presence = cc in
    subst (λ (us : List Atom). All IsSmallAtom us) (sym same) (c.requires.direction.small c.args.place d c.requires.place) c.seen_of-last.result.presence.last no_atom c.if-last-atoms.true

pub returns-then-last-atoms-clause-present : goal.returns-then-last-atoms-clause-present
returns-then-last-atoms-clause-present c =
    let d = c.index-as_slice-place.result in
    let atoms = c.as_slice-atoms.ensures in
    let there = c.index-as_slice-place.is in
    let spans = c.as_slice.ensures in
    let same : c.as_slice-atoms.result.now ≡ (get_or c.args.direction.now.spans c.args.place c.index-as_slice-place.result).presence = cc in
    λ s is. last_makes s c.args.direction.now is c.args.place c.seen_of-last.result.presence.last d no_atom c.as_slice-atoms.result.now _ c.requires.place same c.if-last-atoms.true (ap (λ (w : Seen). w.presence.last) c.seen_of-last.ensures) refl
