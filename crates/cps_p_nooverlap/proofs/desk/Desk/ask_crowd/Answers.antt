-- The atoms that are looked through are those of the span's presence.
use Rattle.std.proofs.Common.{List, sym, subst}
use Rattle.std.specs.List.{All}
use Rattle.cps_literal.specs.declared.atom.Atom.{Atom}
use Rattle.cps_p_span.specs.Spans.{IsSmallAtom}
use Rattle.cps_p_nooverlap.proofs.desk.Desk.ask_crowd.Goals as goal

pub denied_place-denied-requires : goal.denied_place-denied-requires
denied_place-denied-requires c = subst (λ (us : List Atom). All IsSmallAtom us) (sym c.as_slice.ensures) c.requires
