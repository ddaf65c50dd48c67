-- The subjects of a span are those of the store.
use Rattle.std.proofs.Common.{subst, sym, length, ◌<◌, List}
use Rattle.std.specs.List.{All}
use Rattle.cps_literal.specs.declared.atom.Atom.{Atom}
use Rattle.cps_p_cumulative.proofs.SpanDemands.{start-inside, presence-inside}
use Rattle.cps_p_cumulative.proofs.windows.Energies.take.Goals as goal

pub are_true-requires : goal.are_true-requires
are_true-requires c = subst (λ (us : List Atom). All (λ u. u.subject < length c.args.past.now.first) us) (sym c.as_slice.ensures) (presence-inside c.args.past.now.first c.args.span.now c.requires.span)

pub ends-requires-2 : goal.ends-requires-2
ends-requires-2 c = start-inside c.args.past.now.first c.args.span.now c.requires.span

pub least_length-requires : goal.least_length-requires
least_length-requires c = c.requires.span

pub greatest_end-requires : goal.greatest_end-requires
greatest_end-requires c = c.requires.span
