use Rattle.std.proofs.Common.{subst, sym, length, ◌<◌, pos, List}
use Rattle.std.specs.List.{All}
use Rattle.cps_literal.specs.declared.atom.Atom.{Atom}
use Rattle.cps_literal.specs.declared.atom.Op.TheVariants.{Le}
use Rattle.cps_p_cumulative.proofs.SpanDemands.{presence-inside}
use Rattle.cps_p_cumulative.proofs.charge.seems_present.Goals as goal

pub is_known-requires : goal.is_known-requires
is_known-requires c =
    let all : All (λ u. u.subject < length c.args.past.now.first) c.as_slice-atom-items.result.now = subst (λ (us : List Atom). All (λ u. u.subject < length c.args.past.now.first) us) (sym c.as_slice-atom-items.ensures) (presence-inside c.args.past.now.first c.args.span.now c.requires) in
    all c.loop-atom.atom-index (record { subject = 0; op = Le; value = pos 0 }) c.loop-atom-test.true
