-- What was found so far is one of the atoms.
use Rattle.std.specs.Prelude.{Option, IfSome}
use Rattle.std.proofs.Common.{◌<◌, length, sym, subst}
use Rattle.cps_literal.specs.declared.atom.Atom.{Atom}
use Rattle.cps_p_cumulative.proofs.propose.open_atom.Goals as goal
use Rattle.cps_p_cumulative.proofs.propose.open_atom.Goals.{in-Yes, in_default+else-is_some}

pub loop-atom-preserved : goal.loop-atom-preserved
loop-atom-preserved c =
    elim c.match-truth.branch [
      | in-Yes w ↦ subst (λ (o : Option Atom). IfSome o (λ u. u.subject < length c.args.past.now.first)) (sym w.open-is) c.loop-atom.invariant
      | in_default+else-is_some w ↦ subst (λ (o : Option Atom). IfSome o (λ u. u.subject < length c.args.past.now.first)) (sym w.open-is) (c.requires c.loop-atom.atom-index _ c.loop-atom-test.true)
    ]
