-- One clause more that is idle.
use Rattle.std.proofs.Common.{◌<◌, List, [], length, get_or, sym, subst}
use Rattle.std.proofs.lemmas.List.{get_or_default}
use Rattle.cps_literal.specs.declared.atom.Atom.{Atom}
use Rattle.cps_rup.specs.Domains.{box_in, IsIdle}
use Rattle.cps_rup.proofs.ClauseStates.{idle_more}
use Rattle.cps_rup.proofs.scan.look.Goals as goal

pub loop-place-preserved : goal.loop-place-preserved
loop-place-preserved c =
    let box = box_in c.args.domains.now in
    let i = c.loop-place.place in
    let cs = c.args.clauses.now in
    let l : i < length cs = rw c.len-place-end.ensures at c.loop-place-test.true in
    let idle : IsIdle box (get_or cs i []) = subst (λ (x : List Atom). IsIdle box x) c.clause.ensures c.in-Idle.ensures in
    idle_more box cs c.args.done.now i (get_or cs i []) l (sym (get_or_default cs i (get_or cs i []) [] l)) idle c.loop-place.invariant
