-- The node that an arc ends at has one arc more, and the others have what they had.
use Rattle.std.proofs.Common.{◌≡◌, ◌<◌, ◌∙◌, length, slice_index, refl, sym, subst, arith}
use Rattle.cps_literal.specs.declared.atom.Truth.TheVariants.{No}
use Rattle.cps_p_circuit.specs.Counts.{IsCounted, nothing}
use Rattle.cps_p_circuit.proofs.Counting.{counted_more, any_default}
use Rattle.cps_p_circuit.proofs.degrees.count.Goals as goal

pub loop-k-preserved : goal.loop-k-preserved
loop-k-preserved c =
    let ends = c.args.ends.now in
    let states = c.args.states.now in
    let k = c.loop-k.k in
    let node = slice_index ends k in
    let inv = c.loop-k.invariant in
    let same = c.requires.known in
    let l : node < c.args.nodes = c.requires.within k c.loop-k-test.true in
    let here : IsCounted ends states node k c.index.result.now =
    subst (IsCounted ends states node k) (sym (c.index.ensures ∙ any_default c.loop-k.degrees.items node _ nothing (let r = inv.room in omega arith))) (inv.each node l) in
    counted_more ends states c.args.nodes k node c.loop-k.degrees.items c.noted-degree.result refl l inv
    (c.noted-degree.ensures ends states node k refl refl (any_default states k No _ (omega arith)) here)
