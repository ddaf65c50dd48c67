-- The places so far are those of the numbers so far.
use Rattle.std.specs.Prelude.{Contains}
use Rattle.std.proofs.Common.{arith, rules, pos, ℤ, ◌<◌, length, get_or, sym, subst, ◌∙◌, FitsSigned, w32}
use Rattle.std.proofs.lemmas.Int.{to_z-of_z}
use Rattle.std.proofs.lemmas.List.{take_all}
use Rattle.std.proofs.lemmas.List.Elements.{All-push}
use Rattle.cps_p_circuit.proofs.TakenArcs.{places_more}
use Rattle.cps_p_circuit.proofs.build.places_of.Goals as goal

pub place_in-requires : goal.place_in-requires
place_in-requires c =
    let x = get_or c.args.ends.now c.loop-end.end-index (pos 0) in
    let fits : FitsSigned w32 (get_or c.args.ends.now c.loop-end.end-index (pos 0)) = search rules in
    subst (λ (y : ℤ). Contains c.args.nodes.now y) (sym (to_z-of_z w32 x fits)) (c.requires c.loop-end.end-index (pos 0) (omega arith))

pub loop-end-preserved : goal.loop-end-preserved
loop-end-preserved c =
    let x = get_or c.args.ends.now c.loop-end.end-index (pos 0) in
    let fits : FitsSigned w32 (get_or c.args.ends.now c.loop-end.end-index (pos 0)) = search rules in
    record {
      within = rw c.in_ok-push.ensures.items (All-push (λ v. v < length c.args.nodes.now) c.loop-end.places.items c.place_in.result c.loop-end.invariant.within c.place_in.ensures.within);
      are = places_more c.args.nodes.now _ _ c.args.ends.now c.loop-end.end-index c.place_in.result (omega arith) c.in_ok-push.ensures.items (c.place_in.ensures.is ∙ to_z-of_z w32 x fits) c.loop-end.invariant.are;
    }

pub returns-clause-are : goal.returns-clause-are
returns-clause-are c = c.loop-end.invariant.are ∙ take_all c.loop-end.end-index c.args.ends.now c.loop-end-test.false
