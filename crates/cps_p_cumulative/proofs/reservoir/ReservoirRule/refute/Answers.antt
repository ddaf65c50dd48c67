-- The last time of one event is a fact, and with it the level passes a limit.
use Rattle.std.proofs.Common.{◌≡◌, ◌<◌, ◌∙◌, ◌++◌, ◌∷◌, [], ap, refl, sym, subst, length, List, rules, arith, FitsSigned, w64}
use Rattle.std.proofs.lemmas.Int.{to_z-of_z}
use Rattle.std.specs.List.{Contains}
use Rattle.std.proofs.lemmas.List.Elements.{All-contains_itself}
use Rattle.cps_literal.specs.declared.atom.Atom.{Atom}
use Rattle.cps_instance.specs.Tasks.{HoldsBody, subjects_of_body}
use Rattle.cps_p_cumulative.specs.Levels.{moves_of, tank_body}
use Rattle.cps_p_cumulative.specs.Relying.{Relies}
use Rattle.cps_p_cumulative.proofs.Levelled.{tank_inside, move_inside, own_move, on_time, no_yes}
use Rattle.cps_p_cumulative.proofs.Relied.{refuted, fact-capacity}
use Rattle.cps_p_cumulative.proofs.reservoir.ReservoirRule.refute.Goals as goal

pub charge_level-requires-clause-tank : goal.charge_level-requires-clause-tank
charge_level-requires-clause-tank c = tank_inside c.args.past.now.first c.args.self.now.tank c.requires.fits

one : (old pushed : List Atom) (u : Atom) → old ≡ [] → pushed ≡ old ++ u ∷ [] → pushed ≡ u ∷ []
one old pushed u e f = f ∙ ap (λ (us : List Atom). us ++ u ∷ []) e

pub ends-late-requires : goal.ends-late-requires
ends-late-requires c =
    let first = c.args.past.now.first in
    let tank = c.args.self.now.tank in
    let l : c.point_of-point.result.place < length (moves_of tank) = (let a = c.count.ensures in let b = c.if-count-point.false in omega arith) in
    on_time (λ i. i < length first) c.move_at-subject.result (move_inside first tank c.point_of-point.result.place c.move_at-subject.result (tank_inside first tank c.requires.fits) l c.move_at-subject.ensures)

pub charge_level-requires-clause-facts : goal.charge_level-requires-clause-facts
charge_level-requires-clause-facts c =
    let late = c.ends-late.result.1 in
    let f : FitsSigned w64 late = search rules in
    let is = rw (to_z-of_z w64 late f) at c.at_most.ensures in
    let inside = rw (to_z-of_z w64 late f) at (c.is_inside.ensures c.if-not-is_inside.false) in
    let first = c.args.past.now.first in
    let tank = c.args.self.now.tank in
    let l : c.point_of-point.result.place < length (moves_of tank) = (let a = c.count.ensures in let b = c.if-count-point.false in omega arith) in
    let within = on_time (λ i. i < length first) c.move_at-subject.result (move_inside first tank c.point_of-point.result.place c.move_at-subject.result (tank_inside first tank c.requires.fits) l c.move_at-subject.ensures) in
    fact-capacity c.args.past.now c.move_at-subject.result.time late c.at_most.result c.push.new.self.items (one c.clear.new.self.items c.push.new.self.items c.at_most.result c.clear.ensures.items c.in_ok-push.ensures.items) is within inside c.ends-late.ensures.greatest

pub returns : goal.returns
returns c = λ ok.
    let s = c.args.past.now in
    let b = tank_body c.args.self.now.tank in
    let late = c.ends-late.result.1 in
    let f : FitsSigned w64 late = search rules in
    let is = rw (to_z-of_z w64 late f) at c.at_most.ensures in
    let tank = c.args.self.now.tank in
    let l : c.point_of-point.result.place < length (moves_of tank) = (let a = c.count.ensures in let d = c.if-count-point.false in omega arith) in
    let own = on_time (Contains (subjects_of_body (tank_body c.args.self.now.tank))) c.move_at-subject.result
    (own_move tank c.point_of-point.result.place c.move_at-subject.result l c.move_at-subject.ensures (subjects_of_body (tank_body tank)) (All-contains_itself (subjects_of_body (tank_body tank)))) in
    refuted s b c.at_most.result c.charge_level.new.facts.items (subst (λ (v : Atom). Contains (subjects_of_body (tank_body c.args.self.now.tank)) v.subject) (sym is) own)
    (subst (λ (us : List Atom). Relies s c.at_most.result (subjects_of_body b) (λ xs. HoldsBody b xs → ⊥) us c.charge_level.new.facts.items) (one c.clear.new.self.items c.push.new.self.items c.at_most.result c.clear.ensures.items c.in_ok-push.ensures.items) (c.charge_level.ensures ok))

pub returns-then-not-is_inside : goal.returns-then-not-is_inside
returns-then-not-is_inside c = λ ok. no_yes _ _ ok refl

pub returns-then-count-point : goal.returns-then-count-point
returns-then-count-point c = λ ok. no_yes _ _ ok refl
