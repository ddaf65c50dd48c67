use Rattle.std.proofs.Common.{◌<◌, List, [], length, refl, sym, ◌∙◌, subst, arith}
use Rattle.std.specs.List.{All}
use Rattle.std.proofs.lemmas.List.{get_or_read}
use Rattle.cps_clauses.specs.declared.watch.Watcher.{Watcher}
use Rattle.cps_clauses.specs.Moves.{IsReleased}
use Rattle.cps_clauses.proofs.ReleasedWatchers.{released_more, released_step}
use Rattle.cps_clauses.proofs.watching.release_all.Goals as goal

pub loop-slot-init : goal.loop-slot-init
loop-slot-init c = record { room = refl; done = λ k l. absurd (omega (arith, l)); rest = λ k l. refl }

pub release-requires : goal.release-requires
release-requires c =
    let here : c.loop-slot.slot < length c.loop-slot.lists.items = omega (arith, c.loop-slot-test.true, c.len-slot-end.ensures, c.loop-slot.invariant.room) in
    subst (λ (xs : List Watcher). All (λ w. w.clause < length c.args.dropped.now) xs)
    (sym (get_or_read c.loop-slot.lists.items c.loop-slot.slot c.index_mut-list.result.now here c.index_mut-list.ensures.value [] ∙ c.loop-slot.invariant.rest c.loop-slot.slot (omega arith)))
    (c.requires c.loop-slot.slot)

pub loop-slot-preserved : goal.loop-slot-preserved
loop-slot-preserved c =
    let here : c.loop-slot.slot < length c.loop-slot.lists.items = omega (arith, c.loop-slot-test.true, c.len-slot-end.ensures, c.loop-slot.invariant.room) in
    released_more c.args.dropped.now c.args.lists.now.items c.loop-slot.lists.items c.loop-slot.slot c.release.new.self here
    (subst (λ (xs : List Watcher). IsReleased c.args.dropped.now xs c.release.new.self) (get_or_read c.loop-slot.lists.items c.loop-slot.slot c.index_mut-list.result.now here c.index_mut-list.ensures.value []) c.release.ensures) c.loop-slot.invariant

-- in the end each list was released, and past them there is none
pub returns-clause-released : goal.returns-clause-released
returns-clause-released c = λ k.
    let i = c.loop-slot.invariant in
    released_step c.args.dropped.now c.args.lists.now.items c.loop-slot.lists.items c.loop-slot.slot k i.done i.rest (omega (arith, c.loop-slot-test.false, c.len-slot-end.ensures))

pub returns-clause-room : goal.returns-clause-room
returns-clause-room c = c.loop-slot.invariant.room
