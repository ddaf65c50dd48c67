-- The conflict is analysed where the store went back to its level.
use Rattle.std.proofs.Common.{◌<◌, length, All, ap, arith, subst, sym}
use Rattle.cps_trail.specs.Trail.{Trail}
use Rattle.cps_search.specs.Giving.{ByAll}
use Rattle.cps_search.proofs.GivenEntries.{AreGiven-back, AreGiven-fit}
use Rattle.cps_search.proofs.Lessons.{bottom_of, false_back, open_above, present_back, level_there, false_before, taught_new}
use Rattle.cps_search.proofs.learn.analyse.Goals as goal

pub analyse-requires-clause-present : goal.analyse-requires-clause-present
analyse-requires-clause-present g c =
    present_back c.args.store.now c.go_back.new.store c.args.conflict.now c.conflict_level-level.result c.conflict_level-level.ensures c.go_back.ensures.back.is (omega (arith, c.if-level-eq0.false))

pub returns-clause-open_at_bottom : goal.returns-clause-open_at_bottom
returns-clause-open_at_bottom g c = open_above c.args.store.now c.args.conflict.now c.conflict_level-level.result c.conflict_level-level.ensures (omega (arith, c.if-level-eq0.false))

pub returns-clause-before : goal.returns-clause-before
returns-clause-before g c = false_before c.args.store.now c.go_back.new.store c.in_ok-learnt.learnt.clause c.conflict_level-level.result c.go_back.ensures.back.is c.in_ok-learnt.ensures.false_now

pub returns-clause-new : goal.returns-clause-new
returns-clause-new g c =
    let l = c.in_ok-learnt.learnt in
    taught_new c.args.store.now c.go_back.new.store l.clause l.assert c.conflict_level-level.result l.back_level c.go_back.ensures.back.within c.go_back.ensures.back.is c.in_ok-learnt.ensures.asserts

pub analyse-requires-clause-fits : goal.analyse-requires-clause-fits
analyse-requires-clause-fits g c =
    AreGiven-fit (ByAll c.args.givers.now.engine.now.tasks c.args.givers.now.clauses.now.clauses) c.go_back.new.store
    (AreGiven-back (ByAll c.args.givers.now.engine.now.tasks c.args.givers.now.clauses.now.clauses) c.args.store.now c.go_back.new.store (ap (λ (t : Trail). t.first) c.go_back.ensures.back.is) c.go_back.ensures.back.front c.requires.given)

pub returns-then-level-eq0-clause-bottom : goal.returns-then-level-eq0-clause-bottom
returns-then-level-eq0-clause-bottom g c = λ _. bottom_of c.args.store.now c.args.conflict.now c.conflict_level-level.result c.conflict_level-level.ensures (omega (arith, c.if-level-eq0.true))

pub returns-then-level-eq0-clause-back : goal.returns-then-level-eq0-clause-back
returns-then-level-eq0-clause-back g c = (c.conflict_level-level.result, c.go_back.ensures.back)

pub returns-then-level-eq0-clause-rested : goal.returns-then-level-eq0-clause-rested
returns-then-level-eq0-clause-rested g c = c.go_back.ensures.rested

pub returns-then-level-eq0-clause-sound_before : goal.returns-then-level-eq0-clause-sound_before
returns-then-level-eq0-clause-sound_before g c = c.go_back.ensures.sound_before

pub returns-then-level-eq0-clause-sound : goal.returns-then-level-eq0-clause-sound
returns-then-level-eq0-clause-sound g c = c.go_back.ensures.sound

pub returns-in_err-learnt-clause-back : goal.returns-in_err-learnt-clause-back
returns-in_err-learnt-clause-back g c = (c.conflict_level-level.result, c.go_back.ensures.back)

pub returns-in_err-learnt-clause-rested : goal.returns-in_err-learnt-clause-rested
returns-in_err-learnt-clause-rested g c = c.go_back.ensures.rested

pub returns-in_err-learnt-clause-sound_before : goal.returns-in_err-learnt-clause-sound_before
returns-in_err-learnt-clause-sound_before g c = c.go_back.ensures.sound_before

pub returns-in_err-learnt-clause-sound : goal.returns-in_err-learnt-clause-sound
returns-in_err-learnt-clause-sound g c = c.go_back.ensures.sound

pub returns-clause-back : goal.returns-clause-back
returns-clause-back g c = (c.conflict_level-level.result, c.go_back.ensures.back)

pub returns-clause-rested : goal.returns-clause-rested
returns-clause-rested g c = c.go_back.ensures.rested

pub returns-clause-sound_before : goal.returns-clause-sound_before
returns-clause-sound_before g c = c.go_back.ensures.sound_before

pub returns-clause-sound : goal.returns-clause-sound
returns-clause-sound g c = c.go_back.ensures.sound

pub analyse-requires-clause-conflict : goal.analyse-requires-clause-conflict
analyse-requires-clause-conflict g c = false_back c.args.store.now c.go_back.new.store c.args.conflict.now c.conflict_level-level.result c.conflict_level-level.ensures c.go_back.ensures.back.is

pub returns-then-level-eq0-clause-conflict : goal.returns-then-level-eq0-clause-conflict
returns-then-level-eq0-clause-conflict g c = false_back c.args.store.now c.go_back.new.store c.args.conflict.now c.conflict_level-level.result c.conflict_level-level.ensures c.go_back.ensures.back.is

pub returns-in_err-learnt-clause-conflict : goal.returns-in_err-learnt-clause-conflict
returns-in_err-learnt-clause-conflict g c = false_back c.args.store.now c.go_back.new.store c.args.conflict.now c.conflict_level-level.result c.conflict_level-level.ensures c.go_back.ensures.back.is

pub returns-clause-conflict : goal.returns-clause-conflict
returns-clause-conflict g c = false_back c.args.store.now c.go_back.new.store c.args.conflict.now c.conflict_level-level.result c.conflict_level-level.ensures c.go_back.ensures.back.is

pub analyse-requires-clause-subjects : goal.analyse-requires-clause-subjects
analyse-requires-clause-subjects g c = subst (λ (s : Trail). All (λ t. t.subject < length s.first) c.args.conflict.now) (sym c.go_back.ensures.back.is) c.requires.subjects

pub analyse-requires-clause-above : goal.analyse-requires-clause-above
analyse-requires-clause-above g c = omega (arith, ap (λ (s : Trail). s.level) c.go_back.ensures.back.is, c.if-level-eq0.false)

pub returns-then-level-eq0-clause-level : goal.returns-then-level-eq0-clause-level
returns-then-level-eq0-clause-level g c = level_there c.args.store.now c.go_back.new.store c.args.conflict.now c.conflict_level-level.result c.go_back.ensures.back.is c.conflict_level-level.ensures

pub returns-in_err-learnt-clause-level : goal.returns-in_err-learnt-clause-level
returns-in_err-learnt-clause-level g c = level_there c.args.store.now c.go_back.new.store c.args.conflict.now c.conflict_level-level.result c.go_back.ensures.back.is c.conflict_level-level.ensures

pub returns-clause-level : goal.returns-clause-level
returns-clause-level g c = level_there c.args.store.now c.go_back.new.store c.args.conflict.now c.conflict_level-level.result c.go_back.ensures.back.is c.conflict_level-level.ensures
