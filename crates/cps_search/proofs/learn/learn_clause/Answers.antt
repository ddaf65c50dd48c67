use Rattle.std.proofs.Common.{ap}
use Rattle.std.proofs.lemmas.Result.{on_ok_weaker}
use Rattle.cps_clauses.specs.declared.origin.Origin.TheVariants.{Learnt}
use Rattle.cps_clauses.specs.Bases.{Base, in_force_of}
use Rattle.cps_search.specs.Shelves.{shelf_of}
use Rattle.cps_search.proofs.Lessons.{quiet_beside, quiet_with, taught_quiet}
use Rattle.cps_search.proofs.TasksAtRest.{resting_added}
use Rattle.cps_search.proofs.learn.learn_clause.Goals as goal

pub returns-clause-learns : goal.returns-clause-learns
returns-clause-learns c =
    on_ok_weaker c.add.result
    (λ adds. record { left = shelf_of c.forget_when_due.new.base; forgets = c.in_ok-forget_when_due.ensures.forgets; is = ap (λ (b : Base). shelf_of b) adds }) c.add.ensures.adds

pub returns-clause-still_rested : goal.returns-clause-still_rested
returns-clause-still_rested c =
    let l = c.args.learnt in
    on_ok_weaker c.add.result
    (λ adds tasks recall rests. resting_added tasks recall c.forget_when_due.new.base c.add.new.self c.go_back.new.store c.go_back.new.rested.tasks c.go_back.new.rested.clauses l.clause c.args.below Learnt c.in_ok-forget_when_due.ensures.sound.sizes adds
    (c.in_ok-forget_when_due.ensures.rested tasks recall c.go_back.new.rested.tasks c.go_back.new.rested.clauses rests)) c.add.ensures.adds

pub returns-clause-quiet : goal.returns-clause-quiet
returns-clause-quiet c =
    let l = c.args.learnt in
    on_ok_weaker c.add.result
    (λ more. quiet_with c.forget_when_due.new.base c.add.new.self c.go_back.new.store l.clause more
    (quiet_beside (in_force_of c.args.base.now) (in_force_of c.forget_when_due.new.base) l.clause c.go_back.new.store c.go_back.new.store.level (c.in_ok-forget_when_due.ensures.quiet c.go_back.new.store.level)
    (taught_quiet (in_force_of c.args.base.now) c.args.store.now c.go_back.new.store l.clause l.assert l.back_level c.requires.quiet c.requires.asserts c.go_back.ensures.back.is))) c.add.ensures.in_force
