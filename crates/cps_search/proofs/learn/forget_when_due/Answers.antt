use Rattle.std.proofs.Common.{ℕ, ◌/◌, sym, ◌∙◌, ap, true≢false}
use Rattle.cps_search.specs.Shelves.{shelf_of}
use Rattle.cps_search.proofs.SearchesAfterDrops.{forgets_none, forgets_half, forgotten_quiet, forgotten_rested, forgotten_long, forgotten_sound}
use Rattle.cps_search.proofs.learn.forget_when_due.Goals as goal

pub returns-then-not-is_forgetting_due-clause-forgets : goal.returns-then-not-is_forgetting_due-clause-forgets
returns-then-not-is_forgetting_due-clause-forgets c =
    forgets_none (shelf_of c.args.base.now) c.args.store.now (λ due. true≢false (sym (c.is_forgetting_due.ensures.1 due) ∙ c.if-not-is_forgetting_due.true))

pub returns-clause-forgets : goal.returns-clause-forgets
returns-clause-forgets c =
    forgets_half c.args.base.now c.forget.new.self c.args.store.now c.in-Ok.keep _ (c.in-Ok.ensures.1 ∙ ap (λ (n : ℕ). n / 2) c.learnt_in_force.ensures) (c.is_forgetting_due.ensures.0 c.if-not-is_forgetting_due.false) c.in_ok-forget.ensures.forgets

pub returns-clause-quiet : goal.returns-clause-quiet
returns-clause-quiet c = λ below quiet. forgotten_quiet c.args.base.now c.forget.new.self c.args.store.now c.in-Ok.keep _ below c.journal.ensures.sound c.in_ok-forget.ensures.forgets quiet

pub returns-clause-rested : goal.returns-clause-rested
returns-clause-rested c = λ tasks recall rested from rests. forgotten_rested tasks recall c.args.base.now c.forget.new.self c.args.store.now c.in-Ok.keep _ rested from c.journal.ensures.sound c.in_ok-forget.ensures.forgets rests

pub returns-clause-count : goal.returns-clause-count
returns-clause-count c = forgotten_long c.args.base.now c.forget.new.self c.args.store.now c.in-Ok.keep _ c.journal.ensures.sound c.in_ok-forget.ensures.forgets

pub returns-clause-sound : goal.returns-clause-sound
returns-clause-sound c = forgotten_sound c.args.base.now c.forget.new.self c.args.store.now c.in-Ok.keep _ c.journal.ensures.sound c.in_ok-forget.ensures.forgets
