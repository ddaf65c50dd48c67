use Rattle.std.proofs.Common.{get_or}
use Rattle.cps_propagate.proofs.Past.{none_view}
use Rattle.cps_rule_tests.proofs.Noting.{noted_view}
use Rattle.cps_rule_tests.proofs.stores.has_note.Goals as goal

pub returns-in-Some : goal.returns-in-Some
returns-in-Some c = λ _. noted_view c.args.store.now c.args.entry c.in-Some.field-0 (get_or c.entries.result.now c.args.entry none_view) (λ e. c.entries.ensures.views.each c.args.entry e none_view c.requires) c.in-Some.ensures.some
