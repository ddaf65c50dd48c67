-- The others keep the rules too.
use Rattle.std.proofs.Common.{[], ◌∷◌}
use Rattle.std.proofs.lemmas.List.Elements.{All-tail}
use Rattle.cps_instance.specs.Strategies.{KeepsRules}
use Rattle.cps_instance.proofs.Drafting.{numbers_rules}
use Rattle.cps_instance.proofs.draft.Draft.push_both.Goals as goal

pub push_subjects-requires-clause-rules : goal.push_subjects-requires-clause-rules
push_subjects-requires-clause-rules c =
    numbers_rules c.args.self.now c.push_subject.new.self (c.args.first.now ∷ []) c.args.others.now c.args.subjects.now.items c.push_subject.new.subjects.items c.in_ok-push_subject.ensures
    (All-tail (KeepsRules c.args.self.now.model.variables) c.args.first.now c.args.others.now c.requires.rules)
