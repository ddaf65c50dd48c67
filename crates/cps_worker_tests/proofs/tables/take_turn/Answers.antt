-- A turn that did not end the worker leaves it so that it may take another.
use Rattle.std.specs.Prelude.{false}
use Rattle.std.proofs.Common.{◌≡◌, ◌∙◌, Option, sym, ap, subst}
use Rattle.cps_instance.specs.Problem.{Problem}
use Rattle.cps_search.specs.declared.end.End.{End}
use Rattle.cps_search.specs.Ends.{EndsAs}
use Rattle.cps_worker_tests.proofs.tables.take_turn.Goals as goal

pub returns-clause-running : goal.returns-clause-running
returns-clause-running g c =
    λ e. subst (λ (o : Option End). EndsAs o c.turn.new.self.0) (c.name_of-named.ensures e) c.in_ok-turn.ensures.turn.ends

pub returns-clause-model : goal.returns-clause-model
returns-clause-model g c =
    c.in_ok-turn.ensures.keeps.model ∙ c.requires.model ∙ sym (ap (λ (p : Problem). p.model) c.in_ok-turn.ensures.turn.setting.instance)

pub returns-clause-imported : goal.returns-clause-imported
returns-clause-imported g c = c.in_ok-turn.ensures.turn.moves.imports c.requires.imported
