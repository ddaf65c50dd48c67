-- A turn that did not end the worker leaves it so that it may take another.
use Rattle.std.proofs.Common.{◌∙◌, Option, sym, ap, subst}
use Rattle.cps_instance.specs.Problem.{Problem}
use Rattle.cps_search.specs.declared.end.End.{End}
use Rattle.cps_search.specs.Ends.{EndsAs}
use Rattle.cps_search.proofs.Keeps.{keeps_then}
use Rattle.cps_worker_tests.proofs.turns.turns_of.Goals as goal

pub loop-preserved : goal.loop-preserved
loop-preserved g c =
    let k = c.in_ok-turn.ensures in
    let i = c.loop.invariant in
    record {
      running = subst (λ (o : Option End). EndsAs o c.turn.new.self.0) (c.name_of-has_ended.ensures c.if-has_ended.false) k.turn.ends;
      model = k.keeps.model ∙ i.model ∙ sym (ap (λ (p : Problem). p.model) k.turn.setting.instance);
      imported = k.turn.moves.imports i.imported;
      keeps = keeps_then _ _ _ g.met.Q.Port.moved_on _ _ _ i.keeps k.keeps;
    }
