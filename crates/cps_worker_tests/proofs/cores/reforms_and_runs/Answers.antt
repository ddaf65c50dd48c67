-- A turn that did not end the worker leaves it so that it may take another.
use Rattle.std.proofs.Common.{◌∙◌, Option, sym, subst}
use Rattle.cps_search.specs.declared.end.End.{End}
use Rattle.cps_search.specs.Ends.{EndsAs}
use Rattle.cps_core_guided.specs.Reforming.{whole}
use Rattle.cps_worker_tests.proofs.cores.reforms_and_runs.Goals as goal

pub run-requires-clause-running : goal.run-requires-clause-running
run-requires-clause-running g c = subst (λ (o : Option End). EndsAs o (whole c.turn.new.self.0)) (c.name_of-has_ended.ensures c.if-has_ended.false) c.in_ok-turn.ensures.turn.ends

pub run-requires-clause-model : goal.run-requires-clause-model
run-requires-clause-model g c = let k = c.in_ok-turn.ensures in k.keeps.model ∙ c.loop.invariant.model ∙ sym k.turn.setting.model

pub run-requires-clause-imported : goal.run-requires-clause-imported
run-requires-clause-imported g c = c.in_ok-turn.ensures.turn.moves.imports c.loop.invariant.imported

pub loop-preserved : goal.loop-preserved
loop-preserved g c =
    let k = c.in_ok-turn.ensures in
    let i = c.loop.invariant in
    record {
      running = subst (λ (o : Option End). EndsAs o (whole c.turn.new.self.0)) (c.name_of-has_ended.ensures c.if-has_ended.false) k.turn.ends;
      model = k.keeps.model ∙ i.model ∙ sym k.turn.setting.model;
      imported = k.turn.moves.imports i.imported;
    }
