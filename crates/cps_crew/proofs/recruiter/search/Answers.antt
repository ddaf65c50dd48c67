-- The worker knew nothing at first, and its last turn ended it.
use Rattle.std.proofs.Common.{◌∙◌, sym, arith}
use Rattle.cps_crew.proofs.MemberRuns.{has_begun, ends_over}
use Rattle.cps_crew.proofs.recruiter.search.Goals as goal

pub run-requires-clause-memory : goal.run-requires-clause-memory
run-requires-clause-memory g c = (has_begun _ _ (g.W.Member.known c.in_ok-worker.worker) c.in_ok-worker.ensures.begins).refused

pub run-requires-clause-running : goal.run-requires-clause-running
run-requires-clause-running g c = (has_begun _ _ (g.W.Member.known c.in_ok-worker.worker) c.in_ok-worker.ensures.begins).running

pub run-requires-clause-model : goal.run-requires-clause-model
run-requires-clause-model g c = c.requires.model ∙ sym (has_begun _ _ (g.W.Member.known c.in_ok-worker.worker) c.in_ok-worker.ensures.begins).model

pub run-requires-clause-pool : goal.run-requires-clause-pool
run-requires-clause-pool g c = c.requires.pool ∙ sym (has_begun _ _ (g.W.Member.known c.in_ok-worker.worker) c.in_ok-worker.ensures.begins).model

pub run-requires-clause-reads : goal.run-requires-clause-reads
run-requires-clause-reads g c = λ near. c.requires.reads (sym c.in_ok-worker.ensures.kind ∙ near)

pub run-requires-clause-imported : goal.run-requires-clause-imported
run-requires-clause-imported g c = (let none = (has_begun _ _ (g.W.Member.known c.in_ok-worker.worker) c.in_ok-worker.ensures.begins).imported in omega (arith, none))

pub finish-requires : goal.finish-requires
finish-requires g c = let runs = c.in_ok-run.ensures.runs in ends_over _ _ _ _ _ runs.last

pub returns-clause-searched : goal.returns-clause-searched
returns-clause-searched g c = record {
  first = g.W.Member.known c.in_ok-worker.worker;
  last = g.W.Member.known c.run.new.worker;
  begins = c.in_ok-worker.ensures.begins;
  draws = c.in_ok-worker.ensures.draws;
  kind = c.run.ensures.kind ∙ c.in_ok-worker.ensures.kind;
  ended = c.in_ok-run.ensures.runs;
  over = c.finish.ensures.phase;
  is = c.finish.ensures.is;
}
