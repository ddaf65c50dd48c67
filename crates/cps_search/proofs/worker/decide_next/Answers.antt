use Rattle.std.proofs.Common.{Some, inr, subst}
use Rattle.std.proofs.lemmas.Result.{on_ok_weaker}
use Rattle.cps_trail.specs.Trail.{Trail}
use Rattle.cps_branch.specs.Choice.{IsUndecided}
use Rattle.cps_search.proofs.worker.decide_next.Goals as goal

pub returns-clause-decided : goal.returns-clause-decided
returns-clause-decided g c =
    on_ok_weaker c.decide.result (λ is. record {
      atom = c.in-Some.atom;
      undecided = subst (λ (x : Trail). IsUndecided x c.in-Some.atom) c.store.ensures c.in-Some.ensures.undecided;
      next = inr (c.requires.none_open, subst (λ (x : Trail). g.B.Brancher.chooses c.args.brancher.now x (Some c.in-Some.atom)) c.store.ensures c.in-Some.ensures.rule);
      is = is;
    }) c.decide.ensures.decides

pub decide-requires-clause-assumptions : goal.decide-requires-clause-assumptions
decide-requires-clause-assumptions g c = inr c.requires.none_open
