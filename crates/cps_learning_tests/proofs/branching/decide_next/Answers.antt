-- What was seen of the entries before the decision is kept.
use Rattle.std.proofs.Common.{length, ap, arith}
use Rattle.cps_trail.specs.Trail.{Trail}
use Rattle.cps_learning_tests.proofs.Deciding.{same_before}
use Rattle.cps_learning_tests.proofs.branching.decide_next.Goals as goal

pub returns-in_ok-decide-clause-agrees : goal.returns-in_ok-decide-clause-agrees
returns-in_ok-decide-clause-agrees g c =
    let s = c.args.store.now in
    let b = c.choose_from-choice.new.self in
    let t = c.decide.new.self in
    g.met.B.Brancher.kept_on b s t (length s.entries) (length s.entries) (omega arith)
    (same_before (g.B.Brancher.scope b).subjects s t _ (ap (λ (x : Trail). x.first) c.in_ok-decide.ensures.ok) (ap (λ (x : Trail). x.entries) c.in_ok-decide.ensures.ok)) c.choose_from-choice.ensures.saw
