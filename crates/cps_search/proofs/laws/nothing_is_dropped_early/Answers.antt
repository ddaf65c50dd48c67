use Rattle.std.proofs.Common.{arith}
use Rattle.cps_search.proofs.HonestJournals.{learnt_before}
use Rattle.cps_search.proofs.laws.nothing_is_dropped_early.Goals as goal

pub returns : goal.returns
returns c = λ p earlier later i honest. omega (arith, learnt_before 0 0 0 earlier later i honest.drops)
