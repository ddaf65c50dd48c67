use Rattle.cps_rule_tests.proofs.Readiness.{plain_by}
use Rattle.cps_rule_tests.proofs.sequences.automaton.Goals as goal

pub returns : goal.returns
returns c = plain_by c.in_ok-propagator.propagator _ c.in_ok-propagator.ensures c.new.ensures c.in_ok-words.ensures.fits
