use Rattle.std.proofs.Common.{◌∙◌, sym}
use Rattle.cps_rule_tests.proofs.sequences.words.Goals as goal

pub returns-clause-fits : goal.returns-clause-fits
returns-clause-fits c = λ first. record { headed = c.in_ok-tails.ensures ∙ sym c.in_ok-heads.ensures; labelled = c.in_ok-tails.ensures ∙ sym c.in_ok-labels.ensures }
