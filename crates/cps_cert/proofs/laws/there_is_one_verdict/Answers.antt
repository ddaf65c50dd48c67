-- One split into lines, and one phase after each.
use Rattle.cps_cert.proofs.OneVerdict.{accepts_or_refuses, refuses_once}
use Rattle.cps_cert.proofs.laws.there_is_one_verdict.Goals as goal

pub returns-clause-accepted : goal.returns-clause-accepted
returns-clause-accepted c = accepts_or_refuses

pub returns-clause-refused : goal.returns-clause-refused
returns-clause-refused c = refuses_once
