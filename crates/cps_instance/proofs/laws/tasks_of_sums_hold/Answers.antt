use Rattle.cps_instance.specs.Problem.{variable_count}
use Rattle.cps_instance.proofs.Solving.{sums_hold}
use Rattle.cps_instance.proofs.laws.tasks_of_sums_hold.Goals as goal

pub returns : goal.returns
returns c = λ p a h long. sums_hold p.domains (variable_count p) p.defs a long h.domains.sums
