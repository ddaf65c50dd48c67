-- The domains so far, and no clause.
use Rattle.std.proofs.Common.{◌≡◌, [], take, map}
use Rattle.cps_log.specs.Subjects.{variable_domain}
use Rattle.cps_subjects.specs.Domains.{AreDomains}
use Rattle.cps_cert.proofs.domains.checker_of.Given as goal

abbrev pub invariant-loop-variable : goal.invariant-loop-variable
invariant-loop-variable l = record {
  are : AreDomains l.checker.domains (map variable_domain (take l.variable-index l.variables));
  none : l.checker.clauses ≡ [];
}
