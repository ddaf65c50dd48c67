-- What the fields of a `Tracer` mean.
use Rattle.std.specs.Prelude.{◌≡◌, ℤ, List, length, All, None, IsTrue}
use Rattle.cps_model.specs.declared.model.Variable.{Variable}
use Rattle.cps_model.specs.Rules.{names}
use Rattle.cps_model.specs.Validity.{variable_fault}
use Rattle.cps_log.specs.declared.item.LogItem.{LogItem}
use Rattle.cps_log.specs.Subjects.{subject_domains}
use Rattle.cps_rup.specs.Known.{Known}
use Rattle.cps_subjects.specs.Domains.{AreDomains}
use Rattle.cps_tracer.specs.Traced.{sums_in, clauses_in}

-- the variables and the assumptions are those of a valid model, and the checker has the subjects' domains and the
-- clauses of the items
pub record IsTracedIn (vs : List Variable) (assumed : List ℤ) (log : List LogItem) (known : Known) : Type 0 where
  pub valid : All (λ v. variable_fault v ≡ None) vs
  pub named : All (λ r. IsTrue (names (length vs) r)) assumed
  pub domains : AreDomains known.domains (subject_domains vs (sums_in log))
  pub clauses : known.clauses ≡ clauses_in assumed log
