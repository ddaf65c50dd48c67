-- The variables are those of a valid model, and the new domains are that of the sum.
use Rattle.std.specs.Prelude.{All, None}
use Rattle.std.proofs.Common.{◌≡◌, List, [], ◌∷◌, ◌++◌, ℤ, refl, sym, ◌∙◌, ap, subst}
use Rattle.cps_model.specs.declared.model.CpModel.{CpModel}
use Rattle.cps_model.specs.declared.model.Variable.{Variable}
use Rattle.cps_model.specs.Validity.{IsValid, variable_fault}
use Rattle.cps_model.specs.Within.{is_within}
use Rattle.cps_model.proofs.Faults.{parts_of}
use Rattle.cps_domain.specs.Window.{Window, contains}
use Rattle.cps_log.specs.Subjects.{sum_domain}
use Rattle.cps_rup.specs.Known.{Known}
use Rattle.cps_rup.specs.Trailed.{Trailed}
use Rattle.cps_cert.proofs.Recorded.{ledger_with_sum}
use Rattle.cps_cert.proofs.ledger.Ledger.add_sum.Goals as goal

pub sum_domain-requires-clause-valid : goal.sum_domain-requires-clause-valid
sum_domain-requires-clause-valid c =
    let valid = subst IsValid c.model.ensures.same c.model.ensures.valid in
    let same = c.as_slice-variables.ensures ∙ ap (λ (m : CpModel). m.variables) c.model.ensures.same in
    subst (λ (vs : List Variable). All (λ v. variable_fault v ≡ None) vs) (sym same) (parts_of c.args.model.now valid).variables

abbrev both : List Window → Window → Trailed
both ds d = record { first = ds ++ d ∷ []; now = ds ++ d ∷ [] }

pub returns-clause-ledger : goal.returns-clause-ledger
returns-clause-ledger c =
    let d : Window = c.in_ok-domain.domain in
    let d' : Window = c.in_ok-clone.field-0 in
    let variables = c.as_slice-variables.ensures ∙ ap (λ (m : CpModel). m.variables) c.model.ensures.same in
    let is = subst (λ (vs : List Variable). (x : ℤ) → contains d x ≡ is_within (sum_domain vs c.args.sum) x) variables c.in_ok-domain.ensures in
    let domains = c.in_ok-push.ensures.ok ∙ ap (λ (t : Trailed). both t.first d) c.restore.ensures in
    ledger_with_sum c.args.model.now c.args.self.now _ c.args.sum d d' c.requires.ledger c.requires.definable c.in_ok-push-2.ensures.items domains (ap (λ (k : Known). k.domains) c.in_ok-add_subject.ensures.ok) refl is c.in_ok-clone.ensures.cases
