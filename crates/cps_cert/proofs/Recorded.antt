-- A ledger with a sum more.
use Rattle.std.proofs.Common.{◌≡◌, List, [], ◌∷◌, ◌++◌, length, sym, ◌∙◌, ap, ℤ}
use Rattle.std.proofs.lemmas.List.Elements.{All-push}
use Rattle.cps_model.specs.declared.model.CpModel.{CpModel}
use Rattle.cps_model.specs.declared.model.LinearExpr.{LinearExpr}
use Rattle.cps_model.specs.Within.{is_within}
use Rattle.cps_domain.specs.Window.{Window, contains, intervals, is_among}
use Rattle.cps_log.specs.Subjects.{IsDefinable, sum_domain}
use Rattle.cps_rup.specs.Trailed.{Trailed}
use Rattle.cps_cert.specs.declared.ledger.Ledger.{Ledger}
use Rattle.cps_cert.specs.Ledgers.{IsLedger}
use Rattle.cps_subjects.proofs.Domained.{sum_pushed}
use Rattle.cps_subjects.proofs.Same.{contains_same}

pub ledger_with_sum : (m : CpModel) (old new : Ledger) (e : LinearExpr) (d d' : Window) → IsLedger m old → IsDefinable m.variables e → new.sums.items ≡ old.sums.items ++ e ∷ [] → new.domains ≡ record { first = old.domains.first ++ d ∷ []; now = old.domains.first ++ d ∷ [] } → new.clauses.domains ≡ old.clauses.domains ++ d' ∷ [] → new.assignments.values.items ≡ old.assignments.values.items → ((x : ℤ) → contains d x ≡ is_within (sum_domain m.variables e) x) → intervals d' ≡ intervals d → IsLedger m new
ledger_with_sum m old new e d d' l definable sums domains clauses values is same =
    let first = ap (λ (t : Trailed). t.first) domains in
    let now = ap (λ (t : Trailed). t.now) domains in
    record {
      domains = rw sums (sum_pushed old.domains.first new.domains.first m.variables old.sums.items e d first l.domains is);
      many = ap (λ (ds : List Window). length ds) (now ∙ sym first);
      roots = rw sums (sum_pushed old.clauses.domains new.clauses.domains m.variables old.sums.items e d' clauses l.roots (λ x. contains_same d d' x same ∙ is x));
      definable = rw sums (All-push (IsDefinable m.variables) old.sums.items e l.definable definable);
      assignments = rw values l.assignments;
    }
