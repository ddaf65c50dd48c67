-- What the checker keeps behind some items of a log, and what becomes of the next line.
use Rattle.std.specs.Prelude.{◌≡◌, ℕ, List, length, All}
use Rattle.cps_model.specs.declared.model.CpModel.{CpModel}
use Rattle.cps_model.specs.Solutions.{IsWithinDomains}
use Rattle.cps_log.specs.Deriving.{Derivation}
use Rattle.cps_log.specs.Subjects.{subject_domains, IsDefinable}
use Rattle.cps_cert.specs.declared.claim.Claim.{Claim}
use Rattle.cps_cert.specs.declared.ledger.Ledger.{Ledger}
use Rattle.cps_cert.specs.declared.ledger.Taken.{Taken}
use Rattle.cps_cert.specs.declared.ledger.Taken.TheVariants as taken
use Rattle.cps_subjects.specs.Domains.{AreDomains}
use Rattle.cps_cert.specs.Lines.{Phase, in_log, at_end, IsItem}

-- the sums and the clauses that a ledger has
abbrev pub derivation_of : Ledger → Derivation
derivation_of l = record { sums = l.sums.items; clauses = l.clauses.clauses }

-- the domains of a ledger are those of the subjects, and its sums may be defined
pub record IsLedger (m : CpModel) (l : Ledger) : Type 0 where
  pub domains : AreDomains l.domains.first (subject_domains m.variables l.sums.items)
  pub many : length l.domains.now ≡ length l.domains.first
  pub roots : AreDomains l.clauses.domains (subject_domains m.variables l.sums.items)
  pub definable : All (IsDefinable m.variables) l.sums.items
  pub assignments : IsWithinDomains m l.assignments.values.items

-- what became of a line behind a derivation, and the derivation behind it
abbrev pub HasTaken : CpModel → Claim → Derivation → List ℕ → Derivation → Taken → Type 0
HasTaken m claim g line after taken.Refused = (next : Phase) → ¬ IsItem m claim g line next
HasTaken m claim g line after taken.Added = IsItem m claim g line (in_log claim after)
HasTaken m claim g line after taken.Closing = IsItem m claim g line at_end
