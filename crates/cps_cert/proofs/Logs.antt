-- A log that comes to its end shows its claim.
use Rattle.std.specs.Prelude.{if◌then◌else◌}
use Rattle.std.proofs.Common.{◌≡◌, ℕ, List, [], ◌∷◌, Bool, true, false, refl, subst, ℤ}
use Rattle.std.proofs.lemmas.List.Elements.{All-nil}
use Rattle.cps_model.specs.declared.model.CpModel.{CpModel}
use Rattle.cps_model.specs.Validity.{IsValid}
use Rattle.cps_log.specs.declared.item.LogItem.{LogItem}
use Rattle.cps_log.specs.declared.item.LogItem.TheVariants as items
use Rattle.cps_log.specs.Subjects.{extended, subject_count, IsDefinable}
use Rattle.cps_cert.specs.declared.claim.Claim.{Claim}
use Rattle.cps_cert.specs.Claims.{Contradicts, IsTrueClaim}
use Rattle.cps_log.specs.Deriving.{Derivation, empty_derivation, after_item, is_closing}
use Rattle.cps_cert.specs.Accepting.{IsAccepted}
use Rattle.cps_cert.specs.Lines.{Phase, in_log, at_end, finished, Leads}
use Rattle.cps_cert.proofs.Forced.{IsTrueOver}
use Rattle.cps_cert.proofs.Sound.{IsKept, item_kept, empty_refused}

-- only the empty clause closes a log
closing_is : (item : LogItem) → is_closing item ≡ true → item ≡ items.Learnt []
closing_is (items.Learnt []) e = refl
closing_is (items.Learnt (t ∷ ts)) e = cc
closing_is (items.Sum s) e = cc
closing_is (items.Reason k clause) e = cc
closing_is (items.Objective clause) e = cc
closing_is (items.Ends subject clause) e = cc
closing_is (items.Assumed i) e = cc

empty_kept : (m : CpModel) (a : List ℤ) → IsKept m empty_derivation a
empty_kept m a = record {
  sums = All-nil (IsDefinable m.variables);
  clauses = All-nil (IsTrueOver (subject_count m.variables []) (extended [] a));
}

module _ (m : CpModel) (valid : IsValid m) (claim : Claim) (a : List ℤ) (against : Contradicts m claim a) where
  next_refused : (g : Derivation) (item : LogItem) (closes : Bool) (next : Phase) (lines : List (List ℕ)) → ((g' : Derivation) → IsKept m g' a → Leads m (in_log claim g') lines finished → ⊥) → is_closing item ≡ closes → IsKept m g a → IsAccepted m claim g item → next ≡ (if closes then at_end else in_log claim (after_item m g item)) → Leads m next lines finished → ⊥
  next_refused g item true next lines later e kept accepted is leads = empty_refused m valid claim a against g kept (subst (IsAccepted m claim g) (closing_is item e) accepted)
  next_refused g item false next lines later e kept accepted is leads = later (after_item m g item) (item_kept m valid claim a against g item kept accepted) (subst (λ (p : Phase). Leads m p lines finished) is leads)

  log_refused : (g : Derivation) (lines : List (List ℕ)) → IsKept m g a → Leads m (in_log claim g) lines finished → ⊥
  log_refused g [] kept leads = cc
  log_refused g (line ∷ lines) kept leads =
      let here = leads.1 in
      next_refused g here.item (is_closing here.item) leads.0 lines (λ g' kept' leads'. log_refused g' lines kept' leads') refl kept here.accepted here.behind leads.2

-- a log that begins with nothing and comes to its end shows its claim
pub log_true : (m : CpModel) (claim : Claim) (lines : List (List ℕ)) → IsValid m → Leads m (in_log claim empty_derivation) lines finished → IsTrueClaim m claim
log_true m claim lines valid leads a against = log_refused m valid claim a against empty_derivation lines (empty_kept m a) leads
