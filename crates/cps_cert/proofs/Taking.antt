-- What becomes of a line of the log.
use Rattle.std.proofs.Common.{◌≡◌, ℕ, List, true, false, refl, sym, ◌∙◌, subst}
use Rattle.cps_model.specs.declared.model.CpModel.{CpModel}
use Rattle.cps_log.specs.declared.item.LogItem.{LogItem}
use Rattle.cps_log.specs.Deriving.{Derivation, after_item, is_closing}
use Rattle.cps_log.specs.Fitting.{FitsItem}
use Rattle.cps_log.specs.Writing.{item_line}
use Rattle.cps_cert.specs.declared.claim.Claim.{Claim}
use Rattle.cps_cert.specs.declared.response.ResponsePhase.{ResponsePhase}
use Rattle.cps_cert.specs.declared.response.ResponsePhase.TheVariants as phases
use Rattle.cps_cert.specs.Accepting.{IsAccepted}
use Rattle.cps_cert.specs.Lines.{Phase, in_log, at_end, finished, IsItem}
use Rattle.cps_cert.specs.ResponsePhases.{phase_of}
use Rattle.cps_cert.proofs.OneItem.{one_item}

-- a line that is no item is not taken
pub unread : (m : CpModel) (claim : Claim) (g : Derivation) (line : List ℕ) → ((i : LogItem) → FitsItem i → line ≡ item_line i → ⊥) → (next : Phase) → IsItem m claim g line next → ⊥
unread m claim g line none next i = none i.item i.fits i.is

-- nor is one whose item is not accepted
pub unaccepted : (m : CpModel) (claim : Claim) (g : Derivation) (line : List ℕ) (item : LogItem) → FitsItem item → line ≡ item_line item → (IsAccepted m claim g item → ⊥) → (next : Phase) → IsItem m claim g line next → ⊥
unaccepted m claim g line item fits is none next i =
    let same : i.item ≡ item = one_item i.item item i.fits fits (sym i.is ∙ is) in
    none (subst (IsAccepted m claim g) same i.accepted)

pub closing : (m : CpModel) (claim : Claim) (g : Derivation) (line : List ℕ) (item : LogItem) → FitsItem item → line ≡ item_line item → IsAccepted m claim g item → is_closing item ≡ true → IsItem m claim g line at_end
closing m claim g line item fits is accepted last = record { item = item; fits = fits; is = is; accepted = accepted; behind = rw last refl }

pub added : (m : CpModel) (claim : Claim) (g after : Derivation) (line : List ℕ) (item : LogItem) → FitsItem item → line ≡ item_line item → IsAccepted m claim g item → is_closing item ≡ false → after ≡ after_item m g item → IsItem m claim g line (in_log claim after)
added m claim g after line item fits is accepted last so = record { item = item; fits = fits; is = is; accepted = accepted; behind = rw (last, so) refl }

-- behind a phase of a response more stands
pub not_finished : (phase : ResponsePhase) → phase_of phase ≡ finished → ⊥
not_finished phases.AtStatus e = cc
not_finished (phases.InSolution values) e = cc
not_finished (phases.AtObjective shown optimum) e = cc
not_finished (phases.AtBound shown optimum) e = cc
not_finished (phases.AtLog optimum) e = cc
not_finished (phases.InCore literals) e = cc
