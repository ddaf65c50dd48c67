-- The active events of lists of times, changes and literals, one after the other.
use Rattle.std.specs.Prelude.{if◌then◌else◌}
use Rattle.std.proofs.Common.{◌≡◌, ℕ, ◌+◌, ◌<◌, ℤ, pos, true, false, List, [], ◌∷◌, ◌++◌, length, drop, get_or, refl, sym, ◌∙◌, ap, append_assoc}
use Rattle.std.proofs.lemmas.List.{drop_more}
use Rattle.cps_model.specs.declared.model.LinearExpr.{LinearExpr}
use Rattle.cps_model.specs.declared.parts.Event.{Event}
use Rattle.cps_model.specs.Values.{literal_holds}
use Rattle.std.proofs.lemmas.List.Folds.{list_all-append}
use Rattle.cps_model.proofs.Tests.{both_true}
use Rattle.cps_eval.specs.Levels.{has_small_change, have_small_changes}
use Rattle.cps_model.specs.Reservoirs.{event_of, all_events, active_events}

active-drop : (a : List ℤ) (ts cs : List LinearExpr) (ls : List ℤ) (k : ℕ) (t c : LinearExpr) → k < length ts → k < length cs → k < length ls → active_events a (drop k ts) (drop k cs) (drop k ls) ≡ (if literal_holds a (get_or ls k (pos 0)) then event_of a (get_or ts k t) (get_or cs k c) ∷ active_events a (drop (k + 1) ts) (drop (k + 1) cs) (drop (k + 1) ls) else active_events a (drop (k + 1) ts) (drop (k + 1) cs) (drop (k + 1) ls))
active-drop a ts cs ls k t c p q r = rw (drop_more ts k t, drop_more cs k c, drop_more ls k (pos 0)) refl

pub active-more : (a : List ℤ) (ts cs : List LinearExpr) (ls : List ℤ) (k : ℕ) (t c : LinearExpr) (e : Event) (done whole : List Event) → k < length ts → k < length cs → k < length ls → t ≡ get_or ts k t → c ≡ get_or cs k c → e ≡ event_of a t c → literal_holds a (get_or ls k (pos 0)) ≡ true → done ++ active_events a (drop k ts) (drop k cs) (drop k ls) ≡ whole → (done ++ e ∷ []) ++ active_events a (drop (k + 1) ts) (drop (k + 1) cs) (drop (k + 1) ls) ≡ whole
active-more a ts cs ls k t c e done whole p q r et ec is on h =
    let rest = active_events a (drop (k + 1) ts) (drop (k + 1) cs) (drop (k + 1) ls) in
    let all = active-drop a ts cs ls k t c p q r in
    let this : active_events a (drop k ts) (drop k cs) (drop k ls) ≡ e ∷ rest = all ∙ rw (on, ← et, ← ec, is) refl in
    append_assoc done (e ∷ []) rest ∙ ap (λ (es : List Event). done ++ es) (sym this) ∙ h

pub active-less : (a : List ℤ) (ts cs : List LinearExpr) (ls : List ℤ) (k : ℕ) (t c : LinearExpr) (done whole : List Event) → k < length ts → k < length cs → k < length ls → literal_holds a (get_or ls k (pos 0)) ≡ false → done ++ active_events a (drop k ts) (drop k cs) (drop k ls) ≡ whole → done ++ active_events a (drop (k + 1) ts) (drop (k + 1) cs) (drop (k + 1) ls) ≡ whole
active-less a ts cs ls k t c done whole p q r off h =
    let rest = active_events a (drop (k + 1) ts) (drop (k + 1) cs) (drop (k + 1) ls) in
    let this : active_events a (drop k ts) (drop k cs) (drop k ls) ≡ rest = active-drop a ts cs ls k t c p q r ∙ rw off refl in
    ap (λ (es : List Event). done ++ es) (sym this) ∙ h

-- and of all events
pub all-more : (a : List ℤ) (ts cs : List LinearExpr) (k : ℕ) (t c : LinearExpr) (e : Event) (done whole : List Event) → k < length ts → k < length cs → t ≡ get_or ts k t → c ≡ get_or cs k c → e ≡ event_of a t c → done ++ all_events a (drop k ts) (drop k cs) ≡ whole → (done ++ e ∷ []) ++ all_events a (drop (k + 1) ts) (drop (k + 1) cs) ≡ whole
all-more a ts cs k t c e done whole p q et ec is h =
    let rest = all_events a (drop (k + 1) ts) (drop (k + 1) cs) in
    let all : all_events a (drop k ts) (drop k cs) ≡ event_of a (get_or ts k t) (get_or cs k c) ∷ rest = rw (drop_more ts k t, drop_more cs k c) refl in
    let this : all_events a (drop k ts) (drop k cs) ≡ e ∷ rest = all ∙ rw (← et, ← ec, is) refl in
    append_assoc done (e ∷ []) rest ∙ ap (λ (es : List Event). done ++ es) (sym this) ∙ h

-- one small change more
pub small-more : (es : List Event) (e : Event) → have_small_changes es ≡ true → has_small_change e ≡ true → have_small_changes (es ++ e ∷ []) ≡ true
small-more es e h this = list_all-append has_small_change es (e ∷ []) ∙ both_true _ _ h (both_true _ _ this refl)
