-- What is said of a line of a response is all that can be said of it.
use Rattle.std.specs.Prelude.{Contains, IfOk, MatchOption, Option, Result, Some, None, Ok, Err, codes}
use Rattle.std.specs.declared.alloc.AllocError.{AllocError}
use Rattle.std.specs.Fmt.{signed_decimal}
use Rattle.std.proofs.Common.{◌≡◌, ◌≢◌, ℕ, List, [], ◌∷◌, ◌++◌, get_or, Bool, true, false, inl, inr, sym, ◌∙◌, ap, subst, arith, ℤ}
use Rattle.std.proofs.lemmas.Fmt.{signed_decimal_injective}
use Rattle.std.proofs.lemmas.List.{append_cancel_left}
use Rattle.cps_model.specs.declared.model.CpModel.{CpModel}
use Rattle.cps_log.specs.Subjects.{IsNear}
use Rattle.cps_cert.specs.declared.response.NextPhase.{NextPhase}
use Rattle.cps_cert.specs.Lines.{Phase, at_status, in_solution, in_core, optimal_line, infeasible_line, value_line, assumption_line, IsBehindValues, Takes}
use Rattle.cps_cert.specs.ResponsePhases.{phase_of_next, IsJudged}
use Rattle.cps_subjects.proofs.Near.{near_mag}

byte_of : (k : ℕ) (xs ys : List ℕ) → xs ≡ ys → get_or xs k 0 ≡ get_or ys k 0
byte_of k xs ys e = ap (λ (bs : List ℕ). get_or bs k 0) e

no_two_states : (line : List ℕ) → line ≡ optimal_line → line ≡ infeasible_line → ⊥
no_two_states line e f = let h = byte_of 8 optimal_line infeasible_line (sym e ∙ f) in absurd (omega (arith, h))

-- one number is behind a name
number_one : (field : List ℕ) (v w : ℤ) (line : List ℕ) → IsNear v → IsNear w → line ≡ field ++ signed_decimal v → line ≡ field ++ signed_decimal w → v ≡ w
number_one field v w line near near' e f = signed_decimal_injective v w (near_mag v near) (near_mag w near') (append_cancel_left field (signed_decimal v) (signed_decimal w) (sym e ∙ f))

-- what is answered behind some values
abbrev pub IsBehind : CpModel → List ℤ → Option NextPhase → Type 0
IsBehind m a o = MatchOption o ((next : Phase) → ¬ IsBehindValues m a next) (λ next. IsBehindValues m a (phase_of_next next))

pub behind_status : (m : CpModel) (line : List ℕ) (r : Result (Option NextPhase) AllocError) → line ≡ optimal_line → IfOk r (IsBehind m []) → IfOk r (IsJudged m at_status line)
behind_status m line (Err e) is h = tt
behind_status m line (Ok None) is h = λ next taken. elim taken [ inl x ↦ h next x.1 | inr x ↦ no_two_states line is x.0 ]
behind_status m line (Ok (Some n)) is h = inl (is, h)

pub behind_value : (m : CpModel) (a : List ℤ) (v : ℤ) (line : List ℕ) (r : Result (Option NextPhase) AllocError) → IsNear v → line ≡ value_line v → IfOk r (IsBehind m (a ++ v ∷ [])) → IfOk r (IsJudged m (in_solution a) line)
behind_value m a v line (Err e) near is h = tt
behind_value m a v line (Ok None) near is h = λ next taken. h next
    (subst (λ (w : ℤ). IsBehindValues m (a ++ w ∷ []) next) (number_one (codes "solution: ") taken.value v line taken.near near taken.is is) taken.behind)
behind_value m a v line (Ok (Some n)) near is h = record { value = v; near = near; is = is; behind = h }

pub not_assumed : (m : CpModel) (literals : List ℤ) (r : ℤ) (line : List ℕ) → line ≢ codes "%log" → IsNear r → line ≡ assumption_line r → (Contains m.assumptions r → ⊥) → (next : Phase) → Takes m (in_core literals) line next → ⊥
not_assumed m literals r line other near is none next taken = elim taken [
  | inl x ↦ none (subst (λ (s : ℤ). Contains m.assumptions s) (number_one (codes "sufficient_assumptions_for_infeasibility: ") x.literal r line x.near near x.is is) x.assumed)
  | inr x ↦ other x.0
]

-- what a test denies
pub not_text : (b : Bool) (A : Type 0) → b ≡ false → (A → b ≡ true) → A → ⊥
not_text b A fails says a = (let holds = says a in cc)
