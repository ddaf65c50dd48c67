-- The number of a scalar, by the token that it stands on.
use mir.Val.{bool_byte}
use Rattle.std.specs.Option.{unwrap_or}
use Rattle.std.proofs.Common.{◌≡◌, ◌∙◌, ℕ, ◌+◌, ℤ, List, Bool, true, false, ◌&&◌, Option, Some, None, is_some, refl, sym, ap, add-zero}
use Rattle.cps_lex.specs.declared.types.TokenKind.{TokenKind}
use Rattle.cps_model.specs.declared.fault.FaultName.{FaultName}
use Rattle.cps_model.specs.declared.fault.FaultName.TheVariants.{WrongKind}
use Rattle.cps_schema.specs.declared.number.Number.{Number}
use Rattle.cps_schema.specs.Written.{Written, token_text, token_kind, token_size, is_negative, unsigned_token, size_at, signed_value, number_at}
use Rattle.cps_schema.specs.Numbers.{fits, misfit, token_fault, fitted, number_fault}

-- the token behind the sign
pub behind_sign : (w : Written) (first : ℕ) (negative : Bool) → negative ≡ is_negative w first → first + bool_byte negative ≡ unsigned_token w first
behind_sign w first true e = rw (← e) refl
behind_sign w first false e = rw (← e) (add-zero first)

-- a size whose number the type has
fitted_some : (type : Number) (negative : Bool) (size : Option ℕ) (value : ℤ) → fitted type negative size ≡ Some value →
    (is_some size && fits type (signed_value negative (unwrap_or size 0))) ≡ true
fitted_some type negative None value e = absurd (cc e)
fitted_some type negative (Some n) value e = by_test (fits type (signed_value negative n)) refl where
  by_test : (b : Bool) → fits type (signed_value negative n) ≡ b → fits type (signed_value negative n) ≡ true
  by_test true t = t
  by_test false t =
      let none : ◌≡◌ {A = Option ℤ} None (Some value) = rw t at e in
      absurd (cc none)

-- and one whose number it has not
fitted_none : (type : Number) (negative : Bool) (size : Option ℕ) → fitted type negative size ≡ None →
    (is_some size && fits type (signed_value negative (unwrap_or size 0))) ≡ false
fitted_none type negative None e = refl
fitted_none type negative (Some n) e = by_test (fits type (signed_value negative n)) refl where
  by_test : (b : Bool) → fits type (signed_value negative n) ≡ b → fits type (signed_value negative n) ≡ false
  by_test true t =
      let some : ◌≡◌ {A = Option ℤ} (Some (signed_value negative n)) None = rw t at e in
      absurd (cc some)
  by_test false t = t

-- what a number's sign and its text behind that sign are worth
pub worth : (w : Written) (type : Number) (first : ℕ) (kind : TokenKind) (negative : Bool) (text : List ℕ) (value : Option ℤ) → negative ≡ is_negative w first →
    text ≡ token_text w (first + bool_byte negative) → value ≡ fitted type negative (token_size (Some kind) text) →
    fitted type (is_negative w first) (token_size (Some kind) (token_text w (unsigned_token w first))) ≡ value
worth w type first kind negative text value n t e =
    sym (e ∙ ap (λ (s : List ℕ). fitted type negative (token_size (Some kind) s)) (t ∙ ap (token_text w) (behind_sign w first negative n))
    ∙ ap (λ (b : Bool). fitted type b (token_size (Some kind) (token_text w (unsigned_token w first)))) n)

module _ (w : Written) (type : Number) (first : ℕ) where
  -- no token
  pub no_token : token_kind w (unsigned_token w first) ≡ None → number_fault w type first ≡ Some WrongKind
  unfolding number_fault
  no_token e = rw e refl

  module _ (kind : TokenKind) (is : token_kind w (unsigned_token w first) ≡ Some kind) where
    -- a token of a wrong kind
    pub wrong_token : (name : FaultName) → token_fault type kind ≡ Some name → number_fault w type first ≡ Some name
    unfolding number_fault
    wrong_token name e = rw (is, e) refl

    -- a token of a right kind, whose number the type has
    pub fitting : (value : ℤ) → token_fault type kind ≡ None →
        fitted type (is_negative w first) (token_size (Some kind) (token_text w (unsigned_token w first))) ≡ Some value → number_fault w type first ≡ None
    unfolding number_fault number_at size_at
    fitting value e f = rw (is, e, fitted_some type (is_negative w first) (token_size (Some kind) (token_text w (unsigned_token w first))) value f) refl

    -- or has not
    pub unfitting : token_fault type kind ≡ None →
        fitted type (is_negative w first) (token_size (Some kind) (token_text w (unsigned_token w first))) ≡ None → number_fault w type first ≡ Some (misfit type)
    unfolding number_fault number_at size_at
    unfitting e f = rw (is, e, fitted_none type (is_negative w first) (token_size (Some kind) (token_text w (unsigned_token w first))) f) refl
