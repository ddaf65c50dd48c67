-- The words of a sum, one after another.
use Rattle.std.specs.Prelude.{Option, None, Result, Ok, Err, IfOk, MatchOption, ◌≢◌, Some, slice_get}
use Rattle.std.specs.List.{list_all}
use Rattle.std.specs.Fmt.{signed_decimal}
use Rattle.std.proofs.Common.{◌≡◌, ℕ, ◌+◌, List, [], ◌∷◌, ◌++◌, length, true, refl, sym, ◌∙◌, ap, subst, ℤ}
use Rattle.std.proofs.lemmas.List.{append_assoc, append-nil, length-append}
use Rattle.std.proofs.lemmas.List.Elements.{All-head, All-tail, All-push}
use Rattle.cps_model.specs.declared.model.LinearExpr.{LinearExpr}
use Rattle.cps_log.specs.Subjects.{IsNear}
use Rattle.cps_log.specs.Writing.{behind_blank, terms_text, sum_text}
use Rattle.cps_log.specs.Fitting.{FitsVariable, FitTerms, FitsSum}
use Rattle.cps_cert.specs.Words.{is_no_blank, IsNextWord, BeginsWith}
use Rattle.cps_cert.proofs.Numbers.{variable_near}
use Rattle.cps_cert.proofs.Clauses.{SameCut, next_written, signed_no_blank}

-- ---- a text that begins with a number

pub next_is : (bytes word after u tail : List ℕ) → IsNextWord bytes word after → list_all is_no_blank u ≡ true → BeginsWith bytes u tail → word ≡ u
next_is bytes word after u tail next whole b = (next_written bytes word after u tail next whole b).words

pub begins_so : (bytes word after u : List ℕ) → IsNextWord bytes word after → word ≡ u → BeginsWith bytes u after
begins_so bytes word after u next same = record { is = subst (λ (w : List ℕ). bytes ≡ 32 ∷ (w ++ after)) same next.is; ends = next.ends }

-- two ways to begin are one
pub both_begin : (bytes u after v tail : List ℕ) → list_all is_no_blank u ≡ true → list_all is_no_blank v ≡ true → BeginsWith bytes u after → BeginsWith bytes v tail → SameCut u after v tail
both_begin bytes u after v tail hu hv b d = next_written bytes u after v tail (record { is = b.is; whole = hu; ends = b.ends }) hv d

pub no_blank_variable : (r : ℤ) → FitsVariable r → list_all is_no_blank (signed_decimal r) ≡ true
no_blank_variable r h = signed_no_blank r (variable_near r h)

-- ---- terms

pub terms_end : (rs cs : List ℤ) (b : ℕ) → slice_get (terms_text rs cs) 0 ≡ Some b → b ≡ 32
terms_end [] cs b e = cc
terms_end (r ∷ rs) [] b e = cc
terms_end (r ∷ rs) (c ∷ cs) b e = cc

-- a text of terms that is not empty begins with a variable, and behind it stands its coefficient
pub record HasTerm (bytes : List ℕ) (rs cs : List ℤ) : Type 0 where
  pub variable : ℤ
  pub coefficient : ℤ
  pub variables : List ℤ
  pub coefficients : List ℤ
  pub fits : FitsVariable variable
  pub near : IsNear coefficient
  pub others : FitTerms variables coefficients
  pub first : BeginsWith bytes (signed_decimal variable) (behind_blank (signed_decimal coefficient) ++ terms_text variables coefficients)
  pub second : BeginsWith (behind_blank (signed_decimal coefficient) ++ terms_text variables coefficients) (signed_decimal coefficient) (terms_text variables coefficients)

pub has_term : (bytes : List ℕ) (rs cs : List ℤ) → (length bytes ≡ 0 → ⊥) → FitTerms rs cs → bytes ≡ terms_text rs cs → HasTerm bytes rs cs
has_term bytes [] cs some fits e = absurd (some (rw e refl))
has_term bytes (r ∷ rs) [] some fits e = absurd (let p = fits.paired in cc)
has_term bytes (r ∷ rs) (c ∷ cs) some fits e = record {
  variable = r;
  coefficient = c;
  variables = rs;
  coefficients = cs;
  fits = All-head FitsVariable r rs fits.variables;
  near = All-head IsNear c cs fits.coefficients;
  others = record { variables = All-tail FitsVariable r rs fits.variables; coefficients = All-tail IsNear c cs fits.coefficients; paired = (let p = fits.paired in cc) };
  first = record { is = e; ends = λ b f. (cc) };
  second = record { is = refl; ends = terms_end rs cs };
}

-- what is left behind a term
pub left_behind : (bytes behind after : List ℕ) (rs cs : List ℤ) (r c : ℤ) → (length bytes ≡ 0 → ⊥) → FitTerms rs cs → bytes ≡ terms_text rs cs
    → FitsVariable r → BeginsWith bytes (signed_decimal r) behind → IsNear c → BeginsWith behind (signed_decimal c) after
    → (variables : List ℤ) × (coefficients : List ℤ) × FitTerms variables coefficients × (after ≡ terms_text variables coefficients)
left_behind bytes behind after rs cs r c some fits e fr b near d =
    let t = has_term bytes rs cs some fits e in
    let one = both_begin bytes (signed_decimal r) behind (signed_decimal t.variable) _ (no_blank_variable r fr) (no_blank_variable t.variable t.fits) b t.first in
    let two = both_begin behind (signed_decimal c) after (signed_decimal t.coefficient) (terms_text t.variables t.coefficients) (signed_no_blank c near) (signed_no_blank t.coefficient t.near) d (subst (λ (bs : List ℕ). BeginsWith bs (signed_decimal t.coefficient) (terms_text t.variables t.coefficients)) (sym one.rests) t.second) in
    (t.variables, t.coefficients, t.others, two.rests)

-- no coefficient behind a variable
pub no_coefficient : (bytes behind : List ℕ) (rs cs : List ℤ) (r : ℤ) → (length bytes ≡ 0 → ⊥) → FitTerms rs cs → bytes ≡ terms_text rs cs
    → FitsVariable r → BeginsWith bytes (signed_decimal r) behind → ((z : ℤ) (after : List ℕ) → IsNear z → BeginsWith behind (signed_decimal z) after → ⊥) → ⊥
no_coefficient bytes behind rs cs r some fits e fr b none =
    let t = has_term bytes rs cs some fits e in
    let one = both_begin bytes (signed_decimal r) behind (signed_decimal t.variable) _ (no_blank_variable r fr) (no_blank_variable t.variable t.fits) b t.first in
    none t.coefficient (terms_text t.variables t.coefficients) t.near (subst (λ (bs : List ℕ). BeginsWith bs (signed_decimal t.coefficient) (terms_text t.variables t.coefficients)) (sym one.rests) t.second)

pub no_variable : (bytes : List ℕ) (rs cs : List ℤ) → (length bytes ≡ 0 → ⊥) → FitTerms rs cs → bytes ≡ terms_text rs cs
    → ((z : ℤ) (after : List ℕ) → FitsVariable z → BeginsWith bytes (signed_decimal z) after → ⊥) → ⊥
no_variable bytes rs cs some fits e none =
    let t = has_term bytes rs cs some fits e in
    none t.variable _ t.fits t.first

-- one term more
pub terms_push : (rs cs : List ℤ) (r c : ℤ) (tail : List ℕ) → length rs ≡ length cs
    → terms_text (rs ++ r ∷ []) (cs ++ c ∷ []) ++ tail ≡ terms_text rs cs ++ (behind_blank (signed_decimal r) ++ (behind_blank (signed_decimal c) ++ tail))
terms_push [] [] r c tail p =
    ap (λ (bs : List ℕ). 32 ∷ bs) (append_assoc (signed_decimal r) (behind_blank (signed_decimal c) ++ []) tail
    ∙ ap (λ (bs : List ℕ). signed_decimal r ++ 32 ∷ bs) (append_assoc (signed_decimal c) [] tail))
terms_push [] (d ∷ ds) r c tail p = cc
terms_push (s ∷ ss) [] r c tail p = cc
terms_push (s ∷ ss) (d ∷ ds) r c tail p =
    let rest = terms_push ss ds r c tail (let q = p in cc) in
    ap (λ (bs : List ℕ). 32 ∷ bs) (
    append_assoc (signed_decimal s) (behind_blank (signed_decimal d) ++ terms_text (ss ++ r ∷ []) (ds ++ c ∷ [])) tail
    ∙ ap (λ (bs : List ℕ). signed_decimal s ++ 32 ∷ bs) (append_assoc (signed_decimal d) (terms_text (ss ++ r ∷ []) (ds ++ c ∷ [])) tail ∙ ap (λ (bs : List ℕ). signed_decimal d ++ bs) rest
    ∙ sym (append_assoc (signed_decimal d) (terms_text ss ds) (behind_blank (signed_decimal r) ++ (behind_blank (signed_decimal c) ++ tail))))
    ∙ sym (append_assoc (signed_decimal s) (behind_blank (signed_decimal d) ++ terms_text ss ds) (behind_blank (signed_decimal r) ++ (behind_blank (signed_decimal c) ++ tail))))

pub text_with_term : (text bytes behind after : List ℕ) (rs cs : List ℤ) (r c : ℤ) → length rs ≡ length cs → text ≡ terms_text rs cs ++ bytes
    → BeginsWith bytes (signed_decimal r) behind → BeginsWith behind (signed_decimal c) after → text ≡ terms_text (rs ++ r ∷ []) (cs ++ c ∷ []) ++ after
text_with_term text bytes behind after rs cs r c p e b d =
    e ∙ ap (λ (bs : List ℕ). terms_text rs cs ++ bs) (b.is ∙ ap (λ (bs : List ℕ). behind_blank (signed_decimal r) ++ bs) d.is) ∙ sym (terms_push rs cs r c after p)

pub fit_push : (rs cs : List ℤ) (r c : ℤ) → FitTerms rs cs → FitsVariable r → IsNear c → FitTerms (rs ++ r ∷ []) (cs ++ c ∷ [])
fit_push rs cs r c f fr near = record {
  variables = All-push FitsVariable rs r f.variables fr;
  coefficients = All-push IsNear cs c f.coefficients near;
  paired = length-append rs (r ∷ []) ∙ ap (λ (n : ℕ). n + 1) f.paired ∙ sym (length-append cs (c ∷ []));
}

pub blank_first : (bytes word after : List ℕ) → BeginsWith bytes word after → slice_get bytes 0 ≡ Some 32
blank_first bytes word after b = rw b.is refl

pub begins_alone : (bytes word : List ℕ) → bytes ≡ behind_blank word → BeginsWith bytes word []
begins_alone bytes word e = record { is = e ∙ ap (λ (bs : List ℕ). 32 ∷ bs) (sym (append-nil word)); ends = λ b f. (cc) }

pub none_of : (X A : Type 0) (P : X → Type 0) (o : Option X) → MatchOption o A P → o ≡ None → A
none_of X A P o h e = subst (λ (q : Option X). MatchOption q A P) e h

-- ---- a sum

sum_found : (text after : List ℕ) (offset : ℤ) (e : LinearExpr) → IsNear offset → BeginsWith text (signed_decimal offset) after
    → (e.offset ≡ offset) × FitTerms e.vars e.coeffs × (after ≡ terms_text e.vars e.coeffs) → FitsSum e × (text ≡ sum_text e)
sum_found text after offset e near b f =
    (record { offset = subst (λ (z : ℤ). IsNear z) (sym f.0) near; terms = f.1 }, b.is ∙ (rw (f.0, f.2) refl))

sum_missing : (text after : List ℕ) (offset : ℤ) (e : LinearExpr) → IsNear offset → BeginsWith text (signed_decimal offset) after
    → ((rs cs : List ℤ) → FitTerms rs cs → after ≡ terms_text rs cs → ⊥) → FitsSum e → text ≡ sum_text e → ⊥
sum_missing text after offset e near b none fits same =
    let cut = both_begin text (signed_decimal offset) after (signed_decimal e.offset) (terms_text e.vars e.coeffs) (signed_no_blank offset near) (signed_no_blank e.offset fits.offset) b (record { is = same; ends = terms_end e.vars e.coeffs }) in
    none e.vars e.coeffs fits.terms cut.rests

pub sum_back : {E : Type 0} (text after : List ℕ) (offset given : ℤ) (r : Result (Option LinearExpr) E) → IsNear offset → BeginsWith text (signed_decimal offset) after
    → given ≡ offset → IfOk r (λ o. MatchOption o ((rs cs : List ℤ) → FitTerms rs cs → after ≢ terms_text rs cs) (λ e. (e.offset ≡ given) × FitTerms e.vars e.coeffs × (after ≡ terms_text e.vars e.coeffs)))
    → IfOk r (λ o. MatchOption o ((e : LinearExpr) → FitsSum e → text ≢ sum_text e) (λ e. FitsSum e × (text ≡ sum_text e)))
sum_back text after offset given (Ok None) near b meant h = λ e fits same. sum_missing text after offset e near b h fits same
sum_back text after offset given (Ok (Some e)) near b meant h = sum_found text after offset e near b (h.0 ∙ meant, h.1, h.2)
sum_back text after offset given (Err x) near b meant h = h
