-- Expressions are read as they were printed.
use Rattle.std.specs.Prelude.{codes, if◌then◌else◌}
use Rattle.std.proofs.Common.{◌≡◌, ℕ, zero, suc, Bool, true, false, ℤ, pos, negsuc, List, [], ◌∷◌, ◌++◌, refl, ◌∙◌}
use Rattle.cps_lex.specs.Bytes.{is_word_start, is_word}
use Rattle.cps_lex.specs.Forms.{is_identifier}
use Rattle.cps_textproto.specs.Trees.{Tree}
use Rattle.cps_model.specs.declared.model.LinearExpr.{LinearExpr}
use Rattle.cps_schema.specs.Written.{Written}
use Rattle.cps_schema.specs.declared.number.Number.TheVariants.{Int64, Int32}
use Rattle.cps_schema.specs.Tables.{use_of, is_given, expression_message}
use Rattle.cps_schema.specs.Readings as readings
use Rattle.cps_schema.specs.Readings.{first_or, read_expression}
use Rattle.cps_print.specs.Layout.{empty}
use Rattle.cps_print.specs.Fields.{followed_by, number_field, list_field, message_field}
use Rattle.cps_print.specs.Expressions.{printed_expression, is_zero_sum, is_empty_expression, expression_field}
use Rattle.cps_print.proofs.Cuts.{IsPlain}
use Rattle.cps_print.proofs.Shown.{Shows, IsAdmitted, numbers-shown}
use Rattle.cps_print.proofs.Readable.{IsReadableExpression}
use Rattle.cps_print.proofs.Fitting.{fit_short, are_short, plain-followed_by, plain-list_field, plain-number_field, plain-message_field, admitted-list, admitted-number, given-other, number_list, printed}
use Rattle.cps_print.proofs.Objectives.{first_number}

pub expression_plain : (room : ℕ) (e : LinearExpr) → IsReadableExpression e → IsPlain room (printed_expression e)
unfolding is_word_start is_word
expression_plain room e r =
    plain-followed_by room (list_field (codes "vars") e.vars) _ (plain-list_field room (codes "vars") e.vars refl (are_short Int32 e.vars r.vars))
    (plain-followed_by room (list_field (codes "coeffs") e.coeffs) _ (plain-list_field room (codes "coeffs") e.coeffs refl (are_short Int64 e.coeffs r.coeffs))
    (plain-followed_by room (number_field (codes "offset") e.offset) empty (plain-number_field room (codes "offset") e.offset refl (fit_short Int64 e.offset r.offset)) tt))

expression_offset : (closed : List (List ℕ)) (e : LinearExpr) → IsReadableExpression e → (before : List (List ℕ)) → is_given before (codes "offset") ≡ false → IsAdmitted closed expression_message before (followed_by (number_field (codes "offset") e.offset) empty)
unfolding use_of
expression_offset closed e r before f = admitted-number closed expression_message before (codes "offset") e.offset Int64 empty refl f r.offset tt tt

expression_coeffs : (closed : List (List ℕ)) (e : LinearExpr) → IsReadableExpression e → (before : List (List ℕ)) → is_given before (codes "offset") ≡ false → IsAdmitted closed expression_message before (followed_by (list_field (codes "coeffs") e.coeffs) (followed_by (number_field (codes "offset") e.offset) empty))
unfolding use_of
expression_coeffs closed e r before f =
    admitted-list closed expression_message before (codes "coeffs") e.coeffs Int64 _ refl r.coeffs
    (expression_offset closed e r before f)
    (expression_offset closed e r (codes "coeffs" ∷ before) (given-other before (codes "coeffs") (codes "offset") refl f))

pub expression_admitted : (closed : List (List ℕ)) (e : LinearExpr) → IsReadableExpression e → IsAdmitted closed expression_message [] (printed_expression e)
unfolding use_of is_given
expression_admitted closed e r =
    admitted-list closed expression_message [] (codes "vars") e.vars Int32 _ refl r.vars (expression_coeffs closed e r [] refl) (expression_coeffs closed e r (codes "vars" ∷ []) refl)

pub expression_back : (w : Written) (e : LinearExpr) (t : Tree) → IsReadableExpression e → Shows w (printed_expression e) t → read_expression w t ≡ e
unfolding use_of
expression_back w e t r s =
    let a = expression_admitted w.closed e r in
    let vars : readings.numbers w (codes "vars") t ≡ e.vars = numbers-shown w expression_message [] (codes "vars") Int32 (printed_expression e) t refl a s ∙ simp printed in
    let coeffs : readings.numbers w (codes "coeffs") t ≡ e.coeffs = numbers-shown w expression_message [] (codes "coeffs") Int64 (printed_expression e) t refl a s ∙ simp printed in
    let offset : readings.numbers w (codes "offset") t ≡ number_list e.offset = numbers-shown w expression_message [] (codes "offset") Int64 (printed_expression e) t refl a s ∙ simp printed in
    rw (vars, coeffs, offset, first_number e.offset) refl

-- a single expression, which is left out where it is empty

pub plain-expression_field : (room : ℕ) (name : List ℕ) (e : LinearExpr) → is_identifier name ≡ true → IsReadableExpression e → IsPlain (suc room) (expression_field name e)
unfolding expression_field
plain-expression_field room name e i r = by (is_empty_expression e) where
  by : (none : Bool) → IsPlain (suc room) (if none then empty else message_field name (printed_expression e))
  by true = tt
  by false = plain-message_field room name (printed_expression e) i (expression_plain room e r)

-- the expression of no terms and the offset 0
abbrev pub no_terms : LinearExpr
no_terms = record { vars = []; coeffs = []; offset = pos 0 }

abbrev pub expression_list : LinearExpr → List LinearExpr
expression_list e = if is_empty_expression e then [] else e ∷ []

no_terms-is : (vars coeffs : List ℤ) (offset : ℤ) → first_or no_terms ((if is_zero_sum vars coeffs offset then [] else record { vars = vars; coeffs = coeffs; offset = offset } ∷ []) ++ []) ≡ record { vars = vars; coeffs = coeffs; offset = offset }
no_terms-is [] [] (pos zero) = refl
no_terms-is [] [] (pos (suc n)) = refl
no_terms-is [] [] (negsuc n) = refl
no_terms-is [] (c ∷ cs) offset = refl
no_terms-is (v ∷ vs) coeffs offset = refl

pub first_expression : (e : LinearExpr) → first_or no_terms (expression_list e ++ []) ≡ e
first_expression e = no_terms-is e.vars e.coeffs e.offset
