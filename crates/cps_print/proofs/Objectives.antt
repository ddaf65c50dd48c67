-- An objective is read as it was printed.
use Rattle.std.specs.Prelude.{codes}
use Rattle.std.proofs.Common.{◌≡◌, ◌≢◌, ℕ, zero, suc, true, false, ℤ, pos, negsuc, List, [], ◌∷◌, refl, ◌∙◌}
use Rattle.cps_lex.specs.Bytes.{is_word_start, is_word}
use Rattle.cps_textproto.specs.Trees.{Tree}
use Rattle.cps_model.specs.declared.model.Objective.{Objective}
use Rattle.cps_schema.specs.Written.{Written}
use Rattle.cps_schema.specs.declared.number.Number.TheVariants.{Int64, Int32, Exact}
use Rattle.cps_schema.specs.Numbers.{fits}
use Rattle.cps_schema.specs.Tables.{use_of, is_given, objective_message}
use Rattle.cps_schema.specs.Readings as readings
use Rattle.cps_schema.specs.Readings.{first_or, scaling_of, read_objective}
use Rattle.cps_print.specs.Layout.{empty}
use Rattle.cps_print.specs.Fields.{followed_by, number_field, list_field}
use Rattle.cps_print.specs.Models.{scaling_field, printed_objective}
use Rattle.cps_print.proofs.Cuts.{IsPlain}
use Rattle.cps_print.proofs.Shown.{Shows, IsAdmitted, numbers-shown}
use Rattle.cps_print.proofs.Readable.{IsReadableObjective}
use Rattle.cps_print.proofs.Fitting.{fit_short, are_short, plain-followed_by, plain-list_field, plain-number_field, admitted-list, admitted-number, given-other, number_list, printed}

-- the scaling factor is printed as another number that is left out where it is 0
abbrev scaling_shown : ℤ → ℤ
scaling_shown (pos zero) = pos zero
scaling_shown (pos (suc zero)) = pos zero
scaling_shown (pos (suc (suc n))) = pos (suc (suc n))
scaling_shown (negsuc n) = negsuc n

scaling_field-is : (z : ℤ) → scaling_field z ≡ number_field (codes "scaling_factor") (scaling_shown z)
unfolding scaling_field number_field
scaling_field-is (pos zero) = refl
scaling_field-is (pos (suc zero)) = refl
scaling_field-is (pos (suc (suc n))) = refl
scaling_field-is (negsuc n) = refl

shown_fit : (z : ℤ) → fits Exact z ≡ true → fits Exact (scaling_shown z) ≡ true
unfolding fits
shown_fit (pos zero) e = refl
shown_fit (pos (suc zero)) e = refl
shown_fit (pos (suc (suc n))) e = e
shown_fit (negsuc n) e = e

pub objective_plain : (room : ℕ) (o : Objective) → IsReadableObjective o → IsPlain room (printed_objective o)
unfolding is_word_start is_word
objective_plain room o r =
    let scaling : IsPlain room (scaling_field o.scaling) = rw (scaling_field-is o.scaling) (plain-number_field room (codes "scaling_factor") (scaling_shown o.scaling) refl (fit_short Exact (scaling_shown o.scaling) (shown_fit o.scaling r.scaling))) in
    plain-followed_by room (list_field (codes "vars") o.vars) _ (plain-list_field room (codes "vars") o.vars refl (are_short Int32 o.vars r.vars))
    (plain-followed_by room (list_field (codes "coeffs") o.coeffs) _ (plain-list_field room (codes "coeffs") o.coeffs refl (are_short Int64 o.coeffs r.coeffs))
    (plain-followed_by room (number_field (codes "offset") o.offset) _ (plain-number_field room (codes "offset") o.offset refl (fit_short Exact o.offset r.offset))
    (plain-followed_by room (scaling_field o.scaling) _ scaling
    (plain-followed_by room (list_field (codes "domain") o.domain) empty (plain-list_field room (codes "domain") o.domain refl (are_short Int64 o.domain r.domain)) tt))))

-- no single field has been given
record IsFree (before : List (List ℕ)) : Type 0 where
  offset : is_given before (codes "offset") ≡ false
  scaling : is_given before (codes "scaling_factor") ≡ false

free_vars : (before : List (List ℕ)) → IsFree before → IsFree (codes "vars" ∷ before)
free_vars before f = record { offset = given-other before (codes "vars") (codes "offset") refl f.offset; scaling = given-other before (codes "vars") (codes "scaling_factor") refl f.scaling }

free_coeffs : (before : List (List ℕ)) → IsFree before → IsFree (codes "coeffs" ∷ before)
free_coeffs before f = record { offset = given-other before (codes "coeffs") (codes "offset") refl f.offset; scaling = given-other before (codes "coeffs") (codes "scaling_factor") refl f.scaling }

domain_admitted : (closed : List (List ℕ)) (o : Objective) → IsReadableObjective o → (before : List (List ℕ)) → IsAdmitted closed objective_message before (followed_by (list_field (codes "domain") o.domain) empty)
unfolding use_of
domain_admitted closed o r before = admitted-list closed objective_message before (codes "domain") o.domain Int64 empty refl r.domain tt tt

scaling_admitted : (closed : List (List ℕ)) (o : Objective) → IsReadableObjective o → (before : List (List ℕ)) → is_given before (codes "scaling_factor") ≡ false → IsAdmitted closed objective_message before (followed_by (scaling_field o.scaling) (followed_by (list_field (codes "domain") o.domain) empty))
unfolding use_of
scaling_admitted closed o r before f =
    rw (scaling_field-is o.scaling)
    (admitted-number closed objective_message before (codes "scaling_factor") (scaling_shown o.scaling) Exact _ refl f (shown_fit o.scaling r.scaling) (domain_admitted closed o r before) (domain_admitted closed o r (codes "scaling_factor" ∷ before)))

offset_admitted : (closed : List (List ℕ)) (o : Objective) → IsReadableObjective o → (before : List (List ℕ)) → IsFree before → IsAdmitted closed objective_message before (followed_by (number_field (codes "offset") o.offset) (followed_by (scaling_field o.scaling) (followed_by (list_field (codes "domain") o.domain) empty)))
unfolding use_of
offset_admitted closed o r before f =
    admitted-number closed objective_message before (codes "offset") o.offset Exact _ refl f.offset r.offset
    (scaling_admitted closed o r before f.scaling)
    (scaling_admitted closed o r (codes "offset" ∷ before) (given-other before (codes "offset") (codes "scaling_factor") refl f.scaling))

coeffs_admitted : (closed : List (List ℕ)) (o : Objective) → IsReadableObjective o → (before : List (List ℕ)) → IsFree before → IsAdmitted closed objective_message before (followed_by (list_field (codes "coeffs") o.coeffs) (followed_by (number_field (codes "offset") o.offset) (followed_by (scaling_field o.scaling) (followed_by (list_field (codes "domain") o.domain) empty))))
unfolding use_of
coeffs_admitted closed o r before f =
    admitted-list closed objective_message before (codes "coeffs") o.coeffs Int64 _ refl r.coeffs
    (offset_admitted closed o r before f) (offset_admitted closed o r (codes "coeffs" ∷ before) (free_coeffs before f))

none_given : IsFree []
unfolding is_given
none_given = record { offset = refl; scaling = refl }

pub objective_admitted : (closed : List (List ℕ)) (o : Objective) → IsReadableObjective o → IsAdmitted closed objective_message [] (printed_objective o)
unfolding use_of
objective_admitted closed o r =
    admitted-list closed objective_message [] (codes "vars") o.vars Int32 _ refl r.vars
    (coeffs_admitted closed o r [] none_given) (coeffs_admitted closed o r (codes "vars" ∷ []) (free_vars [] none_given))

pub first_number : (z : ℤ) → first_or (pos 0) (number_list z) ≡ z
first_number (pos zero) = refl
first_number (pos (suc n)) = refl
first_number (negsuc n) = refl

scaling_back : (z : ℤ) → z ≢ pos 0 → scaling_of (first_or (pos 0) (number_list (scaling_shown z))) ≡ z
scaling_back (pos zero) h = absurd (h refl)
scaling_back (pos (suc zero)) h = refl
scaling_back (pos (suc (suc n))) h = refl
scaling_back (negsuc n) h = refl

pub objective_back : (w : Written) (o : Objective) (t : Tree) → IsReadableObjective o → Shows w (printed_objective o) t → read_objective w t ≡ o
unfolding use_of
objective_back w o t r s =
    let a = objective_admitted w.closed o r in
    let vars : readings.numbers w (codes "vars") t ≡ o.vars = numbers-shown w objective_message [] (codes "vars") Int32 (printed_objective o) t refl a s ∙ simp (scaling_field-is, printed) in
    let coeffs : readings.numbers w (codes "coeffs") t ≡ o.coeffs = numbers-shown w objective_message [] (codes "coeffs") Int64 (printed_objective o) t refl a s ∙ simp (scaling_field-is, printed) in
    let offset : readings.numbers w (codes "offset") t ≡ number_list o.offset = numbers-shown w objective_message [] (codes "offset") Exact (printed_objective o) t refl a s ∙ simp (scaling_field-is, printed) in
    let scaling : readings.numbers w (codes "scaling_factor") t ≡ number_list (scaling_shown o.scaling) = numbers-shown w objective_message [] (codes "scaling_factor") Exact (printed_objective o) t refl a s ∙ simp (scaling_field-is, printed) in
    let domain : readings.numbers w (codes "domain") t ≡ o.domain = numbers-shown w objective_message [] (codes "domain") Int64 (printed_objective o) t refl a s ∙ simp (scaling_field-is, printed) in
    rw (vars, coeffs, offset, scaling, domain, first_number o.offset, scaling_back o.scaling r.scaled) refl
