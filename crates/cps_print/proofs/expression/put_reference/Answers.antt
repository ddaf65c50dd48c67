-- The lines of its fields, one level further in. An offset of 0 has none.
use Rattle.std.specs.Prelude.{string_bytes}
use Rattle.std.proofs.Common.{◌≡◌, ◌+◌, ℤ, pos, [], ◌∷◌, codes, to_z, of_z, w32, FitsSigned, add-one, ap, refl, rules}
use Rattle.std.proofs.lemmas.Int.{to_z-of_z}
use Rattle.cps_print.proofs.Lines.{on_ok, none_left, zero_left, list_then, number_then, message_then}
use Rattle.cps_print.proofs.expression.put_reference.Goals as goal

pub returns : goal.returns
returns c =
    let level = c.args.level in
    let reference = c.args.reference in
    let fits : FitsSigned w32 reference = search rules in
    let only : to_z w32 (of_z w32 reference) ∷ [] ≡ reference ∷ [] = ap (λ (n : ℤ). n ∷ []) (to_z-of_z w32 _ fits) in
    let behind = string_bytes c.put_list_field-2.new.text in
    let fields =
    list_then (level + 1) (codes "vars") _ (reference ∷ []) _ _ _ _ only (c.in_ok-put_list_field.ensures {u = tt})
    (list_then (level + 1) (codes "coeffs") (pos 1 ∷ []) (pos 1 ∷ []) _ _ _ _ refl (c.in_ok-put_list_field-2.ensures {u = tt})
    (number_then (level + 1) (codes "offset") (pos 0) (pos 0) _ _ _ _ refl (zero_left (level + 1) (codes "offset") behind) (none_left (level + 1) behind))) in
    on_ok c.close_message.result (message_then level _ _ _ _ _ _ (c.in_ok-open_message.ensures {u = tt}) (rw add-one at fields)) c.close_message.ensures
