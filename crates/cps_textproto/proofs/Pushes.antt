-- One more field, value or open message, or one less.
use Rattle.std.proofs.Common.{◌≡◌, suc, ◌-◌, List, [], ◌∷◌, ◌++◌, length, length-append, take, refl, sym, ◌∙◌, ap, arith}
use Rattle.cps_textproto.specs.declared.tree.Field.{Field}
use Rattle.cps_textproto.specs.declared.tree.Nested.{Nested, Nested'}
use Rattle.cps_textproto.specs.declared.tree.TokenRange.{TokenRange}
use Rattle.cps_textproto.specs.declared.builder.Opened.{Opened}
use Rattle.cps_textproto.specs.Trees.{Values, field_list, values_of, range_values, nested_value, nested_values, then_fields, then_values, before_last, without_last, field, scalar_value, no_fields, no_values}
use Rattle.cps_textproto.specs.Building.{Outer, outer_of, outer_onto}

pub field_list_more : (fs : List Field) (f : Field) → field_list (fs ++ f ∷ []) ≡ then_fields (field_list fs) (field f.name f.list (values_of f.items) no_fields)
field_list_more [] f = refl
field_list_more (x ∷ xs) f = ap (field x.name x.list (values_of x.items)) (field_list_more xs f)

before_field : (f : Field) (fs : List Field) → field_list (take (length fs) (f ∷ fs)) ≡ before_last f.name f.list (values_of f.items) (field_list fs)
before_field f [] = refl
before_field f (g ∷ gs) =
    let one : length (g ∷ gs) ≡ suc (length gs) = omega arith in
    ap (λ n. field_list (take n (f ∷ g ∷ gs))) one ∙ ap (field f.name f.list (values_of f.items)) (before_field g gs)

pub field_list_less : (fs : List Field) → field_list (take (length fs - 1) fs) ≡ without_last (field_list fs)
field_list_less [] = refl
field_list_less (f ∷ fs) =
    let one : length (f ∷ fs) - 1 ≡ length fs = omega arith in
    ap (λ n. field_list (take n (f ∷ fs))) one ∙ before_field f fs

pub range_values_more : (ss : List TokenRange) (s : TokenRange) → range_values (ss ++ s ∷ []) ≡ then_values (range_values ss) (scalar_value s.first s.end no_values)
range_values_more [] s = refl
range_values_more (x ∷ xs) s = ap (scalar_value x.first x.end) (range_values_more xs s)

nested_value-more : (m : Nested) (rest more : Values) → then_values (nested_value m rest) more ≡ nested_value m (then_values rest more)
nested_value-more (Nested' first node) rest more = refl

pub nested_values_more : (ms : List Nested) (m : Nested) → nested_values (ms ++ m ∷ []) ≡ then_values (nested_values ms) (nested_value m no_values)
nested_values_more [] m = refl
nested_values_more (x ∷ xs) m =
    ap (nested_value x) (nested_values_more xs m) ∙ sym (nested_value-more x (nested_values xs) (nested_value m no_values))

-- a list of one message has the last alone
pub only_nested : (ms rest : List Nested) (m : Nested) → ms ≡ rest ++ m ∷ [] → length ms ≡ 1 → nested_values ms ≡ nested_value m no_values
only_nested ms [] m is one = ap nested_values is
only_nested ms (x ∷ xs) m is one = absurd (omega (arith, ap length is, length-append xs (m ∷ []), one))

pub outer_onto_more : (os : List Opened) (o : Opened) (outer : List Outer) → outer_onto (os ++ o ∷ []) outer ≡ outer_of o ∷ outer_onto os outer
outer_onto_more [] o outer = refl
outer_onto_more (x ∷ xs) o outer = outer_onto_more xs o (outer_of x ∷ outer)
