-- Lists that have not one item, and lists of messages.
use Rattle.std.specs.Option.{option_or}
use Rattle.std.proofs.lemmas.Grind.{common_steps}
use Rattle.std.proofs.Common.{ℕ, ◌+◌, ◌<◌, ◌++◌, drop, map, ◌≡◌, ◌≢◌, List, [], ◌∷◌, length, get_or, slice_get, false, Some, None, Vec, Global, refl, sym, ap, ◌∙◌, arith}
use Rattle.cps_textproto.specs.declared.tree.Nested.{Nested, Nested', out-Nested}
use Rattle.cps_textproto.specs.declared.tree.TokenRange.{TokenRange}
use Rattle.cps_textproto.specs.declared.tree.Items.TheVariants.{Messages}
use Rattle.cps_textproto.specs.Trees.{Tree, Values, no_values, tree_of, range_values, values_of, nested_value, nested_values}
use Rattle.cps_textproto.proofs.Views.{values_of_messages}
use Rattle.cps_model.specs.declared.fault.FaultName.TheVariants.{WrongKind}
use Rattle.cps_schema.specs.declared.number.Number.{Number}
use Rattle.cps_schema.specs.Written.{Written}
use Rattle.cps_schema.specs.Tables.{Message, number, truth, message}
use Rattle.cps_schema.specs.Faults.{is_alone, values_fault, fields_fault}
use Rattle.cps_schema.specs.Readings.{value_messages}
use Rattle.cps_schema.specs.Values.{nested_tree, nested_trees, trees_fault}

pub not_alone : (ss : List TokenRange) → length ss ≢ 1 → is_alone false (range_values ss) ≡ false
not_alone [] n = refl
not_alone (s ∷ []) n = absurd (n refl)
not_alone (s ∷ t ∷ ss) n = refl

pub no_lone_message : (ms : List Nested) → length ms ≢ 1 → is_alone false (nested_values ms) ≡ false
no_lone_message [] n = refl
no_lone_message (m ∷ []) n = absurd (n refl)
no_lone_message (Nested' f t ∷ Nested' g u ∷ ms) n = refl

-- a message stands where a number is taken
pub first_message : (w : Written) (type : Number) (m : Nested) (ms : List Nested) →
    values_fault w (Some (number type)) (nested_values (m ∷ ms)) ≡ Some (WrongKind, (out-Nested m).first)
unfolding out-Nested denote.Hole.Carrier.out
first_message w type (Nested' first node) ms = refl

pub none_first : (ms : List Nested) → slice_get ms 0 ≡ None → ms ≡ []
none_first [] e = refl
none_first (m ∷ ms) e = cc

some_first : (w : Written) (type : Number) (ms : List Nested) (m : Nested) → Some m ≡ slice_get ms 0 →
    values_fault w (Some (number type)) (nested_values ms) ≡ Some (WrongKind, (out-Nested m).first)
some_first w type [] m e = cc
some_first w type (x ∷ ms) m e =
    let same : m ≡ x = cc in
    rw same (first_message w type x ms)

pub refused_message : (w : Written) (type : Number) (list : Vec Nested Global) (ms : List Nested) (m : Nested) → ms ≡ list.items → Some m ≡ slice_get ms 0 →
    values_fault w (Some (number type)) (values_of (Messages list)) ≡ Some (WrongKind, (out-Nested m).first)
refused_message w type list ms m e first =
    ap (λ (vs : Values). values_fault w (Some (number type)) vs) (values_of_messages list ∙ ap nested_values (sym e)) ∙ some_first w type ms m first

pub lone_message : (ms : List Nested) (m : Nested) → length ms ≡ 1 → m ≡ get_or ms 0 m → nested_values ms ≡ nested_value m no_values
lone_message [] m n e = absurd (omega arith)
lone_message (x ∷ []) m n e = ap (λ (y : Nested). nested_value y no_values) (sym e)
lone_message (x ∷ y ∷ ms) m n e = absurd (omega arith)

pub listed_messages : (ms : List Nested) → value_messages (nested_values ms) ≡ nested_trees ms
listed_messages [] = refl
listed_messages (Nested' first node ∷ ms) = ap (λ ts. tree_of node ∷ ts) (listed_messages ms)

pub listed_fault : (w : Written) (k : Message) (ms : List Nested) → values_fault w (Some (message k)) (nested_values ms) ≡ trees_fault w k (nested_trees ms)
listed_fault w k [] = refl
listed_fault w k (Nested' first node ∷ ms) = ap (λ f. option_or (fields_fault w k [] (tree_of node)) f) (listed_fault w k ms)

pub tree_of_nested : (m : Nested) → tree_of (out-Nested m).node ≡ nested_tree m
unfolding out-Nested denote.Hole.Carrier.out
tree_of_nested (Nested' first node) = refl

-- one message more of a list
pub fault_step : {m : Nested} (w : Written) (k : Message) (list : List Nested) (i : ℕ) → i < length list → m ≡ get_or list i m
    → fields_fault w k [] (tree_of (out-Nested m).node) ≡ None
    → trees_fault w k (nested_trees (drop i list)) ≡ trees_fault w k (nested_trees (drop (i + 1) list))
fault_step w k list i h e f = grind (arith, common_steps, tree_of_nested)

pub added_step : {B : Type 0} {m : Nested} (f : Tree → B) (before after : List B) (list : List Nested) (i : ℕ) → i < length list → m ≡ get_or list i m
    → after ≡ before ++ (f (tree_of (out-Nested m).node) ∷ [])
    → before ++ map f (nested_trees (drop i list)) ≡ after ++ map f (nested_trees (drop (i + 1) list))
added_step f before after list i h e a = grind (arith, common_steps, tree_of_nested)

-- a message stands where a truth value is taken
truth_message : (w : Written) (m : Nested) (ms : List Nested) → values_fault w (Some truth) (nested_values (m ∷ ms)) ≡ Some (WrongKind, (out-Nested m).first)
unfolding out-Nested denote.Hole.Carrier.out
truth_message w (Nested' first node) ms = refl

some_truth_message : (w : Written) (ms : List Nested) (m : Nested) → Some m ≡ slice_get ms 0 →
    values_fault w (Some truth) (nested_values ms) ≡ Some (WrongKind, (out-Nested m).first)
some_truth_message w [] m e = cc
some_truth_message w (x ∷ ms) m e =
    let same : m ≡ x = cc in
    rw same (truth_message w x ms)

pub no_truth_message : (w : Written) (list : Vec Nested Global) (ms : List Nested) (m : Nested) → ms ≡ list.items → Some m ≡ slice_get ms 0 →
    values_fault w (Some truth) (values_of (Messages list)) ≡ Some (WrongKind, (out-Nested m).first)
no_truth_message w list ms m e first =
    ap (λ (vs : Values). values_fault w (Some truth) vs) (values_of_messages list ∙ ap nested_values (sym e)) ∙ some_truth_message w ms m first
