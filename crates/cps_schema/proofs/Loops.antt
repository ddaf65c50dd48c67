-- One field more of a message, and one value more of a list.
use Rattle.std.specs.List.{flat_map}
use Rattle.std.specs.Option.{option_or, unwrap_or}
use Rattle.std.proofs.Common.{◌≡◌, ℕ, ◌+◌, ◌<◌, ◌≤◌, ◌++◌, Bool, false, List, [], ◌∷◌, ℤ, Option, Some, None, length, get_or, drop, refl, sym, ap, ◌∙◌, arith, append_assoc, append-nil, add-one, drop-cons}
use Rattle.std.proofs.lemmas.Grind.{common_steps}
use Rattle.std.proofs.lemmas.List.{drop_all}
use Rattle.cps_textproto.specs.declared.tree.Field.{Field}
use Rattle.cps_textproto.specs.declared.tree.Nested.{Nested, out-Nested}
use Rattle.cps_textproto.specs.declared.tree.TokenRange.{TokenRange}
use Rattle.cps_textproto.specs.Trees.{Tree, no_fields, tree_of, field_list, Values, no_values, scalar_value, range_values}
use Rattle.cps_lex.specs.declared.types.Token.{Token}
use Rattle.cps_lex.specs.Tokens.{text_of}
use Rattle.cps_lex.specs.Texts.{text_value}
use Rattle.cps_model.specs.declared.fault.FaultName.{FaultName}
use Rattle.cps_schema.specs.declared.error.SchemaError.{SchemaError}
use Rattle.cps_schema.specs.declared.error.SchemaError.TheVariants.{Fault, OutOfMemory}
use Rattle.cps_schema.specs.Written.{Written, token_text, number_at}
use Rattle.cps_schema.specs.Tables.{Message, Content}
use Rattle.cps_schema.specs.Texts.{string_value}
use Rattle.cps_schema.specs.Truths.{truth_at}
use Rattle.cps_schema.specs.Readings.{value_numbers, value_truths}
use Rattle.cps_schema.specs.Faults.{refused_at, scalar_fault, values_fault, fields_fault}
use Rattle.cps_schema.specs.Values.{nested_trees, trees_fault}
use Rattle.cps_schema.specs.Answers.{Refuses}
use Rattle.cps_schema.specs.Steps.{field_then, Passes, Stops}
use Rattle.cps_schema.proofs.Values.{tree_of_nested}

pub cut_field : {m : Field} (list : List Field) (i : ℕ) → i < length list → m ≡ get_or list i m
    → field_list (drop i list) ≡ field_then m (field_list (drop (i + 1) list))
cut_field list i h e = grind (arith, common_steps)

-- fields that pass, up to this one
pub field_passed : {f : Field} (w : Written) (m : Message) (before : List (List ℕ)) (items : List Field) (i : ℕ) → i < length items → f ≡ get_or items i f
    → fields_fault w m [] (field_list items) ≡ fields_fault w m before (field_list (drop i items)) → Passes w m before f
    → fields_fault w m [] (field_list items) ≡ fields_fault w m (token_text w f.name ∷ before) (field_list (drop (i + 1) items))
field_passed w m before items i h is kept passes =
    kept ∙ ap (λ (t : Tree). fields_fault w m before t) (cut_field items i h is) ∙ passes (field_list (drop (i + 1) items))

-- and this one, which is refused
pub field_refused : {f : Field} (w : Written) (m : Message) (before : List (List ℕ)) (items : List Field) (tree : Tree) (i : ℕ) → i < length items → f ≡ get_or items i f
    → field_list items ≡ tree → fields_fault w m [] (field_list items) ≡ fields_fault w m before (field_list (drop i items))
    → (e : SchemaError) → Stops w m before f e → Refuses (fields_fault w m [] tree) e
field_refused w m before items tree i h is same kept e stops =
    rw (sym (ap (λ (t : Tree). fields_fault w m [] t) same) ∙ kept ∙ ap (λ (t : Tree). fields_fault w m before t) (cut_field items i h is))
    (stops (field_list (drop (i + 1) items)))

-- what all fields give, behind the last of them
pub all_read : {V : Type 0} (read from : Tree → V) (items : List Field) (tree : Tree) (i : ℕ) → length items ≤ i → field_list items ≡ tree
    → read (field_list items) ≡ from (field_list (drop i items)) → read tree ≡ from no_fields
all_read read from items tree i past same kept =
    ap read (sym same) ∙ kept ∙ ap (λ (fs : List Field). from (field_list fs)) (drop_all i items past)

-- the first of several faults
first_refused : (a b whole : Option (FaultName × ℕ)) → whole ≡ option_or a b → (e : SchemaError) → Refuses a e → Refuses whole e
first_refused a b whole same (Fault name token) refused = same ∙ rw refused refl
first_refused a b whole same OutOfMemory refused = tt

-- messages of a list: one that is refused, and all that pass
cut_nested : {m : Nested} (list : List Nested) (i : ℕ) → i < length list → m ≡ get_or list i m
    → nested_trees (drop i list) ≡ tree_of (out-Nested m).node ∷ nested_trees (drop (i + 1) list)
cut_nested list i h e = grind (arith, common_steps, tree_of_nested)

pub nested_refused : {m : Nested} (w : Written) (k : Message) (list : List Nested) (i : ℕ) → i < length list → m ≡ get_or list i m
    → trees_fault w k (nested_trees list) ≡ trees_fault w k (nested_trees (drop i list))
    → (e : SchemaError) → Refuses (fields_fault w k [] (tree_of (out-Nested m).node)) e → Refuses (trees_fault w k (nested_trees list)) e
nested_refused {m} w k list i h is kept e refused =
    first_refused (fields_fault w k [] (tree_of (out-Nested m).node)) (trees_fault w k (nested_trees (drop (i + 1) list))) (trees_fault w k (nested_trees list))
    (kept ∙ ap (λ (ts : List Tree). trees_fault w k ts) (cut_nested list i h is)) e refused

pub nested_passed : (w : Written) (k : Message) (list : List Nested) (i : ℕ) → length list ≤ i
    → trees_fault w k (nested_trees list) ≡ trees_fault w k (nested_trees (drop i list)) → trees_fault w k (nested_trees list) ≡ None
nested_passed w k list i past kept = kept ∙ ap (λ (ms : List Nested). trees_fault w k (nested_trees ms)) (drop_all i list past)

-- scalars of a list: one more that passes, one that is refused, and all that pass
cut_range : (d : TokenRange) (list : List TokenRange) (i : ℕ) → i < length list
    → range_values (drop i list) ≡ scalar_value (get_or list i d).first (get_or list i d).end (range_values (drop (i + 1) list))
cut_range d list i h = grind (arith, common_steps)

pub no_fault_at : (first : ℕ) (fault : Option FaultName) → fault ≡ None → refused_at first fault ≡ None
no_fault_at first fault none = rw none refl

pub range_passed : (d : TokenRange) (w : Written) (content : Content) (list : List TokenRange) (i : ℕ) → i < length list
    → values_fault w (Some content) (range_values list) ≡ values_fault w (Some content) (range_values (drop i list))
    → scalar_fault w (Some content) (get_or list i d).first (get_or list i d).end ≡ None
    → values_fault w (Some content) (range_values list) ≡ values_fault w (Some content) (range_values (drop (i + 1) list))
range_passed d w content list i h kept none =
    kept ∙ ap (λ (vs : Values). values_fault w (Some content) vs) (cut_range d list i h) ∙ rw none refl

pub range_refused : (d : TokenRange) (w : Written) (content : Content) (list : List TokenRange) (i : ℕ) → i < length list
    → values_fault w (Some content) (range_values list) ≡ values_fault w (Some content) (range_values (drop i list))
    → (e : SchemaError) → Refuses (scalar_fault w (Some content) (get_or list i d).first (get_or list i d).end) e
    → Refuses (values_fault w (Some content) (range_values list)) e
range_refused d w content list i h kept e refused =
    first_refused (scalar_fault w (Some content) (get_or list i d).first (get_or list i d).end)
    (values_fault w (Some content) (range_values (drop (i + 1) list))) (values_fault w (Some content) (range_values list))
    (kept ∙ ap (λ (vs : Values). values_fault w (Some content) vs) (cut_range d list i h)) e refused

pub ranges_passed : (w : Written) (content : Content) (list : List TokenRange) (i : ℕ) → length list ≤ i
    → values_fault w (Some content) (range_values list) ≡ values_fault w (Some content) (range_values (drop i list))
    → values_fault w (Some content) (range_values list) ≡ None
ranges_passed w content list i past kept = kept ∙ ap (λ (rs : List TokenRange). values_fault w (Some content) (range_values rs)) (drop_all i list past)

pub number_added : (d : TokenRange) (w : Written) (old new : List ℤ) (list : List TokenRange) (i : ℕ) → i < length list
    → new ≡ old ++ number_at w (get_or list i d).first ∷ []
    → old ++ value_numbers w (range_values (drop i list)) ≡ new ++ value_numbers w (range_values (drop (i + 1) list))
number_added d w old new list i h added =
    ap (λ (vs : Values). old ++ value_numbers w vs) (cut_range d list i h) ∙ simp (added, append_assoc)

pub truth_added : (d : TokenRange) (w : Written) (old new : List Bool) (list : List TokenRange) (i : ℕ) → i < length list
    → new ≡ old ++ unwrap_or (truth_at w (get_or list i d).first) false ∷ []
    → old ++ value_truths w (range_values (drop i list)) ≡ new ++ value_truths w (range_values (drop (i + 1) list))
truth_added d w old new list i h added =
    ap (λ (vs : Values). old ++ value_truths w vs) (cut_range d list i h) ∙ simp (added, append_assoc)

-- what all scalars of a list give, behind the last of them
pub all_added : {X : Type 0} (give : Values → List X) (old new : List X) (list : List TokenRange) (i : ℕ) → give no_values ≡ [] → length list ≤ i
    → old ++ give (range_values list) ≡ new ++ give (range_values (drop i list)) → new ≡ old ++ give (range_values list)
all_added {X} give old new list i none past kept =
    sym (kept ∙ ap (λ (rs : List TokenRange). new ++ give (range_values rs)) (drop_all i list past) ∙ ap (λ (xs : List X). new ++ xs) none ∙ append-nil new)

-- and all messages of one
pub all_listed : {X : Type 0} (give : List Tree → List X) (old new : List X) (list : List Nested) (i : ℕ) → give [] ≡ [] → length list ≤ i
    → old ++ give (nested_trees list) ≡ new ++ give (nested_trees (drop i list)) → new ≡ old ++ give (nested_trees list)
all_listed {X} give old new list i none past kept =
    sym (kept ∙ ap (λ (ms : List Nested). new ++ give (nested_trees ms)) (drop_all i list past) ∙ ap (λ (xs : List X). new ++ xs) none ∙ append-nil new)

-- the bytes of one string more
pub text_added : (bytes : List ℕ) (d : Token) (tokens : List Token) (i : ℕ) (old new text whole : List ℕ) → i < length tokens → text ≡ text_of bytes (get_or tokens i d)
    → new ≡ old ++ text_value text → old ++ flat_map (string_value bytes) (drop i tokens) ≡ whole → new ++ flat_map (string_value bytes) (drop (i + 1) tokens) ≡ whole
text_added bytes d tokens i old new text whole h is added kept =
    let cut : drop i tokens ≡ get_or tokens i d ∷ drop (i + 1) tokens = rw (drop-cons tokens i d h, add-one) refl in
    rw (added, is, append_assoc) (ap (λ (ts : List Token). old ++ flat_map (string_value bytes) ts) (sym cut) ∙ kept)

-- and of all strings
pub texts_joined : (bytes : List ℕ) (tokens : List Token) (i : ℕ) (value whole : List ℕ) → length tokens ≤ i
    → value ++ flat_map (string_value bytes) (drop i tokens) ≡ whole → value ≡ whole
texts_joined bytes tokens i value whole past kept =
    sym (append-nil value) ∙ ap (λ (ts : List Token). value ++ flat_map (string_value bytes) ts) (sym (drop_all i tokens past)) ∙ kept
