-- Strategies and a hint are read as they were printed.
use Rattle.std.specs.Prelude.{map, codes}
use Rattle.std.proofs.Common.{◌≡◌, ℕ, suc, false, List, [], ◌∷◌, refl, ◌∙◌, append-nil}
use Rattle.cps_lex.specs.Bytes.{is_word_start, is_word}
use Rattle.cps_textproto.specs.Trees.{Tree}
use Rattle.cps_model.specs.declared.steering.Strategy.{Strategy}
use Rattle.cps_model.specs.declared.steering.Hint.{Hint}
use Rattle.cps_model.specs.declared.steering.Choose.{Choose}
use Rattle.cps_model.specs.declared.steering.Choose.TheVariants.{First, LowestMin, HighestMax, MinDomainSize, MaxDomainSize}
use Rattle.cps_model.specs.declared.steering.Select.{Select}
use Rattle.cps_model.specs.declared.steering.Select.TheVariants.{MinValue, MaxValue, LowerHalf, UpperHalf, MedianValue}
use Rattle.cps_schema.specs.declared.form.Form.TheVariants.{Newer}
use Rattle.cps_schema.specs.declared.member.Enum.TheVariants.{VariableSelection, DomainReduction}
use Rattle.cps_schema.specs.Written.{Written}
use Rattle.cps_schema.specs.declared.number.Number.TheVariants.{Int64, Int32}
use Rattle.cps_schema.specs.Members.{choose_of, select_of}
use Rattle.cps_schema.specs.Tables.{use_of, is_given, strategy_message, expression_message, hint_message}
use Rattle.cps_schema.specs.Faults.{has_other_form}
use Rattle.cps_schema.specs.Readings as readings
use Rattle.cps_schema.specs.Readings.{first_or, read_expression, read_strategy, read_hint}
use Rattle.cps_print.specs.Layout.{empty}
use Rattle.cps_print.specs.Fields.{followed_by, list_field, word_field, repeated_field}
use Rattle.cps_print.specs.Expressions.{printed_expression}
use Rattle.cps_print.specs.Models.{choose_name, select_name, printed_strategy, printed_hint}
use Rattle.cps_print.proofs.Cuts.{IsPlain}
use Rattle.cps_print.proofs.Shown.{Shows, IsAdmitted, formed, printed_messages, numbers-shown, members-shown}
use Rattle.cps_print.proofs.Readable.{IsReadableExpression, IsReadableStrategy, IsReadableHint}
use Rattle.cps_print.proofs.Fitting.{are_short, plain-followed_by, plain-list_field, IsWord, plain-word_field, plain-repeated_field, admitted-list, IsMember, admitted-word, admitted-repeated, given-other, member_list, printed}
use Rattle.cps_print.proofs.Back.{each_of, messages_back}
use Rattle.cps_print.proofs.Expressions.{expression_plain, expression_admitted, expression_back}

-- strategies

choose_word : (c : Choose) → IsWord (choose_name c)
unfolding is_word_start is_word
choose_word First = tt
choose_word LowestMin = refl
choose_word HighestMax = refl
choose_word MinDomainSize = refl
choose_word MaxDomainSize = refl

choose_member : (c : Choose) → IsMember VariableSelection (choose_name c)
choose_member First = tt
choose_member LowestMin = (1, refl)
choose_member HighestMax = (2, refl)
choose_member MinDomainSize = (3, refl)
choose_member MaxDomainSize = (4, refl)

choose_back : (c : Choose) → first_or First (map choose_of (member_list VariableSelection (choose_name c))) ≡ c
choose_back First = refl
choose_back LowestMin = refl
choose_back HighestMax = refl
choose_back MinDomainSize = refl
choose_back MaxDomainSize = refl

select_word : (c : Select) → IsWord (select_name c)
unfolding is_word_start is_word
select_word MinValue = tt
select_word MaxValue = refl
select_word LowerHalf = refl
select_word UpperHalf = refl
select_word MedianValue = refl

select_member : (c : Select) → IsMember DomainReduction (select_name c)
select_member MinValue = tt
select_member MaxValue = (1, refl)
select_member LowerHalf = (2, refl)
select_member UpperHalf = (3, refl)
select_member MedianValue = (4, refl)

select_back : (c : Select) → first_or MinValue (map select_of (member_list DomainReduction (select_name c))) ≡ c
select_back MinValue = refl
select_back MaxValue = refl
select_back LowerHalf = refl
select_back UpperHalf = refl
select_back MedianValue = refl

pub strategy_plain : (room : ℕ) (s : Strategy) → IsReadableStrategy s → IsPlain (suc room) (printed_strategy s)
unfolding is_word_start is_word
strategy_plain room s r =
    plain-followed_by (suc room) (repeated_field (codes "exprs") printed_expression s.exprs) _
    (plain-repeated_field room (codes "exprs") printed_expression s.exprs refl (each_of IsReadableExpression (λ e. IsPlain room (printed_expression e)) (expression_plain room) s.exprs r))
    (plain-followed_by (suc room) (word_field (codes "variable_selection_strategy") (choose_name s.choose)) _
    (plain-word_field (suc room) (codes "variable_selection_strategy") (choose_name s.choose) refl (choose_word s.choose))
    (plain-followed_by (suc room) (word_field (codes "domain_reduction_strategy") (select_name s.select)) empty
    (plain-word_field (suc room) (codes "domain_reduction_strategy") (select_name s.select) refl (select_word s.select)) tt))

-- neither the older form nor a single field of a strategy has been given
record IsStrategyFree (before : List (List ℕ)) : Type 0 where
  older : has_other_form strategy_message Newer before ≡ false
  choose : is_given before (codes "variable_selection_strategy") ≡ false
  select : is_given before (codes "domain_reduction_strategy") ≡ false

next_form : (before : List (List ℕ)) → has_other_form strategy_message Newer (codes "exprs" ∷ before) ≡ has_other_form strategy_message Newer before
unfolding has_other_form use_of
next_form before = refl

strategy_kept : (before : List (List ℕ)) → IsStrategyFree before → IsStrategyFree (codes "exprs" ∷ before)
strategy_kept before f = record {
  older = next_form before ∙ f.older;
  choose = given-other before (codes "exprs") (codes "variable_selection_strategy") refl f.choose;
  select = given-other before (codes "exprs") (codes "domain_reduction_strategy") refl f.select;
}

none_strategy : IsStrategyFree []
unfolding is_given has_other_form
none_strategy = record { older = refl; choose = refl; select = refl }

select_admitted : (closed : List (List ℕ)) (c : Select) (before : List (List ℕ)) → is_given before (codes "domain_reduction_strategy") ≡ false → IsAdmitted closed strategy_message before (followed_by (word_field (codes "domain_reduction_strategy") (select_name c)) empty)
unfolding use_of
select_admitted closed c before f =
    admitted-word closed strategy_message before (codes "domain_reduction_strategy") (select_name c) DomainReduction empty refl f (select_member c) tt tt

choose_admitted : (closed : List (List ℕ)) (s : Strategy) (before : List (List ℕ)) → IsStrategyFree before → IsAdmitted closed strategy_message before (followed_by (word_field (codes "variable_selection_strategy") (choose_name s.choose)) (followed_by (word_field (codes "domain_reduction_strategy") (select_name s.select)) empty))
unfolding use_of
choose_admitted closed s before f =
    admitted-word closed strategy_message before (codes "variable_selection_strategy") (choose_name s.choose) VariableSelection _ refl f.choose (choose_member s.choose)
    (select_admitted closed s.select before f.select)
    (select_admitted closed s.select (codes "variable_selection_strategy" ∷ before) (given-other before (codes "variable_selection_strategy") (codes "domain_reduction_strategy") refl f.select))

pub strategy_admitted : (closed : List (List ℕ)) (s : Strategy) → IsReadableStrategy s → IsAdmitted closed strategy_message [] (printed_strategy s)
unfolding use_of
strategy_admitted closed s r =
    admitted-repeated closed strategy_message (codes "exprs") printed_expression expression_message _ IsStrategyFree
    (λ before fields f a. formed expression_message Newer refl f.older a) strategy_kept (choose_admitted closed s)
    s.exprs (each_of IsReadableExpression (λ e. IsAdmitted closed expression_message [] (printed_expression e)) (expression_admitted closed) s.exprs r) [] none_strategy

pub strategy_back : (w : Written) (s : Strategy) (t : Tree) → IsReadableStrategy s → Shows w (printed_strategy s) t → read_strategy w t ≡ s
unfolding use_of
strategy_back w s t r shows =
    let a = strategy_admitted w.closed s r in
    let are : printed_messages (codes "exprs") (printed_strategy s) ≡ map printed_expression s.exprs = simp printed in
    let exprs = messages_back w IsReadableExpression printed_expression (read_expression w) (expression_back w) (codes "exprs") (printed_strategy s) t s.exprs are r shows in
    let older : readings.numbers w (codes "variables") t ≡ [] = numbers-shown w strategy_message [] (codes "variables") Int32 (printed_strategy s) t refl a shows ∙ simp printed in
    let choose : readings.members w VariableSelection (codes "variable_selection_strategy") t ≡ member_list VariableSelection (choose_name s.choose) = members-shown w strategy_message [] VariableSelection (codes "variable_selection_strategy") (printed_strategy s) t refl a shows ∙ simp printed in
    let select : readings.members w DomainReduction (codes "domain_reduction_strategy") t ≡ member_list DomainReduction (select_name s.select) = members-shown w strategy_message [] DomainReduction (codes "domain_reduction_strategy") (printed_strategy s) t refl a shows ∙ simp printed in
    rw (exprs, older, choose, select, choose_back s.choose, select_back s.select, append-nil) refl

-- the hint

pub hint_plain : (room : ℕ) (h : Hint) → IsReadableHint h → IsPlain room (printed_hint h)
unfolding is_word_start is_word
hint_plain room h r =
    plain-followed_by room (list_field (codes "vars") h.vars) _ (plain-list_field room (codes "vars") h.vars refl (are_short Int32 h.vars r.vars))
    (plain-followed_by room (list_field (codes "values") h.values) empty (plain-list_field room (codes "values") h.values refl (are_short Int64 h.values r.values)) tt)

pub hint_admitted : (closed : List (List ℕ)) (h : Hint) → IsReadableHint h → IsAdmitted closed hint_message [] (printed_hint h)
unfolding use_of
hint_admitted closed h r =
    let values = λ (before : List (List ℕ)). admitted-list closed hint_message before (codes "values") h.values Int64 empty refl r.values tt tt in
    admitted-list closed hint_message [] (codes "vars") h.vars Int32 _ refl r.vars (values []) (values (codes "vars" ∷ []))

pub hint_back : (w : Written) (h : Hint) (t : Tree) → IsReadableHint h → Shows w (printed_hint h) t → read_hint w t ≡ h
unfolding use_of
hint_back w h t r s =
    let a = hint_admitted w.closed h r in
    let vars : readings.numbers w (codes "vars") t ≡ h.vars = numbers-shown w hint_message [] (codes "vars") Int32 (printed_hint h) t refl a s ∙ simp printed in
    let values : readings.numbers w (codes "values") t ≡ h.values = numbers-shown w hint_message [] (codes "values") Int64 (printed_hint h) t refl a s ∙ simp printed in
    rw (vars, values) refl
