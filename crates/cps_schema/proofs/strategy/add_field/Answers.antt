-- A field of a name adds what that name takes, in one form, and any other is refused.
use Rattle.std.specs.Option.{option_to_list}
use Rattle.std.proofs.Common.{◌≡◌, ◌++◌, List, ℕ, map, codes, true, is_some, refl, append_assoc}
use Rattle.std.proofs.lemmas.List.{map-append}
use Rattle.std.proofs.lemmas.Result.{on_ok_weaker}
use Rattle.cps_textproto.specs.Trees.{values_of}
use Rattle.cps_schema.specs.declared.number.Number.TheVariants.{Int32}
use Rattle.cps_schema.specs.Inputs.{written_of}
use Rattle.cps_schema.specs.Written.{token_text}
use Rattle.cps_schema.specs.declared.form.Form.TheVariants.{Older, Newer}
use Rattle.cps_schema.specs.declared.member.Enum.TheVariants.{VariableSelection, DomainReduction}
use Rattle.cps_schema.specs.Members.{choose_of, select_of}
use Rattle.cps_schema.specs.Tables.{strategy_message, expression_message, number, member, message, use_of}
use Rattle.cps_schema.specs.Readings.{value_numbers, value_members, value_messages, read_expression}
use Rattle.cps_schema.specs.Parts.{strategy_slots, IsStrategyGiven}
use Rattle.cps_schema.proofs.Steps.{same_name, other_name, table_use, refused_stops}
use Rattle.cps_schema.proofs.Slots.{given_after, slot_passes, slot_stops}
use Rattle.cps_schema.proofs.Forms.{form_passes, form_stops, choose_given, select_given, no_strategy_field}
use Rattle.cps_schema.proofs.strategy.add_field.Goals as goal

pub returns-then-same_text-clause-passes : goal.returns-then-same_text-clause-passes
unfolding use_of
returns-then-same_text-clause-passes c =
    let w = written_of c.args.input.now in
    let f = c.args.field.now in
    let name : token_text w f.name ≡ codes "exprs" = same_name c.same_text.ensures c.if-same_text.true c.token_text-name.ensures in
    form_passes w f Newer (message expression_message) c.add_newer.result c.args.parts.now (record c.args.parts.now { exprs = c.add_newer.new.exprs; form = c.add_newer.new.form }) name refl
    (λ before given. given_after (token_text w f.name) (codes "exprs") (strategy_slots c.args.parts.now) before name given)
    c.add_newer.ensures.passes c.add_newer.ensures.same c.add_newer.ensures.taken

pub returns-then-same_text-clause-read : goal.returns-then-same_text-clause-read
returns-then-same_text-clause-read c =
    let w = written_of c.args.input.now in
    let f = c.args.field.now in
    let name : token_text w f.name ≡ codes "exprs" = same_name c.same_text.ensures c.if-same_text.true c.token_text-name.ensures in
    on_ok_weaker c.add_newer.result
    (λ (added : c.add_newer.new.exprs.items ≡ c.args.parts.now.exprs.items ++ map (read_expression w) (value_messages (values_of f.items))) rest.
    rw name (simp (added, map-append, append_assoc)))
    c.add_newer.ensures.added

pub returns-then-same_text-clause-err : goal.returns-then-same_text-clause-err
unfolding use_of
returns-then-same_text-clause-err c =
    let w = written_of c.args.input.now in
    let f = c.args.field.now in
    let name : token_text w f.name ≡ codes "exprs" = same_name c.same_text.ensures c.if-same_text.true c.token_text-name.ensures in
    form_stops w f Newer (message expression_message) c.add_newer.result c.args.parts.now name refl c.add_newer.ensures.err

pub returns-then-same_text-2-clause-passes : goal.returns-then-same_text-2-clause-passes
unfolding use_of
returns-then-same_text-2-clause-passes c =
    let w = written_of c.args.input.now in
    let f = c.args.field.now in
    let name : token_text w f.name ≡ codes "variables" = same_name c.same_text-else-same_text.ensures c.if-same_text-2.true c.token_text-name.ensures in
    form_passes w f Older (number Int32) c.add_older.result c.args.parts.now (record c.args.parts.now { variables = c.add_older.new.variables; form = c.add_older.new.form }) name refl
    (λ before given. given_after (token_text w f.name) (codes "variables") (strategy_slots c.args.parts.now) before name given)
    c.add_older.ensures.passes c.add_older.ensures.same c.add_older.ensures.taken

pub returns-then-same_text-2-clause-read : goal.returns-then-same_text-2-clause-read
returns-then-same_text-2-clause-read c =
    let w = written_of c.args.input.now in
    let f = c.args.field.now in
    let name : token_text w f.name ≡ codes "variables" = same_name c.same_text-else-same_text.ensures c.if-same_text-2.true c.token_text-name.ensures in
    on_ok_weaker c.add_older.result
    (λ (added : c.add_older.new.variables.items ≡ c.args.parts.now.variables.items ++ value_numbers w (values_of f.items)) rest.
    rw name (simp (added, append_assoc)))
    c.add_older.ensures.added

pub returns-then-same_text-2-clause-err : goal.returns-then-same_text-2-clause-err
unfolding use_of
returns-then-same_text-2-clause-err c =
    let w = written_of c.args.input.now in
    let f = c.args.field.now in
    let name : token_text w f.name ≡ codes "variables" = same_name c.same_text-else-same_text.ensures c.if-same_text-2.true c.token_text-name.ensures in
    form_stops w f Older (number Int32) c.add_older.result c.args.parts.now name refl c.add_older.ensures.err

pub returns-then-same_text-3-clause-passes : goal.returns-then-same_text-3-clause-passes
returns-then-same_text-3-clause-passes c =
    let w = written_of c.args.input.now in
    let f = c.args.field.now in
    let name : token_text w f.name ≡ codes "variable_selection_strategy" = same_name c.same_text-else-same_text-2.ensures c.if-same_text-3.true c.token_text-name.ensures in
    slot_passes w strategy_message f (member VariableSelection) c.set_choose.result (λ (before : List (List ℕ)). IsStrategyGiven c.args.parts.now before) (λ (before : List (List ℕ)). IsStrategyGiven (record c.args.parts.now { choose = c.set_choose.new.slot }) before)
    (is_some c.args.parts.now.choose) (table_use _ _ _ _ name refl) c.set_choose.ensures.passes
    (λ before given. rw name given.slots.0)
    (on_ok_weaker c.set_choose.result
    (λ (some : is_some c.set_choose.new.slot ≡ true) before given.
    choose_given c.args.parts.now (record c.args.parts.now { choose = c.set_choose.new.slot }) (token_text w f.name) before name refl
    (rw some (given_after (token_text w f.name) (codes "variable_selection_strategy") (strategy_slots c.args.parts.now) before name given.slots)) given)
    c.set_choose.ensures.some)

pub returns-then-same_text-3-clause-read : goal.returns-then-same_text-3-clause-read
returns-then-same_text-3-clause-read c =
    let w = written_of c.args.input.now in
    let f = c.args.field.now in
    let name : token_text w f.name ≡ codes "variable_selection_strategy" = same_name c.same_text-else-same_text-2.ensures c.if-same_text-3.true c.token_text-name.ensures in
    on_ok_weaker c.set_choose.result
    (λ (added : option_to_list c.set_choose.new.slot ≡ option_to_list c.args.parts.now.choose ++ map choose_of (value_members w VariableSelection (values_of f.items))) rest.
    rw name (simp (added, map-append, append_assoc)))
    c.set_choose.ensures.added

pub returns-then-same_text-3-clause-err : goal.returns-then-same_text-3-clause-err
returns-then-same_text-3-clause-err c =
    let w = written_of c.args.input.now in
    let f = c.args.field.now in
    let name : token_text w f.name ≡ codes "variable_selection_strategy" = same_name c.same_text-else-same_text-2.ensures c.if-same_text-3.true c.token_text-name.ensures in
    slot_stops w strategy_message f (member VariableSelection) c.set_choose.result (λ (before : List (List ℕ)). IsStrategyGiven c.args.parts.now before)
    (is_some c.args.parts.now.choose) (table_use _ _ _ _ name refl) c.set_choose.ensures.err (λ before given. rw name given.slots.0)

pub returns-then-same_text-4-clause-passes : goal.returns-then-same_text-4-clause-passes
returns-then-same_text-4-clause-passes c =
    let w = written_of c.args.input.now in
    let f = c.args.field.now in
    let name : token_text w f.name ≡ codes "domain_reduction_strategy" = same_name c.same_text-else-same_text-3.ensures c.if-same_text-4.true c.token_text-name.ensures in
    slot_passes w strategy_message f (member DomainReduction) c.set_select.result (λ (before : List (List ℕ)). IsStrategyGiven c.args.parts.now before) (λ (before : List (List ℕ)). IsStrategyGiven (record c.args.parts.now { select = c.set_select.new.slot }) before)
    (is_some c.args.parts.now.select) (table_use _ _ _ _ name refl) c.set_select.ensures.passes
    (λ before given. rw name given.slots.1.0)
    (on_ok_weaker c.set_select.result
    (λ (some : is_some c.set_select.new.slot ≡ true) before given.
    select_given c.args.parts.now (record c.args.parts.now { select = c.set_select.new.slot }) (token_text w f.name) before name refl
    (rw some (given_after (token_text w f.name) (codes "domain_reduction_strategy") (strategy_slots c.args.parts.now) before name given.slots)) given)
    c.set_select.ensures.some)

pub returns-then-same_text-4-clause-read : goal.returns-then-same_text-4-clause-read
returns-then-same_text-4-clause-read c =
    let w = written_of c.args.input.now in
    let f = c.args.field.now in
    let name : token_text w f.name ≡ codes "domain_reduction_strategy" = same_name c.same_text-else-same_text-3.ensures c.if-same_text-4.true c.token_text-name.ensures in
    on_ok_weaker c.set_select.result
    (λ (added : option_to_list c.set_select.new.slot ≡ option_to_list c.args.parts.now.select ++ map select_of (value_members w DomainReduction (values_of f.items))) rest.
    rw name (simp (added, map-append, append_assoc)))
    c.set_select.ensures.added

pub returns-then-same_text-4-clause-err : goal.returns-then-same_text-4-clause-err
returns-then-same_text-4-clause-err c =
    let w = written_of c.args.input.now in
    let f = c.args.field.now in
    let name : token_text w f.name ≡ codes "domain_reduction_strategy" = same_name c.same_text-else-same_text-3.ensures c.if-same_text-4.true c.token_text-name.ensures in
    slot_stops w strategy_message f (member DomainReduction) c.set_select.result (λ (before : List (List ℕ)). IsStrategyGiven c.args.parts.now before)
    (is_some c.args.parts.now.select) (table_use _ _ _ _ name refl) c.set_select.ensures.err (λ before given. rw name given.slots.1.0)

pub returns-else-same_text-4-clause-err : goal.returns-else-same_text-4-clause-err
returns-else-same_text-4-clause-err c = λ before given.
    let w = written_of c.args.input.now in
    let f = c.args.field.now in
    let text = token_text w f.name in
    let name = c.token_text-name in
    let other = no_strategy_field text
    (other_name (codes "exprs") c.same_text.ensures c.if-same_text.false name.ensures)
    (other_name (codes "variables") c.same_text-else-same_text.ensures c.if-same_text-2.false name.ensures)
    (other_name (codes "variable_selection_strategy") c.same_text-else-same_text-2.ensures c.if-same_text-3.false name.ensures)
    (other_name (codes "domain_reduction_strategy") c.same_text-else-same_text-3.ensures c.if-same_text-4.false name.ensures) in
    rw c.refused_field.ensures (refused_stops w strategy_message f other before)
