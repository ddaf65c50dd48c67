-- The canonical text of a model that was read is read as the same model.
use Rattle.std.specs.Prelude.{map, if◌then◌else◌, codes}
use Rattle.std.specs.Str.{bytes_eq}
use Rattle.std.specs.Option.{option_to_list}
use Rattle.std.proofs.Common.{◌≡◌, ℕ, suc, ℤ, Bool, true, false, ◌⊎◌, inl, inr, List, [], ◌∷◌, Option, Some, None, refl, sym, subst, ◌∙◌, append-nil}
use Rattle.cps_lex.specs.declared.types.Token.{Token}
use Rattle.cps_lex.specs.Bytes.{is_word_start, is_word}
use Rattle.cps_textproto.specs.Trees.{Tree}
use Rattle.cps_textproto.specs.Reading.{tree_at}
use Rattle.cps_model.specs.declared.model.CpModel.{CpModel}
use Rattle.cps_model.specs.declared.model.Objective.{Objective}
use Rattle.cps_model.specs.declared.steering.Hint.{Hint}
use Rattle.cps_schema.specs.declared.number.Number.TheVariants.{Int32}
use Rattle.cps_schema.specs.Written.{Written, written_with}
use Rattle.cps_schema.specs.Tables.{use_of, is_given, model_message, variable_message, constraint_message, objective_message, strategy_message, hint_message}
use Rattle.cps_schema.specs.Faults.{fields_fault}
use Rattle.cps_schema.specs.Readings as readings
use Rattle.cps_schema.specs.Readings.{first_of, messages, read_variable, read_constraint, read_objective, read_strategy, read_hint, read_model, ReadsAs}
use Rattle.cps_print.specs.Layout.{PrintedMessage, empty, text_of}
use Rattle.cps_print.specs.Fields.{followed_by, list_field, text_field, repeated_field}
use Rattle.cps_print.specs.Models.{printed_variable, printed_constraint, printed_objective, objective_field, printed_strategy, printed_hint, hint_field, model_text}
use Rattle.cps_print.specs.ReadBack.{IsReadWith}
use Rattle.cps_print.proofs.Pieces.{Piece, spelled, tokens_at, tokens_are, symbols_are, written_are}
use Rattle.cps_print.proofs.Cuts.{IsPlain, AreShort, pieces, fields_of, spelled-pieces, pieces_sound, symbols-pieces, fields_nest}
use Rattle.cps_print.proofs.Shown.{Shows, IsAdmitted, each, alone, printed_numbers, printed_texts, printed_messages, tree_shows, numbers-shown, texts-shown, no_fault}
use Rattle.cps_print.proofs.Readable.{Each, AreFit, IsReadableText, IsReadableVariable, IsReadableObjective, IsReadableStrategy, IsReadableHint, each_map, messages_sound, numbers_fit, none_or_open, name_utf8, variable_readable, objective_readable, strategy_readable, hint_readable}
use Rattle.cps_print.proofs.Fitting.{are_short, plain-followed_by, plain-list_field, plain-text_field, plain-message_field, plain-repeated_field, admitted-text, admitted-message, admitted-repeated, given-other, text_list, printed}
use Rattle.cps_print.proofs.Back.{each_of, messages_back, first_given, first_text}
use Rattle.cps_print.proofs.Constraints.{variable_plain, variable_admitted, variable_back, IsReadableConstraint, constraint_readable, constraint_plain, constraint_admitted, constraint_back}
use Rattle.cps_print.proofs.Objectives.{objective_plain, objective_admitted, objective_back}
use Rattle.cps_print.proofs.Steering.{strategy_plain, strategy_admitted, strategy_back, hint_plain, hint_admitted, hint_back}

-- assumptions fit, and where there are some, their field is not closed
abbrev AreAssumed : List (List ℕ) → List ℤ → Type 0
AreAssumed closed [] = Unit {0}
AreAssumed closed (n ∷ ns) = AreFit Int32 (n ∷ ns) × (is_given closed (codes "assumptions") ≡ false)

-- what a model is like that a document is read as where these fields are closed

record IsReadable (closed : List (List ℕ)) (m : CpModel) : Type 0 where
  name : IsReadableText m.name
  variables : Each IsReadableVariable m.variables
  constraints : Each (IsReadableConstraint closed) m.constraints
  objective : Each IsReadableObjective (option_to_list m.objective)
  strategies : Each IsReadableStrategy m.strategies
  hint : Each IsReadableHint (option_to_list m.hint)
  assumptions : AreAssumed closed m.assumptions

first_readable : {X : Type 0} (P : X → Type 0) (xs : List X) → Each P xs → Each P (option_to_list (first_of xs))
first_readable P [] e = tt
first_readable P (x ∷ xs) e = (e.0, tt)

are_assumed : (closed : List (List ℕ)) (ns : List ℤ) → AreFit Int32 ns → (ns ≡ []) ⊎ (is_given closed (codes "assumptions") ≡ false) → AreAssumed closed ns
are_assumed closed [] fit o = tt
are_assumed closed (n ∷ ns) fit (inl e) = cc
are_assumed closed (n ∷ ns) fit (inr opened) = (fit, opened)

assumptions_readable : (w : Written) (t : Tree) → fields_fault w model_message [] t ≡ None → AreAssumed w.closed (readings.numbers w (codes "assumptions") t)
unfolding use_of
assumptions_readable w t e =
    are_assumed w.closed _ (numbers_fit w model_message [] (codes "assumptions") Int32 t refl e)
    (none_or_open w model_message [] (codes "assumptions") Int32 t refl e)

model_readable : (w : Written) (t : Tree) → fields_fault w model_message [] t ≡ None → IsReadable w.closed (read_model w t)
unfolding use_of
model_readable w t e =
    let objectives = messages_sound w model_message [] (codes "objective") objective_message t refl e in
    let strategies = messages_sound w model_message [] (codes "search_strategy") strategy_message t refl e in
    let hints = messages_sound w model_message [] (codes "solution_hint") hint_message t refl e in
    record {
      name = name_utf8 w model_message t refl e;
      variables = each_map (λ t. fields_fault w variable_message [] t ≡ None) IsReadableVariable (read_variable w) (variable_readable w) (messages w (codes "variables") t) (messages_sound w model_message [] (codes "variables") variable_message t refl e);
      constraints = each_map (λ t. fields_fault w constraint_message [] t ≡ None) (IsReadableConstraint w.closed) (read_constraint w) (constraint_readable w) (messages w (codes "constraints") t) (messages_sound w model_message [] (codes "constraints") constraint_message t refl e);
      objective = first_readable IsReadableObjective _ (each_map (λ t. fields_fault w objective_message [] t ≡ None) IsReadableObjective (read_objective w) (objective_readable w) (messages w (codes "objective") t) objectives);
      strategies = each_map (λ t. fields_fault w strategy_message [] t ≡ None) IsReadableStrategy (read_strategy w) (strategy_readable w) (messages w (codes "search_strategy") t) strategies;
      hint = first_readable IsReadableHint _ (each_map (λ t. fields_fault w hint_message [] t ≡ None) IsReadableHint (read_hint w) (hint_readable w) (messages w (codes "solution_hint") t) hints);
      assumptions = assumptions_readable w t e;
    }

read_is_readable : (w : Written) (t : Tree) (m : CpModel) → readings.ReadsAs w t m → IsReadable w.closed m
read_is_readable w t m r = subst (IsReadable w.closed) (sym r.reading) (model_readable w t r.accepted)

-- the fields of a model, from some of them on

abbrev assumptions_field : CpModel → PrintedMessage
assumptions_field m = followed_by (list_field (codes "assumptions") m.assumptions) empty

abbrev steering_fields : CpModel → PrintedMessage
steering_fields m = followed_by (repeated_field (codes "search_strategy") printed_strategy m.strategies) (followed_by (hint_field m.hint) (assumptions_field m))

abbrev constraint_fields : CpModel → PrintedMessage
constraint_fields m =
    followed_by (repeated_field (codes "constraints") printed_constraint m.constraints) (followed_by (objective_field m.objective) (steering_fields m))

abbrev core : CpModel → PrintedMessage
core m =
    followed_by (text_field (codes "name") m.name)
    (followed_by (repeated_field (codes "variables") printed_variable m.variables) (constraint_fields m))

objective_field_plain : (room : ℕ) (o : Option Objective) → Each IsReadableObjective (option_to_list o) → IsPlain (suc room) (objective_field o)
unfolding is_word_start is_word
objective_field_plain room None r = tt
objective_field_plain room (Some o) r = plain-message_field room (codes "objective") (printed_objective o) refl (objective_plain room o r.0)

hint_field_plain : (room : ℕ) (h : Option Hint) → Each IsReadableHint (option_to_list h) → IsPlain (suc room) (hint_field h)
unfolding is_word_start is_word
hint_field_plain room None r = tt
hint_field_plain room (Some h) r = plain-message_field room (codes "solution_hint") (printed_hint h) refl (hint_plain room h r.0)

assumed_short : (closed : List (List ℕ)) (ns : List ℤ) → AreAssumed closed ns → AreShort ns
assumed_short closed [] r = tt
assumed_short closed (n ∷ ns) r = are_short Int32 (n ∷ ns) r.0

core_plain : (closed : List (List ℕ)) (room : ℕ) (m : CpModel) → IsReadable closed m → IsPlain (suc (suc (suc room))) (core m)
unfolding is_word_start is_word
core_plain closed room m r =
    plain-followed_by (suc (suc (suc room))) (text_field (codes "name") m.name) _ (plain-text_field (suc (suc (suc room))) (codes "name") m.name refl r.name)
    (plain-followed_by (suc (suc (suc room))) (repeated_field (codes "variables") printed_variable m.variables) _
    (plain-repeated_field (suc (suc room)) (codes "variables") printed_variable m.variables refl (each_of IsReadableVariable (λ v. IsPlain (suc (suc room)) (printed_variable v)) (variable_plain (suc (suc room))) m.variables r.variables))
    (plain-followed_by (suc (suc (suc room))) (repeated_field (codes "constraints") printed_constraint m.constraints) _
    (plain-repeated_field (suc (suc room)) (codes "constraints") printed_constraint m.constraints refl (each_of (IsReadableConstraint closed) (λ c. IsPlain (suc (suc room)) (printed_constraint c)) (constraint_plain closed room) m.constraints r.constraints))
    (plain-followed_by (suc (suc (suc room))) (objective_field m.objective) _ (objective_field_plain (suc (suc room)) m.objective r.objective)
    (plain-followed_by (suc (suc (suc room))) (repeated_field (codes "search_strategy") printed_strategy m.strategies) _
    (plain-repeated_field (suc (suc room)) (codes "search_strategy") printed_strategy m.strategies refl (each_of IsReadableStrategy (λ s. IsPlain (suc (suc room)) (printed_strategy s)) (strategy_plain (suc room)) m.strategies r.strategies))
    (plain-followed_by (suc (suc (suc room))) (hint_field m.hint) _ (hint_field_plain (suc (suc room)) m.hint r.hint)
    (plain-followed_by (suc (suc (suc room))) (list_field (codes "assumptions") m.assumptions) empty
    (plain-list_field (suc (suc (suc room))) (codes "assumptions") m.assumptions refl (assumed_short closed m.assumptions r.assumptions)) tt))))))

abbrev IsHintFree : List (List ℕ) → Type 0
IsHintFree before = is_given before (codes "solution_hint") ≡ false

-- neither an objective nor a hint has been given
record IsOpen (before : List (List ℕ)) : Type 0 where
  objective : is_given before (codes "objective") ≡ false
  hint : IsHintFree before

assumptions_admitted : (closed : List (List ℕ)) (ns : List ℤ) → AreAssumed closed ns → (before : List (List ℕ)) → IsAdmitted closed model_message before (followed_by (list_field (codes "assumptions") ns) empty)
unfolding use_of followed_by list_field
assumptions_admitted closed [] r before = tt
assumptions_admitted closed (n ∷ ns) r before =
    (record { type = Int32; content = refl; clear = rw r.1 refl; listed = refl; fit = r.0 }, tt)

hint_field_admitted : (closed : List (List ℕ)) (m : CpModel) → IsReadable closed m → (h : Option Hint) → Each IsReadableHint (option_to_list h) → (before : List (List ℕ)) → IsHintFree before → IsAdmitted closed model_message before (followed_by (hint_field h) (assumptions_field m))
unfolding use_of followed_by
hint_field_admitted closed m r None rh before f = assumptions_admitted closed m.assumptions r.assumptions before
hint_field_admitted closed m r (Some h) rh before f =
    admitted-message closed model_message before (codes "solution_hint") (printed_hint h) (assumptions_field m) (alone hint_message refl f (hint_admitted closed h rh.0))
    (assumptions_admitted closed m.assumptions r.assumptions (codes "solution_hint" ∷ before))

steering_admitted : (closed : List (List ℕ)) (m : CpModel) → IsReadable closed m → (before : List (List ℕ)) → IsHintFree before → IsAdmitted closed model_message before (steering_fields m)
unfolding use_of
steering_admitted closed m r before f =
    admitted-repeated closed model_message (codes "search_strategy") printed_strategy strategy_message _ IsHintFree
    (λ b fields g a. each strategy_message refl a)
    (λ b g. given-other b (codes "search_strategy") (codes "solution_hint") refl g)
    (hint_field_admitted closed m r m.hint r.hint)
    m.strategies (each_of IsReadableStrategy (λ s. IsAdmitted closed strategy_message [] (printed_strategy s)) (strategy_admitted closed) m.strategies r.strategies) before f

objective_field_admitted : (closed : List (List ℕ)) (m : CpModel) → IsReadable closed m → (o : Option Objective) → Each IsReadableObjective (option_to_list o) → (before : List (List ℕ)) → IsOpen before → IsAdmitted closed model_message before (followed_by (objective_field o) (steering_fields m))
unfolding use_of followed_by
objective_field_admitted closed m r None ro before f = steering_admitted closed m r before f.hint
objective_field_admitted closed m r (Some o) ro before f =
    admitted-message closed model_message before (codes "objective") (printed_objective o) (steering_fields m) (alone objective_message refl f.objective (objective_admitted closed o ro.0))
    (steering_admitted closed m r (codes "objective" ∷ before) (given-other before (codes "objective") (codes "solution_hint") refl f.hint))

open_kept : (other : List ℕ) → bytes_eq (codes "objective") other ≡ false → bytes_eq (codes "solution_hint") other ≡ false → (before : List (List ℕ)) → IsOpen before → IsOpen (other ∷ before)
open_kept other o h before f = record {
  objective = given-other before other (codes "objective") o f.objective;
  hint = given-other before other (codes "solution_hint") h f.hint;
}

constraints_admitted : (closed : List (List ℕ)) (m : CpModel) → IsReadable closed m → (before : List (List ℕ)) → IsOpen before → IsAdmitted closed model_message before (constraint_fields m)
unfolding use_of
constraints_admitted closed m r before f =
    admitted-repeated closed model_message (codes "constraints") printed_constraint constraint_message _ IsOpen
    (λ b fields g a. each constraint_message refl a) (open_kept (codes "constraints") refl refl)
    (objective_field_admitted closed m r m.objective r.objective)
    m.constraints (each_of (IsReadableConstraint closed) (λ c. IsAdmitted closed constraint_message [] (printed_constraint c)) (constraint_admitted closed) m.constraints r.constraints) before f

variables_admitted : (closed : List (List ℕ)) (m : CpModel) → IsReadable closed m → (before : List (List ℕ)) → IsOpen before → IsAdmitted closed model_message before (followed_by (repeated_field (codes "variables") printed_variable m.variables) (constraint_fields m))
unfolding use_of
variables_admitted closed m r before f =
    admitted-repeated closed model_message (codes "variables") printed_variable variable_message _ IsOpen
    (λ b fields g a. each variable_message refl a) (open_kept (codes "variables") refl refl)
    (constraints_admitted closed m r)
    m.variables (each_of IsReadableVariable (λ v. IsAdmitted closed variable_message [] (printed_variable v)) (variable_admitted closed) m.variables r.variables) before f

none_open : IsOpen []
unfolding is_given
none_open = record { objective = refl; hint = refl }

core_admitted : (closed : List (List ℕ)) (m : CpModel) → IsReadable closed m → IsAdmitted closed model_message [] (core m)
unfolding use_of is_given
core_admitted closed m r =
    admitted-text closed model_message [] (codes "name") m.name _ refl refl
    (variables_admitted closed m r [] none_open) (variables_admitted closed m r (codes "name" ∷ []) (open_kept (codes "name") refl refl [] none_open))

same_choice : {X : Type 0} (b : Bool) (x : X) → (if b then x else x) ≡ x
same_choice true x = refl
same_choice false x = refl

objective_messages : (name : List ℕ) (o : Option Objective) → printed_messages name (objective_field o) ≡ (if bytes_eq (codes "objective") name then map printed_objective (option_to_list o) else [])
objective_messages name None = sym (same_choice {X = List PrintedMessage} (bytes_eq (codes "objective") name) [])
objective_messages name (Some o) = append-nil (if bytes_eq (codes "objective") name then printed_objective o ∷ [] else [])

objective_texts : (name : List ℕ) (o : Option Objective) → printed_texts name (objective_field o) ≡ []
objective_texts name None = refl
objective_texts name (Some o) = refl

hint_messages : (name : List ℕ) (h : Option Hint) → printed_messages name (hint_field h) ≡ (if bytes_eq (codes "solution_hint") name then map printed_hint (option_to_list h) else [])
hint_messages name None = sym (same_choice {X = List PrintedMessage} (bytes_eq (codes "solution_hint") name) [])
hint_messages name (Some h) = append-nil (if bytes_eq (codes "solution_hint") name then printed_hint h ∷ [] else [])

hint_texts : (name : List ℕ) (h : Option Hint) → printed_texts name (hint_field h) ≡ []
hint_texts name None = refl
hint_texts name (Some h) = refl

objective_numbers : (name : List ℕ) (o : Option Objective) → printed_numbers name (objective_field o) ≡ []
objective_numbers name None = refl
objective_numbers name (Some o) = refl

hint_numbers : (name : List ℕ) (h : Option Hint) → printed_numbers name (hint_field h) ≡ []
hint_numbers name None = refl
hint_numbers name (Some h) = refl

ruleset of_options = (printed, objective_messages, objective_texts, hint_messages, hint_texts, objective_numbers, hint_numbers)

core_back : (w : Written) (m : CpModel) (t : Tree) → IsReadable w.closed m → Shows w (core m) t → m ≡ read_model w t
unfolding use_of
core_back w m t r s =
    let name : readings.texts w (codes "name") t ≡ text_list m.name = texts-shown w model_message [] (codes "name") (core m) t refl (core_admitted w.closed m r) s ∙ simp of_options in
    let assumptions : readings.numbers w (codes "assumptions") t ≡ m.assumptions = numbers-shown w model_message [] (codes "assumptions") Int32 (core m) t refl (core_admitted w.closed m r) s ∙ simp of_options in
    let vs : printed_messages (codes "variables") (core m) ≡ map printed_variable m.variables = simp of_options in
    let cs : printed_messages (codes "constraints") (core m) ≡ map printed_constraint m.constraints = simp of_options in
    let os : printed_messages (codes "objective") (core m) ≡ map printed_objective (option_to_list m.objective) = simp of_options in
    let ss : printed_messages (codes "search_strategy") (core m) ≡ map printed_strategy m.strategies = simp of_options in
    let hs : printed_messages (codes "solution_hint") (core m) ≡ map printed_hint (option_to_list m.hint) = simp of_options in
    let variables = messages_back w IsReadableVariable printed_variable (read_variable w) (variable_back w) (codes "variables") (core m) t m.variables vs r.variables s in
    let constraints = messages_back w (IsReadableConstraint w.closed) printed_constraint (read_constraint w) (constraint_back w) (codes "constraints") (core m) t m.constraints cs r.constraints s in
    let objective = messages_back w IsReadableObjective printed_objective (read_objective w) (objective_back w) (codes "objective") (core m) t (option_to_list m.objective) os r.objective s in
    let strategies = messages_back w IsReadableStrategy printed_strategy (read_strategy w) (strategy_back w) (codes "search_strategy") (core m) t m.strategies ss r.strategies s in
    let hint = messages_back w IsReadableHint printed_hint (read_hint w) (hint_back w) (codes "solution_hint") (core m) t (option_to_list m.hint) hs r.hint s in
    rw (name, variables, constraints, objective, strategies, hint, first_text m.name, first_given m.objective, first_given m.hint, assumptions) refl

-- the pieces of a model's text
abbrev model_pieces : PrintedMessage → List Piece
model_pieces p = pieces 0 p []

message_back : (closed : List (List ℕ)) (p : PrintedMessage) (m : CpModel) → IsPlain 32 p
    → ((bytes : List ℕ) (ts : List Token) (t : Tree) → Shows (written_with closed bytes ts) p t → ReadsAs (written_with closed bytes ts) t m)
    → IsReadWith closed (text_of 0 p) m
message_back closed p m plain reads =
    let ps = model_pieces p in
    let sound = pieces_sound 32 0 p [] plain tt in
    let text : spelled ps ≡ text_of 0 p = spelled-pieces 32 0 p [] plain ∙ append-nil (text_of 0 p) in
    let tree = tree_at 0 (fields_of p) in
    let w = written_with closed (spelled ps) (tokens_at 0 ps) in
    let shown = tree_shows 32 w 0 0 p [] plain (written_are closed ps) in
    let back : IsReadWith closed (spelled ps) m = record {
      tokens = tokens_at 0 ps;
      tree = tree;
      cut = tokens_are ps sound;
      parsed = (fields_of p, (symbols_are ps sound ∙ symbols-pieces 32 0 p [] plain, fields_nest 32 p plain), refl);
      read = reads (spelled ps) (tokens_at 0 ps) tree shown.0;
    } in
    subst (λ bytes. IsReadWith closed bytes m) text back

pub round_trip : (closed : List (List ℕ)) (bytes : List ℕ) (m : CpModel) → IsReadWith closed bytes m → IsReadWith closed (model_text m) m
round_trip closed bytes m r =
    let readable = read_is_readable (written_with closed bytes r.tokens) r.tree m r.read in
    message_back closed (core m) m (core_plain closed 29 m readable)
    (λ again ts t s. record {
      accepted = no_fault (written_with closed again ts) model_message [] (core m) t s (core_admitted closed m readable);
      reading = core_back (written_with closed again ts) m t readable s;
    })
