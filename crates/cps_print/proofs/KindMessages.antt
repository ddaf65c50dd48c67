-- The messages of kinds: each was read of parts, of which it is read again.
use Rattle.std.specs.Prelude.{codes, if◌then◌else◌}
use Rattle.std.specs.List.{list_all}
use Rattle.std.proofs.Common.{◌≡◌, ℕ, zero, suc, Bool, true, false, ℤ, pos, negsuc, List, [], ◌∷◌, ◌++◌, Some, None, refl, ap, ◌∙◌, append-nil}
use Rattle.cps_lex.specs.Bytes.{is_word_start, is_word}
use Rattle.cps_lex.specs.Forms.{is_identifier}
use Rattle.cps_textproto.specs.Trees.{Tree}
use Rattle.cps_model.specs.declared.model.LinearExpr.{LinearExpr}
use Rattle.cps_model.specs.declared.constraint.Kind.{Kind}
use Rattle.cps_model.specs.declared.constraint.Kind.TheVariants.{NoOverlap, Element, AllDiff}
use Rattle.cps_schema.specs.Written.{Written}
use Rattle.cps_schema.specs.declared.number.Number.{Number}
use Rattle.cps_schema.specs.declared.number.Number.TheVariants.{Int64, Int32}
use Rattle.cps_schema.specs.Numbers.{fits}
use Rattle.cps_schema.specs.Tables as tables
use Rattle.cps_schema.specs.Tables.{use_of, content_of, is_given, literals_message, linear_message, linear_argument_message, all_diff_message, element_message, table_message, circuit_message, interval_message, no_overlap_message, cumulative_message, automaton_message, inverse_message, reservoir_message, no_overlap_2d_message, expression_message}
use Rattle.cps_schema.specs.Faults.{has_other_form, fields_fault}
use Rattle.cps_schema.specs.Readings.{first_or, numbers, truths, messages, read_literals, read_intervals, read_linear, read_expression, expressions, references, the_expression, the_number, read_all_diff, is_older_element, read_newer_element, read_older_element, read_element, expressions_of_a_form, read_table, read_circuit, read_interval, read_cumulative, read_inverse, read_automaton, read_reservoir, read_boxes}
use Rattle.cps_print.specs.Fields.{message_field}
use Rattle.cps_print.specs.Kinds.{printed_literals, printed_arithmetic, kind_field}
use Rattle.cps_print.proofs.Readable.{Each, IsReadableExpression, each_append, each_map, numbers_fit, messages_sound, first_fit, expression_readable, reference_readable, references_readable}
use Rattle.cps_print.proofs.Fitting.{number_list}
use Rattle.cps_print.proofs.Expressions.{no_terms, first_expression}
use Rattle.cps_print.proofs.Parts.{Part, list, number, flag, expression, several, name_of, parts_message, IsFit, once, once_formed, some, some_formed, Takes, ShowsParts, flag_list, numbers_back, expressions_back, truths_back, gives_nothing}

-- a kind that is printed as a field of this name, and read again of the message's parts
pub record AsMessage (name : List ℕ) (m : tables.Message) (read : Written → Tree → Kind) (k : Kind) : Type 0 where
  pub parts : List Part
  pub is : kind_field k ≡ message_field name (parts_message parts)
  pub takes : Takes m [] parts
  pub named : list_all (λ p. is_identifier (name_of p)) parts ≡ true
  pub fit : Each IsFit parts
  pub back : (w : Written) (t : Tree) → ShowsParts w m parts t → read w t ≡ k

-- whatever is read of such a message without a fault is such a kind
abbrev pub IsReadBack : List ℕ → tables.Message → (Written → Tree → Kind) → Type 0
IsReadBack name m read = (w : Written) (t : Tree) → fields_fault w m [] t ≡ None → AsMessage name m read (read w t)

pub literals_back : (name : List ℕ) (make : List ℤ → Kind) → ((ls : List ℤ) → kind_field (make ls) ≡ message_field name (printed_literals ls)) → IsReadBack name literals_message (λ w t. make (read_literals w t))
unfolding use_of is_given is_word_start is_word
literals_back name make is = λ w t e. record {
  parts = list Int32 (codes "literals") (read_literals w t) ∷ [];
  is = is (read_literals w t);
  takes = (refl, tt);
  named = refl;
  fit = (numbers_fit w literals_message [] (codes "literals") Int32 t refl e, tt);
  back = λ v u s. ap make (numbers_back v literals_message _ u s (codes "literals") Int32 refl ∙ append-nil (read_literals w t));
}

pub linear_back : IsReadBack (codes "linear") linear_message read_linear
unfolding use_of is_given is_word_start is_word
linear_back = λ w t e. record {
  parts =
      list Int32 (codes "vars") (numbers w (codes "vars") t)
      ∷ list Int64 (codes "coeffs") (numbers w (codes "coeffs") t)
      ∷ list Int64 (codes "domain") (numbers w (codes "domain") t)
      ∷ [];
  is = refl;
  takes = (refl, (refl, (refl, tt)));
  named = refl;
  fit = (
    numbers_fit w linear_message [] (codes "vars") Int32 t refl e,
    (numbers_fit w linear_message [] (codes "coeffs") Int64 t refl e, (numbers_fit w linear_message [] (codes "domain") Int64 t refl e, tt)),
  );
  back = λ v u s.
      let vars = numbers_back v linear_message _ u s (codes "vars") Int32 refl ∙ append-nil (numbers w (codes "vars") t) in
      let coeffs = numbers_back v linear_message _ u s (codes "coeffs") Int64 refl ∙ append-nil (numbers w (codes "coeffs") t) in
      let domain = numbers_back v linear_message _ u s (codes "domain") Int64 refl ∙ append-nil (numbers w (codes "domain") t) in
      rw (vars, coeffs, domain) refl;
}

pub no_overlap_back : IsReadBack (codes "no_overlap") no_overlap_message (λ w t. NoOverlap (read_intervals w t))
unfolding use_of is_given is_word_start is_word
no_overlap_back = λ w t e. record {
  parts = list Int32 (codes "intervals") (read_intervals w t) ∷ [];
  is = refl;
  takes = (refl, tt);
  named = refl;
  fit = (numbers_fit w no_overlap_message [] (codes "intervals") Int32 t refl e, tt);
  back = λ v u s. ap (λ xs. NoOverlap xs) (numbers_back v no_overlap_message _ u s (codes "intervals") Int32 refl ∙ append-nil (read_intervals w t));
}

-- what is read of a message without a fault fits

number_fit_of : (w : Written) (m : tables.Message) (name : List ℕ) (type : Number) (t : Tree) → content_of (use_of m name) ≡ Some (tables.number type) → fields_fault w m [] t ≡ None → fits type (the_number w name t) ≡ true
number_fit_of w m name type t takes e = first_fit type _ (numbers_fit w m [] name type t takes e)

expressions_fit : (w : Written) (m : tables.Message) (name : List ℕ) (t : Tree) → content_of (use_of m name) ≡ Some (tables.message expression_message) → fields_fault w m [] t ≡ None → Each IsReadableExpression (expressions w name t)
expressions_fit w m name t takes e =
    each_map (λ u. fields_fault w expression_message [] u ≡ None) IsReadableExpression (read_expression w) (expression_readable w) (messages w name t) (messages_sound w m [] name expression_message t takes e)

first_readable : (es : List LinearExpr) → Each IsReadableExpression es → IsReadableExpression (first_or no_terms es)
unfolding fits
first_readable [] r = record { vars = refl; coeffs = refl; offset = refl }
first_readable (e ∷ es) r = r.0

expression_fit : (w : Written) (m : tables.Message) (name : List ℕ) (t : Tree) → content_of (use_of m name) ≡ Some (tables.message expression_message) → fields_fault w m [] t ≡ None → IsReadableExpression (the_expression w name t)
expression_fit w m name t takes e = first_readable (expressions w name t) (expressions_fit w m name t takes e)

references_fit : (w : Written) (m : tables.Message) (name : List ℕ) (t : Tree) → content_of (use_of m name) ≡ Some (tables.number Int32) → fields_fault w m [] t ≡ None → Each IsReadableExpression (references w name t)
references_fit w m name t takes e = references_readable (numbers w name t) (numbers_fit w m [] name Int32 t takes e)

-- the first of what is left out, or written once

first_number_then : (z : ℤ) → first_or (pos 0) (number_list z ++ []) ≡ z
first_number_then (pos zero) = refl
first_number_then (pos (suc n)) = refl
first_number_then (negsuc n) = refl

first_flag : (b : Bool) → first_or false (flag_list b ++ []) ≡ b
first_flag true = refl
first_flag false = refl

-- kinds with expressions

pub arithmetic_back : (name : List ℕ) (make : LinearExpr → List LinearExpr → Kind) → ((target : LinearExpr) (exprs : List LinearExpr) → kind_field (make target exprs) ≡ message_field name (printed_arithmetic target exprs)) → IsReadBack name linear_argument_message (λ w t. make (the_expression w (codes "target") t) (expressions w (codes "exprs") t))
unfolding use_of is_given is_word_start is_word
arithmetic_back name make is = λ w t e.
    let target = the_expression w (codes "target") t in
    let exprs = expressions w (codes "exprs") t in
    record {
      parts = expression (codes "target") target ∷ several (codes "exprs") exprs ∷ [];
      is = is target exprs;
      takes = (once refl refl, (some refl, tt));
      named = refl;
      fit = (expression_fit w linear_argument_message (codes "target") t refl e, (expressions_fit w linear_argument_message (codes "exprs") t refl e, tt));
      back = λ v u s.
          let t_back = ap (first_or no_terms) (expressions_back v linear_argument_message _ u s (codes "target")) ∙ first_expression target in
          let e_back = expressions_back v linear_argument_message _ u s (codes "exprs") ∙ append-nil exprs in
          rw (t_back, e_back) refl;
    }

pub all_diff_back : IsReadBack (codes "all_diff") all_diff_message read_all_diff
unfolding use_of is_given is_word_start is_word
all_diff_back = λ w t e.
    let exprs = expressions w (codes "exprs") t in
    record {
      parts = several (codes "exprs") exprs ∷ [];
      is = refl;
      takes = (some refl, tt);
      named = refl;
      fit = (expressions_fit w all_diff_message (codes "exprs") t refl e, tt);
      back = λ v u s. ap (λ es. AllDiff es) (expressions_back v all_diff_message _ u s (codes "exprs") ∙ append-nil exprs);
    }

-- an element of either form is printed in the newer one
element_of : (index target : LinearExpr) (exprs : List LinearExpr) → IsReadableExpression index → IsReadableExpression target → Each IsReadableExpression exprs → AsMessage (codes "element") element_message read_element (Element index target exprs)
unfolding use_of is_given has_other_form is_word_start is_word
element_of index target exprs i t es = record {
  parts = expression (codes "linear_index") index ∷ expression (codes "linear_target") target ∷ several (codes "exprs") exprs ∷ [];
  is = refl;
  takes = (once_formed refl refl refl, (once_formed refl refl refl, (some_formed refl refl, tt)));
  named = refl;
  fit = (i, (t, (es, tt)));
  back = λ v u s.
      let no_index = gives_nothing v element_message _ u s (codes "index") refl in
      let no_target = gives_nothing v element_message _ u s (codes "target") refl in
      let no_vars = gives_nothing v element_message _ u s (codes "vars") refl in
      let i_back = ap (first_or no_terms) (expressions_back v element_message _ u s (codes "linear_index")) ∙ first_expression index in
      let t_back = ap (first_or no_terms) (expressions_back v element_message _ u s (codes "linear_target")) ∙ first_expression target in
      let e_back = expressions_back v element_message _ u s (codes "exprs") ∙ append-nil exprs in
      rw (no_index, no_target, no_vars, i_back, t_back, e_back) refl;
}

pub element_back : IsReadBack (codes "element") element_message read_element
unfolding use_of
element_back = λ w t e. by w t e (is_older_element w t) where
  by : (w : Written) (t : Tree) → fields_fault w element_message [] t ≡ None → (older : Bool) → AsMessage (codes "element") element_message read_element (if older then read_older_element w t else read_newer_element w t)
  by w t e true =
      element_of _ _ _ (reference_readable _ (number_fit_of w element_message (codes "index") Int32 t refl e)) (reference_readable _ (number_fit_of w element_message (codes "target") Int32 t refl e))
      (references_fit w element_message (codes "vars") t refl e)
  by w t e false =
      element_of _ _ _ (expression_fit w element_message (codes "linear_index") t refl e) (expression_fit w element_message (codes "linear_target") t refl e)
      (expressions_fit w element_message (codes "exprs") t refl e)

pub table_back : IsReadBack (codes "table") table_message read_table
unfolding use_of is_given has_other_form is_word_start is_word
table_back = λ w t e.
    let exprs = expressions_of_a_form w t in
    let values = numbers w (codes "values") t in
    let negated = first_or false (truths w (codes "negated") t) in
    record {
      parts = several (codes "exprs") exprs ∷ list Int64 (codes "values") values ∷ flag (codes "negated") negated ∷ [];
      is = refl;
      takes = (some_formed refl refl, (refl, ((refl, refl), tt)));
      named = refl;
      fit = (
        each_append IsReadableExpression _ _ (expressions_fit w table_message (codes "exprs") t refl e) (references_fit w table_message (codes "vars") t refl e),
        (numbers_fit w table_message [] (codes "values") Int64 t refl e, (tt, tt)),
      );
      back = λ v u s.
          let e_back = expressions_back v table_message _ u s (codes "exprs") ∙ append-nil exprs in
          let none = numbers_back v table_message _ u s (codes "vars") Int32 refl in
          let v_back = numbers_back v table_message _ u s (codes "values") Int64 refl ∙ append-nil values in
          let n_back = ap (first_or false) (truths_back v table_message _ u s (codes "negated") refl) ∙ first_flag negated in
          rw (e_back, none, v_back, n_back, append-nil) refl;
    }

pub circuit_back : IsReadBack (codes "circuit") circuit_message read_circuit
unfolding use_of is_given is_word_start is_word
circuit_back = λ w t e.
    let tails = numbers w (codes "tails") t in
    let heads = numbers w (codes "heads") t in
    let literals = numbers w (codes "literals") t in
    record {
      parts = list Int32 (codes "tails") tails ∷ list Int32 (codes "heads") heads ∷ list Int32 (codes "literals") literals ∷ [];
      is = refl;
      takes = (refl, (refl, (refl, tt)));
      named = refl;
      fit = (
        numbers_fit w circuit_message [] (codes "tails") Int32 t refl e,
        (numbers_fit w circuit_message [] (codes "heads") Int32 t refl e, (numbers_fit w circuit_message [] (codes "literals") Int32 t refl e, tt)),
      );
      back = λ v u s.
          let t_back = numbers_back v circuit_message _ u s (codes "tails") Int32 refl ∙ append-nil tails in
          let h_back = numbers_back v circuit_message _ u s (codes "heads") Int32 refl ∙ append-nil heads in
          let l_back = numbers_back v circuit_message _ u s (codes "literals") Int32 refl ∙ append-nil literals in
          rw (t_back, h_back, l_back) refl;
    }

pub interval_back : IsReadBack (codes "interval") interval_message read_interval
unfolding use_of is_given is_word_start is_word
interval_back = λ w t e.
    let start = the_expression w (codes "start") t in
    let stop = the_expression w (codes "end") t in
    let size = the_expression w (codes "size") t in
    record {
      parts = expression (codes "start") start ∷ expression (codes "end") stop ∷ expression (codes "size") size ∷ [];
      is = refl;
      takes = (once refl refl, (once refl refl, (once refl refl, tt)));
      named = refl;
      fit = (
        expression_fit w interval_message (codes "start") t refl e,
        (expression_fit w interval_message (codes "end") t refl e, (expression_fit w interval_message (codes "size") t refl e, tt)),
      );
      back = λ v u s.
          let s_back = ap (first_or no_terms) (expressions_back v interval_message _ u s (codes "start")) ∙ first_expression start in
          let e_back = ap (first_or no_terms) (expressions_back v interval_message _ u s (codes "end")) ∙ first_expression stop in
          let z_back = ap (first_or no_terms) (expressions_back v interval_message _ u s (codes "size")) ∙ first_expression size in
          rw (s_back, e_back, z_back) refl;
    }

pub cumulative_back : IsReadBack (codes "cumulative") cumulative_message read_cumulative
unfolding use_of is_given is_word_start is_word
cumulative_back = λ w t e.
    let capacity = the_expression w (codes "capacity") t in
    let intervals = numbers w (codes "intervals") t in
    let demands = expressions w (codes "demands") t in
    record {
      parts = expression (codes "capacity") capacity ∷ list Int32 (codes "intervals") intervals ∷ several (codes "demands") demands ∷ [];
      is = refl;
      takes = (once refl refl, (refl, (some refl, tt)));
      named = refl;
      fit = (
        expression_fit w cumulative_message (codes "capacity") t refl e,
        (numbers_fit w cumulative_message [] (codes "intervals") Int32 t refl e, (expressions_fit w cumulative_message (codes "demands") t refl e, tt)),
      );
      back = λ v u s.
          let c_back = ap (first_or no_terms) (expressions_back v cumulative_message _ u s (codes "capacity")) ∙ first_expression capacity in
          let i_back = numbers_back v cumulative_message _ u s (codes "intervals") Int32 refl ∙ append-nil intervals in
          let d_back = expressions_back v cumulative_message _ u s (codes "demands") ∙ append-nil demands in
          rw (c_back, i_back, d_back) refl;
    }

pub inverse_back : IsReadBack (codes "inverse") inverse_message read_inverse
unfolding use_of is_given is_word_start is_word
inverse_back = λ w t e.
    let direct = numbers w (codes "f_direct") t in
    let inverse = numbers w (codes "f_inverse") t in
    record {
      parts = list Int32 (codes "f_direct") direct ∷ list Int32 (codes "f_inverse") inverse ∷ [];
      is = refl;
      takes = (refl, (refl, tt));
      named = refl;
      fit = (numbers_fit w inverse_message [] (codes "f_direct") Int32 t refl e, (numbers_fit w inverse_message [] (codes "f_inverse") Int32 t refl e, tt));
      back = λ v u s.
          let d_back = numbers_back v inverse_message _ u s (codes "f_direct") Int32 refl ∙ append-nil direct in
          let i_back = numbers_back v inverse_message _ u s (codes "f_inverse") Int32 refl ∙ append-nil inverse in
          rw (d_back, i_back) refl;
    }

pub automaton_back : IsReadBack (codes "automaton") automaton_message read_automaton
unfolding use_of is_given has_other_form is_word_start is_word
automaton_back = λ w t e.
    let start = the_number w (codes "starting_state") t in
    let finals = numbers w (codes "final_states") t in
    let tails = numbers w (codes "transition_tail") t in
    let heads = numbers w (codes "transition_head") t in
    let labels = numbers w (codes "transition_label") t in
    let exprs = expressions_of_a_form w t in
    record {
      parts =
          number Int64 (codes "starting_state") start
          ∷ list Int64 (codes "final_states") finals
          ∷ list Int64 (codes "transition_tail") tails
          ∷ list Int64 (codes "transition_head") heads
          ∷ list Int64 (codes "transition_label") labels
          ∷ several (codes "exprs") exprs
          ∷ [];
      is = refl;
      takes = ((refl, refl), (refl, (refl, (refl, (refl, (some_formed refl refl, tt))))));
      named = refl;
      fit = (
        number_fit_of w automaton_message (codes "starting_state") Int64 t refl e,
        (
          numbers_fit w automaton_message [] (codes "final_states") Int64 t refl e,
          (
            numbers_fit w automaton_message [] (codes "transition_tail") Int64 t refl e,
            (
              numbers_fit w automaton_message [] (codes "transition_head") Int64 t refl e,
              (
                numbers_fit w automaton_message [] (codes "transition_label") Int64 t refl e,
                (
                  each_append IsReadableExpression _ _ (expressions_fit w automaton_message (codes "exprs") t refl e) (references_fit w automaton_message (codes "vars") t refl e),
                  tt,
                ),
              ),
            ),
          ),
        ),
      );
      back = λ v u s.
          let s_back = ap (first_or (pos 0)) (numbers_back v automaton_message _ u s (codes "starting_state") Int64 refl) ∙ first_number_then start in
          let f_back = numbers_back v automaton_message _ u s (codes "final_states") Int64 refl ∙ append-nil finals in
          let t_back = numbers_back v automaton_message _ u s (codes "transition_tail") Int64 refl ∙ append-nil tails in
          let h_back = numbers_back v automaton_message _ u s (codes "transition_head") Int64 refl ∙ append-nil heads in
          let l_back = numbers_back v automaton_message _ u s (codes "transition_label") Int64 refl ∙ append-nil labels in
          let e_back = expressions_back v automaton_message _ u s (codes "exprs") ∙ append-nil exprs in
          let none = numbers_back v automaton_message _ u s (codes "vars") Int32 refl in
          rw (s_back, f_back, t_back, h_back, l_back, e_back, none, append-nil) refl;
    }

pub reservoir_back : IsReadBack (codes "reservoir") reservoir_message read_reservoir
unfolding use_of is_given is_word_start is_word
reservoir_back = λ w t e.
    let min = the_number w (codes "min_level") t in
    let max = the_number w (codes "max_level") t in
    let times = expressions w (codes "time_exprs") t in
    let changes = expressions w (codes "level_changes") t in
    let active = numbers w (codes "active_literals") t in
    record {
      parts =
          number Int64 (codes "min_level") min
          ∷ number Int64 (codes "max_level") max
          ∷ several (codes "time_exprs") times
          ∷ several (codes "level_changes") changes
          ∷ list Int32 (codes "active_literals") active
          ∷ [];
      is = refl;
      takes = ((refl, refl), ((refl, refl), (some refl, (some refl, (refl, tt)))));
      named = refl;
      fit = (
        number_fit_of w reservoir_message (codes "min_level") Int64 t refl e,
        (
          number_fit_of w reservoir_message (codes "max_level") Int64 t refl e,
          (
            expressions_fit w reservoir_message (codes "time_exprs") t refl e,
            (
              expressions_fit w reservoir_message (codes "level_changes") t refl e,
              (numbers_fit w reservoir_message [] (codes "active_literals") Int32 t refl e, tt),
            ),
          ),
        ),
      );
      back = λ v u s.
          let least = ap (first_or (pos 0)) (numbers_back v reservoir_message _ u s (codes "min_level") Int64 refl) ∙ first_number_then min in
          let greatest = ap (first_or (pos 0)) (numbers_back v reservoir_message _ u s (codes "max_level") Int64 refl) ∙ first_number_then max in
          let t_back = expressions_back v reservoir_message _ u s (codes "time_exprs") ∙ append-nil times in
          let c_back = expressions_back v reservoir_message _ u s (codes "level_changes") ∙ append-nil changes in
          let a_back = numbers_back v reservoir_message _ u s (codes "active_literals") Int32 refl ∙ append-nil active in
          rw (least, greatest, t_back, c_back, a_back) refl;
    }

pub no_overlap_2d_back : IsReadBack (codes "no_overlap_2d") no_overlap_2d_message read_boxes
unfolding use_of is_given is_word_start is_word
no_overlap_2d_back = λ w t e.
    let x = numbers w (codes "x_intervals") t in
    let y = numbers w (codes "y_intervals") t in
    record {
      parts = list Int32 (codes "x_intervals") x ∷ list Int32 (codes "y_intervals") y ∷ [];
      is = refl;
      takes = (refl, (refl, tt));
      named = refl;
      fit = (numbers_fit w no_overlap_2d_message [] (codes "x_intervals") Int32 t refl e, (numbers_fit w no_overlap_2d_message [] (codes "y_intervals") Int32 t refl e, tt));
      back = λ v u s.
          let x_back = numbers_back v no_overlap_2d_message _ u s (codes "x_intervals") Int32 refl ∙ append-nil x in
          let y_back = numbers_back v no_overlap_2d_message _ u s (codes "y_intervals") Int32 refl ∙ append-nil y in
          rw (x_back, y_back) refl;
    }
