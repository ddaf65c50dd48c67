-- Each field is added to the slot of its line, and the last leaves what all give.
use Rattle.std.specs.Vec.Iter.{into_iter_items}
use Rattle.std.proofs.Common.{rules, ◌≡◌, ◌+◌, ◌<◌, List, [], ◌∷◌, map, length, drop, refl, ap, sym, ◌∙◌, arith}
use Rattle.std.proofs.lemmas.List.{drop_all}
use Rattle.cps_textproto.specs.Trees.{Tree, field_list, tree_of}
use Rattle.cps_schema.specs.declared.gather.Line.{Line}
use Rattle.cps_schema.specs.declared.gather.Slot.{Slot}
use Rattle.cps_schema.specs.Inputs.{written_of}
use Rattle.cps_schema.specs.Written.{Written, token_text}
use Rattle.cps_schema.specs.Tables.{is_given}
use Rattle.cps_schema.specs.Faults.{has_other_form, fields_fault}
use Rattle.cps_schema.specs.Gathered.{IsTableOf, nothing, found, held, lines_of, all_from}
use Rattle.cps_schema.specs.Steps.{field_then}
use Rattle.cps_schema.proofs.Loops.{cut_field}
use Rattle.cps_schema.proofs.Gatherings.{all_first, all_last, marks_first}
use Rattle.cps_schema.proofs.gather.gather.Goals as goal

empty_slots : (slots : List Slot) (lines : List Line) → lines_of slots ≡ lines → map held slots ≡ map (λ (line : Line). nothing) lines →
    map held slots ≡ map (λ (line : Line). nothing) (lines_of slots)
empty_slots slots lines same empty = rw same empty

first_reading : (w : Written) (tree : Tree) (slots : List Slot) (lines : List Line) → lines_of slots ≡ lines →
    map held slots ≡ map (λ (line : Line). nothing) lines → map (found w tree) lines ≡ all_from w slots tree
first_reading w tree slots lines same empty = rw (← same) (sym (all_first w tree slots (empty_slots slots lines same empty)))

pub loop-field-init : goal.loop-field-init
unfolding is_given has_other_form
loop-field-init c =
    let w = written_of c.args.input.now in
    let slots = c.in_ok-empty_slots.field-0.items in
    let lines = c.args.lines.now in
    let same : lines_of slots ≡ lines = c.in_ok-empty_slots.ensures.lines in
    let empty : map held slots ≡ map (λ (line : Line). nothing) lines = c.in_ok-empty_slots.ensures.empty in record {
      lines = same;
      accepted = ([], λ m is. (refl, record { marked = marks_first slots (empty_slots slots lines same empty); forms = λ form. refl }));
      reading = first_reading w (field_list c.fields_of-field-items.result.now) slots lines same empty;
    }

pub returns-in-Err-clause-err : goal.returns-in-Err-clause-err
returns-in-Err-clause-err c = λ m is.
    let w = written_of c.args.input.now in
    let items = c.fields_of-field-items.result.now in
    let i = c.loop-field.field-index in
    let before = c.loop-field.invariant.accepted.0 in
    let rest = field_list (drop (i + 1) items) in
    let h : i < length items = omega arith in
    let kept = c.loop-field.invariant.accepted.1 m is in
    let same : IsTableOf m (lines_of c.loop-field.parts.slots.items) = rw c.loop-field.invariant.lines is in
    let cut : fields_fault w m [] (tree_of c.args.node.now) ≡ fields_fault w m before (field_then c.field-item.result rest) =
    ap (λ (tree : Tree). fields_fault w m [] tree) (sym c.fields_of-field-items.ensures)
    ∙ kept.0 ∙ ap (λ (tree : Tree). fields_fault w m before tree) (cut_field items i h c.field-item.is) in
    rw cut (c.in-Err.ensures.err m before same kept.1 rest)

pub loop-field-preserved : goal.loop-field-preserved
loop-field-preserved c =
    let w = written_of c.args.input.now in
    let items = c.fields_of-field-items.result.now in
    let i = c.loop-field.field-index in
    let before = c.loop-field.invariant.accepted.0 in
    let rest = field_list (drop (i + 1) items) in
    let h : i < length items = omega arith in
    let cut = cut_field items i h c.field-item.is in
    let step = c.in-Ok.ensures in record {
      lines = step.lines ∙ c.loop-field.invariant.lines;
      accepted = (
        token_text w c.field-item.result.name ∷ before,
        λ m is.
            let kept = c.loop-field.invariant.accepted.1 m is in
            let same : IsTableOf m (lines_of c.loop-field.parts.slots.items) = rw c.loop-field.invariant.lines is in
            let passes = step.passes m before same kept.1 in
            (kept.0 ∙ ap (λ (tree : Tree). fields_fault w m before tree) cut ∙ passes.0 rest, passes.1),
      );
      reading = c.loop-field.invariant.reading ∙ ap (λ (tree : Tree). all_from w c.loop-field.parts.slots.items tree) cut ∙ step.read rest;
    }

pub returns-clause-reading : goal.returns-clause-reading
returns-clause-reading c =
    let w = written_of c.args.input.now in
    let items = c.fields_of-field-items.result.now in
    let slots = c.loop-field.parts.slots.items in
    let handed : into_iter_items c.into_iter.result ≡ slots = search rules in
    let past : drop c.loop-field.field-index items ≡ [] = drop_all c.loop-field.field-index items c.loop-field-test.false in
    ap (λ (rest : List Slot). map held rest) handed
    ∙ sym (c.loop-field.invariant.reading ∙ ap (λ fs. all_from w slots (field_list fs)) past ∙ all_last w slots)
    ∙ ap (λ (tree : Tree). map (found w tree) c.args.lines.now) c.fields_of-field-items.ensures
