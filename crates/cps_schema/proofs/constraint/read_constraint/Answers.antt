use Rattle.std.proofs.Common.{◌+◌, [], arith, drop, refl, sym, ap, ◌∙◌, ◌<◌, ◌∷◌, length}
use Rattle.cps_textproto.specs.Trees.{field_list, Tree, tree_of}
use Rattle.cps_schema.specs.Inputs.{written_of}
use Rattle.cps_schema.specs.Readings.{read_constraint}
use Rattle.cps_schema.specs.Parts.{constraint_from}
use Rattle.cps_schema.specs.Tables.{is_given, constraint_message}
use Rattle.cps_schema.specs.Faults.{has_kind, has_other_form, fields_fault}
use Rattle.cps_schema.specs.Written.{token_text}
use Rattle.cps_schema.proofs.Loops.{field_refused, all_read, cut_field, field_passed}
use Rattle.cps_schema.proofs.constraint.read_constraint.Goals as goal

pub loop-field-init : goal.loop-field-init
unfolding is_given has_kind has_other_form
loop-field-init c = (([], refl, record { name = refl; kind = record { name_given = λ name. refl; kind_given = refl } }), rw c.new.ensures.items refl)

pub returns-in-Err-clause-err : goal.returns-in-Err-clause-err
returns-in-Err-clause-err c =
    let items = c.fields_of-field-items.result.now in
    let i = c.loop-field.field-index in
    let before = c.loop-field.invariant.0.0 in
    let h : i < length items = omega arith in
    field_refused (written_of c.args.input.now) constraint_message before items (tree_of c.args.node.now) i h c.field-item.is c.fields_of-field-items.ensures c.loop-field.invariant.0.1 _
    (c.in-Err.ensures.err before c.loop-field.invariant.0.2)

pub returns-clause-reading : goal.returns-clause-reading
returns-clause-reading c =
    let w = written_of c.args.input.now in
    c.constraint_of.ensures w
    ∙ sym (all_read (read_constraint w) (constraint_from w c.loop-field.parts) c.fields_of-field-items.result.now (tree_of c.args.node.now)
    c.loop-field.field-index (omega arith) c.fields_of-field-items.ensures c.loop-field.invariant.1)

pub returns-clause-accepted : goal.returns-clause-accepted
returns-clause-accepted c =
    let w = written_of c.args.input.now in
    all_read (λ (t : Tree). fields_fault w constraint_message [] t) (λ (t : Tree). fields_fault w constraint_message c.loop-field.invariant.0.0 t) c.fields_of-field-items.result.now (tree_of c.args.node.now)
    c.loop-field.field-index (omega arith) c.fields_of-field-items.ensures c.loop-field.invariant.0.1

pub loop-field-preserved : goal.loop-field-preserved
loop-field-preserved c =
    let w = written_of c.args.input.now in
    let items = c.fields_of-field-items.result.now in
    let i = c.loop-field.field-index in
    let before = c.loop-field.invariant.0.0 in
    let h : i < length items = omega arith in
    let passes = c.in-Ok.ensures.passes before c.loop-field.invariant.0.2 in (
      (
        token_text w c.field-item.result.name ∷ before,
        field_passed w constraint_message before items i h c.field-item.is c.loop-field.invariant.0.1 passes.0,
        passes.1,
      ),
      c.loop-field.invariant.1 ∙ ap (λ (t : Tree). constraint_from w c.loop-field.parts t) (cut_field items i h c.field-item.is)
          ∙ c.in-Ok.ensures.read (field_list (drop (i + 1) items)),
    )
