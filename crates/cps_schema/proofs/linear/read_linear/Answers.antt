-- Each field adds what it gives, and the last leaves what all give.
use Rattle.std.proofs.Common.{◌+◌, arith, drop, ◌<◌, [], ◌∷◌, ◌∙◌, length, ap, sym, append-nil, refl}
use Rattle.std.proofs.lemmas.Result.{err_from_is_err_and}
use Rattle.cps_textproto.specs.Trees.{field_list, Tree, tree_of}
use Rattle.cps_schema.specs.Inputs.{written_of}
use Rattle.cps_schema.specs.Written.{token_text}
use Rattle.cps_schema.specs.Tables.{linear_message}
use Rattle.cps_schema.specs.Faults.{fields_fault}
use Rattle.cps_schema.specs.Parts.{linear_from}
use Rattle.cps_schema.specs.Readings.{read_linear}
use Rattle.cps_schema.proofs.Loops.{field_refused, all_read, cut_field, field_passed}
use Rattle.cps_schema.proofs.linear.read_linear.Goals as goal

pub returns-in_err-add_field-clause-err : goal.returns-in_err-add_field-clause-err
returns-in_err-add_field-clause-err c =
    let items = c.fields_of-field-items.result.now in
    let i = c.loop-field.field-index in
    let before = c.loop-field.invariant.0.0 in
    let h : i < length items = omega arith in
    let p = err_from_is_err_and c.from_residual.result c.from_residual.ensures.1 in
    rw (p.1, p.2) (field_refused (written_of c.args.input.now) linear_message before items (tree_of c.args.node.now) i h c.field-item.is c.fields_of-field-items.ensures c.loop-field.invariant.0.1 _
    (c.in_err-add_field.ensures.err before))

pub returns-clause-accepted : goal.returns-clause-accepted
returns-clause-accepted c =
    let w = written_of c.args.input.now in
    all_read (λ (t : Tree). fields_fault w linear_message [] t) (λ (t : Tree). fields_fault w linear_message c.loop-field.invariant.0.0 t) c.fields_of-field-items.result.now (tree_of c.args.node.now)
    c.loop-field.field-index (omega arith) c.fields_of-field-items.ensures c.loop-field.invariant.0.1

pub loop-field-preserved : goal.loop-field-preserved
loop-field-preserved c =
    let w = written_of c.args.input.now in
    let items = c.fields_of-field-items.result.now in
    let i = c.loop-field.field-index in
    let before = c.loop-field.invariant.0.0 in
    let h : i < length items = omega arith in (
      (
        token_text w c.field-item.result.name ∷ before,
        field_passed w linear_message before items i h c.field-item.is c.loop-field.invariant.0.1 (c.in_ok-add_field.ensures.passes before),
      ),
      c.loop-field.invariant.1 ∙ ap (λ (t : Tree). linear_from w c.loop-field.parts t) (cut_field items i h c.field-item.is)
          ∙ c.in_ok-add_field.ensures.read (field_list (drop (i + 1) items)),
    )

pub returns-clause-reading : goal.returns-clause-reading
returns-clause-reading c =
    let w = written_of c.args.input.now in
    rw (c.from_vec.ensures, c.from_vec-2.ensures, c.from_vec-3.ensures)
    (sym (all_read (read_linear w) (linear_from w c.loop-field.parts) c.fields_of-field-items.result.now (tree_of c.args.node.now)
    c.loop-field.field-index c.loop-field-test.false c.fields_of-field-items.ensures c.loop-field.invariant.1
    ∙ rw (append-nil c.loop-field.parts.vars.items, append-nil c.loop-field.parts.coeffs.items, append-nil c.loop-field.parts.domain.items) refl))
