use Rattle.std.proofs.Common.{◌≡◌, true, false, ◌∙◌}
use Rattle.cps_schema.specs.declared.form.Form.TheVariants.{Older}
use Rattle.cps_schema.specs.declared.number.Number.TheVariants.{Int32}
use Rattle.cps_schema.specs.Inputs.{written_of}
use Rattle.cps_schema.specs.Tables.{number}
use Rattle.cps_schema.specs.Parts.{is_other}
use Rattle.cps_schema.proofs.Forms.{formed_ok, formed_err, mixed_stops}
use Rattle.cps_schema.proofs.strategy.add_older.Goals as goal

pub returns-in-Ok-clause-passes : goal.returns-in-Ok-clause-passes
returns-in-Ok-clause-passes c =
    let alone : is_other c.args.form.now Older ≡ false = c.in-Ok.ensures.same in
    formed_ok (written_of c.args.input.now) c.args.field.now Older (number Int32) (is_other c.args.form.now Older) c.add_refs.result alone c.add_refs.ensures.fault

pub returns-in-Ok-clause-err : goal.returns-in-Ok-clause-err
returns-in-Ok-clause-err c =
    let alone : is_other c.args.form.now Older ≡ false = c.in-Ok.ensures.same in
    formed_err (written_of c.args.input.now) c.args.field.now Older (number Int32) (is_other c.args.form.now Older) c.add_refs.result alone c.add_refs.ensures.err

pub returns-in-Err-clause-err : goal.returns-in-Err-clause-err
returns-in-Err-clause-err c = λ m before takes is.
    let mixed : is_other c.args.form.now Older ≡ true = c.in-Err.ensures.other in
    rw c.in-Err.ensures.err (mixed_stops (written_of c.args.input.now) m before c.args.field.now Older (number Int32) takes (is ∙ mixed))
