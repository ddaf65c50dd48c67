-- The model that the bytes are the text of can be shown, and breaks a rule or none.
use Rattle.std.proofs.lemmas.Result.{err_from_is_err_and}
use Rattle.cps_program.proofs.Inputs.{rule_right, valid_input, refused_too, meant_showable, meant_propagated}
use Rattle.cps_program.proofs.input.valid_model_of.Goals as goal

pub returns-in_err-model-clause-err : goal.returns-in_err-model-clause-err
returns-in_err-model-clause-err c =
    let p = err_from_is_err_and c.from_residual.result c.from_residual.ensures.1 in
    rw (p.1, p.2) (refused_too c.args.bytes.now _ c.in_err-model.ensures.err)

pub returns-in-Ok-clause-ok : goal.returns-in-Ok-clause-ok
returns-in-Ok-clause-ok c =
    valid_input c.args.bytes.now c.in_ok-model.model _ c.requires c.in_ok-model.ensures.ok c.in-Ok.ensures.ok.0 c.in-Ok.ensures.ok.1

pub returns-in-Ok-clause-showable : goal.returns-in-Ok-clause-showable
returns-in-Ok-clause-showable c =
    rw c.in-Ok.ensures.ok.0 (meant_showable c.args.bytes.now c.in_ok-model.model c.in_ok-model.ensures.ok)

pub returns-in-Err-Invalid-clause-err : goal.returns-in-Err-Invalid-clause-err
returns-in-Err-Invalid-clause-err c =
    rule_right c.args.bytes.now c.in_ok-model.model c.in-Err-Invalid.rule c.in-Err-Invalid.place c.requires c.in_ok-model.ensures.ok
    (rw c.in-Err-Invalid.field-0-is at c.in-Err-Invalid.ensures.err)

pub returns-in-Ok-clause-kinds : goal.returns-in-Ok-clause-kinds
returns-in-Ok-clause-kinds c =
    rw c.in-Ok.ensures.ok.0 (meant_propagated c.args.bytes.now c.in_ok-model.model c.in_ok-model.ensures.ok)
