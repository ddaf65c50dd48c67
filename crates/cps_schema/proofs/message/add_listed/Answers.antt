-- One message more.
use Rattle.std.proofs.Common.{◌∙◌, ◌<◌, List, map, refl, length, arith}
use Rattle.cps_textproto.specs.Trees.{Tree}
use Rattle.std.proofs.lemmas.Result.{err_from_is_err_and}
use Rattle.cps_schema.specs.Inputs.{written_of}
use Rattle.cps_schema.proofs.Values.{fault_step, added_step}
use Rattle.cps_schema.proofs.Loops.{nested_refused, nested_passed, all_listed}
use Rattle.cps_schema.proofs.message.add_listed.Goals as goal

pub loop-nested-preserved : goal.loop-nested-preserved
loop-nested-preserved g c =
    let list = c.args.list.now in
    let i = c.loop-nested.nested-index in
    let h : i < length list = omega arith in (
      c.loop-nested.invariant.0 ∙ fault_step _ _ list i h c.nested-item.is c.in_ok-add_message.ensures.fault,
      c.loop-nested.invariant.1 ∙ added_step _ _ _ list i h c.nested-item.is c.in_ok-add_message.ensures.added,
    )

pub returns-in_err-add_message-clause-err : goal.returns-in_err-add_message-clause-err
returns-in_err-add_message-clause-err g c =
    let list = c.args.list.now in
    let i = c.loop-nested.nested-index in
    let h : i < length list = omega arith in
    let p = err_from_is_err_and c.from_residual.result c.from_residual.ensures.1 in
    rw (p.1, p.2) (nested_refused (written_of c.args.input.now) g.M.Message.fields list i h c.nested-item.is c.loop-nested.invariant.0 _ c.in_err-add_message.ensures.err)

pub returns-clause-fault : goal.returns-clause-fault
returns-clause-fault g c =
    nested_passed (written_of c.args.input.now) g.M.Message.fields c.args.list.now c.loop-nested.nested-index (omega arith) c.loop-nested.invariant.0

pub returns-clause-added : goal.returns-clause-added
returns-clause-added g c =
    all_listed (λ (trees : List Tree). map (g.M.Message.reads (written_of c.args.input.now)) trees) c.args.values.now.items c.loop-nested.values.items c.args.list.now c.loop-nested.nested-index refl c.loop-nested-test.false
    c.loop-nested.invariant.1
