-- The document means a model, or has a fault.
use Rattle.cps_textproto.specs.Trees.{tree_of}
use Rattle.cps_program.proofs.Inputs.{meant, field_right}
use Rattle.cps_program.proofs.input.meaning_of.Goals as goal

pub returns-in-Ok-clause-ok : goal.returns-in-Ok-clause-ok
returns-in-Ok-clause-ok c =
    meant c.args.bytes.now c.args.tokens.now (tree_of c.args.node.now) c.in-Ok.model c.requires.cut c.requires.parsed c.in-Ok.ensures.ok c.in-Ok.ensures.only

pub returns-in-Err-Fault-clause-err : goal.returns-in-Err-Fault-clause-err
returns-in-Err-Fault-clause-err c =
    field_right c.args.bytes.now c.args.tokens.now (tree_of c.args.node.now) c.in-Err-Fault.name c.in-Err-Fault.token c.byte_of.result c.requires.short c.requires.cut c.requires.parsed
    (rw c.in-Err-Fault.field-0-is at c.in-Err-Fault.ensures.err) (rw c.in-Err-Fault.field-0-is at c.in-Err-Fault.ensures.only) c.byte_of.ensures
