-- The tokens are no document.
use Rattle.cps_program.proofs.Inputs.{no_document_right}
use Rattle.cps_program.proofs.input.node_of.Goals as goal

pub returns-in-Err-NotADocument-clause-err : goal.returns-in-Err-NotADocument-clause-err
returns-in-Err-NotADocument-clause-err c =
    no_document_right c.args.bytes.now c.args.tokens.now c.in-Err-NotADocument.token c.byte_of.result c.requires.short c.requires.cut
    (rw c.in-Err-NotADocument.field-0-is at c.in-Err-NotADocument.ensures.err) c.byte_of.ensures
