-- The answer to the bytes that were left.
use Rattle.std.proofs.Common.{◌+◌, ◌∙◌, sym, arith}
use Rattle.cps_program.specs.Inputs.{most_bytes}
use Rattle.cps_program.proofs.Given.{usage_given, command_given, unread_given, long_given, line_in_range, no_reading, read_through}
use Rattle.cps_program.proofs.solve.answer_of.Goals as goal

pub returns-in_default-clause-right : goal.returns-in_default-clause-right
returns-in_default-clause-right g c =
    usage_given _ (g.S.Source.left c.args.source.now) c.in_ok-usage_answer.field-0 (rw c.in_default.is at c.in_ok-command.ensures.found) c.in_ok-usage_answer.ensures

pub returns-in_ok-command_answer-in-Ok-clause-right : goal.returns-in_ok-command_answer-in-Ok-clause-right
returns-in_ok-command_answer-in-Ok-clause-right g c =
    command_given _ (g.S.Source.left c.args.source.now) (g.S.Source.left c.read_all.new.source) c.in-Ok.bytes c.in_ok-command_answer-in-Ok.field-0 c.in-Some.command
    (rw c.in-Some.is at c.in_ok-command.ensures.found) c.in-Ok.ensures.bytes (rw c.deref.ensures.value at c.in_ok-command_answer-in-Ok.ensures)

pub returns-in_ok-command_answer-in-Ok-clause-read : goal.returns-in_ok-command_answer-in-Ok-clause-read
returns-in_ok-command_answer-in-Ok-clause-read g c =
    λ line. read_through most_bytes (most_bytes + 1) (g.S.Source.left c.args.source.now) (g.S.Source.left c.read_all.new.source) c.in-Ok.bytes (omega arith) c.in-Ok.ensures.bytes

pub returns-in_ok-fault_answer-in-Err-TooLong-clause-right : goal.returns-in_ok-fault_answer-in-Err-TooLong-clause-right
returns-in_ok-fault_answer-in-Err-TooLong-clause-right g c =
    long_given _ (g.S.Source.left c.args.source.now) (g.S.Source.left c.read_all.new.source) c.in_ok-fault_answer-in-Err-TooLong.field-0 c.in-Some.command
    (rw c.in-Some.is at c.in_ok-command.ensures.found) (sym c.reads.ensures ∙ c.if-not-reads.false) (rw c.in-Err-TooLong.field-0-is at c.in-Err-TooLong.ensures.bytes) c.in_ok-fault_answer-in-Err-TooLong.ensures

pub command_answer-requires-clause-range : goal.command_answer-requires-clause-range
command_answer-requires-clause-range g c = λ lifetimes bounds. line_in_range _ c.in-Some.command (rw c.in-Some.is at c.in_ok-command.ensures.found)

pub returns-then-not-reads-clause-right : goal.returns-then-not-reads-clause-right
returns-then-not-reads-clause-right g c =
    unread_given _ (g.S.Source.left c.args.source.now) _ c.in_ok-command_answer.field-0 c.in-Some.command (rw c.in-Some.is at c.in_ok-command.ensures.found)
    (sym c.reads.ensures ∙ c.if-not-reads.true) c.in_ok-command_answer.ensures

pub returns-in_err-command_answer-in-Ok-clause-nothing : goal.returns-in_err-command_answer-in-Ok-clause-nothing
returns-in_err-command_answer-in-Ok-clause-nothing g c =
    no_reading _ c.in-Some.command (rw c.in-Some.is at c.in_ok-command.ensures.found) (sym c.reads.ensures ∙ c.if-not-reads.false)

pub returns-in_err-fault_answer-in-Err-TooLong-clause-nothing : goal.returns-in_err-fault_answer-in-Err-TooLong-clause-nothing
returns-in_err-fault_answer-in-Err-TooLong-clause-nothing g c =
    no_reading _ c.in-Some.command (rw c.in-Some.is at c.in_ok-command.ensures.found) (sym c.reads.ensures ∙ c.if-not-reads.false)

pub returns-in_ok-command_answer-in-Ok-clause-nothing : goal.returns-in_ok-command_answer-in-Ok-clause-nothing
returns-in_ok-command_answer-in-Ok-clause-nothing g c =
    no_reading _ c.in-Some.command (rw c.in-Some.is at c.in_ok-command.ensures.found) (sym c.reads.ensures ∙ c.if-not-reads.false)

pub returns-in_ok-fault_answer-in-Err-TooLong-clause-nothing : goal.returns-in_ok-fault_answer-in-Err-TooLong-clause-nothing
returns-in_ok-fault_answer-in-Err-TooLong-clause-nothing g c =
    no_reading _ c.in-Some.command (rw c.in-Some.is at c.in_ok-command.ensures.found) (sym c.reads.ensures ∙ c.if-not-reads.false)

pub returns-in-Err-ReadFault-clause-nothing : goal.returns-in-Err-ReadFault-clause-nothing
returns-in-Err-ReadFault-clause-nothing g c =
    no_reading _ c.in-Some.command (rw c.in-Some.is at c.in_ok-command.ensures.found) (sym c.reads.ensures ∙ c.if-not-reads.false)

pub returns-in-Err-OutOfMemory-clause-nothing : goal.returns-in-Err-OutOfMemory-clause-nothing
returns-in-Err-OutOfMemory-clause-nothing g c =
    no_reading _ c.in-Some.command (rw c.in-Some.is at c.in_ok-command.ensures.found) (sym c.reads.ensures ∙ c.if-not-reads.false)
