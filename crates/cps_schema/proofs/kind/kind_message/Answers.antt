-- A field of an open kind that none stands before is the first of its kinds, and any other is refused.
use Rattle.std.proofs.Common.{◌≡◌, true, false, is_some, sym, ap, ◌∙◌}
use Rattle.cps_schema.specs.Written.{token_text}
use Rattle.cps_schema.specs.Tables.{is_given}
use Rattle.cps_schema.specs.Inputs.{written_of}
use Rattle.cps_schema.specs.Kinds.{message_of}
use Rattle.cps_schema.specs.Parts.{is_given_as}
use Rattle.cps_schema.proofs.Steps.{if_read, closed_stops, kind_again, second_kind, first_kind_stops}
use Rattle.cps_schema.proofs.kind.kind_message.Goals as goal

pub returns-then-is_given-clause-err : goal.returns-then-is_given-clause-err
returns-then-is_given-clause-err c = λ m before takes again kinds.
    let w = written_of c.args.input.now in
    let closed : is_given w.closed (token_text w c.args.field.now.name) ≡ true = ap (is_given w.closed) (sym c.token_text.ensures) ∙ sym c.is_given.ensures ∙ c.if-is_given.true in
    closed_stops w m before c.args.field.now (message_of c.args.name) takes closed

pub returns-then-is_given_as-clause-err : goal.returns-then-is_given_as-clause-err
returns-then-is_given_as-clause-err c = λ m before takes again kinds.
    let w = written_of c.args.input.now in
    let unclosed : is_given w.closed (token_text w c.args.field.now.name) ≡ false = ap (is_given w.closed) (sym c.token_text.ensures) ∙ sym c.is_given.ensures ∙ c.if-is_given.false in
    kind_again w m before c.args.field.now (message_of c.args.name) takes unclosed (again ∙ sym c.is_given_as.ensures ∙ c.if-is_given_as.true)

pub returns-then-is_some-clause-err : goal.returns-then-is_some-clause-err
returns-then-is_some-clause-err c = λ m before takes again kinds.
    let w = written_of c.args.input.now in
    let unclosed : is_given w.closed (token_text w c.args.field.now.name) ≡ false = ap (is_given w.closed) (sym c.token_text.ensures) ∙ sym c.is_given.ensures ∙ c.if-is_given.false in
    second_kind w m before c.args.field.now (message_of c.args.name) takes unclosed (again ∙ sym c.is_given_as.ensures ∙ c.if-is_given_as.false) (kinds ∙ sym c.is_some.ensures ∙ c.if-is_some.true)

pub returns-clause-err : goal.returns-clause-err
returns-clause-err c =
    let given = c.args.given.now in
    let w = written_of c.args.input.now in
    let unclosed : is_given w.closed (token_text w c.args.field.now.name) ≡ false = ap (is_given w.closed) (sym c.token_text.ensures) ∙ sym c.is_given.ensures ∙ c.if-is_given.false in
    first_kind_stops w c.args.field.now (message_of c.args.name) (is_given_as given c.args.name) (is_some given)
    c.single_message.result unclosed (sym c.is_given_as.ensures ∙ c.if-is_given_as.false) (sym c.is_some.ensures ∙ c.if-is_some.false)
    c.single_message.ensures.err

pub returns-clause-unclosed : goal.returns-clause-unclosed
returns-clause-unclosed c =
    let w = written_of c.args.input.now in
    if_read c.single_message.result (ap (is_given w.closed) (sym c.token_text.ensures) ∙ sym c.is_given.ensures ∙ c.if-is_given.false)

pub returns-clause-different : goal.returns-clause-different
returns-clause-different c = if_read c.single_message.result (sym c.is_given_as.ensures ∙ c.if-is_given_as.false)

pub returns-clause-first : goal.returns-clause-first
returns-clause-first c = if_read c.single_message.result (sym c.is_some.ensures ∙ c.if-is_some.false)
