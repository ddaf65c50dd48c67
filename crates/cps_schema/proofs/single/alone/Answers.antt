-- A field outside of a list has the value that its items are, where they are one.
use Rattle.std.proofs.Common.{◌∙◌}
use Rattle.cps_textproto.proofs.Views.{nested_parts}
use Rattle.cps_schema.proofs.single.alone.Goals as goal

pub returns-in-Some-clause-value : goal.returns-in-Some-clause-value
returns-in-Some-clause-value c = rw (c.in-Scalars.is, ← c.deref.ensures.value) c.in-Some.ensures.some

pub returns-in-None-clause-none : goal.returns-in-None-clause-none
returns-in-None-clause-none c = rw (c.if-field.false, c.in-Scalars.is, ← c.deref.ensures.value) c.in-None.ensures.none

pub returns-in-Some-only_message-clause-value : goal.returns-in-Some-only_message-clause-value
returns-in-Some-only_message-clause-value c = rw c.in-Messages.is (c.in-Some-only_message.ensures.some ∙ nested_parts _ _)

pub returns-in-None-only_message-clause-none : goal.returns-in-None-only_message-clause-none
returns-in-None-only_message-clause-none c = rw (c.if-field.false, c.in-Messages.is) c.in-None-only_message.ensures.none
