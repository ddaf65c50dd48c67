-- The messages of a field are the one that its item is, or those of its list, and a scalar is refused.
use Rattle.cps_textproto.proofs.Views.{values_of_messages}
use Rattle.cps_schema.proofs.Values.{listed_messages, listed_fault}
use Rattle.cps_schema.proofs.single.messages_of.Goals as goal

pub returns-in-Err-clause-err : goal.returns-in-Err-clause-err
returns-in-Err-clause-err c = λ w m. rw (c.in-Scalars.is, ← c.deref.ensures.value) (c.in-Err.ensures.err w m)

pub returns-in-Messages-clause-messages : goal.returns-in-Messages-clause-messages
returns-in-Messages-clause-messages c =
    rw (c.in-Messages.is, values_of_messages c.in-Messages.list, c.deref-in-Messages.ensures.value) (listed_messages c.in-Messages.list.items)

pub returns-in-Messages-clause-inner : goal.returns-in-Messages-clause-inner
returns-in-Messages-clause-inner c = λ w m.
    rw (c.in-Messages.is, values_of_messages c.in-Messages.list, c.deref-in-Messages.ensures.value) (listed_fault w m c.in-Messages.list.items)
