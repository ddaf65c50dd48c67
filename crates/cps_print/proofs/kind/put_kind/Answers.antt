-- Nothing, or the message of its literals.
use Rattle.cps_print.proofs.Lines.{none_left}
use Rattle.cps_print.proofs.kind.put_kind.Goals as goal

pub returns-in-Empty : goal.returns-in-Empty
returns-in-Empty c = rw c.in-Empty.is (none_left 1 _)

pub returns-in-AtMostOne : goal.returns-in-AtMostOne
returns-in-AtMostOne c = rw (c.in-AtMostOne.is, ← c.as_slice-in-AtMostOne.ensures) c.put_literals-in-AtMostOne.ensures

pub returns-in-ExactlyOne : goal.returns-in-ExactlyOne
returns-in-ExactlyOne c = rw (c.in-ExactlyOne.is, ← c.as_slice-in-ExactlyOne.ensures) c.put_literals-in-ExactlyOne.ensures
