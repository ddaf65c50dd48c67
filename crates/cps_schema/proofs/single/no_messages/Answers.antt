use Rattle.std.proofs.Common.{◌≡◌, [], refl, sym, ◌∙◌}
use Rattle.cps_textproto.proofs.Views.{values_of_messages}
use Rattle.cps_schema.proofs.Values.{none_first, refused_message, no_truth_message}
use Rattle.cps_schema.proofs.single.no_messages.Goals as goal

pub returns-in-None-clause-none : goal.returns-in-None-clause-none
returns-in-None-clause-none c =
    let none : c.deref.result.now ≡ [] = none_first c.deref.result.now (sym c.in-None.ensures.value) in
    values_of_messages c.args.messages.now ∙ rw (← c.deref.ensures.value, none) refl

pub returns-in-Some-clause-err : goal.returns-in-Some-clause-err
returns-in-Some-clause-err c = λ w type.
    rw c.wrong_kind.ensures
    (refused_message w type c.args.messages.now c.deref.result.now c.in-Some.nested.now c.deref.ensures.value c.in-Some.ensures.value)

pub returns-in-Some-clause-truths : goal.returns-in-Some-clause-truths
returns-in-Some-clause-truths c = λ w.
    rw c.wrong_kind.ensures
    (no_truth_message w c.args.messages.now c.deref.result.now c.in-Some.nested.now c.deref.ensures.value c.in-Some.ensures.value)
