use Rattle.cps_instance.specs.declared.task.Body.TheVariants.{BoolOr, AtMostOne}
use Rattle.cps_p_bool.specs.declared.boolean.Kind.TheVariants as kinds
use Rattle.cps_p_bool.proofs.LazyReasons.{IsExplanation-kind, AsksForOne-or}
use Rattle.cps_p_bool.proofs.AtMostOne.{LimitsToOne-most}
use Rattle.cps_p_bool.proofs.explain.explain_given.Goals as goal

pub returns-in-Or : goal.returns-in-Or
returns-in-Or c = λ is. IsExplanation-kind c.args.past.now c.args.form.now.enforcement.now c.args.form.now.live.now c.args.form.now.rest kinds.Or c.args.noted.atom c.explain_last.new.reason.items c.in-Or.is (c.explain_last.ensures is (BoolOr c.args.form.now.live.now) (AsksForOne-or c.args.form.now.live.now))

pub returns-in-And : goal.returns-in-And
returns-in-And c = λ is. IsExplanation-kind c.args.past.now c.args.form.now.enforcement.now c.args.form.now.live.now c.args.form.now.rest kinds.And c.args.noted.atom c.explain_each.new.reason.items c.in-And.is (c.explain_each.ensures is)

pub returns-in-AtMostOne : goal.returns-in-AtMostOne
returns-in-AtMostOne c = λ is. IsExplanation-kind c.args.past.now c.args.form.now.enforcement.now c.args.form.now.live.now c.args.form.now.rest kinds.AtMostOne c.args.noted.atom c.explain_beside.new.reason.items c.in-AtMostOne.is (c.explain_beside.ensures is (AtMostOne c.args.form.now.live.now) (LimitsToOne-most c.args.form.now.live.now))

pub returns-in-ExactlyOne : goal.returns-in-ExactlyOne
returns-in-ExactlyOne c = λ is. IsExplanation-kind c.args.past.now c.args.form.now.enforcement.now c.args.form.now.live.now c.args.form.now.rest kinds.ExactlyOne c.args.noted.atom c.explain_one.new.reason.items c.in-ExactlyOne.is (c.explain_one.ensures is)

pub returns-in-Xor : goal.returns-in-Xor
returns-in-Xor c = λ is. IsExplanation-kind c.args.past.now c.args.form.now.enforcement.now c.args.form.now.live.now c.args.form.now.rest kinds.Xor c.args.noted.atom c.explain_odd.new.reason.items c.in-Xor.is (c.explain_odd.ensures is)
