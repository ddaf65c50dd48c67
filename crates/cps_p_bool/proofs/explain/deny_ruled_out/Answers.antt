use Rattle.cps_instance.specs.declared.task.Body.TheVariants.{BoolOr, AtMostOne}
use Rattle.cps_p_bool.specs.declared.boolean.Kind.TheVariants as kinds
use Rattle.cps_p_bool.proofs.LazyReasons.{IsRuledOut-kind, AsksForOne-or}
use Rattle.cps_p_bool.proofs.AtMostOne.{LimitsToOne-most}
use Rattle.cps_p_bool.proofs.explain.deny_ruled_out.Goals as goal

pub returns-in-Or : goal.returns-in-Or
returns-in-Or c = λ is. IsRuledOut-kind c.args.past.now c.args.form.now.enforcement.now c.args.form.now.live.now c.args.form.now.rest kinds.Or c.deny_none.new.reason.items c.in-Or.is (c.deny_none.ensures is (BoolOr c.args.form.now.live.now) (AsksForOne-or c.args.form.now.live.now))

pub returns-in-And : goal.returns-in-And
returns-in-And c = λ is. IsRuledOut-kind c.args.past.now c.args.form.now.enforcement.now c.args.form.now.live.now c.args.form.now.rest kinds.And c.deny_failed.new.reason.items c.in-And.is (c.deny_failed.ensures is)

pub returns-in-AtMostOne : goal.returns-in-AtMostOne
returns-in-AtMostOne c = λ is. IsRuledOut-kind c.args.past.now c.args.form.now.enforcement.now c.args.form.now.live.now c.args.form.now.rest kinds.AtMostOne c.deny_two.new.reason.items c.in-AtMostOne.is (c.deny_two.ensures is (AtMostOne c.args.form.now.live.now) (LimitsToOne-most c.args.form.now.live.now))

pub returns-in-ExactlyOne : goal.returns-in-ExactlyOne
returns-in-ExactlyOne c = λ is. IsRuledOut-kind c.args.past.now c.args.form.now.enforcement.now c.args.form.now.live.now c.args.form.now.rest kinds.ExactlyOne c.deny_one.new.reason.items c.in-ExactlyOne.is (c.deny_one.ensures is)

pub returns-in-Xor : goal.returns-in-Xor
returns-in-Xor c = λ is. IsRuledOut-kind c.args.past.now c.args.form.now.enforcement.now c.args.form.now.live.now c.args.form.now.rest kinds.Xor c.deny_even.new.reason.items c.in-Xor.is (c.deny_even.ensures is)
