-- What rules out the sure literals or the rest of a normal form rules out the body.
use Rattle.std.proofs.Common.{Ok, ap}
use Rattle.cps_p_bool.specs.Bodies.{body_of}
use Rattle.cps_p_bool.proofs.LazyReasons.{IsRuledOut-sure, IsRuledOut-rest}
use Rattle.cps_p_bool.proofs.explain.deny_body.Goals as goal

pub returns-then-branch : goal.returns-then-branch
returns-then-branch c = λ _ us b fits n.
    let f = c.args.form.now in
    IsRuledOut-sure c.args.past.now f.enforcement.now us b f.sure.now (body_of f.rest f.live.now) f.live.now fits n c.deny_failed.new.reason.items (c.in_ok-deny_failed.ensures (ap Ok c.if-branch.true))

pub returns : goal.returns
returns c = λ is us b fits n.
    let f = c.args.form.now in
    IsRuledOut-rest c.args.past.now f.enforcement.now us b f.sure.now (body_of f.rest f.live.now) f.live.now fits n c.deny_ruled_out.new.reason.items (c.deny_ruled_out.ensures is)
