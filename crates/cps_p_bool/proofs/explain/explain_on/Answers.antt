-- What gives an atom by the sure literals or by the rest of a normal form gives it by the body.
use Rattle.std.proofs.Common.{Ok, ap}
use Rattle.cps_p_bool.specs.Bodies.{body_of}
use Rattle.cps_p_bool.proofs.LazyReasons.{IsExplanation-sure, IsExplanation-rest}
use Rattle.cps_p_bool.proofs.explain.explain_on.Goals as goal

pub returns-then-branch : goal.returns-then-branch
returns-then-branch c = λ _ us b fits n.
    let f = c.args.form.now in
    IsExplanation-sure c.args.past.now f.enforcement.now us b f.sure.now (body_of f.rest f.live.now) f.live.now fits n c.args.noted.atom c.explain_each.new.reason.items (c.in_ok-explain_each.ensures (ap Ok c.if-branch.true))

pub returns : goal.returns
returns c = λ is us b fits n.
    let f = c.args.form.now in
    IsExplanation-rest c.args.past.now f.enforcement.now us b f.sure.now (body_of f.rest f.live.now) f.live.now fits n c.args.noted.atom c.explain_given.new.reason.items (c.explain_given.ensures is)
