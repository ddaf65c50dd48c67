-- What is below a whole number is at most the one before it.
use Rattle.std.proofs.Common.{rules, w64, FitsSigned}
use Rattle.cps_reform.proofs.Words.{limit-all, limit-below}
use Rattle.cps_reform.proofs.below.limit.Goals as goal

pub returns-in-At-clause-all : goal.returns-in-At-clause-all
returns-in-At-clause-all c =
    let fg : FitsSigned w64 c.args.ceiling.greatest = search rules in
    let fr : FitsSigned w64 c.min.result = search rules in
    limit-all c.args.ceiling.z c.args.ceiling.greatest c.in-At.value c.min.result c.in-At.is c.requires.z fg fr c.min.ensures.value

pub returns-in-At-clause-below : goal.returns-in-At-clause-below
returns-in-At-clause-below c =
    let fg : FitsSigned w64 c.args.ceiling.greatest = search rules in
    let fr : FitsSigned w64 c.min.result = search rules in
    limit-below c.args.ceiling.z c.args.ceiling.greatest c.in-At.value c.min.result c.in-At.is c.requires.z fg fr c.min.ensures.value
