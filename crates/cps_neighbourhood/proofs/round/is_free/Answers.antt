use Rattle.std.proofs.Common.{arith}
use Rattle.std.proofs.lemmas.Bool.Decides.{nat_tests}
use Rattle.cps_neighbourhood.proofs.FreeVariables.{is_here, is_past}
use Rattle.cps_neighbourhood.proofs.round.is_free.Goals as goal

pub returns-then-place-free-clause-is : goal.returns-then-place-free-clause-is
returns-then-place-free-clause-is c = is_here c.args.free.now c.args.place c.args.variable c.requires.rising c.requires.before c.requires.after (omega arith)

pub returns-else-place-free-clause-is : goal.returns-else-place-free-clause-is
returns-else-place-free-clause-is c =
    let past = is_past c.args.free.now c.args.place c.args.variable c.requires.rising c.requires.before c.requires.after c.if-place-free.false in
    grind (arith, nat_tests, past)
