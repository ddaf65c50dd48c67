use Rattle.std.proofs.Common.{refl, arith}
use Rattle.cps_clauses.proofs.ChosenWatches.{short_settled}
use Rattle.cps_clauses.proofs.choose_watches.propagate_short.Goals as goal

pub returns-then-len-eq0-clause-settled : goal.returns-then-len-eq0-clause-settled
returns-then-len-eq0-clause-settled c = record { some_atom = λ some. absurd (omega (arith, some, c.len.ensures, c.if-len-eq0.true)); no_atom = λ _. refl }

pub returns-clause-settled : goal.returns-clause-settled
returns-clause-settled c =
    short_settled c.propagate_unit.result c.args.store.now c.propagate_unit.new.store c.args.atoms.now (omega (arith, c.len.ensures, c.if-len-eq0.false)) c.propagate_unit.ensures.settled
