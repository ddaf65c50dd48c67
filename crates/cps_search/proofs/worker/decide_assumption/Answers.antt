use Rattle.std.proofs.Common.{inl, sym, subst}
use Rattle.cps_literal.specs.declared.atom.Atom.{Atom}
use Rattle.cps_branch.specs.Choice.{IsUndecided}
use Rattle.cps_search.proofs.worker.decide_assumption.Goals as goal

pub decide-requires-clause-undecided : goal.decide-requires-clause-undecided
decide-requires-clause-undecided g c = subst (λ (u : Atom). IsUndecided c.args.frame.now.store u) (sym c.in-Some.ensures.some.is) c.in-Some.ensures.some.is_open.left_open

pub decide-requires-clause-assumptions : goal.decide-requires-clause-assumptions
decide-requires-clause-assumptions g c = inl c.in-Some.ensures.some
