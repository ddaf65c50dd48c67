use Rattle.std.specs.Prelude.{Any}
use Rattle.std.proofs.Common.{List, subst}
use Rattle.cps_literal.specs.declared.atom.Atom.{Atom}
use Rattle.cps_literal.specs.Truth.{Implies}
use Rattle.cps_conflict.proofs.Certifying.{refuted_by_clause}
use Rattle.cps_conflict.proofs.certifier.Certifier.is_refuted.Goals as goal

pub returns-then-implies_some : goal.returns-then-implies_some
returns-then-implies_some c = λ yes.
    refuted_by_clause c.args.store.now c.args.self.now.clause.items c.args.self.now.known.items c.args.atom
    (subst (λ (us : List Atom). Any (Implies c.args.atom) us) c.as_slice.ensures.value (c.implies_some.ensures c.if-implies_some.true))
