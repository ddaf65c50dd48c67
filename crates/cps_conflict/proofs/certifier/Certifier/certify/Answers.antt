-- Nothing is known at first, and at the end the conflict is false.
use Rattle.std.specs.Prelude.{All}
use Rattle.std.proofs.Common.{List, ap, sym, subst}
use Rattle.cps_literal.specs.declared.atom.Atom.{Atom}
use Rattle.cps_conflict.specs.declared.certifier.Antecedent.{Antecedent}
use Rattle.cps_conflict.specs.Leading.{IsFetched}
use Rattle.cps_conflict.specs.Antecedents.{AreForcedSoFar, IsRefuted}
use Rattle.cps_conflict.proofs.Certifying.{Forced-none, certified}
use Rattle.cps_conflict.proofs.certifier.Certifier.certify.Goals as goal

pub propagate-requires-clause-so_far : goal.propagate-requires-clause-so_far
propagate-requires-clause-so_far g c =
    let s = c.args.store.now in
    let made = IsFetched (g.E.Explain.makes c.args.explain.now s) s in
    let clause = c.args.self.now.clause.items in
    let known = c.args.self.now.known.items in
    subst (λ (fs : List Antecedent). AreForcedSoFar made s clause known fs) (sym c.new-found.ensures.items) (Forced-none made s clause known c.requires.size c.requires.none)

pub returns : goal.returns
returns g c =
    let s = c.args.store.now in
    let made = IsFetched (g.E.Explain.makes c.args.explain.now s) s in
    let clause = c.args.self.now.clause.items in
    let known = c.propagate.new.self.known.items in
    let found = c.propagate.new.found.items in
    let same = ap (λ v. v.items) c.in_ok-propagate.ensures.clause in
    certified made s c.args.conflict.now clause known found (subst (λ (us : List Atom). AreForcedSoFar made s us known found) same c.in_ok-propagate.ensures.so_far)
    (subst (λ (us : List Atom). All (IsRefuted s us known) c.args.conflict.now) same (c.are_refuted.ensures c.if-not-are_refuted.false))
