use Rattle.std.specs.Prelude.{All}
use Rattle.std.proofs.Common.{List, subst, arith}
use Rattle.std.proofs.lemmas.List.{take_all}
use Rattle.std.proofs.lemmas.List.Elements.{All-more}
use Rattle.cps_literal.specs.declared.atom.Atom.{Atom}
use Rattle.cps_conflict.specs.Antecedents.{IsRefuted}
use Rattle.cps_conflict.proofs.Uniting.{none}
use Rattle.cps_conflict.proofs.Certifying.{none_taken}
use Rattle.cps_conflict.proofs.certifier.Certifier.are_refuted.Goals as goal

pub loop-atom-init : goal.loop-atom-init
loop-atom-init c = none_taken (IsRefuted c.args.store.now c.args.self.now.clause.items c.args.self.now.known.items) c.args.conflict.now

pub loop-atom-preserved : goal.loop-atom-preserved
loop-atom-preserved c =
    All-more (IsRefuted c.args.store.now c.args.self.now.clause.items c.args.self.now.known.items) c.args.conflict.now c.loop-atom.atom-index none c.loop-atom-test.true c.loop-atom.invariant (c.is_refuted.ensures c.if-not-is_refuted.false)

pub returns : goal.returns
returns c = λ yes.
    subst (λ (us : List Atom). All (IsRefuted c.args.store.now c.args.self.now.clause.items c.args.self.now.known.items) us) (take_all c.loop-atom.atom-index c.args.conflict.now (omega arith)) c.loop-atom.invariant
