use Rattle.std.specs.Prelude.{All}
use Rattle.std.proofs.Common.{◌≡◌, ◌⊎◌, List, subst, arith}
use Rattle.std.proofs.lemmas.List.{take_all}
use Rattle.std.proofs.lemmas.List.Elements.{All-more}
use Rattle.cps_literal.specs.declared.atom.Atom.{Atom}
use Rattle.cps_conflict.specs.Antecedents.{IsRefuted}
use Rattle.cps_conflict.proofs.Uniting.{none}
use Rattle.cps_conflict.proofs.Certifying.{none_taken}
use Rattle.cps_conflict.proofs.certifier.Certifier.is_unit.Goals as goal

pub loop-atom-init : goal.loop-atom-init
loop-atom-init c = none_taken (λ (u : Atom). (u ≡ c.args.implied) ⊎ IsRefuted c.args.store.now c.args.self.now.clause.items c.args.self.now.known.items u) c.args.reason.now

pub loop-atom-preserved : goal.loop-atom-preserved
loop-atom-preserved c =
    All-more (λ (u : Atom). (u ≡ c.args.implied) ⊎ IsRefuted c.args.store.now c.args.self.now.clause.items c.args.self.now.known.items u) c.args.reason.now c.loop-atom.atom-index none c.loop-atom-test.true c.loop-atom.invariant
    (c.is_no_obstacle.ensures c.if-not-is_no_obstacle.false)

pub returns : goal.returns
returns c = λ yes.
    subst (λ (us : List Atom). All (λ (u : Atom). (u ≡ c.args.implied) ⊎ IsRefuted c.args.store.now c.args.self.now.clause.items c.args.self.now.known.items u) us) (take_all c.loop-atom.atom-index c.args.reason.now (omega arith)) c.loop-atom.invariant
