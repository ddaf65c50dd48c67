-- None of the decisions before the place is open, and none at all where levels came after them.
use Rattle.std.proofs.Common.{refl, arith}
use Rattle.cps_literal.specs.declared.atom.Atom.{Atom}
use Rattle.cps_branch.specs.Choice.{IsUndecided}
use Rattle.cps_neighbourhood.specs.Standing.{begun}
use Rattle.cps_neighbourhood.proofs.FirstDecisions.{first_decision, passed_all}
use Rattle.cps_neighbourhood.proofs.RoundAgreement.{none_open_now, way_placed}
use Rattle.cps_neighbourhood.proofs.round.Progress.next_open.Goals as goal

pub returns-then-max-level-clause-none : goal.returns-then-max-level-clause-none
returns-then-max-level-clause-none c = λ _. none_open_now c.args.self.now.decisions.items c.args.store.now (begun c.args.self.now) c.entries.ensures.sound (c.requires.settled (omega (arith, c.if-max-level.true, c.max.ensures, c.level.ensures.is)))

pub returns-then-max-level-clause-under_way : goal.returns-then-max-level-clause-under_way
returns-then-max-level-clause-under_way c =
    let none = none_open_now c.args.self.now.decisions.items c.args.store.now (begun c.args.self.now) c.entries.ensures.sound (c.requires.settled (omega (arith, c.if-max-level.true, c.max.ensures, c.level.ensures.is))) in
    way_placed c.args.self.now _ c.args.store.now refl refl refl refl (λ j d l m is_open. none j d m is_open) c.requires

pub returns-then-self-len-clause-some : goal.returns-then-self-len-clause-some
returns-then-self-len-clause-some c =
    let ts = c.args.self.now.decisions.items in
    let f = c.first_open-self.ensures in (
      first_decision c.args.store.now ts c.as_slice.result.now c.args.self.now.place c.first_open-self.result c.index.result.now c.as_slice.ensures.value (omega (arith, c.if-self-len.true, c.len.ensures, c.args.self.now.decisions.ok.0)) c.index.ensures c.requires.passed f.passed f.here,
      omega (arith, c.if-max-level.false, c.max.ensures, c.level.ensures.is, c.requires.within),
    )

pub returns-then-self-len-clause-under_way : goal.returns-then-self-len-clause-under_way
returns-then-self-len-clause-under_way c =
    way_placed c.args.self.now _ c.args.store.now refl refl refl refl
    (passed_all (λ (t : Atom). IsUndecided c.args.store.now t) c.args.self.now.decisions.items c.as_slice.result.now c.args.self.now.place c.first_open-self.result c.as_slice.ensures.value c.requires.passed c.first_open-self.ensures.passed) c.requires
