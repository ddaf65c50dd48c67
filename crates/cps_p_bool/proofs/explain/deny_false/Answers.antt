use Rattle.std.proofs.Common.{List, subst, ap, Ok}
use Rattle.std.proofs.lemmas.List.{take_all}
use Rattle.cps_literal.specs.declared.atom.Atom.{Atom}
use Rattle.cps_p_bool.proofs.LazyReasons.{IsDeniedSoFar, denied_none, denied_more}
use Rattle.cps_p_bool.proofs.explain.deny_false.Goals as goal

pub loop-atom-init : goal.loop-atom-init
loop-atom-init c = denied_none c.args.past.now c.args.reason.now.items

pub loop-atom-preserved : goal.loop-atom-preserved
loop-atom-preserved c = denied_more _ _ _ _ c.args.atoms.now c.loop-atom.atom-index _ c.loop-atom-test.true c.loop-atom.invariant (c.in_ok-deny_if_false.ensures.denies (ap Ok c.if-not-branch.false)) (c.in_ok-deny_if_false.ensures.false_then (ap Ok c.if-not-branch.false))

pub returns : goal.returns
returns c =
    let all : IsDeniedSoFar c.args.past.now c.args.reason.now.items c.loop-atom.reason.items c.args.atoms.now = subst (λ (l : List Atom). IsDeniedSoFar c.args.past.now c.args.reason.now.items c.loop-atom.reason.items l) (take_all c.loop-atom.atom-index c.args.atoms.now c.loop-atom-test.false) c.loop-atom.invariant in
    record { denies = λ _. all.denies; all_false = λ _. all.all_false }
