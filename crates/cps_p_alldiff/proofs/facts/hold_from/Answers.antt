use Rattle.std.proofs.Common.{ℕ, ◌≡◌, ◌+◌, ◌∙◌, ◌++◌, ◌∷◌, [], List, refl, w64, rules, arith, sym, ap, subst, get_or, FitsSigned}
use Rattle.std.proofs.lemmas.Int.{to_z-of_z}
use Rattle.cps_literal.specs.declared.atom.Atom.{Atom}
use Rattle.cps_p_alldiff.proofs.FactPositions.{HoldsSoFar, holds_begun, holds_skip, holds_more, holds_all, at_least, at_most}
use Rattle.cps_p_alldiff.proofs.facts.hold_from.Goals as goal
use Rattle.cps_p_alldiff.proofs.facts.hold_from.Goals.{then-is_other+then-was_within+in_ok-push+in_ok-push-2, else-is_other}

pub loop-place-init : goal.loop-place-init
loop-place-init c = holds_begun c.args.past.now c.args.subjects.now c.args.crowd.now.apart c.args.crowd.now.hall c.args.crowd.now.needed c.args.crowd.now.needed c.args.from c.clear.new.self.items c.clear.ensures.items

pub loop-place-preserved : goal.loop-place-preserved
loop-place-preserved c =
    let s = c.args.past.now in
    let is = c.args.subjects.now in
    let h = c.args.crowd.now.hall in
    let k = c.loop-place.place in
    let l = c.loop-place-test.true in
    let us = c.loop-place.facts.items in
    let left = c.loop-place.left in
    let i = get_or is k 0 in
    let fl : FitsSigned w64 h.low = search rules in
    let fh : FitsSigned w64 h.high = search rules in
    elim c.if-is_other.branch [
      | then-is_other+then-was_within+in_ok-push+in_ok-push-2 w ↦
          let one = rw (to_z-of_z w64 h.low fl) at w.in_ok-push.ensures.items in
          let two = rw (to_z-of_z w64 h.high fh) at w.in_ok-push-2.ensures.items in
          let pushed : c.if-is_other.facts.items ≡ (us ++ at_least i h.low ∷ []) ++ at_most i h.high ∷ [] = ap (λ v. v.items) w.facts-is ∙ two ∙ ap (λ (vs : List Atom). vs ++ at_most i h.high ∷ []) one in
          let some = c.if-left-eq0.false in
          let less : left ≡ c.if-is_other.left + 1 = let e = w.left-is in omega arith in
          holds_more s is c.args.crowd.now.apart h c.args.crowd.now.needed left k us c.if-is_other.left i h.low h.high c.if-is_other.facts.items l less refl refl refl pushed (c.requires.subjects k 0 l) c.requires.range (sym c.is_other.ensures ∙ w.if-is_other.true)
          (w.was_within.ensures w.if-was_within.true) c.loop-place.invariant
      | else-is_other w ↦
          let skipped = holds_skip s is c.args.crowd.now.apart h c.args.crowd.now.needed left k us l c.loop-place.invariant in
          subst (λ (vs : List Atom). HoldsSoFar s is c.args.crowd.now.apart h c.args.crowd.now.needed c.if-is_other.left (k + 1) vs) (ap (λ v. v.items) (sym w.facts-is))
          (subst (λ (n : ℕ). HoldsSoFar s is c.args.crowd.now.apart h c.args.crowd.now.needed n (k + 1) us) (sym w.left-is) skipped)
    ]

pub returns-then-left-eq0 : goal.returns-then-left-eq0
returns-then-left-eq0 c yes' = holds_all c.args.past.now c.args.subjects.now c.args.crowd.now.apart c.args.crowd.now.hall c.args.crowd.now.needed c.loop-place.left c.loop-place.place c.loop-place.facts.items c.if-left-eq0.true c.loop-place.invariant

pub returns : goal.returns
returns c yes' =
    let none : c.loop-place.left ≡ 0 = search rules in
    holds_all c.args.past.now c.args.subjects.now c.args.crowd.now.apart c.args.crowd.now.hall c.args.crowd.now.needed c.loop-place.left c.loop-place.place c.loop-place.facts.items none c.loop-place.invariant
