use Rattle.std.proofs.Common.{arith, ap, sym, ◌∙◌, get_or, set, length, length-set, length-append, [], ◌∷◌, ◌++◌, ◌+◌, ◌%◌, ◌<◌, subst, ℕ, List}
use Rattle.std.proofs.lemmas.List.{get_or_default}
use Rattle.cps_instance.specs.declared.term.Term.{Term}
use Rattle.cps_p_linear.specs.Chains.{AreChained}
use Rattle.cps_p_linear.proofs.Chaining.{chained_more}
use Rattle.cps_p_linear.proofs.places.Places.fill.Goals as goal

pub loop-place-preserved : goal.loop-place-preserved
loop-place-preserved c =
    let ts = c.args.terms.now in
    let heads = c.loop-place.self.heads.items in
    let nexts = c.loop-place.self.nexts.items in
    let h = c.remainder-head.result in
    let place = c.loop-place.place in
    let i = c.loop-place.invariant in
    let within : h < length heads = omega (arith, c.remainder-head.ensures.below, i.size) in
    let items = c.in_ok-push.ensures.items ∙ ap (λ (v : ℕ). nexts ++ v ∷ []) (c.index.ensures ∙ get_or_default heads h c.index.result.now 0 within) in
    record {
      size = length-set heads h (place + 1) ∙ i.size;
      count = omega (arith, ap (λ (l : List ℕ). length l) items, length-append nexts (get_or heads h 0 ∷ []), i.count);
      chained = subst (λ (ns : List ℕ). AreChained ts (length ts) (set heads h (place + 1)) ns (place + 1)) (sym items)
          (chained_more ts (length ts) heads nexts place h i.count within
          (λ d. ap (λ (t : Term). t.subject % length ts) (get_or_default ts place d _ c.loop-place-test.true) ∙ sym c.remainder-head.ensures.is) i.chained);
    }
