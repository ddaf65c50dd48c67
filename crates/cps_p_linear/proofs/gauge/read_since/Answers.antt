use Rattle.std.proofs.Common.{arith, ap, sym, subst, ◌+◌, ◌<◌, ℕ, List, [], ◌∷◌, length, length-append, get_or}
use Rattle.cps_instance.specs.declared.term.Term.{Term}
use Rattle.cps_trail.specs.Trail.{IsLastOn}
use Rattle.cps_p_linear.proofs.Gauges.{last_more, no_term}
use Rattle.cps_p_linear.proofs.gauge.read_since.Goals as goal

pub loop-place-preserved : goal.loop-place-preserved
loop-place-preserved c =
    let ts = c.args.terms.now in
    let ns = c.loop-place.since.items in
    let place = c.loop-place.place in
    let i = c.loop-place.invariant in
    record {
      count = omega (arith, ap (λ (l : List ℕ). length l) c.in_ok-push.ensures.items, length-append ns (c.last_on.result ∷ []), i.count);
      last = subst (λ (l : List ℕ). (j : ℕ) (d : Term) → j < place + 1 → IsLastOn c.args.store.now.entries (get_or ts j d).subject (get_or l j 0)) (sym c.in_ok-push.ensures.items)
          (last_more c.args.store.now.entries ts ns place c.last_on.result no_term i.count c.loop-place-test.true c.last_on.ensures i.last);
    }

pub returns-clause-last : goal.returns-clause-last
returns-clause-last c = λ j d l. c.loop-place.invariant.last j d (omega (arith, l, c.loop-place-test.false))
