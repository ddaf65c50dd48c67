-- Each node before the one that is looked at is marked by an arc that is taken from there, where it is marked by one.
use Rattle.std.proofs.Common.{arith, ap, sym, ◌∙◌, ◌-◌, ◌≡◌, ◌<◌, ◌≤◌, slice_index, length, refl}
use Rattle.cps_p_circuit.specs.Clashes.{taking}
use Rattle.cps_p_circuit.proofs.Clashes.{lifted, chosen_more, least}
use Rattle.cps_p_circuit.proofs.Walks.{chosen_less, chosen_all}
use Rattle.cps_p_circuit.proofs.DistinctAnswers.{no_not_yes}
use Rattle.cps_p_circuit.proofs.graph.Graph.push_chosen.Goals as goal

pub loop-v-preserved-then-via-v-lt2 : goal.loop-v-preserved-then-via-v-lt2
loop-v-preserved-then-via-v-lt2 c =
    let from = c.args.self.now.from.items in
    let to = c.args.self.now.to.items in
    record {
      grows = c.loop-v.invariant.grows;
      chosen = chosen_less from to (least from to) c.args.via.now c.loop-v.used.items c.loop-v.v c.if-via-v-lt2.true c.loop-v.invariant.chosen;
    }

pub returns-then-k-arcs-clause-chosen : goal.returns-then-k-arcs-clause-chosen
returns-then-k-arcs-clause-chosen c = λ e. no_not_yes _ e

pub returns-then-via-target-eq0-clause-chosen : goal.returns-then-via-target-eq0-clause-chosen
returns-then-via-target-eq0-clause-chosen c = λ e. no_not_yes _ e

pub loop-v-preserved : goal.loop-v-preserved
loop-v-preserved c =
    let from = c.args.self.now.from.items in
    let to = c.args.self.now.to.items in
    let via = c.args.via.now in
    let v = c.loop-v.v in
    let k = slice_index via v - 2 in
    let within : k < least from to = omega (arith, c.arcs.ensures, c.if-k-arcs.false) in
    let origin : slice_index from k ≡ v = sym c.tail.ensures.is ∙ c.if-tail-v.false in
    let at : slice_index via (slice_index to k) ≡ slice_index via c.head-target.result = ap (slice_index via) (sym c.head-target.ensures.is) in
    let target : 1 ≤ slice_index via (slice_index to k) = omega (arith, at, c.if-via-target-eq0.false) in
    record {
      grows = λ p h. lifted _ _ (taking k) p c.in_ok-push.ensures.items (c.loop-v.invariant.grows p h);
      chosen = chosen_more from to (least from to) via _ _ v k c.in_ok-push.ensures.items c.loop-v.invariant.chosen refl within origin target;
    }

pub returns-clause-chosen : goal.returns-clause-chosen
returns-clause-chosen c = λ _.
    (let from = c.args.self.now.from.items in
    let to = c.args.self.now.to.items in
    chosen_all from to (least from to) c.args.via.now c.loop-v.used.items (length c.args.via.now) c.loop-v.v c.loop-v-test.false c.loop-v.invariant.chosen)
