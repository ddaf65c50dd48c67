-- A node inside and one outside are on the circuit, and the arcs that are taken do not lead out.
use Rattle.std.proofs.Common.{arith, Ok, ap, sym, subst, ◌∙◌, ◌≡◌, ◌≢◌, ℕ, slice_index}
use Rattle.cps_p_circuit.specs.Clashes.{AreChosen}
use Rattle.cps_p_circuit.proofs.Clashes.{cut_clash, tour_grows, chosen_grows, least}
use Rattle.cps_p_circuit.proofs.DistinctAnswers.{no_not_yes}
use Rattle.cps_p_circuit.proofs.graph.Graph.cut.Goals as goal

pub push_left-requires : goal.push_left-requires
push_left-requires c = omega (arith, c.if-via-len.false)

pub returns-then-not-branch-3 : goal.returns-then-not-branch-3
returns-then-not-branch-3 c = λ e. no_not_yes _ e

pub returns : goal.returns
returns c = λ ok.
    (let from = c.args.self.now.from.items in
    let to = c.args.self.now.to.items in
    let via = c.args.via.now in
    let inside : slice_index via (slice_index from c.args.inner.arc) ≢ 0 = λ e. c.if-via-inside-eq0.false (ap (slice_index via) c.tail-inside.ensures.is ∙ e) in
    let outside : slice_index via (slice_index from c.args.outer.arc) ≡ 0 = ap (slice_index via) (sym c.tail-outside.ensures.is) ∙ c.if-via-outside-ne0.false in
    let last = c.in_ok-push_left.ensures.grows in
    let third = c.in_ok-push_chosen.ensures.grows in
    let second = c.in_ok-push_witness-2.ensures.grows in
    cut_clash c.args.self.now.nodes.items from to via c.args.inner.arc c.args.outer.arc _ c.args.self.now.numbered (record {
      inner = tour_grows from to (least from to) _ _ _ (λ p h. last p (third p (second p h))) (c.in_ok-push_witness.ensures.sure (ap Ok c.if-not-branch.false));
      outer = tour_grows from to (least from to) _ _ _ (λ p h. last p (third p h)) (c.in_ok-push_witness-2.ensures.sure (ap Ok c.if-not-branch-2.false));
      inside = inside;
      outside = outside;
      chosen = chosen_grows from to (least from to) via _ _ _ last
          (subst (λ (n : ℕ). AreChosen from to (least from to) via c.push_chosen.new.used.items n) (omega arith) (c.in_ok-push_chosen.ensures.chosen (ap Ok c.if-not-branch-3.false)));
      left = c.in_ok-push_left.ensures.left;
    }))
