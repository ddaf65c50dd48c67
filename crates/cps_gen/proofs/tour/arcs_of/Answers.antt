use Rattle.std.specs.Prelude.{filter}
use Rattle.std.proofs.Common.{◌≡◌, ℕ, true, false, ◌+◌, ◌*◌, ◌/◌, ◌%◌, ℤ, pos, [], ◌∷◌, length, Vec, Global, arith, ap, sym, ◌∙◌}
use Rattle.std.proofs.lemmas.Bool.{ne_eqb, eq-eqb, not_from_true, not_from_false}
use Rattle.std.proofs.lemmas.Int.{ints}
use Rattle.std.proofs.lemmas.List.{length-append}
use Rattle.std.proofs.lemmas.List.FromFn.{length-map-range_with_len}
use Rattle.cps_gen.specs.Draws.{draws_of, after_words}
use Rattle.cps_gen.specs.Parts.{first}
use Rattle.cps_gen.specs.Tour.{is_arc, cost, costs, arcs}
use Rattle.cps_gen.proofs.Drawn.{none_drawn, draw_is, draw_more}
use Rattle.cps_gen.proofs.Lists.{made_more, kept_more, kept_same, passes, fails, few_pass}
use Rattle.cps_gen.proofs.tour.arcs_of.Goals as goal
use Rattle.cps_gen.proofs.tour.arcs_of.Goals.{then-tail-head+in_ok-push+in_ok-push-2+in_ok-push-3, else-tail-head}

pub loop-pair-init : goal.loop-pair-init
loop-pair-init c =
    record {
      draws = c.draws_of-draws.ensures ∙ sym (none_drawn (draws_of c.args.seed 3));
      tails = c.new-tails.ensures.items;
      heads = c.new-heads.ensures.items;
      costs = c.new-costs.ensures.items;
    }

pub loop-pair-preserved : goal.loop-pair-preserved
loop-pair-preserved c =
    let n = c.args.size in
    let p = c.loop-pair.pair in
    let g = draws_of c.args.seed 3 in
    let before = c.loop-pair.invariant in
    let count = length (filter (is_arc n) (first p)) in
    elim c.if-tail-head.branch [
      | then-tail-head+in_ok-push+in_ok-push-2+in_ok-push-3 w ↦
          let differ : is_arc n p ≡ true = not_from_false _ (ne_eqb _ _ w.if-tail-head.true) in
          let more : length (filter (is_arc n) (first (p + 1))) ≡ count + 1 =
          ap length (passes (is_arc n) p differ) ∙ length-append (filter (is_arc n) (first p)) (p ∷ []) in
          let is = draw_is g _ count 100 w.below.result before.draws w.below.ensures.value in
          record {
            draws = w.draws-is ∙ draw_more g _ w.below.new.draws count _ before.draws w.below.ensures.after more;
            tails = ap (λ (v : Vec ℤ Global). v.items) w.tails-is ∙ w.in_ok-push.ensures.items ∙ kept_more (is_arc n) (λ k. pos (k / n)) p [] c.loop-pair.tails.items _ differ (omega (arith, ints)) before.tails;
            heads = ap (λ (v : Vec ℤ Global). v.items) w.heads-is ∙ w.in_ok-push-2.ensures.items ∙ kept_more (is_arc n) (λ k. pos (k % n)) p [] c.loop-pair.heads.items _ differ (omega (arith, ints)) before.heads;
            costs = ap (λ (v : Vec ℤ Global). v.items) w.costs-is ∙ w.in_ok-push-3.ensures.items
                ∙ made_more (λ a. pos (cost g a)) count [] c.loop-pair.costs.items _ (omega (arith, ints, w.from.ensures, is)) before.costs
                ∙ ap (costs g) (sym more);
          }
      | else-tail-head w ↦
          let same : is_arc n p ≡ false = not_from_true _ (eq-eqb _ _ w.if-tail-head.false) in
          let still = ap length (sym (fails (is_arc n) p same)) in
          record {
            draws = w.draws-is ∙ before.draws ∙ ap (after_words g) still;
            tails = ap (λ (v : Vec ℤ Global). v.items) w.tails-is ∙ kept_same (is_arc n) (λ k. pos (k / n)) p [] c.loop-pair.tails.items same before.tails;
            heads = ap (λ (v : Vec ℤ Global). v.items) w.heads-is ∙ kept_same (is_arc n) (λ k. pos (k % n)) p [] c.loop-pair.heads.items same before.heads;
            costs = ap (λ (v : Vec ℤ Global). v.items) w.costs-is ∙ before.costs ∙ ap (costs g) still;
          }
    ]

pub returns-clause-count : goal.returns-clause-count
returns-clause-count c =
    let n = c.args.size in
    let g = draws_of c.args.seed 3 in
    let all : c.loop-pair.pair ≡ n * n = omega arith in
    let long : length c.loop-pair.costs.items ≡ length (arcs n) =
    ap length c.loop-pair.invariant.costs ∙ length-map-range_with_len (λ a. pos (cost g a)) 0 _
    ∙ ap (λ (k : ℕ). length (filter (is_arc n) (first k))) all in
    omega (arith, long)

pub returns-clause-few : goal.returns-clause-few
returns-clause-few c =
    let n = c.args.size in
    let g = draws_of c.args.seed 3 in
    let all : c.loop-pair.pair ≡ n * n = omega arith in
    let long : length c.loop-pair.costs.items ≡ length (filter (is_arc n) (first c.loop-pair.pair)) =
    ap length c.loop-pair.invariant.costs ∙ length-map-range_with_len (λ a. pos (cost g a)) 0 _ in
    omega (arith, long, few_pass (is_arc n) c.loop-pair.pair)
