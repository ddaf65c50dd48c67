-- One more draw of a generator.
use Rattle.std.proofs.Common.{◌≡◌, ℕ, suc, ◌+◌, ◌<◌, ◌≤◌, ◌%◌, arith, refl, ap, ◌∙◌}
use Rattle.rand_pcg.specs.Lcg.{Lcg}
use Rattle.cps_gen.specs.Draws.{next_word, after_word, after_words, drawn}

pub none_drawn : (draws : Lcg) → after_words draws 0 ≡ draws
unfolding after_words
none_drawn draws = refl

pub draw_is : (draws now : Lcg) (k n word : ℕ) → now ≡ after_words draws k → word ≡ next_word now % n → word ≡ drawn draws k n
unfolding drawn
draw_is draws now k n word at is = is ∙ ap (λ d. next_word d % n) at

pub draw_more : (draws now next : Lcg) (k j : ℕ) → now ≡ after_words draws k → next ≡ after_word now → j ≡ k + 1 → next ≡ after_words draws j
unfolding after_words
draw_more draws now next k j at is one =
    let on : suc k ≡ j = omega arith in
    is ∙ ap after_word at ∙ ap (after_words draws) on

pub drawn_below : (draws : Lcg) (k n : ℕ) → 0 < n → drawn draws k n < n
unfolding drawn
drawn_below draws k n some = omega arith

pub one_to : (draws : Lcg) (k n : ℕ) → 0 < n → 1 + drawn draws k n ≤ n
one_to draws k n some = omega (arith, drawn_below draws k n some)
