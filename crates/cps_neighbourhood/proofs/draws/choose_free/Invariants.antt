-- The numbers so far are those of the sample, and the rest of it is still to be drawn.
use Rattle.std.proofs.Common.{◌≡◌, ◌≤◌, ◌-◌, ◌++◌}
use Rattle.cps_neighbourhood.specs.Drawing.{after_words, sample, sampled}
use Rattle.cps_neighbourhood.proofs.draws.choose_free.Given as goal

abbrev pub invariant-loop-number : goal.invariant-loop-number
invariant-loop-number l = record {
  room : l.wanted ≤ l.n - l.number;
  drawn : l.chosen.items ++ sampled (l.n - l.number) l.number l.wanted l.draws ≡ sample l.n l.count l.fn.draws;
  after : after_words (l.n - l.number) l.draws ≡ after_words l.n l.fn.draws;
}
