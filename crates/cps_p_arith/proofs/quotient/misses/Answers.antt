use Rattle.std.proofs.Common.{rules, true≢false, sym, ◌∙◌, ◌≤ℤ◌, FitsSigned, arith}
use Rattle.std.proofs.lemmas.Int.{ints, to_z-of_z}
use mir.Syntax.{w128}
use Rattle.cps_p_arith.proofs.quotient.misses.Goals as goal
use Rattle.cps_p_arith.proofs.quotient.misses.Goals.{then-divisor, else-divisor}

pub returns-then-all_above-clause-sound : goal.returns-then-all_above-clause-sound
returns-then-all_above-clause-sound c = λ t n d q r hn hd h hq. elim c.if-divisor.branch [
  | then-divisor w ↦ (let e = w.if-divisor.true in let from = hd.from in let to = hd.to in absurd (omega (arith, ints)))
  | else-divisor w ↦ (let s = w.all_above.ensures.sound (rw w.value-is at t) n d q r hn.from hd h in let to = hq.to in absurd (omega (arith, ints)))
]

pub returns-else-all_above-clause-sound : goal.returns-else-all_above-clause-sound
returns-else-all_above-clause-sound c = λ t n d q r hn hd h hq. let s = c.all_below.ensures.sound t n d q r hn.to hd h in let from = hq.from in absurd (omega (arith, ints))

pub returns-else-all_above-clause-exact : goal.returns-else-all_above-clause-exact
returns-else-all_above-clause-exact c = λ f. elim c.if-divisor.branch [
  | then-divisor w ↦ absurd (true≢false (sym w.if-divisor.true ∙ sym w.value-is ∙ c.if-all_above.false))
  | else-divisor w ↦ (
      let l = c.args.divisor.low in
      let h = c.args.divisor.high in
      let fl : FitsSigned w128 l = search rules in
      let fh : FitsSigned w128 h = search rules in
      let less = rw (to_z-of_z w128 h fh, to_z-of_z w128 l fl) at w.if-divisor.false in
      let order : l ≤ℤ h = grind (arith, ints, less) in
      record { low = w.all_above.ensures.exact (rw w.value-is at c.if-all_above.false) order; high = c.all_below.ensures.exact f order })
]
