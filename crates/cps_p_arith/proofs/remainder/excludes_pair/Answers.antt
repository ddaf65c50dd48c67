use Rattle.std.proofs.Common.{rules, pos, ◌≡◌, ◌∙◌, inl, inr, sym, ap, nat_eq, true≢false, arith}
use Rattle.std.specs.Prelude.{int_div, int_rem}
use Rattle.std.proofs.lemmas.Int.{ints}
use Rattle.cps_p_arith.proofs.Dividing.{is_divided}
use Rattle.cps_p_arith.proofs.Leaving.{may_leave_fixed}
use Rattle.cps_p_arith.proofs.Pairs.{one_value}
use Rattle.cps_p_arith.proofs.remainder.excludes_pair.Goals as goal
use Rattle.cps_p_arith.proofs.remainder.excludes_pair.Goals.{then-divisor-eq0, else-divisor-eq0}

pub returns-then-is_fixed-2-clause-sound : goal.returns-then-is_fixed-2-clause-sound
returns-then-is_fixed-2-clause-sound c = λ t q n d hq hn hd ne e.
    let fn = c.is_fixed.ensures.0 (search rules) in
    let fd = c.is_fixed-then-is_fixed.ensures.0 (search rules) in
    let dn : n ≡ c.args.number.low = one_value c.args.number.low c.args.number.high n fn hn in
    let dd : d ≡ c.args.divisor.low = one_value c.args.divisor.low c.args.divisor.high d fd hd in
    elim c.if-divisor-eq0.branch [
      | then-divisor-eq0 w ↦ absurd (ne (dd ∙ (let z = w.if-divisor-eq0.true in let y : c.args.divisor.low ≡ pos 0 = omega (arith, ints) in y)))
      | else-divisor-eq0 w ↦ (
          let value : q ≡ int_rem c.args.number.low c.args.divisor.low = rw (dn, dd) at e in
          let from = w.rest_of.ensures.from in
          let to = w.rest_of.ensures.to in
          let low = hq.from in
          let high = hq.to in
          elim (w.is_apart.ensures.apart (rw w.result-is at t)) [ inl o ↦ absurd (omega (arith, ints)) | inr o ↦ absurd (omega (arith, ints)) ])
    ]

pub returns-clause-sound : goal.returns-clause-sound
returns-clause-sound c = λ t q n d hq hn hd ne e. c.misses_all.ensures.sound t n d (int_div n d) q hn hd (rw e (is_divided n d ne)) hq

pub returns-then-is_fixed-2-clause-possible : goal.returns-then-is_fixed-2-clause-possible
returns-then-is_fixed-2-clause-possible c = λ f o n.
    let fn = c.is_fixed.ensures.0 (search rules) in
    let fd = c.is_fixed-then-is_fixed.ensures.0 (search rules) in
    elim c.if-divisor-eq0.branch [
      | then-divisor-eq0 w ↦ absurd (true≢false (sym (ap (λ n. nat_eq n 0) w.if-divisor-eq0.true) ∙ (sym w.result-is ∙ f)))
      | else-divisor-eq0 w ↦ (
          let off = rw w.result-is at f in
          may_leave_fixed c.args.target c.args.number c.args.divisor w.rest_of.result.low w.rest_of.result.high fn fd (let z = w.if-divisor-eq0.false in λ e. absurd (omega (arith, ints)))
          w.rest_of.ensures.from w.rest_of.ensures.to (w.is_apart.ensures.from off) (w.is_apart.ensures.to off))
    ]

pub returns-clause-possible : goal.returns-clause-possible
returns-clause-possible c = λ f o n. c.misses_all.ensures.possible f o n
