use Rattle.std.proofs.Common.{rules, inl, pos, neg_ℤ, arith}
use Rattle.std.proofs.lemmas.Int.{ints, by_lt_z}
use Rattle.cps_p_arith.specs.Ranges.{IsBetween}
use Rattle.cps_p_arith.proofs.Dividing.{divided_neg}
use Rattle.cps_p_arith.proofs.Leaving.{leaves_turned}
use Rattle.cps_p_arith.proofs.remainder.misses.Goals as goal

pub returns-then-misses_up-clause-sound : goal.returns-then-misses_up-clause-sound
returns-then-misses_up-clause-sound c = λ t n d q r hn hd h hr.
    let rl = c.negated-turned_rest.ensures.low in
    let rh = c.negated-turned_rest.ensures.high in
    let nl = c.negated-turned.ensures.low in
    let nh = c.negated-turned.ensures.high in
    let nf = hn.from in
    let nt = hn.to in
    let rf = hr.from in
    let rt = hr.to in
    let number : IsBetween c.negated-turned.result.low c.negated-turned.result.high (neg_ℤ n) = record { from = omega (arith, ints); to = omega (arith, ints) } in
    let rest : IsBetween c.negated-turned_rest.result.low c.negated-turned_rest.result.high (neg_ℤ r) = record { from = omega (arith, ints); to = omega (arith, ints) } in
    by_lt_z n (pos 0)
    (λ negative. c.misses_up-then-misses_up.ensures.sound t (neg_ℤ n) d (neg_ℤ q) (neg_ℤ r) (omega (arith, ints)) number hd (divided_neg n d q r h) rest)
    (λ positive. c.misses_up.ensures.sound (search rules) n d q r positive hn hd h hr)

pub returns-then-misses_up-clause-possible : goal.returns-then-misses_up-clause-possible
returns-then-misses_up-clause-possible c = λ f order ro.
    let rl = c.negated-turned_rest.ensures.low in
    let rh = c.negated-turned_rest.ensures.high in
    let nl = c.negated-turned.ensures.low in
    let nh = c.negated-turned.ensures.high in
    leaves_turned c.args.rest c.args.number c.args.divisor c.negated-turned_rest.result c.negated-turned.result rl rh nl nh
    (c.misses_up-then-misses_up.ensures.possible f (omega (arith, ints)) (omega (arith, ints)))

pub returns-else-misses_up-clause-possible : goal.returns-else-misses_up-clause-possible
returns-else-misses_up-clause-possible c = λ f order ro. inl (c.misses_up.ensures.possible c.if-misses_up.false order ro)
