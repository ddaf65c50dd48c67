use Rattle.std.specs.List.{list_all}
use Rattle.std.proofs.Common.{◌≡◌, ℕ, ◌-◌, ◌*◌, ◌^◌, ◌&&◌, true, false, length, take, drop, Some, sym, ap, ◌∙◌, arith}
use Rattle.cps_schema.specs.Digits.{digits_after, decimal_value, capped}
use Rattle.cps_schema.specs.Floats.{is_zero}
use Rattle.cps_schema.proofs.Floats.{some_in_two, none_in_two, product_cut}
use Rattle.cps_schema.proofs.float.with_point.Goals as goal

pub returns-then-are_zeros_behind : goal.returns-then-are_zeros_behind
returns-then-are_zeros_behind c =
    let place = c.args.place in
    let xs = c.args.whole.now in
    let ys = c.args.fraction.now in
    let inside : c.saturating_sub-in_fraction.result ≡ place - length xs = omega arith in
    let zeros : c.saturating_sub-zeros.result ≡ (place - length xs) - length ys = omega arith in
    let number = digits_after 10 (decimal_value (take place xs)) (take (place - length xs) ys) in
    let all : (list_all is_zero (drop place xs) && list_all is_zero (drop (place - length xs) ys)) ≡ true =
    rw (← inside) (sym c.are_zeros_behind.ensures ∙ c.if-are_zeros_behind.true) in
    let value : c.with_zeros.result ≡ capped (number * 10 ^ ((place - length xs) - length ys)) =
    c.with_zeros.ensures ∙ rw (c.number_before-number.ensures, zeros, inside) (product_cut number ((place - length xs) - length ys)) in
    ap (λ (n : ℕ). Some n) value ∙ sym (some_in_two place xs ys all)

pub returns-else-are_zeros_behind : goal.returns-else-are_zeros_behind
returns-else-are_zeros_behind c =
    let place = c.args.place in
    let xs = c.args.whole.now in
    let ys = c.args.fraction.now in
    let inside : c.saturating_sub-in_fraction.result ≡ place - length xs = omega arith in
    let some : (list_all is_zero (drop place xs) && list_all is_zero (drop (place - length xs) ys)) ≡ false =
    rw (← inside) (sym c.are_zeros_behind.ensures ∙ c.if-are_zeros_behind.false) in
    sym (none_in_two place xs ys some)
