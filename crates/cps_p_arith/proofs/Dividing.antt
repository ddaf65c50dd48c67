-- Quotients that are rounded towards zero, by positive divisors.
use Rattle.std.proofs.Common.{zero, suc, ◌<◌, ℤ, pos, negsuc, neg_ℤ, ◌+ℤ◌, ◌-ℤ◌, ◌*ℤ◌, ◌≤ℤ◌, ◌<ℤ◌, ◌≡◌, ◌≢◌, refl, sym, subst, arith}
use Rattle.std.specs.Prelude.{unsigned_abs, int_div, int_rem}
use Rattle.std.proofs.lemmas.Int.{ints, by_lt_z, quot-rem}
use Rattle.std.proofs.Math.IntN.{*ℤ_comm}
use Rattle.cps_domain.proofs.Products.{times_grows, times_shrinks, next_times}
use Rattle.cps_model.proofs.Division.{rest_less, rest_positive, rest_negative}
use Rattle.cps_propagate.specs.Arithmetic.{MayDivide}
use Rattle.cps_p_arith.specs.declared.ends.Ends.{Ends}
use Rattle.cps_p_arith.specs.declared.range.Range.{Range}
use Rattle.cps_p_arith.specs.Ranges.{IsBetween, IsIn, IsOrdered}
use Rattle.cps_p_arith.specs.Divisions.{IsDivided, ReachesDown, ReachesUp, HasQuotients}

pub is_divided : (n d : ℤ) → d ≢ pos 0 → IsDivided n d (int_div n d) (int_rem n d)
is_divided n d h = record { sum = quot-rem n d; less = rest_less n d h; up = rest_positive n d; down = rest_negative n d }

-- a rest is less than a positive divisor
pub below : (r d : ℤ) → pos 1 ≤ℤ d → unsigned_abs r < unsigned_abs d → r <ℤ d
below (pos r) (pos d) p l = omega (arith, ints)
below (pos r) (negsuc d) p l = absurd (omega (arith, ints))
below (negsuc r) (pos d) p l = omega (arith, ints)
below (negsuc r) (negsuc d) p l = absurd (omega (arith, ints))

-- a quotient is past a bound that is not negative, where the number reaches the next number times each divisor
pub above_up : (t low most n d q r : ℤ) → pos 0 ≤ℤ t → pos 1 ≤ℤ d → d ≤ℤ most → ((t +ℤ pos 1) *ℤ most) ≤ℤ low → low ≤ℤ n → IsDivided n d q r → t <ℤ q
above_up t low most n d q r pt pd dm reach ln h =
    let grown = times_grows (t +ℤ pos 1) d most (omega (arith, ints)) dm in
    let one = times_grows (t +ℤ pos 1) (pos 0) d (omega (arith, ints)) (omega (arith, ints)) in
    let none : ((t +ℤ pos 1) *ℤ pos 0) ≡ pos 0 = omega (arith, ints) in
    let less = below r d pd h.less in
    let sum = h.sum in
    by_lt_z t q (λ past. past)
    (λ short.
    let k = times_grows d q t (omega (arith, ints)) short in
    let ck = *ℤ_comm d q in
    let ct = *ℤ_comm d t in
    let next = next_times t d in
    absurd (omega (arith, ints)))

-- and past a negative one, where the number is past the bound times each divisor
pub above_down : (t low least n d q r : ℤ) → t <ℤ pos 0 → pos 1 ≤ℤ d → least ≤ℤ d → (t *ℤ least) <ℤ low → low ≤ℤ n → IsDivided n d q r → t <ℤ q
above_down t low least n d q r pt pd ld reach ln h =
    let shrunk = times_shrinks t least d (omega (arith, ints)) ld in
    let sum = h.sum in
    by_lt_z t q (λ past. past)
    (λ short.
    let k = times_grows d q t (omega (arith, ints)) short in
    let ck = *ℤ_comm d q in
    let ct = *ℤ_comm d t in
    by_lt_z n (pos 0)
    (λ negative. let rest = h.down (omega (arith, ints)) in absurd (omega (arith, ints)))
    (λ positive.
    let rest = h.up positive in
    let less = below r d pd h.less in
    let m = times_grows d q (negsuc 0) (omega (arith, ints)) (omega (arith, ints)) in
    let one : (d *ℤ negsuc 0) ≡ (pos 0 -ℤ d) = omega (arith, ints) in
    absurd (omega (arith, ints))))

neg_times : (q d : ℤ) → (neg_ℤ q *ℤ d) ≡ neg_ℤ (q *ℤ d)
neg_times (pos a) (pos b) = grind (arith, ints)
neg_times (pos a) (negsuc b) = grind (arith, ints)
neg_times (negsuc a) (pos b) = grind (arith, ints)
neg_times (negsuc a) (negsuc b) = grind (arith, ints)

neg_size : (r : ℤ) → unsigned_abs (neg_ℤ r) ≡ unsigned_abs r
neg_size (pos zero) = refl
neg_size (pos (suc n)) = refl
neg_size (negsuc n) = refl

-- opposite numbers have opposite quotients
pub divided_neg : (n d q r : ℤ) → IsDivided n d q r → IsDivided (neg_ℤ n) d (neg_ℤ q) (neg_ℤ r)
divided_neg n d q r h = record {
  sum = (let s = h.sum in let m = neg_times q d in omega (arith, ints));
  less = rw neg_size h.less;
  up = λ p. let t = h.down (omega (arith, ints)) in omega (arith, ints);
  down = λ p. let t = h.up (omega (arith, ints)) in omega (arith, ints);
}

-- and the same quotient by opposite divisors
pub divided_both : (n d q r : ℤ) → IsDivided n d q r → IsDivided (neg_ℤ n) (neg_ℤ d) q (neg_ℤ r)
divided_both n d q r h = record {
  sum = (let s = h.sum in let m = neg_times d q in let a = *ℤ_comm q (neg_ℤ d) in let b = *ℤ_comm q d in omega (arith, ints));
  less = rw (neg_size r, neg_size d) h.less;
  up = λ p. let t = h.down (omega (arith, ints)) in omega (arith, ints);
  down = λ p. let t = h.up (omega (arith, ints)) in omega (arith, ints);
}

-- and so are opposite quotients by opposite divisors
pub divided_turned : (n d q r : ℤ) → IsDivided n d q r → IsDivided n (neg_ℤ d) (neg_ℤ q) r
divided_turned n d q r h = record {
  sum = (let s = h.sum in let t = neg_times q (neg_ℤ d) in let m = neg_times d q in let a = *ℤ_comm q (neg_ℤ d) in let b = *ℤ_comm q d in omega (arith, ints));
  less = rw (neg_size d) h.less;
  up = h.up;
  down = h.down;
}

-- a rest is more than the opposite of a positive divisor
over : (r d : ℤ) → pos 1 ≤ℤ d → unsigned_abs r < unsigned_abs d → (pos 0 -ℤ d) <ℤ r
over (pos r) (pos d) p l = omega (arith, ints)
over (pos r) (negsuc d) p l = absurd (omega (arith, ints))
over (negsuc r) (pos d) p l = omega (arith, ints)
over (negsuc r) (negsuc d) p l = absurd (omega (arith, ints))

-- a number that is no more than a bound times the divisor has no greater quotient
pub reached_down : (t n d q r : ℤ) → pos 1 ≤ℤ d → n ≤ℤ (t *ℤ d) → IsDivided n d q r → q ≤ℤ t
reached_down t n d q r pd reach h =
    let sum = h.sum in
    let more = over r d pd h.less in
    by_lt_z t q
    (λ past.
    let k = times_grows d (t +ℤ pos 1) q (omega (arith, ints)) (omega (arith, ints)) in
    let ck = *ℤ_comm d q in
    let ct = *ℤ_comm d (t +ℤ pos 1) in
    let next = next_times t d in
    absurd (omega (arith, ints)))
    (λ short. short)

-- nor has one that does not reach the next number times the divisor, where the bound is not negative
pub reached_up : (t n d q r : ℤ) → pos 0 ≤ℤ t → pos 1 ≤ℤ d → n <ℤ ((t +ℤ pos 1) *ℤ d) → IsDivided n d q r → q ≤ℤ t
reached_up t n d q r pt pd reach h =
    let sum = h.sum in
    let more = over r d pd h.less in
    by_lt_z t q
    (λ past.
    let k = times_grows d (t +ℤ pos 1) q (omega (arith, ints)) (omega (arith, ints)) in
    let ck = *ℤ_comm d q in
    let ct = *ℤ_comm d (t +ℤ pos 1) in
    let next = next_times t d in
    let z = times_grows d (pos 0) t (omega (arith, ints)) pt in
    let cz = *ℤ_comm d t in
    let none : (d *ℤ pos 0) ≡ pos 0 = omega (arith, ints) in
    by_lt_z n (pos 0)
    (λ negative. absurd (omega (arith, ints)))
    (λ positive. let rest = h.up positive in absurd (omega (arith, ints))))
    (λ short. short)

pub turned_reach : (q n q' n' least most : ℤ) → q' ≡ neg_ℤ q → n' ≡ neg_ℤ n → ReachesDown q' n' least most → ReachesUp q n least most
turned_reach q n q' n' least most eq en h = record {
  d = h.d;
  divisor = h.divisor;
  at_least = λ x r k.
      (let turned = h.at_most (neg_ℤ x) (neg_ℤ r) (subst (λ z. IsDivided z h.d (neg_ℤ x) (neg_ℤ r)) (sym en) (divided_neg n h.d x r k)) in omega (arith, ints));
}

pub both_positive : (a b : ℤ) → pos 1 ≤ℤ a → pos 1 ≤ℤ b → pos 0 <ℤ (a *ℤ b)
both_positive a b p q = let k = times_grows a (pos 1) b (omega (arith, ints)) q in let one : (a *ℤ pos 1) ≡ a = omega (arith, ints) in omega (arith, ints)

neg_both : (a b : ℤ) → (neg_ℤ a *ℤ neg_ℤ b) ≡ a *ℤ b
neg_both a b = let x = neg_times a (neg_ℤ b) in let y = neg_times b a in let u = *ℤ_comm a (neg_ℤ b) in let v = *ℤ_comm a b in omega (arith, ints)

pub both_negative : (a b : ℤ) → pos 1 ≤ℤ a → pos 1 ≤ℤ b → pos 0 <ℤ (neg_ℤ a *ℤ neg_ℤ b)
both_negative a b p q = let x = neg_both a b in let y = both_positive a b p q in omega (arith, ints)

pub square : (a : ℤ) → a ≢ pos 0 → pos 0 <ℤ (a *ℤ a)
square (pos zero) h = absurd (h refl)
square (pos (suc a)) h = both_positive (pos (suc a)) (pos (suc a)) (omega (arith, ints)) (omega (arith, ints))
square (negsuc a) h = both_negative (pos (suc a)) (pos (suc a)) (omega (arith, ints)) (omega (arith, ints))

not_zero : (d : ℤ) → pos 1 ≤ℤ d → d ≢ pos 0
not_zero d h e = absurd (omega (arith, ints))

not_zero_turned : (d : ℤ) → pos 1 ≤ℤ d → neg_ℤ d ≢ pos 0
not_zero_turned (pos zero) h e = absurd (omega (arith, ints))
not_zero_turned (pos (suc d)) h e = absurd (omega (arith, ints))
not_zero_turned (negsuc d) h e = absurd (omega (arith, ints))

-- quotients of both sides of a target, by positive divisors
pub may_divide_up : (target number divisor : Ends) (t n d : Range) → t.low ≡ target.low → t.high ≡ target.high → n.low ≡ number.low → n.high ≡ number.high
    → pos 1 ≤ℤ d.low → ((x : ℤ) → IsBetween d.low d.high x → IsIn divisor x) → IsOrdered target → IsOrdered number → HasQuotients t n d → MayDivide (IsIn number) (IsIn divisor) (IsIn target)
may_divide_up target number divisor t n d tl th nl nh one same ot on h =
    let l = h.low in
    let g = h.high in
    let lp : pos 1 ≤ℤ l.d = (let a = l.divisor.from in omega (arith, ints)) in
    let gp : pos 1 ≤ℤ g.d = (let a = g.divisor.from in omega (arith, ints)) in
    record {
      low = record {
        n = n.low;
        d = l.d;
        x = t.high;
        number = record { from = omega (arith, ints); to = omega (arith, ints) };
        divisor = same l.d l.divisor;
        target = record { from = omega (arith, ints); to = omega (arith, ints) };
      };
      at_most = l.at_most (int_div n.low l.d) (int_rem n.low l.d) (is_divided n.low l.d (not_zero l.d lp));
      high = record {
        n = n.high;
        d = g.d;
        x = t.low;
        number = record { from = omega (arith, ints); to = omega (arith, ints) };
        divisor = same g.d g.divisor;
        target = record { from = omega (arith, ints); to = omega (arith, ints) };
      };
      at_least = g.at_least (int_div n.high g.d) (int_rem n.high g.d) (is_divided n.high g.d (not_zero g.d gp));
      one_sign = both_positive l.d g.d lp gp;
    }

pub neg_neg : (d : ℤ) → neg_ℤ (neg_ℤ d) ≡ d
neg_neg (pos zero) = refl
neg_neg (pos (suc n)) = refl
neg_neg (negsuc n) = refl

turned_back : (n n' d q r : ℤ) → n' ≡ neg_ℤ n → IsDivided n (neg_ℤ d) q r → IsDivided n' d q (neg_ℤ r)
turned_back n n' d q r e k = subst (λ z. IsDivided z d q (neg_ℤ r)) (sym e) (subst (λ z. IsDivided (neg_ℤ n) z q (neg_ℤ r)) (neg_neg d) (divided_both n (neg_ℤ d) q r k))

-- and by negative ones
pub may_divide_down : (target number divisor : Ends) (t n d : Range) → t.low ≡ target.low → t.high ≡ target.high → n.low ≡ neg_ℤ number.high → n.high ≡ neg_ℤ number.low
    → pos 1 ≤ℤ d.low → ((x : ℤ) → IsBetween d.low d.high x → IsIn divisor (neg_ℤ x)) → IsOrdered target → IsOrdered number → HasQuotients t n d → MayDivide (IsIn number) (IsIn divisor) (IsIn target)
may_divide_down target number divisor t n d tl th nl nh one same ot on h =
    let l = h.low in
    let g = h.high in
    let lp : pos 1 ≤ℤ l.d = (let a = l.divisor.from in omega (arith, ints)) in
    let gp : pos 1 ≤ℤ g.d = (let a = g.divisor.from in omega (arith, ints)) in
    record {
      low = record {
        n = number.high;
        d = neg_ℤ l.d;
        x = t.high;
        number = record { from = on; to = omega (arith, ints) };
        divisor = same l.d l.divisor;
        target = record { from = omega (arith, ints); to = omega (arith, ints) };
      };
      at_most = l.at_most (int_div number.high (neg_ℤ l.d)) (neg_ℤ (int_rem number.high (neg_ℤ l.d)))
          (turned_back number.high n.low l.d (int_div number.high (neg_ℤ l.d)) (int_rem number.high (neg_ℤ l.d)) nl (is_divided number.high (neg_ℤ l.d) (not_zero_turned l.d lp)));
      high = record {
        n = number.low;
        d = neg_ℤ g.d;
        x = t.low;
        number = record { from = omega (arith, ints); to = on };
        divisor = same g.d g.divisor;
        target = record { from = omega (arith, ints); to = omega (arith, ints) };
      };
      at_least = g.at_least (int_div number.low (neg_ℤ g.d)) (neg_ℤ (int_rem number.low (neg_ℤ g.d)))
          (turned_back number.low n.high g.d (int_div number.low (neg_ℤ g.d)) (int_rem number.low (neg_ℤ g.d)) nh (is_divided number.low (neg_ℤ g.d) (not_zero_turned g.d gp)));
      one_sign = both_negative l.d g.d lp gp;
    }

-- of two values alone there is one quotient
pub may_divide_fixed : (target number divisor : Ends) (l h : ℤ) → number.low ≡ number.high → divisor.low ≡ divisor.high → divisor.low ≢ pos 0 → l ≡ int_div number.low divisor.low → h ≡ int_div number.low divisor.low
    → target.low ≤ℤ h → l ≤ℤ target.high → IsOrdered target → MayDivide (IsIn number) (IsIn divisor) (IsIn target)
may_divide_fixed target number divisor l h fn fd ne el eh from to o = record {
  low = record {
    n = number.low;
    d = divisor.low;
    x = target.high;
    number = record { from = omega (arith, ints); to = omega (arith, ints) };
    divisor = record { from = omega (arith, ints); to = omega (arith, ints) };
    target = record { from = o; to = omega (arith, ints) };
  };
  at_most = subst (λ z. z ≤ℤ target.high) el to;
  high = record {
    n = number.low;
    d = divisor.low;
    x = target.low;
    number = record { from = omega (arith, ints); to = omega (arith, ints) };
    divisor = record { from = omega (arith, ints); to = omega (arith, ints) };
    target = record { from = omega (arith, ints); to = o };
  };
  at_least = subst (λ z. target.low ≤ℤ z) eh from;
  one_sign = square divisor.low ne;
}
