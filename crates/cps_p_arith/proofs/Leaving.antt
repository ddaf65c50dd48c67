-- What division may leave of numbers between ends.
use Rattle.std.proofs.Common.{ℤ, pos, neg_ℤ, ◌+ℤ◌, ◌-ℤ◌, ◌*ℤ◌, ◌≤ℤ◌, ◌<ℤ◌, ◌≡◌, ◌≢◌, inl, inr, sym, subst, arith, List, [], ◌∷◌, length, get_or, All}
use Rattle.std.specs.Prelude.{int_div, int_rem}
use Rattle.std.proofs.lemmas.Int.{ints, by_lt_z}
use Rattle.cps_domain.proofs.Products.{next_times}
use Rattle.cps_propagate.specs.Arithmetic.{IsDivision, IsUnsigned, MayLeaveUnsigned, IsOpposite, MayLeaveBy, MayLeave}
use Rattle.cps_p_arith.specs.declared.ends.Ends.{Ends}
use Rattle.cps_p_arith.specs.declared.range.Range.{Range}
use Rattle.cps_p_arith.specs.Ranges.{IsBetween, IsIn, IsOrdered}
use Rattle.cps_p_arith.specs.Divisions.{IsDivided, LeavesUnsigned, LeavesSome}
use Rattle.cps_p_arith.specs.Demands.{MayLeaveEach}
use Rattle.cps_p_arith.proofs.Dividing.{below, is_divided, divided_neg, divided_turned, neg_neg}

-- by one quotient: what is left at most is some number less than the greatest divisor
leaves_by : (rest number divisor : Range) (q x : ℤ) → pos 0 ≤ℤ number.low → number.low ≤ℤ number.high → pos 1 ≤ℤ divisor.low → divisor.low ≤ℤ divisor.high → pos 0 ≤ℤ rest.low → rest.low ≤ℤ rest.high
    → IsBetween rest.low rest.high x → x <ℤ divisor.high → (q *ℤ divisor.low) ≤ℤ (number.high -ℤ rest.low) → number.low ≤ℤ ((q *ℤ divisor.high) +ℤ x) → LeavesUnsigned rest number divisor
leaves_by rest number divisor q x nn order dp ord rn ro b less most least =
    let from = b.from in
    record {
      quotient = q;
      low = record {
        n = number.high;
        d = divisor.low;
        x = rest.low;
        number = record { from = order; to = omega (arith, ints) };
        divisor = record { from = omega (arith, ints); to = ord };
        target = record { from = omega (arith, ints); to = ro };
      };
      low_unsigned = record { number = omega (arith, ints); divisor = dp; target = rn };
      at_most = omega (arith, ints);
      high = record {
        n = number.low;
        d = divisor.high;
        x = x;
        number = record { from = omega (arith, ints); to = order };
        divisor = record { from = ord; to = omega (arith, ints) };
        target = b;
      };
      high_unsigned = record { number = nn; divisor = omega (arith, ints); target = omega (arith, ints) };
      at_least = least;
      low_less = omega (arith, ints);
      high_less = less;
    }

-- by the least quotient
pub leaves_at : (rest number divisor : Range) (k : ℤ) → pos 0 ≤ℤ number.low → number.low ≤ℤ number.high → pos 1 ≤ℤ divisor.low → divisor.low ≤ℤ divisor.high → pos 0 ≤ℤ rest.low → rest.low ≤ℤ rest.high
    → rest.low <ℤ divisor.high → number.low <ℤ ((k +ℤ pos 1) *ℤ divisor.high) → (k *ℤ divisor.low) ≤ℤ (number.high -ℤ rest.low) → (number.low -ℤ rest.high) ≤ℤ (k *ℤ divisor.high) → LeavesUnsigned rest number divisor
leaves_at rest number divisor k nn order dp ord rn ro less next needs leaves =
    by_lt_z rest.high divisor.high
    (λ short. leaves_by rest number divisor k rest.high nn order dp ord rn ro (record { from = ro; to = omega (arith, ints) }) short needs (omega (arith, ints)))
    (λ past. leaves_by rest number divisor k (divisor.high -ℤ pos 1) nn order dp ord rn ro (record { from = omega (arith, ints); to = omega (arith, ints) }) (omega (arith, ints)) needs
    (let more = next_times k divisor.high in omega (arith, ints)))

-- by the next one
pub leaves_beyond : (rest number divisor : Range) (k : ℤ) → pos 0 ≤ℤ number.low → number.low ≤ℤ number.high → pos 1 ≤ℤ divisor.low → divisor.low ≤ℤ divisor.high → pos 0 ≤ℤ rest.low → rest.low ≤ℤ rest.high
    → rest.low <ℤ divisor.high → number.low <ℤ ((k +ℤ pos 1) *ℤ divisor.high) → ((k +ℤ pos 1) *ℤ divisor.low) ≤ℤ (number.high -ℤ rest.low) → LeavesUnsigned rest number divisor
leaves_beyond rest number divisor k nn order dp ord rn ro less next most =
    leaves_by rest number divisor (k +ℤ pos 1) rest.low nn order dp ord rn ro (record { from = omega (arith, ints); to = ro }) less most (omega (arith, ints))

division_wider : (n d t n' d' t' : ℤ → Type 0) → ((x : ℤ) → n x → n' x) → ((x : ℤ) → d x → d' x) → ((x : ℤ) → t x → t' x) → IsDivision n d t → IsDivision n' d' t'
division_wider n d t n' d' t' f g k h = record {
  n = h.n;
  d = h.d;
  x = h.x;
  number = f h.n h.number;
  divisor = g h.d h.divisor;
  target = k h.x h.target;
}

pub unsigned_wider : (n d t n' d' t' : ℤ → Type 0) → ((x : ℤ) → n x → n' x) → ((x : ℤ) → d x → d' x) → ((x : ℤ) → t x → t' x) → MayLeaveUnsigned n d t → MayLeaveUnsigned n' d' t'
unfolding division_wider
unsigned_wider n d t n' d' t' f g k h = record {
  quotient = h.quotient;
  low = division_wider n d t n' d' t' f g k h.low;
  low_unsigned = h.low_unsigned;
  at_most = h.at_most;
  high = division_wider n d t n' d' t' f g k h.high;
  high_unsigned = h.high_unsigned;
  at_least = h.at_least;
  low_less = h.low_less;
  high_less = h.high_less;
}

pub by_wider : (n d t n' d' t' : ℤ → Type 0) → ((x : ℤ) → n x → n' x) → ((x : ℤ) → d x → d' x) → ((x : ℤ) → t x → t' x) → MayLeaveBy n d t → MayLeaveBy n' d' t'
by_wider n d t n' d' t' f g k (inl h) = inl (unsigned_wider n d t n' d' t' f g k h)
by_wider n d t n' d' t' f g k (inr h) =
    inr (unsigned_wider (IsOpposite n) d (IsOpposite t) (IsOpposite n') d' (IsOpposite t') (λ x. f (neg_ℤ x)) g (λ x. k (neg_ℤ x)) h)

pub leave_wider : (n d t n' d' t' : ℤ → Type 0) → ((x : ℤ) → n x → n' x) → ((x : ℤ) → d x → d' x) → ((x : ℤ) → t x → t' x) → MayLeave n d t → MayLeave n' d' t'
leave_wider n d t n' d' t' f g k (inl h) = inl (by_wider n d t n' d' t' f g k h)
leave_wider n d t n' d' t' f g k (inr h) = inr (by_wider n (IsOpposite d) t n' (IsOpposite d') t' f (λ x. g (neg_ℤ x)) k h)

opposite_between : (l h l' h' x : ℤ) → l' ≡ neg_ℤ h → h' ≡ neg_ℤ l → IsBetween l' h' x → IsBetween l h (neg_ℤ x)
opposite_between l h l' h' x p q b = let f = b.from in let t = b.to in record { from = omega (arith, ints); to = omega (arith, ints) }

-- what is left of opposite numbers
pub leaves_turned : (rest number divisor rest' number' : Range) → rest'.low ≡ neg_ℤ rest.high → rest'.high ≡ neg_ℤ rest.low → number'.low ≡ neg_ℤ number.high → number'.high ≡ neg_ℤ number.low
    → LeavesUnsigned rest' number' divisor → LeavesSome rest number divisor
leaves_turned rest number divisor rest' number' rl rh nl nh h =
    inr (unsigned_wider (IsBetween number'.low number'.high) (IsBetween divisor.low divisor.high) (IsBetween rest'.low rest'.high)
    (IsOpposite (IsBetween number.low number.high)) (IsBetween divisor.low divisor.high) (IsOpposite (IsBetween rest.low rest.high))
    (λ x b. opposite_between number.low number.high number'.low number'.high x nl nh b) (λ x b. b)
    (λ x b. opposite_between rest.low rest.high rest'.low rest'.high x rl rh b) h)

between_ends : (e : Ends) (r : Range) (x : ℤ) → r.low ≡ e.low → r.high ≡ e.high → IsBetween r.low r.high x → IsIn e x
between_ends e r x l h b = let f = b.from in let t = b.to in record { from = omega (arith, ints); to = omega (arith, ints) }

-- by divisors that are positive, and by negative ones
pub may_leave_up : (rest number divisor : Ends) (t n d : Range) → t.low ≡ rest.low → t.high ≡ rest.high → n.low ≡ number.low → n.high ≡ number.high
    → ((x : ℤ) → IsBetween d.low d.high x → IsIn divisor x) → LeavesSome t n d → MayLeave (IsIn number) (IsIn divisor) (IsIn rest)
may_leave_up rest number divisor t n d tl th nl nh same h =
    inl (by_wider (IsBetween n.low n.high) (IsBetween d.low d.high) (IsBetween t.low t.high) (IsIn number) (IsIn divisor) (IsIn rest)
    (λ x b. between_ends number n x nl nh b) same (λ x b. between_ends rest t x tl th b) h)

pub may_leave_down : (rest number divisor : Ends) (t n d : Range) → t.low ≡ rest.low → t.high ≡ rest.high → n.low ≡ number.low → n.high ≡ number.high
    → ((x : ℤ) → IsBetween d.low d.high x → IsIn divisor (neg_ℤ x)) → LeavesSome t n d → MayLeave (IsIn number) (IsIn divisor) (IsIn rest)
may_leave_down rest number divisor t n d tl th nl nh same h =
    inr (by_wider (IsBetween n.low n.high) (IsBetween d.low d.high) (IsBetween t.low t.high) (IsIn number) (IsOpposite (IsIn divisor)) (IsIn rest)
    (λ x b. between_ends number n x nl nh b) same (λ x b. between_ends rest t x tl th b) h)

-- one number, one divisor and what is left
leaves_one : (is_number is_divisor is_target : ℤ → Type 0) (n d q r : ℤ) → pos 0 ≤ℤ n → pos 1 ≤ℤ d → is_number n → is_divisor d → is_target r → IsDivided n d q r → MayLeaveUnsigned is_number is_divisor is_target
leaves_one is_number is_divisor is_target n d q r p o hn hd hr h =
    let sum = h.sum in
    let less = below r d o h.less in
    record {
      quotient = q;
      low = record { n = n; d = d; x = r; number = hn; divisor = hd; target = hr };
      low_unsigned = record { number = p; divisor = o; target = h.up p };
      at_most = omega (arith, ints);
      high = record { n = n; d = d; x = r; number = hn; divisor = hd; target = hr };
      high_unsigned = record { number = p; divisor = o; target = h.up p };
      at_least = omega (arith, ints);
      low_less = less;
      high_less = less;
    }

leaves_signed : (is_number is_divisor is_target : ℤ → Type 0) (n d q r : ℤ) → pos 1 ≤ℤ d → is_number n → is_divisor d → is_target r → IsDivided n d q r → MayLeaveBy is_number is_divisor is_target
leaves_signed is_number is_divisor is_target n d q r o hn hd hr h =
    by_lt_z n (pos 0)
    (λ negative. inr (leaves_one (IsOpposite is_number) is_divisor (IsOpposite is_target) (neg_ℤ n) d (neg_ℤ q) (neg_ℤ r) (omega (arith, ints)) o
    (subst is_number (sym (neg_neg n)) hn) hd (subst is_target (sym (neg_neg r)) hr) (divided_neg n d q r h)))
    (λ positive. inl (leaves_one is_number is_divisor is_target n d q r positive o hn hd hr h))

leaves_any : (is_number is_divisor is_target : ℤ → Type 0) (n d q r : ℤ) → d ≢ pos 0 → is_number n → is_divisor d → is_target r → IsDivided n d q r → MayLeave is_number is_divisor is_target
leaves_any is_number is_divisor is_target n d q r ne hn hd hr h =
    by_lt_z d (pos 0)
    (λ negative. inr (leaves_signed is_number (IsOpposite is_divisor) is_target n (neg_ℤ d) (neg_ℤ q) r (omega (arith, ints)) hn (subst is_divisor (sym (neg_neg d)) hd) hr (divided_turned n d q r h)))
    (λ other. by_lt_z (pos 0) d
    (λ positive. inl (leaves_signed is_number is_divisor is_target n d q r (omega (arith, ints)) hn hd hr h))
    (λ none. absurd (ne (omega (arith, ints)))))

-- of two values alone one is left
pub may_leave_fixed : (target number divisor : Ends) (l h : ℤ) → number.low ≡ number.high → divisor.low ≡ divisor.high → divisor.low ≢ pos 0 → l ≡ int_rem number.low divisor.low → h ≡ int_rem number.low divisor.low
    → target.low ≤ℤ h → l ≤ℤ target.high → MayLeave (IsIn number) (IsIn divisor) (IsIn target)
may_leave_fixed target number divisor l h fn fd ne el eh from to =
    leaves_any (IsIn number) (IsIn divisor) (IsIn target) number.low divisor.low (int_div number.low divisor.low) (int_rem number.low divisor.low) ne
    (record { from = omega (arith, ints); to = omega (arith, ints) }) (record { from = omega (arith, ints); to = omega (arith, ints) })
    (record { from = subst (λ z. target.low ≤ℤ z) eh from; to = subst (λ z. z ≤ℤ target.high) el to })
    (is_divided number.low divisor.low ne)

pub leave_two : (es : List Ends) (t a b : Ends) → length es ≡ 2 → (IsOrdered (get_or es 0 a) → MayLeave (IsIn (get_or es 0 a)) (IsIn (get_or es 1 b)) (IsIn t)) → All IsOrdered es → MayLeaveEach t es
leave_two [] t a b l h o = absurd (omega arith)
leave_two (e ∷ []) t a b l h o = absurd (omega arith)
leave_two (e ∷ f ∷ []) t a b l h o = h (o 0 a (omega arith))
leave_two (e ∷ f ∷ g ∷ es) t a b l h o = absurd (omega arith)
