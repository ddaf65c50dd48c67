-- What is decided of a subject that is not fixed is undecided.
use Rattle.std.specs.Prelude.{unsigned_abs, int_le, ◌/◌}
use Rattle.std.specs.List.{Contains}
use Rattle.std.proofs.Common.{◌≡◌, ℕ, ◌-◌, ◌<◌, length, true, true≢false, refl, sym, ◌∙◌, subst, arith, ℤ, pos, ◌+ℤ◌, ◌-ℤ◌, ◌≤ℤ◌, ◌<ℤ◌}
use Rattle.std.proofs.lemmas.Int.{ints, by_lt_z}
use Rattle.std.proofs.lemmas.List.Elements.{Contains-get_or}
use Rattle.cps_model.specs.declared.steering.Select.{Select}
use Rattle.cps_model.specs.declared.steering.Select.TheVariants.{MinValue, MaxValue, LowerHalf, UpperHalf, MedianValue}
use Rattle.cps_domain.specs.Window.{Window, contains, equals}
use Rattle.cps_domain.specs.Division.{IsFloor}
use Rattle.cps_domain.proofs.Tests.{le_true, le_false, true_le, equals_yes, first_of_both, second_of_both}
use Rattle.cps_literal.specs.declared.atom.Atom.{Atom}
use Rattle.cps_literal.specs.declared.atom.Op.TheVariants.{Le, Ge, Eq}
use Rattle.cps_trail.specs.Trail.{Trail, admits}
use Rattle.cps_branch.specs.Fixed.{IsFixed}
use Rattle.cps_branch.specs.Choice.{IsUndecided, TakesLeast}
use Rattle.cps_branch.specs.Strategies.{Admits, IsLeast, IsGreatestValue, IsMedian, Selects}

-- the ends of a subject that is not fixed lie apart
pub apart : (s : Trail) (i : ℕ) (low high : ℤ) → IsLeast s i low → IsGreatestValue s i high → (IsFixed s i → ⊥) → low <ℤ high
apart s i low high l h open_now = by_lt_z low high (λ a. a) (λ b. absurd (open_now (λ x y p q. let a = l.least x p in let c = l.least y q in let d = h.greatest x p in let e = h.greatest y q in omega (arith, ints))))

-- the floor of the middle between two numbers
pub floor_half : (low high : ℤ) → low ≤ℤ high → IsFloor (low +ℤ high) (pos 2) (low +ℤ pos (unsigned_abs (high -ℤ low) / 2))
floor_half low high h = record {
  positive = λ _. (omega (arith, ints), omega (arith, ints));
  negative = λ n. absurd (omega (arith, ints));
}

pub half_low : (low high : ℤ) → low ≤ℤ (low +ℤ pos (unsigned_abs (high -ℤ low) / 2))
half_low low high = omega (arith, ints)

pub half_high : (low high : ℤ) → low <ℤ high → (low +ℤ pos (unsigned_abs (high -ℤ low) / 2)) <ℤ high
half_high low high h = omega (arith, ints)

-- the middle lies from the least value on and below the greatest
middle_low : (low high m : ℤ) → low <ℤ high → IsFloor (low +ℤ high) (pos 2) m → low ≤ℤ m
middle_low low high m h f = let b = (f.positive (omega (arith, ints))).1 in omega (arith, ints)

middle_high : (low high m : ℤ) → low <ℤ high → IsFloor (low +ℤ high) (pos 2) m → m <ℤ high
middle_high low high m h f = let b = (f.positive (omega (arith, ints))).0 in omega (arith, ints)

undecided_le : (s : Trail) (i : ℕ) (low high v : ℤ) → i < length s.first → IsLeast s i low → IsGreatestValue s i high → low ≤ℤ v → v <ℤ high → IsUndecided s (record { subject = i; op = Le; value = v })
undecided_le s i low high v l p q a b = record {
  subject = l;
  not_true = λ h. true≢false (sym (h high q.value) ∙ le_false high v b);
  not_false = λ h. true≢false (sym (le_true low v a) ∙ h low p.value);
}

undecided_ge : (s : Trail) (i : ℕ) (low high v : ℤ) → i < length s.first → IsLeast s i low → IsGreatestValue s i high → low <ℤ v → v ≤ℤ high → IsUndecided s (record { subject = i; op = Ge; value = v })
undecided_ge s i low high v l p q a b = record {
  subject = l;
  not_true = λ h. true≢false (sym (h low p.value) ∙ le_false v low a);
  not_false = λ h. true≢false (sym (le_true v high b) ∙ h high q.value);
}

pub undecided_eq : (s : Trail) (i : ℕ) (v : ℤ) → i < length s.first → (IsFixed s i → ⊥) → Admits s i v → IsUndecided s (record { subject = i; op = Eq; value = v })
undecided_eq s i v l open_now a = record {
  subject = l;
  not_true = λ h. open_now (λ x y p q. same x (h x p) ∙ sym (same y (h y q)));
  not_false = λ h. true≢false (sym (equals_yes v) ∙ h v a);
}
  where
    same : (x : ℤ) → equals x v ≡ true → x ≡ v
    same x e = let c = true_le x v (first_of_both (int_le x v) (int_le v x) e) in let d = true_le v x (second_of_both (int_le x v) (int_le v x) e) in omega (arith, ints)

-- the greatest value of a subject is there: of the middle it is known, and of others by the domain
pub record HasEnds (s : Trail) (i : ℕ) : Type 0 where
  pub low : ℤ
  pub high : ℤ
  pub is_low : IsLeast s i low
  pub is_high : IsGreatestValue s i high

median_value : (s : Trail) (i : ℕ) (v : ℤ) (e : HasEnds s i) → IsMedian s i v → Admits s i v
median_value s i v e m =
    let some = (m.are.each e.low).0 e.is_low.value in
    let l : (length m.values - 1) / 2 < length m.values = omega (arith, some.1) in
    (m.are.each v).1 (subst (λ (x : ℤ). Contains m.values x) m.at (Contains-get_or m.values ((length m.values - 1) / 2) (pos 0) l))

-- a selection of a subject that is not fixed is undecided
pub selected_undecided : (s : Trail) (select : Select) (t : Atom) → HasEnds s t.subject → t.subject < length s.first → (IsFixed s t.subject → ⊥) → Selects select s t → IsUndecided s t
selected_undecided s MinValue t e l open_now h =
    let far = apart s t.subject t.value e.high h.1 e.is_high open_now in
    subst (λ op. IsUndecided s (record { subject = t.subject; op = op; value = t.value })) (sym h.0) (undecided_le s t.subject t.value e.high t.value l h.1 e.is_high (omega (arith, ints)) far)
selected_undecided s MaxValue t e l open_now h =
    let far = apart s t.subject e.low t.value e.is_low h.1 open_now in
    subst (λ op. IsUndecided s (record { subject = t.subject; op = op; value = t.value })) (sym h.0) (undecided_ge s t.subject e.low t.value t.value l e.is_low h.1 far (omega (arith, ints)))
selected_undecided s LowerHalf t e l open_now h =
    let m = h.1 in
    let far = apart s t.subject m.low m.high m.is_low m.is_high open_now in
    subst (λ op. IsUndecided s (record { subject = t.subject; op = op; value = t.value })) (sym h.0)
    (undecided_le s t.subject m.low m.high t.value l m.is_low m.is_high (middle_low m.low m.high t.value far m.floor) (middle_high m.low m.high t.value far m.floor))
selected_undecided s UpperHalf t e l open_now h =
    let m = h.1.1.0 in
    let far = apart s t.subject m.low m.high m.is_low m.is_high open_now in
    let above = middle_low m.low m.high h.1.0 far m.floor in
    let below = middle_high m.low m.high h.1.0 far m.floor in
    let is = h.1.1.1 in
    subst (λ op. IsUndecided s (record { subject = t.subject; op = op; value = t.value })) (sym h.0)
    (undecided_ge s t.subject m.low m.high t.value l m.is_low m.is_high (omega (arith, ints)) (omega (arith, ints)))
selected_undecided s MedianValue t e l open_now h =
    subst (λ op. IsUndecided s (record { subject = t.subject; op = op; value = t.value })) (sym h.0)
    (undecided_eq s t.subject t.value l open_now (median_value s t.subject t.value e h.1))

-- the least value of what a domain has is the least that the store leaves
pub takes_least : (s : Trail) (i : ℕ) (w : Window) (v m : ℤ) → ((x : ℤ) → contains w x ≡ admits s.first s.entries i x) → contains w m ≡ true → ((x : ℤ) → contains w x ≡ true → m ≤ℤ x) → v ≡ m → TakesLeast s (record { subject = i; op = Le; value = v })
takes_least s i w v m same within least is = subst (λ (x : ℤ). TakesLeast s (record { subject = i; op = Le; value = x })) (sym is) (record {
  op = refl;
  value = sym (same m) ∙ within;
  least = λ x a. least x (same x ∙ a);
})

-- it leaves others where the subject is not fixed
pub undecided_least : (s : Trail) (i : ℕ) (v : ℤ) → i < length s.first → (IsFixed s i → ⊥) → TakesLeast s (record { subject = i; op = Le; value = v }) → IsUndecided s (record { subject = i; op = Le; value = v })
undecided_least s i v l open_now h = record {
  subject = l;
  not_true = λ t. open_now (λ x y p q. (let a = true_le x v (t x p) in let b = true_le y v (t y q) in let d = h.least x p in let e = h.least y q in omega (arith, ints)));
  not_false = λ f. true≢false (sym (le_true v v (omega (arith, ints))) ∙ f v h.value);
}
