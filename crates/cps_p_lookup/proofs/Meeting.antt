-- Domains of which one has a single value.
use lib.Signed.{lt_z}
use mir.Syntax.{w64}
use mir.Val.{to_z, of_z}
use Rattle.std.specs.Prelude.{FitsSigned, nat_eq}
use Rattle.std.proofs.Common.{◌≡◌, ℕ, ℤ, pos, ◌+ℤ◌, ◌-ℤ◌, ◌≤ℤ◌, ◌<ℤ◌, true, false, true≢false, refl, sym, ap, subst, ◌∙◌, arith}
use Rattle.std.proofs.lemmas.Bool.Decides.{nat_tests}
use Rattle.std.proofs.lemmas.Int.{ints, to_z-of_z}
use Rattle.cps_domain.specs.Window.{Window, contains}
use Rattle.cps_domain.proofs.Tests.{true_le}
use Rattle.cps_literal.specs.declared.atom.Atom.{Atom}
use Rattle.cps_literal.specs.declared.atom.Op.TheVariants.{Le, Ge}
use Rattle.cps_literal.specs.Truth.{value_at, atom_holds, meets}
use Rattle.cps_trail.specs.Trail.{Trail, admits}
use Rattle.cps_p_lookup.specs.Elements.{ArePart}
use Rattle.cps_p_lookup.specs.Tabling.{IsSingle, IsOffBy}

-- numbers that are read as the same, and a number beside another
pub read_same : (a b : ℤ) → FitsSigned w64 a → FitsSigned w64 b → of_z w64 a ≡ of_z w64 b → a ≡ b
read_same a b fa fb e = sym (to_z-of_z w64 a fa) ∙ ap (to_z w64) e ∙ to_z-of_z w64 b fb

pub test_same : (m n : ℕ) → nat_eq m n ≡ true → m ≡ n
test_same m n e = grind (arith, nat_tests)

is_less : (a b : ℤ) → lt_z a b ≡ true → a <ℤ b
is_less a b e = grind (arith, ints)

up_fits : (a b : ℤ) → FitsSigned w64 a → FitsSigned w64 b → a <ℤ b → FitsSigned w64 (a +ℤ pos 1)
up_fits a b fa fb l = omega (arith, ints)

down_fits : (a b : ℤ) → FitsSigned w64 a → FitsSigned w64 b → a <ℤ b → FitsSigned w64 (b -ℤ pos 1)
down_fits a b fa fb l = omega (arith, ints)

up_more : (a : ℤ) → a <ℤ (a +ℤ pos 1)
up_more a = omega (arith, ints)

down_less : (a : ℤ) → (a -ℤ pos 1) <ℤ a
down_less a = omega (arith, ints)

pub next_above : (a b : ℤ) → FitsSigned w64 a → FitsSigned w64 b → lt_z (to_z w64 (of_z w64 a)) (to_z w64 (of_z w64 b)) ≡ true → a <ℤ to_z w64 (of_z w64 (to_z w64 (of_z w64 a) +ℤ pos 1))
next_above a b fa fb l =
    let less : a <ℤ b = is_less a b (rw (to_z-of_z w64 a fa, to_z-of_z w64 b fb) at l) in
    rw (to_z-of_z w64 a fa, to_z-of_z w64 (a +ℤ pos 1) (up_fits a b fa fb less)) (up_more a)

pub next_below : (a b : ℤ) → FitsSigned w64 a → FitsSigned w64 b → lt_z (to_z w64 (of_z w64 a)) (to_z w64 (of_z w64 b)) ≡ true → to_z w64 (of_z w64 (to_z w64 (of_z w64 b) -ℤ pos 1)) <ℤ b
next_below a b fa fb l =
    let less : a <ℤ b = is_less a b (rw (to_z-of_z w64 a fa, to_z-of_z w64 b fb) at l) in
    rw (to_z-of_z w64 b fb, to_z-of_z w64 (b -ℤ pos 1) (down_fits a b fa fb less)) (down_less b)

-- the single value of a domain
only : (a b x : ℤ) → a ≡ b → a ≤ℤ x → x ≤ℤ b → a ≡ x
only a b x e l h = omega (arith, ints)

pub single_apart : (E T : Window) (a b : ℤ) → a ≡ b → ((x : ℤ) → contains T x ≡ true → a ≤ℤ x) → ((x : ℤ) → contains T x ≡ true → x ≤ℤ b) → contains E a ≡ false → (x : ℤ) → contains T x ≡ true → contains E x ≡ true → ⊥
single_apart E T a b same least greatest off x inside other = true≢false (sym other ∙ subst (λ (v : ℤ). contains E v ≡ false) (only a b x same (least x inside) (greatest x inside)) off)

pub single_by : (s : Trail) (i : ℕ) (D : Window) (a b v : ℤ) → ((x : ℤ) → contains D x ≡ admits s.first s.entries i x) → ((x : ℤ) → contains D x ≡ true → a ≤ℤ x) → ((x : ℤ) → contains D x ≡ true → x ≤ℤ b) → a ≡ v → b ≡ v → IsSingle s i v
single_by s i D a b v of least greatest low high = record {
  at = λ x o. sym (only v v x refl (subst (λ (w : ℤ). w ≤ℤ x) low (least x (of x ∙ o))) (subst (λ (w : ℤ). x ≤ℤ w) high (greatest x (of x ∙ o))));
}

-- bounds that keep two subjects apart
crossing : (a b x y : ℤ) → a <ℤ b → x ≡ y → x ≤ℤ a → b ≤ℤ y → ⊥
crossing a b x y l e p q = omega (arith, ints)

pub part_below : (e t : ℕ) (a b : ℤ) (u v : Atom) → u ≡ record { subject = e; op = Le; value = a } → v ≡ record { subject = t; op = Ge; value = b } → a <ℤ b → ArePart e t u v
part_below e t a b u v isu isv l = record {
  first = ap (λ (w : Atom). w.subject) isu;
  second = ap (λ (w : Atom). w.subject) isv;
  at = λ xs same p q. crossing a b (value_at xs e) (value_at xs t) l same (true_le (value_at xs e) a (subst (λ (w : Atom). atom_holds xs w ≡ true) isu p)) (true_le b (value_at xs t) (subst (λ (w : Atom). atom_holds xs w ≡ true) isv q));
}

pub part_above : (e t : ℕ) (a b : ℤ) (u v : Atom) → u ≡ record { subject = e; op = Ge; value = b } → v ≡ record { subject = t; op = Le; value = a } → a <ℤ b → ArePart e t u v
part_above e t a b u v isu isv l = record {
  first = ap (λ (w : Atom). w.subject) isu;
  second = ap (λ (w : Atom). w.subject) isv;
  at = λ xs same p q. crossing a b (value_at xs t) (value_at xs e) l (sym same) (true_le (value_at xs t) a (subst (λ (w : Atom). atom_holds xs w ≡ true) isv q)) (true_le b (value_at xs e) (subst (λ (w : Atom). atom_holds xs w ≡ true) isu p));
}

-- a bound past a value
past : (a b x : ℤ) → a <ℤ b → b ≤ℤ x → x ≡ a → ⊥
past a b x l h e = omega (arith, ints)

pub off_above : (i : ℕ) (v b : ℤ) (u : Atom) → u ≡ record { subject = i; op = Ge; value = b } → v <ℤ b → IsOffBy i v u
off_above i v b u is l = record {
  subject = ap (λ (w : Atom). w.subject) is;
  other = λ x met. past v b x l (true_le b x (subst (λ (w : Atom). meets w.op w.value x ≡ true) is met));
}
