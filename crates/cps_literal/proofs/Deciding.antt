-- What a domain's least and greatest value say of a comparison.
use Rattle.std.proofs.Common.{ℤ, ◌≤ℤ◌, ◌<ℤ◌, ◌≡◌, Bool, true, false, sym, subst, ◌∙◌, ap, true≢false, arith, refl}
use Rattle.std.specs.Prelude.{int_le, int_lt, not, ◌↔◌}
use Rattle.std.proofs.lemmas.Int.{ints}
use Rattle.cps_domain.specs.Window.{equals}
use Rattle.cps_literal.specs.Truth.{IsTrueOn, IsFalseOn}
use Rattle.cps_literal.specs.declared.atom.Op.{Op}
use Rattle.cps_literal.specs.declared.atom.Op.TheVariants.{Le, Ge, Eq, Ne}
use Rattle.cps_literal.specs.declared.atom.Truth.{Truth}
use Rattle.cps_literal.specs.declared.atom.Truth.TheVariants.{Yes, No}
use Rattle.cps_literal.proofs.Implying.{le_yes, le_no, yes_le, no_le, yes_lt, no_lt, eq_yes, eq_no, yes_eq}

lt_yes : (x v : ℤ) → x <ℤ v → int_lt x v ≡ true
lt_yes x v h = grind (arith, ints)

pub le_always : (admits : ℤ → Bool) (v g : ℤ) → admits g ≡ true → ((x : ℤ) → admits x ≡ true → x ≤ℤ g) → (int_le g v ≡ true) ↔ IsTrueOn admits Le v
le_always admits v g i h = (λ e x m. le_yes x v (let a = h x m in let b = yes_le g v e in omega (arith, ints)), λ f. f g i)

pub le_never : (admits : ℤ → Bool) (v l : ℤ) → admits l ≡ true → ((x : ℤ) → admits x ≡ true → l ≤ℤ x) → (int_lt v l ≡ true) ↔ IsFalseOn admits Le v
le_never admits v l i h = (λ e x m. le_no x v (let a = h x m in let b = yes_lt v l e in omega (arith, ints)), λ f. lt_yes v l (no_le l v (f l i)))

pub ge_always : (admits : ℤ → Bool) (v l : ℤ) → admits l ≡ true → ((x : ℤ) → admits x ≡ true → l ≤ℤ x) → (int_le v l ≡ true) ↔ IsTrueOn admits Ge v
ge_always admits v l i h = (λ e x m. le_yes v x (let a = h x m in let b = yes_le v l e in omega (arith, ints)), λ f. f l i)

pub ge_never : (admits : ℤ → Bool) (v g : ℤ) → admits g ≡ true → ((x : ℤ) → admits x ≡ true → x ≤ℤ g) → (int_lt g v ≡ true) ↔ IsFalseOn admits Ge v
ge_never admits v g i h = (λ e x m. le_no v x (let a = h x m in let b = yes_lt g v e in omega (arith, ints)), λ f. lt_yes g v (no_le v g (f g i)))

not_true : (b : Bool) → not b ≡ true → b ≡ false
not_true true h = sym h
not_true false h = refl

not_false : (b : Bool) → not b ≡ false → b ≡ true
not_false true e = refl
not_false false e = sym e

no_truth : (b : Bool) → (b ≡ true → ⊥) → b ≡ false
no_truth true h = absurd (h refl)
no_truth false h = refl

-- by what is told of equality: `r` is the opposite of the truth `t`
pub ne_true : (admits : ℤ → Bool) (v : ℤ) (t r : Truth) → ((r ≡ Yes) ↔ (t ≡ No)) → ((t ≡ No) ↔ IsFalseOn admits Eq v) → (r ≡ Yes) ↔ IsTrueOn admits Ne v
ne_true admits v t r a h = (λ y x m. ap not (h.0 (a.0 y) x m), λ f. a.1 (h.1 (λ x m. not_true (equals x v) (f x m))))

pub ne_false : (admits : ℤ → Bool) (v : ℤ) (t r : Truth) → ((r ≡ No) ↔ (t ≡ Yes)) → ((t ≡ Yes) ↔ IsTrueOn admits Eq v) → (r ≡ No) ↔ IsFalseOn admits Ne v
ne_false admits v t r a h = (λ y x m. ap not (h.0 (a.0 y) x m), λ f. a.1 (h.1 (λ x m. not_false (equals x v) (f x m))))

-- no value is another: by the greatest value, and then by the least
pub only_not : (admits : ℤ → Bool) (v g : ℤ) → admits g ≡ true → int_lt v g ≡ true → IsTrueOn admits Eq v → ⊥
only_not admits v g i e f = let a = yes_eq g v (f g i) in let b = yes_lt v g e in absurd (omega (arith, ints))

pub only_test : (admits : ℤ → Bool) (v l g : ℤ) → admits l ≡ true → ((x : ℤ) → admits x ≡ true → l ≤ℤ x) → ((x : ℤ) → admits x ≡ true → x ≤ℤ g) → int_lt v g ≡ false → (int_le v l ≡ true) ↔ IsTrueOn admits Eq v
only_test admits v l g i h k n = (
  λ e x m. eq_yes x v (let a = h x m in let b = k x m in let c = no_lt v g n in let d = yes_le v l e in omega (arith, ints)),
  λ f. le_yes v l (let a = yes_eq l v (f l i) in omega (arith, ints)),
)

pub only_there : (admits : ℤ → Bool) (v l g : ℤ) → admits l ≡ true → ((x : ℤ) → admits x ≡ true → x ≤ℤ g) → int_lt v g ≡ false → int_le v l ≡ true → admits v ≡ true
only_there admits v l g i k n e =
    let same : l ≡ v = (let b = k l i in let c = no_lt v g n in let d = yes_le v l e in omega (arith, ints)) in
    subst (λ z. admits z ≡ true) same i

pub as_coded : (a b : Bool) (P : Type 0) → a ≡ b → ((b ≡ true) ↔ P) → (a ≡ true) ↔ P
as_coded a b P e h = (λ y. h.0 (sym e ∙ y), λ p. e ∙ h.1 p)

-- what is answered by two tests that say so: `b` and `n` are what the code's tests `cb` and `cn` come to
pub always_told : (admits : ℤ → Bool) (o p : Op) (v : ℤ) (cb b : Bool) (t : Truth) → o ≡ p → cb ≡ b → ((t ≡ Yes) ↔ (cb ≡ true)) → ((b ≡ true) ↔ IsTrueOn admits p v) → (t ≡ Yes) ↔ IsTrueOn admits o v
always_told admits o p v cb b t e s a h =
    subst (λ q. (t ≡ Yes) ↔ IsTrueOn admits q v) (sym e) (λ y. h.0 (sym s ∙ a.0 y), λ f. a.1 (s ∙ h.1 f))

pub never_told : (admits : ℤ → Bool) (o p : Op) (v z : ℤ) (cb b cn n : Bool) (t : Truth) → o ≡ p → admits z ≡ true → cb ≡ b → cn ≡ n → ((t ≡ No) ↔ ((cb ≡ false) × (cn ≡ true)))
    → ((b ≡ true) ↔ IsTrueOn admits p v) → ((n ≡ true) ↔ IsFalseOn admits p v) → (t ≡ No) ↔ IsFalseOn admits o v
never_told admits o p v z cb b cn n t e i s r a h k =
    subst (λ q. (t ≡ No) ↔ IsFalseOn admits q v) (sym e)
    (λ y. k.0 (sym r ∙ (a.0 y).1), λ f. a.1 (s ∙ no_truth b (λ y. true≢false (sym (h.0 y z i) ∙ f z i)), r ∙ k.1 f))

-- what is told of a comparison and a number, of those that they are
pub as_told : (P : Op → ℤ → Type 0) (o p : Op) (v z : ℤ) → o ≡ p → z ≡ v → P p z → P o v
as_told P o p v z e i h = subst (λ q. P q v) (sym e) (subst (P p) i h)

-- a value that is not admitted is none of those that are
pub not_there : (admits : ℤ → Bool) (v : ℤ) → admits v ≡ false → IsFalseOn admits Eq v
not_there admits v n = λ x m. eq_no x v (λ e. true≢false (sym m ∙ ap admits e ∙ n))
