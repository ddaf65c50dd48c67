-- What is one off a sum that fits.
use Rattle.std.proofs.Common.{◌≡◌, ◌∙◌, ◌<ℤ◌, ◌+ℤ◌, ◌-ℤ◌, ℤ, pos, FitsSigned, sym, ap, subst, arith}
use Rattle.std.proofs.lemmas.Int.{ints, to_z-of_z}
use mir.Val.{to_z, of_z}
use mir.Syntax.{w64}

-- what is one less than a sum, or one more
module _ (a b sum d : ℤ) (fits : FitsSigned w64 (a +ℤ b)) (is : sum ≡ a +ℤ b) where
  same_total : to_z w64 (of_z w64 sum) ≡ a +ℤ b
  same_total = to_z-of_z w64 sum (subst (λ (x : ℤ). FitsSigned w64 x) (sym is) fits) ∙ is

  pub one_below : FitsSigned w64 (to_z w64 (of_z w64 sum) -ℤ pos 1) → d ≡ to_z w64 (of_z w64 sum) -ℤ pos 1 → to_z w64 (of_z w64 d) <ℤ (a +ℤ b)
  one_below g e =
      let same = to_z-of_z w64 d (subst (λ (x : ℤ). FitsSigned w64 x) (sym e) g) ∙ e ∙ ap (λ (x : ℤ). x -ℤ pos 1) same_total in
      subst (λ (x : ℤ). x <ℤ (a +ℤ b)) (sym same) (less (a +ℤ b))
    where
      less : (x : ℤ) → (x -ℤ pos 1) <ℤ x
      less x = omega (arith, ints)

  pub one_above : FitsSigned w64 (to_z w64 (of_z w64 sum) +ℤ pos 1) → d ≡ to_z w64 (of_z w64 sum) +ℤ pos 1 → (a +ℤ b) <ℤ to_z w64 (of_z w64 d)
  one_above g e =
      let same = to_z-of_z w64 d (subst (λ (x : ℤ). FitsSigned w64 x) (sym e) g) ∙ e ∙ ap (λ (x : ℤ). x +ℤ pos 1) same_total in
      subst (λ (x : ℤ). (a +ℤ b) <ℤ x) (sym same) (more (a +ℤ b))
    where
      more : (x : ℤ) → x <ℤ (x +ℤ pos 1)
      more x = omega (arith, ints)

-- what is one less than a number
pub one_less : (a d : ℤ) → FitsSigned w64 (to_z w64 (of_z w64 a) -ℤ pos 1) → d ≡ to_z w64 (of_z w64 a) -ℤ pos 1 → to_z w64 (of_z w64 d) <ℤ to_z w64 (of_z w64 a)
one_less a d g e =
    let same = to_z-of_z w64 d (subst (λ (x : ℤ). FitsSigned w64 x) (sym e) g) ∙ e in
    subst (λ (x : ℤ). x <ℤ to_z w64 (of_z w64 a)) (sym same) (less (to_z w64 (of_z w64 a)))
  where
    less : (x : ℤ) → (x -ℤ pos 1) <ℤ x
    less x = omega (arith, ints)
