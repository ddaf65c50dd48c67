-- No two models have the same numbers.
use Rattle.std.proofs.Common.{◌≡◌, ℕ, List, [], ◌∷◌, ap, ap₂, subst, sym, refl, ◌∙◌}
use Rattle.std.specs.Prelude.{ℤ}
use base.Stored.{Gv, gnil, gnum, gcons}
use Rattle.cps_model.specs.declared.model.CpModel.{CpModel}
use Rattle.cps_model.specs.contracts.model.CpModel.{the_row}
use Rattle.cps_model.specs.Solutions.{IsSolution}
use Rattle.cps_pool.specs.Naming.{written, names_of, IsSolutionOfNamed}

abbrev first : List ℕ → ℕ
first [] = 0
first (x ∷ xs) = x

abbrev rest : List ℕ → List ℕ
rest [] = []
rest (x ∷ xs) = xs

read : (a b : Gv) (xs ys : List ℕ) → written a xs ≡ written b ys → (a ≡ b) × (xs ≡ ys)
read gnil gnil xs ys e = (refl, ap rest e)
read gnil (gnum n) xs ys e = absurd (cc e)
read gnil (gcons c d) xs ys e = absurd (cc e)
read (gnum m) gnil xs ys e = absurd (cc e)
read (gnum m) (gnum n) xs ys e = (ap gnum (ap (λ l. first (rest l)) e), ap (λ l. rest (rest l)) e)
read (gnum m) (gcons c d) xs ys e = absurd (cc e)
read (gcons a b) gnil xs ys e = absurd (cc e)
read (gcons a b) (gnum n) xs ys e = absurd (cc e)
read (gcons a b) (gcons c d) xs ys e =
    let left = read a c (written b xs) (written d ys) (ap rest e) in
    let right = read b d xs ys left.1 in
    (ap₂ gcons left.0 right.0, right.1)

pub one_name : (m n : CpModel) → names_of m ≡ names_of n → m ≡ n
unfolding names_of
one_name m n e = the_row.coded.inj m n (read (the_row.coded.code m) (the_row.coded.code n) [] [] e).0

-- the values of a solution of a model are a solution of each model that has its names
pub kept_by : (m : CpModel) (names : List ℕ) (a b : List ℤ) → names ≡ names_of m → b ≡ a → IsSolution m a → IsSolutionOfNamed names b
kept_by m names a b named same solution n is = subst (λ (x : CpModel). IsSolution x b) (one_name m n (sym (is ∙ named))) (subst (IsSolution m) (sym same) solution)
