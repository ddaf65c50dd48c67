-- Which value of a subject leaves a task of literals at rest.
use Rattle.std.specs.Prelude.{◌≡◌, ◌≢◌, ◌⊎◌, ℕ, Bool, true, false, ℤ, pos, List, All, Contains}
use Rattle.cps_literal.specs.declared.atom.Atom.{Atom}
use Rattle.cps_literal.specs.Truth.{meets}
use Rattle.cps_p_bool.specs.declared.boolean.Kind.{Kind}
use Rattle.cps_p_bool.specs.declared.boolean.Kind.TheVariants as kinds

-- an atom about a subject is false at one value and true at another
pub record TurnsTrue (u : Atom) (subject : ℕ) (before after : ℤ) : Type 0 where
  pub about : u.subject ≡ subject
  pub false_before : meets u.op u.value before ≡ false
  pub true_after : meets u.op u.value after ≡ true

-- which truth of one literal never ends that a kind holds of a list
abbrev pub Favours : Kind → Bool → Type 0
Favours kinds.Empty truth = ⊥
Favours kinds.Or truth = truth ≡ true
Favours kinds.And truth = truth ≡ true
Favours kinds.AtMostOne truth = truth ≡ false
Favours kinds.ExactlyOne truth = ⊥
Favours kinds.Xor truth = ⊥

-- a literal about a subject has such a truth where the subject has a value
pub record IsFavoured (k : Kind) (live : List Atom) (subject : ℕ) (x : ℤ) : Type 0 where
  pub literal : Atom
  pub has : Contains live literal
  pub about : literal.subject ≡ subject
  pub favoured : Favours k (meets literal.op literal.value x)

-- an enforcement atom is false where its subject has a value
pub record IsDisabled (enforcement : List Atom) (subject : ℕ) (x : ℤ) : Type 0 where
  pub atom : Atom
  pub has : Contains enforcement atom
  pub about : atom.subject ≡ subject
  pub false_there : meets atom.op atom.value x ≡ false

-- No enforcement atom is about a subject, some atom of the body is that tells its values apart, and the literal that
-- stands for it in the normal form has a truth that is favoured.
pub record IsEased (enforcement us : List Atom) (rest : Kind) (live : List Atom) (subject : ℕ) (x : ℤ) : Type 0 where
  pub unenforced : All (λ u. u.subject ≢ subject) enforcement
  pub atom : Atom
  pub has : Contains us atom
  pub about : atom.subject ≡ subject
  pub differs : meets atom.op atom.value (pos 0) ≡ meets atom.op atom.value (pos 1) → ⊥
  pub favoured : IsFavoured rest live subject x

-- a task asks nothing where a subject has a value, or no more than before
abbrev pub IsSpared : List Atom → List Atom → Kind → List Atom → ℕ → ℤ → Type 0
IsSpared enforcement us rest live subject x = IsDisabled enforcement subject x
    ⊎ IsEased enforcement us rest live subject x
