-- The first assumption of which something is so.
use Rattle.std.specs.Prelude.{◌↔◌, IsTrue}
use Rattle.std.proofs.Common.{◌≡◌, ◌∙◌, ◌⊎◌, inl, inr, ℕ, ◌+◌, ◌<◌, ℤ, pos, Bool, false, true≢false, List, length, get_or, ap, sym, subst, arith}
use Rattle.std.proofs.lemmas.List.{get_or_default}
use Rattle.cps_literal.specs.declared.atom.Atom.{Atom}
use Rattle.cps_instance.specs.Posting.{atom_of}

earlier_or_last : (i n : ℕ) → i < n + 1 → (i < n) ⊎ (i ≡ n)
earlier_or_last i n l = grind arith

-- one more of which it is not so
pub one_more : (P : Atom → Type 0) (rs : List ℤ) (n : ℕ) (t : Atom) (test : Bool) → n < length rs → t ≡ atom_of (get_or rs n (pos 0)) → IsTrue test ↔ P t → test ≡ false → ((i : ℕ) (d : ℤ) → i < n → P (atom_of (get_or rs i d)) → ⊥)
    → (i : ℕ) (d : ℤ) → i < n + 1 → P (atom_of (get_or rs i d)) → ⊥
one_more P rs n t test within is tells off before i d l holds = elim (earlier_or_last i n l) [
  | inl old ↦ before i d old holds
  | inr last ↦
      let same : get_or rs i d ≡ get_or rs n (pos 0) = ap (λ (j : ℕ). get_or rs j d) last ∙ get_or_default rs n d (pos 0) within in
      true≢false (sym (tells.1 (subst (λ (u : Atom). P u) (ap atom_of same ∙ sym is) holds)) ∙ off)
]
