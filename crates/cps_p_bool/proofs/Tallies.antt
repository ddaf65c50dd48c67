-- What a kind tells of numbers that are alike to it.
use Rattle.std.proofs.Common.{◌≡◌, ◌⊎◌, ℕ, ◌+◌, ◌≤◌, Bool, true, false, not, ◌&&◌, ◌||◌, ℤ, List, [], ◌∷◌, refl, sym, ap, inl, inr, arith}
use Rattle.std.specs.Prelude.{◌==◌}
use Rattle.std.specs.List.{list_any, list_all, count_by}
use Rattle.std.proofs.lemmas.Bool.Decides.{eqb_tells}
use Rattle.cps_literal.specs.declared.atom.Atom.{Atom}
use Rattle.cps_literal.specs.Truth.{atom_holds}
use Rattle.cps_instance.specs.Tasks.{HoldsBody}
use Rattle.cps_instance.proofs.Agreeing.{count_by-cons}
use Rattle.cps_p_bool.specs.declared.boolean.Kind.{Kind}
use Rattle.cps_p_bool.specs.declared.boolean.Kind.TheVariants as kinds
use Rattle.cps_p_bool.specs.Bodies.{body_of}
use Rattle.cps_p_bool.specs.Tallying.{tally, IsMet, AreNoneAlike, AreFewAlike, AreAlike, one_or, more, greatest, IsCountedIf}
use Rattle.cps_p_bool.proofs.AtomCounts.{bit}

none_alike : (a b c d : ℕ) → AreNoneAlike a b → AreNoneAlike c d → AreNoneAlike (a + c) (b + d)
none_alike a b c d h k = record {
  there = λ e. let x = h.there (omega (arith, e)) in let y = k.there (omega (arith, e)) in omega (arith, x, y);
  back = λ e. let x = h.back (omega (arith, e)) in let y = k.back (omega (arith, e)) in omega (arith, x, y);
}

few_alike : (a b c d : ℕ) → AreFewAlike a b → AreFewAlike c d → AreFewAlike (a + c) (b + d)
few_alike a b c d h k = record {
  there = λ e. let x = h.there (omega (arith, e)) in let y = k.there (omega (arith, e)) in omega (arith, x, y);
  back = λ e. let x = h.back (omega (arith, e)) in let y = k.back (omega (arith, e)) in omega (arith, x, y);
}

pub AreAlike-plus : (k : Kind) (a b c d : ℕ) → AreAlike k a b → AreAlike k c d → AreAlike k (a + c) (b + d)
AreAlike-plus kinds.Empty a b c d h j = tt
AreAlike-plus kinds.Or a b c d h j = none_alike a b c d h j
AreAlike-plus kinds.And a b c d h j = none_alike a b c d h j
AreAlike-plus kinds.AtMostOne a b c d h j = few_alike a b c d h j
AreAlike-plus kinds.ExactlyOne a b c d h j = few_alike a b c d h j
AreAlike-plus kinds.Xor a b c d h j = omega (arith, h, j)

pub AreAlike-same : (k : Kind) (a : ℕ) → AreAlike k a a
AreAlike-same kinds.Empty a = tt
AreAlike-same kinds.Or a = record { there = λ e. e; back = λ e. e }
AreAlike-same kinds.And a = record { there = λ e. e; back = λ e. e }
AreAlike-same kinds.AtMostOne a = record { there = λ e. refl; back = λ e. refl }
AreAlike-same kinds.ExactlyOne a = record { there = λ e. refl; back = λ e. refl }
AreAlike-same kinds.Xor a = refl

pub IsMet-there : (k : Kind) (a b : ℕ) → AreAlike k a b → IsMet k a → IsMet k b
IsMet-there kinds.Empty a b h m = tt
IsMet-there kinds.Or a b h m = elim (eqb_tells b 0) [
  | inl e ↦ (let z = h.back e.1 in absurd (omega (arith, z, m)))
  | inr e ↦ (let ne = e.1 in omega (arith, ne))
]
IsMet-there kinds.And a b h m = h.there m
IsMet-there kinds.AtMostOne a b h m = let e = h.there m in omega (arith, e, m)
IsMet-there kinds.ExactlyOne a b h m = let e = h.there (omega (arith, m)) in omega (arith, e, m)
IsMet-there kinds.Xor a b h m = omega (arith, h, m)

alike_back : (k : Kind) (a b : ℕ) → AreAlike k a b → AreAlike k b a
alike_back kinds.Empty a b h = tt
alike_back kinds.Or a b h = record { there = h.back; back = h.there }
alike_back kinds.And a b h = record { there = h.back; back = h.there }
alike_back kinds.AtMostOne a b h = record { there = λ e. sym (h.back e); back = λ e. sym (h.there e) }
alike_back kinds.ExactlyOne a b h = record { there = λ e. sym (h.back e); back = λ e. sym (h.there e) }
alike_back kinds.Xor a b h = sym h

pub IsMet-back : (k : Kind) (a b : ℕ) → AreAlike k a b → IsMet k b → IsMet k a
IsMet-back k a b h m = IsMet-there k b a (alike_back k a b h) m

few_more : (a b n m : ℕ) → AreFewAlike a (b + n) → ((m ≡ 1) × (n ≡ 0)) ⊎ ((m ≡ 2) × (1 ≤ n)) → AreFewAlike (a + 1) (b + m)
few_more a b n m h (inl e) = record {
  there = λ l. let x = h.there (omega (arith, l)) in omega (arith, x, e.0, e.1);
  back = λ l. let x = h.back (omega (arith, l, e.0, e.1)) in omega (arith, x, e.0, e.1);
}
few_more a b n m h (inr e) = record {
  there = λ l. absurd (let x = h.there (omega (arith, l)) in omega (arith, x, l, e.1));
  back = λ l. absurd (omega (arith, l, e.0));
}

one_or_two : (n : ℕ) → ((one_or (n == 0) 2 ≡ 1) × (n ≡ 0)) ⊎ ((one_or (n == 0) 2 ≡ 2) × (1 ≤ n))
one_or_two n = elim (eqb_tells n 0) [
  | inl e ↦ inl (ap (λ (b : Bool). one_or b 2) e.0, e.1)
  | inr e ↦ inr (ap (λ (b : Bool). one_or b 2) e.0, omega (arith, e.1))
]

one_or_none : (n : ℕ) → ((one_or (n == 0) 0 ≡ 1) × (n ≡ 0)) ⊎ ((one_or (n == 0) 0 ≡ 0) × (1 ≤ n))
one_or_none n = elim (eqb_tells n 0) [
  | inl e ↦ inl (ap (λ (b : Bool). one_or b 0) e.0, e.1)
  | inr e ↦ inr (ap (λ (b : Bool). one_or b 0) e.0, omega (arith, e.1))
]

-- one more counted on both sides
pub AreAlike-more : (k : Kind) (a b n : ℕ) → AreAlike k a (b + n) → n ≤ greatest k → AreAlike k (a + 1) (b + more k n)
AreAlike-more kinds.Empty a b n h l = tt
AreAlike-more kinds.Or a b n h l = record { there = λ e. absurd (omega (arith, e)); back = λ e. absurd (omega (arith, e)) }
AreAlike-more kinds.And a b n h l = record { there = λ e. absurd (omega (arith, e)); back = λ e. absurd (omega (arith, e)) }
AreAlike-more kinds.AtMostOne a b n h l = few_more a b n (one_or (n == 0) 2) h (one_or_two n)
AreAlike-more kinds.ExactlyOne a b n h l = few_more a b n (one_or (n == 0) 2) h (one_or_two n)
AreAlike-more kinds.Xor a b n h l = elim (one_or_none n) [
  | inl e ↦ (let x = e.0 in let y = e.1 in omega (arith, h, x, y))
  | inr e ↦ (let x = e.0 in let y = e.1 in omega (arith, h, l, x, y))
]

pub more_small : (k : Kind) (n : ℕ) → more k n ≤ greatest k
more_small kinds.Empty n = omega arith
more_small kinds.Or n = omega arith
more_small kinds.And n = omega arith
more_small kinds.AtMostOne n = elim (one_or_two n) [ inl e ↦ (let x = e.0 in omega (arith, x)) | inr e ↦ (let x = e.0 in omega (arith, x)) ]
more_small kinds.ExactlyOne n = elim (one_or_two n) [ inl e ↦ (let x = e.0 in omega (arith, x)) | inr e ↦ (let x = e.0 in omega (arith, x)) ]
more_small kinds.Xor n = elim (one_or_none n) [ inl e ↦ (let x = e.0 in omega (arith, x)) | inr e ↦ (let x = e.0 in omega (arith, x)) ]

pub greatest_small : (k : Kind) → greatest k ≤ 2
greatest_small kinds.Empty = omega arith
greatest_small kinds.Or = omega arith
greatest_small kinds.And = omega arith
greatest_small kinds.AtMostOne = omega arith
greatest_small kinds.ExactlyOne = omega arith
greatest_small kinds.Xor = omega arith

pub IsCountedIf-plus : (w v : ℕ) (a b : Bool) (n m : ℕ) → IsCountedIf w a n → IsCountedIf v b m → IsCountedIf (w + v) (a && b) (n + m)
IsCountedIf-plus w v true true n m h k = record { counted = λ e. let x = h.counted refl in let y = k.counted refl in omega (arith, x, y); many = λ e. absurd (let f : true ≡ false = e in cc) }
IsCountedIf-plus w v true false n m h k = record { counted = λ e. absurd (let f : false ≡ true = e in cc); many = λ e. let y = k.many refl in omega (arith, y) }
IsCountedIf-plus w v false b n m h k = record { counted = λ e. absurd (let f : false ≡ true = e in cc); many = λ e. let x = h.many refl in omega (arith, x) }

-- what each kind asks, by its tally
module _ (xs : List ℤ) where
  bit_some : (b : Bool) (r : Bool) (n m : ℕ) → m ≡ bit b + n → (1 ≤ n → r ≡ true) → 1 ≤ m → (b || r) ≡ true
  bit_some true r n m e h l = refl
  bit_some false r n m e h l = h (omega (arith, e, l))

  any_back : (b : Bool) (r : Bool) (n m : ℕ) → m ≡ bit b + n → (r ≡ true → 1 ≤ n) → (b || r) ≡ true → 1 ≤ m
  any_back true r n m e h l = omega (arith, e)
  any_back false r n m e h l = let x = h l in omega (arith, e, x)

  all_there : (b : Bool) (r : Bool) (n m : ℕ) → m ≡ bit (not b) + n → (n ≡ 0 → r ≡ true) → m ≡ 0 → (b && r) ≡ true
  all_there true r n m e h l = h (omega (arith, e, l))
  all_there false r n m e h l = absurd (omega (arith, e, l))

  all_back : (b : Bool) (r : Bool) (n m : ℕ) → m ≡ bit (not b) + n → (r ≡ true → n ≡ 0) → (b && r) ≡ true → m ≡ 0
  all_back true r n m e h l = let x = h l in omega (arith, e, x)
  all_back false r n m e h l = absurd (let f : false ≡ true = l in cc)

  any_met : (us : List Atom) → 1 ≤ count_by (λ u. atom_holds xs u) us → list_any (atom_holds xs) us ≡ true
  any_met [] l = absurd (omega (arith, l))
  any_met (u ∷ us) l = bit_some (atom_holds xs u) (list_any (atom_holds xs) us) (count_by (λ v. atom_holds xs v) us) (count_by (λ v. atom_holds xs v) (u ∷ us)) (count_by-cons (λ v. atom_holds xs v) u us) (any_met us) l

  met_any : (us : List Atom) → list_any (atom_holds xs) us ≡ true → 1 ≤ count_by (λ u. atom_holds xs u) us
  met_any [] l = absurd (let f : false ≡ true = l in cc)
  met_any (u ∷ us) l = any_back (atom_holds xs u) (list_any (atom_holds xs) us) (count_by (λ v. atom_holds xs v) us) (count_by (λ v. atom_holds xs v) (u ∷ us)) (count_by-cons (λ v. atom_holds xs v) u us) (met_any us) l

  all_met : (us : List Atom) → count_by (λ u. not (atom_holds xs u)) us ≡ 0 → list_all (atom_holds xs) us ≡ true
  all_met [] l = refl
  all_met (u ∷ us) l =
      all_there (atom_holds xs u) (list_all (atom_holds xs) us) (count_by (λ v. not (atom_holds xs v)) us) (count_by (λ v. not (atom_holds xs v)) (u ∷ us)) (count_by-cons (λ v. not (atom_holds xs v)) u us) (all_met us) l

  met_all : (us : List Atom) → list_all (atom_holds xs) us ≡ true → count_by (λ u. not (atom_holds xs u)) us ≡ 0
  met_all [] l = refl
  met_all (u ∷ us) l =
      all_back (atom_holds xs u) (list_all (atom_holds xs) us) (count_by (λ v. not (atom_holds xs v)) us) (count_by (λ v. not (atom_holds xs v)) (u ∷ us)) (count_by-cons (λ v. not (atom_holds xs v)) u us) (met_all us) l

  pub met_body : (k : Kind) (us : List Atom) → IsMet k (tally k xs us) → HoldsBody (body_of k us) xs
  met_body kinds.Empty us m = tt
  met_body kinds.Or us m = any_met us m
  met_body kinds.And us m = all_met us m
  met_body kinds.AtMostOne us m = m
  met_body kinds.ExactlyOne us m = m
  met_body kinds.Xor us m = m

  pub body_met : (k : Kind) (us : List Atom) → HoldsBody (body_of k us) xs → IsMet k (tally k xs us)
  body_met kinds.Empty us m = tt
  body_met kinds.Or us m = met_any us m
  body_met kinds.And us m = met_all us m
  body_met kinds.AtMostOne us m = m
  body_met kinds.ExactlyOne us m = m
  body_met kinds.Xor us m = m
