-- Counting literals that are fixed.
use Rattle.std.specs.Prelude.{Any, ◌%◌, ◌==◌}
use Rattle.std.proofs.Common.{◌≡◌, ℕ, zero, suc, ◌+◌, ◌<◌, List, [], ◌∷◌, length, get_or, Bool, true, false, ◌⊎◌, inl, inr, refl, subst, zero-add, add-zero, arith, ℤ, pos}
use Rattle.std.proofs.lemmas.List.{get_or_default}
use Rattle.std.proofs.lemmas.Bool.{cases_eq}
use Rattle.std.proofs.lemmas.Bool.Decides.{nat_tests}
use Rattle.cps_model.specs.Values.{variable_of}
use Rattle.cps_unit.specs.Boxes.{Box}
use Rattle.cps_log.specs.Boxes.{IsFixedTrue, IsFixedFalse}
use Rattle.cps_cert.specs.Refuting.{AtTwo, HasTrueCount, HasEvenCount}

-- ---- at two places

-- what a rest needs: one where one was found before it, and else two
abbrev pub Needs : (ℤ → Type 0) → Bool → List ℤ → Type 0
Needs P true rest = Any P rest
Needs P false rest = AtTwo P rest

pub record MoreNeeded (P : ℤ → Type 0) (found : Bool) (rest whole : List ℤ) : Type 0 where
  pub yes_if : Needs P found rest → AtTwo P whole
  pub only_if : AtTwo P whole → Needs P found rest

pub none_yet : (P : ℤ → Type 0) (whole : List ℤ) → MoreNeeded P false whole whole
none_yet P whole = record { yes_if = λ h. h; only_if = λ h. h }

any_tail : (P : ℤ → Type 0) (r : ℤ) (rs : List ℤ) → Any P rs → Any P (r ∷ rs)
any_tail P r rs h = (suc h.0, h.1, (let l = h.2 in omega arith), h.3, h.4)

any_head : (P : ℤ → Type 0) (r : ℤ) (rs : List ℤ) → P r → Any P (r ∷ rs)
any_head P r rs h = (0, r, omega arith, refl, h)

any_cases : (P : ℤ → Type 0) (r : ℤ) (rs : List ℤ) → Any P (r ∷ rs) → P r ⊎ Any P rs
any_cases P r rs (zero, d, l, e, h) = inl (rw e h)
any_cases P r rs (suc k, d, l, e, h) = inr (k, d, omega arith, e, h)

two_one : (P : ℤ → Type 0) (rs : List ℤ) → AtTwo P rs → Any P rs
two_one P [] h = absurd h
two_one P (r ∷ rs) (inl both) = any_head P r rs both.0
two_one P (r ∷ rs) (inr later) = any_tail P r rs (two_one P rs later)

needs_more : (P : ℤ → Type 0) (found : Bool) (r : ℤ) (rs : List ℤ) → Needs P found rs → Needs P found (r ∷ rs)
needs_more P true r rs h = any_tail P r rs h
needs_more P false r rs h = inr h

needs_less : (P : ℤ → Type 0) (found : Bool) (r : ℤ) (rs : List ℤ) → (P r → ⊥) → Needs P found (r ∷ rs) → Needs P found rs
needs_less P true r rs none h = elim (any_cases P r rs h) [ inl here ↦ absurd (none here) | inr later ↦ later ]
needs_less P false r rs none (inl both) = absurd (none both.0)
needs_less P false r rs none (inr later) = later

-- past a literal that is not fixed so
pub passed : (P : ℤ → Type 0) (found : Bool) (r : ℤ) (rs rest whole : List ℤ) → rest ≡ r ∷ rs → (P r → ⊥) → MoreNeeded P found rest whole → MoreNeeded P found rs whole
passed P found r rs rest whole e none m = record {
  yes_if = λ h. m.yes_if (rw e (needs_more P found r rs h));
  only_if = λ h. needs_less P found r rs none (rw e at (m.only_if h));
}

-- past the first that is
pub found_one : (P : ℤ → Type 0) (r : ℤ) (rs rest whole : List ℤ) → rest ≡ r ∷ rs → P r → MoreNeeded P false rest whole → MoreNeeded P true rs whole
found_one P r rs rest whole e here m = record {
  yes_if = λ h. m.yes_if (rw e (inl (here, h)));
  only_if = λ h. (let two : AtTwo P (r ∷ rs) = rw e at (m.only_if h) in elim two [ inl both ↦ both.1 | inr later ↦ two_one P rs later ]);
}

pub found_two : (P : ℤ → Type 0) (r : ℤ) (rs rest whole : List ℤ) → rest ≡ r ∷ rs → P r → MoreNeeded P true rest whole → AtTwo P whole
found_two P r rs rest whole e here m = m.yes_if (rw e (any_head P r rs here))

pub found_none : (P : ℤ → Type 0) (found : Bool) (rest whole : List ℤ) → rest ≡ [] → MoreNeeded P found rest whole → AtTwo P whole → ⊥
found_none P true rest whole e m h = (let some : Any P [] = rw e at (m.only_if h) in let l = some.2 in absurd (omega arith))
found_none P false rest whole e m h = rw e at (m.only_if h)

-- ---- how many are true

pub record IsCounted (box : Box) (count : ℕ) (rest whole : List ℤ) : Type 0 where
  pub yes_if : (n : ℕ) → HasTrueCount box rest n → HasTrueCount box whole (count + n)
  pub only_if : (n : ℕ) → HasTrueCount box whole n → (k : ℕ) × HasTrueCount box rest k × (n ≡ count + k)

pub none_counted : (box : Box) (whole : List ℤ) → IsCounted box 0 whole whole
none_counted box whole = record {
  yes_if = λ n h. rw (zero-add n) h;
  only_if = λ n h. (n, h, omega arith);
}

-- a variable that is left a value is not fixed both ways
not_both : (box : Box) (r x : ℤ) → box (variable_of r) x ≡ true → IsFixedTrue box r → IsFixedFalse box r → ⊥
not_both box r x h yes_so no_so = let a = yes_so x h in let b = no_so x h in cc

pub counted_true : (box : Box) (count : ℕ) (r x : ℤ) (rs rest whole : List ℤ) → rest ≡ r ∷ rs → box (variable_of r) x ≡ true → IsFixedTrue box r → IsCounted box count rest whole → IsCounted box (count + 1) rs whole
counted_true box count r x rs rest whole e some here c = record {
  yes_if = λ n h. (let all = c.yes_if (n + 1) (rw e (inl (here, (n, h, refl)))) in let same : (count + 1) + n ≡ count + (n + 1) = omega arith in rw same all);
  only_if = λ n h. (let all = c.only_if n h in let split : HasTrueCount box (r ∷ rs) all.0 = rw e at all.1 in let sum = all.2 in
      elim split [
        | inl yes_so ↦ (let k = yes_so.1 in let more = k.2 in (k.0, k.1, omega arith))
        | inr no_so ↦ absurd (not_both box r x some here no_so.0)
      ]);
}

pub counted_false : (box : Box) (count : ℕ) (r x : ℤ) (rs rest whole : List ℤ) → rest ≡ r ∷ rs → box (variable_of r) x ≡ true → IsFixedFalse box r → IsCounted box count rest whole → IsCounted box count rs whole
counted_false box count r x rs rest whole e some here c = record {
  yes_if = λ n h. c.yes_if n (rw e (inr (here, h)));
  only_if = λ n h. (let all = c.only_if n h in let split : HasTrueCount box (r ∷ rs) all.0 = rw e at all.1 in
      elim split [
        | inl yes_so ↦ absurd (not_both box r x some yes_so.0 here)
        | inr no_so ↦ (all.0, no_so.1, all.2)
      ]);
}

-- where one is not fixed they have no count
pub not_counted : (box : Box) (count : ℕ) (r : ℤ) (rs rest whole : List ℤ) → rest ≡ r ∷ rs → (IsFixedTrue box r → ⊥) → (IsFixedFalse box r → ⊥) → IsCounted box count rest whole → HasEvenCount box whole → ⊥
not_counted box count r rs rest whole e a b c h =
    let all = c.only_if h.count h.is in
    let split : HasTrueCount box (r ∷ rs) all.0 = rw e at all.1 in
    elim split [ inl yes_so ↦ a yes_so.0 | inr no_so ↦ b no_so.0 ]

pub even_if : (box : Box) (count : ℕ) (rest whole : List ℤ) → rest ≡ [] → IsCounted box count rest whole → count % 2 ≡ 0 → HasEvenCount box whole
even_if box count rest whole e c even = record { count = count; is = (let all : HasTrueCount box whole (count + 0) = c.yes_if 0 (rw e refl) in rw add-zero at all); even = even }

pub even_only : (box : Box) (count : ℕ) (rest whole : List ℤ) → rest ≡ [] → IsCounted box count rest whole → HasEvenCount box whole → count % 2 ≡ 0
even_only box count rest whole e c h =
    let all = c.only_if h.count h.is in
    let none : all.0 ≡ 0 = rw e at all.1 in
    let sum = all.2 in
    let same : h.count ≡ count = omega arith in
    rw (← same) h.even

-- ---- at none

pub none_more : (P : ℤ → Type 0) (xs : List ℤ) (i : ℕ) → i < length xs → ((k : ℕ) (d : ℤ) → k < i → P (get_or xs k d) → ⊥) → (P (get_or xs i (pos 0)) → ⊥) → (k : ℕ) (d : ℤ) → k < i + 1 → P (get_or xs k d) → ⊥
none_more P xs i l before here k d h p =
    elim (cases_eq k i) [
      | inl same ↦ (let there : P (get_or xs i d) = rw same at p in here (subst P (get_or_default xs i d (pos 0) l) there))
      | inr other ↦ before k d (omega arith) p
    ]

pub not_true : (b : Bool) → b ≡ false → b ≡ true → ⊥
not_true b e f = cc

pub even_test : (n : ℕ) → (n == 0) ≡ true → n ≡ 0
even_test n h = grind (arith, nat_tests)

pub test_even : (n : ℕ) → n ≡ 0 → (n == 0) ≡ true
test_even n h = grind (arith, nat_tests)
