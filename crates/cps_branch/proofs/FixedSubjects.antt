-- What is fixed after some entries is fixed after more.
use Rattle.std.proofs.Common.{ℕ, ℤ, ◌-◌, ◌≤◌, ◌<◌, ◌≡◌, ◌⊎◌, inl, inr, true, List, length, take, drop, get_or, sym, ap, subst, ◌∙◌, arith}
use Rattle.std.proofs.lemmas.List.{take-take, take_all, take-append-drop, get_or-take, length-take, length-take-le}
use Rattle.cps_trail.specs.Trail.{Domains, Entry, Trail, admits}
use Rattle.cps_trail.proofs.Laws.{admits-append}
use Rattle.cps_branch.specs.Fixed.{IsFixedAfter, IsFixed}
use Rattle.cps_branch.specs.Scope.{AreFixedAfter}
use Rattle.cps_branch.specs.Noting.{ForgetsCounts, Notes}

-- what is admitted after more entries is so after fewer
pub admits-fewer : (first : Domains) (es : List Entry) (n i : ℕ) (x : ℤ) → admits first es i x ≡ true → admits first (take n es) i x ≡ true
admits-fewer first es n i x h = admits-append first (take n es) (drop n es) i x (ap (λ fs. admits first fs i x) (take-append-drop n es) ∙ h)

pub fixed-later : (first : Domains) (es : List Entry) (n i : ℕ) → IsFixedAfter first (take n es) i → IsFixedAfter first es i
fixed-later first es n i f x y a b = f x y (admits-fewer first es n i x a) (admits-fewer first es n i y b)

pub fixed-more : (first : Domains) (es : List Entry) (n m i : ℕ) → n ≤ m → IsFixedAfter first (take n es) i → IsFixedAfter first (take m es) i
fixed-more first es n m i l f = fixed-later first (take m es) n i (subst (λ fs. IsFixedAfter first fs i) (sym (take-take n m es l)) f)

pub fixed-whole : (first : Domains) (es : List Entry) (i : ℕ) → IsFixedAfter first es i → IsFixedAfter first (take (length es) es) i
fixed-whole first es i f = subst (λ fs. IsFixedAfter first fs i) (sym (take_all (length es) es (omega arith))) f

-- what is seen after a scan up to a place
pub seen_after : (order : List ℕ) (n kept place : ℕ) (olds keeps news : List ℕ) (s : Trail) → ForgetsCounts kept olds keeps → Notes place (length s.entries) keeps news → AreFixedAfter order n olds s kept
    → ((j : ℕ) → j < place → IsFixed s (get_or order j 0)) → AreFixedAfter order n news s (length s.entries)
seen_after order n kept place olds keeps news s forgets notes agrees fixed pos i j li c lj jn = elim (nat_cases i (length keeps)) [
  | inl l ↦ elim (nat_cases kept (get_or olds i 0)) [
    | inl more ↦ subst (λ k. IsFixedAfter s.first (take k s.entries) (get_or order j 0)) (sym (same l))
        (fixed-more s.first s.entries kept (get_or olds i 0) (get_or order j 0) (omega arith) (forgets.fixed order n s agrees j (omega arith) jn))
    | inr fewer ↦ elim (nat_cases 0 kept) [
      | inl positive ↦ subst (λ k. IsFixedAfter s.first (take k s.entries) (get_or order j 0)) (sym (same l)) (agrees positive i j (in_olds l) fewer lj jn)
      | inr zero_kept ↦ fixed-more s.first s.entries kept (get_or news i 0) (get_or order j 0) (omega arith) (forgets.fixed order n s agrees j (omega arith) jn)
    ]
  ]
  | inr l ↦ subst (λ k. IsFixedAfter s.first (take k s.entries) (get_or order j 0)) (sym (notes.added i l (omega (arith, notes.places))))
      (fixed-whole s.first s.entries (get_or order j 0) (fixed j (omega (arith, notes.places))))
]
  where
    nat_cases : (a b : ℕ) → (a < b) ⊎ (b ≤ a)
    nat_cases a b = grind arith

    same : i < length keeps → get_or news i 0 ≡ get_or olds i 0
    same l = notes.kept i l ∙ ap (λ (xs : List ℕ). get_or xs i 0) forgets.front ∙ get_or-take (length keeps) olds i 0 l

    in_olds : i < length keeps → i < length olds
    in_olds l = omega (arith, ap (λ (xs : List ℕ). length xs) forgets.front, length-take (length keeps) olds)

nat_cases : (a b : ℕ) → (a < b) ⊎ (b ≤ a)
nat_cases a b = grind arith

-- a scan from the places that are known on
pub all_before : (order : List ℕ) (n kept place known : ℕ) (olds keeps items : List ℕ) (s : Trail)
    → ForgetsCounts kept olds keeps → AreFixedAfter order n olds s kept → keeps ≡ take known items → known ≤ length items → ((i : ℕ) → i < place → get_or order i 0 < n)
    → ((i : ℕ) → known ≤ i → i < place → IsFixed s (get_or order i 0)) → (i : ℕ) → i < place → IsFixed s (get_or order i 0)
all_before order n kept place known olds keeps items s forgets agrees e within high scan i l = elim (nat_cases i known) [
  | inl below ↦ fixed-later s.first s.entries kept (get_or order i 0)
      (forgets.fixed order n s agrees i (omega (arith, below, within, ap (λ (xs : List ℕ). length xs) e, length-take known items)) (high i l))
  | inr above ↦ scan i above l
]

-- counts up to one that is at most `kept`
pub forgets_to : (kept known r : ℕ) (olds items : List ℕ) → olds ≡ take known items → known ≤ length items → r ≤ known
    → (0 < r → 0 < kept) → (0 < r → get_or items (r - 1) 0 ≤ kept) → ForgetsCounts kept olds (take r items)
forgets_to kept known r olds items e within fewer some last = record {
  front = sym (ap (λ k. take k olds) length_is ∙ ap (take r) e ∙ take-take r known items fewer);
  fixed = λ order n s agrees j l jn.
      let positive : 0 < r = omega (arith, l, length_is) in
      let same : get_or olds (r - 1) 0 ≡ get_or items (r - 1) 0 = ap (λ (xs : List ℕ). get_or xs (r - 1) 0) e ∙ get_or-take known items (r - 1) 0 (omega (arith, positive, fewer)) in
      let low : get_or olds (r - 1) 0 ≤ kept = omega (arith, same, last positive) in
      let in_olds : r - 1 < length olds = omega (arith, positive, fewer, within, ap (λ (xs : List ℕ). length xs) e, length-take known items) in
      fixed-more s.first s.entries (get_or olds (r - 1) 0) kept (get_or order j 0) low (agrees (some positive) (r - 1) j in_olds low (omega (arith, l, length_is)) jn);
}
  where
    length_is : length (take r items) ≡ r
    length_is = omega (arith, length-take r items, within, fewer)

-- the same count at the places from those that are known up to another
pub notes_to : (known seen place count : ℕ) (olds items news : List ℕ) → olds ≡ take known items → known ≤ length items → length olds ≤ place → place ≤ seen → place ≤ length news
    → ((i : ℕ) → i < known → get_or news i 0 ≡ get_or items i 0) → ((i : ℕ) → known ≤ i → i < seen → get_or news i 0 ≡ count) → Notes place count olds (take place news)
notes_to known seen place count olds items news e inside low high room kept added = record {
  places = length-take-le place news room;
  kept = λ i l.
      let h : i < known = omega (arith, l, known_length) in
      get_or-take place news i 0 (omega (arith, h, low, known_length)) ∙ kept i h ∙ sym (ap (λ (xs : List ℕ). get_or xs i 0) e ∙ get_or-take known items i 0 h);
  added = λ i above l. get_or-take place news i 0 l ∙ added i (omega (arith, above, known_length)) (omega (arith, l, high));
}
  where
    known_length : length olds ≡ known
    known_length = ap (λ (xs : List ℕ). length xs) e ∙ length-take-le known items inside
