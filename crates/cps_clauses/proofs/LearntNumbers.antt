-- The learnt clauses by their place among the learnt ones, as clauses are added and dropped.
use Rattle.std.proofs.Common.{ℕ, zero, suc, ◌+◌, ◌≤◌, ◌<◌, ◌≡◌, ◌≢◌, ◌⊎◌, Bool, true, false, Option, Some, None, List, [], ◌∷◌, ◌++◌, length, get_or, set, map, refl, sym, true≢false, ◌∙◌, ap, subst, inl, inr, arith, length-append}
use Rattle.std.specs.Prelude.{AllPairs}
use Rattle.std.specs.List.{All, Contains}
use Rattle.std.proofs.lemmas.List.{get_or_append_left, get_or_push, get_or_past, get_or-set_same, get_or-set_other, length-set}
use Rattle.std.proofs.lemmas.List.Elements.{All-push, All-weaker, All-map}
use Rattle.std.proofs.lemmas.List.Quantifiers.{all_pairs_push}
use Rattle.cps_model.specs.declared.bound.Bound.{Bound}
use Rattle.cps_literal.specs.declared.atom.Atom.{Atom}
use Rattle.cps_clauses.specs.declared.journal.JournalItem.{JournalItem}
use Rattle.cps_clauses.specs.declared.journal.JournalItem.TheVariants.{Learnt}
use Rattle.cps_clauses.specs.InForce.{is_dropped, in_force, blanked, marked, emptied}
use Rattle.cps_clauses.specs.Journals.{after_item, standing_after, standing_in, count_standing, drops, IsStanding, AreInForce}
use Rattle.cps_clauses.specs.Watches.{clause_of}
use Rattle.cps_clauses.specs.Bases.{number_at, AreNumbered}
use Rattle.cps_clauses.proofs.Honesty.{standing_in-push}
use Rattle.cps_clauses.proofs.DroppedClauses.{held_in, length-blanked, blanked_kept, blanked_same, blanked_marked, marked_has, marked_only}

abbrev Standing : Type 0
Standing = List (Option (List Atom))

-- what stands after learnt clauses were dropped
abbrev pub unset : Standing → List ℕ → Standing
unset standing [] = standing
unset standing (n ∷ ns) = unset (set standing n None) ns

standing_after-append : (standing : Standing) (xs ys : List JournalItem) → standing_after standing (xs ++ ys) ≡ standing_after (standing_after standing xs) ys
standing_after-append standing [] ys = refl
standing_after-append standing (x ∷ xs) ys = standing_after-append (after_item standing x) xs ys

standing_after-drops : (standing : Standing) (ns : List ℕ) → standing_after standing (drops ns) ≡ unset standing ns
standing_after-drops standing [] = refl
standing_after-drops standing (n ∷ ns) = standing_after-drops (set standing n None) ns

pub standing_in-drops : (journal : List JournalItem) (ns : List ℕ) → standing_in (journal ++ drops ns) ≡ unset (standing_in journal) ns
standing_in-drops journal ns = standing_after-append [] journal (drops ns) ∙ standing_after-drops (standing_in journal) ns

pub length-unset : (standing : Standing) (ns : List ℕ) → length (unset standing ns) ≡ length standing
length-unset standing [] = refl
length-unset standing (n ∷ ns) = length-unset (set standing n None) ns ∙ length-set standing n None

same_or : (i j : ℕ) → (i ≡ j) ⊎ (i ≢ j)
same_or i j = grind arith

within_or : (i n : ℕ) → (i < n) ⊎ (n ≤ i)
within_or i n = grind arith

none_set : (standing : Standing) (n : ℕ) → get_or (set standing n None) n None ≡ None
none_set standing n = elim (within_or n (length standing)) [
  | inl l ↦ get_or-set_same standing n None None l
  | inr past ↦ get_or_past (set standing n None) n None (omega (arith, past, length-set standing n None))
]

none_stays : (standing : Standing) (ns : List ℕ) (n : ℕ) → get_or standing n None ≡ None → get_or (unset standing ns) n None ≡ None
none_stays standing [] n h = h
none_stays standing (m ∷ ns) n h = none_stays (set standing m None) ns n (elim (same_or n m) [
  | inl e ↦ subst (λ (k : ℕ). get_or (set standing k None) n None ≡ None) e (none_set standing n)
  | inr ne ↦ get_or-set_other standing m n None None ne ∙ h
])

pub later : (i : ℕ) (is : List ℕ) (j : ℕ) → j ≢ i → Contains (i ∷ is) j → Contains is j
later i is j ne has = go has.0 has.1 has.2
  where
    go : (k : ℕ) → k < length (i ∷ is) → get_or (i ∷ is) k j ≡ j → Contains is j
    go zero l e = absurd (ne (sym e))
    go (suc k) l e = (k, omega (arith, l), e)

pub unset_has : (standing : Standing) (ns : List ℕ) (n : ℕ) → Contains ns n → get_or (unset standing ns) n None ≡ None
unset_has standing [] n has = absurd (let l = has.1 in omega (arith, l))
unset_has standing (m ∷ ns) n has = elim (same_or n m) [
  | inl e ↦ none_stays (set standing m None) ns n (subst (λ (k : ℕ). get_or (set standing k None) n None ≡ None) e (none_set standing n))
  | inr ne ↦ unset_has (set standing m None) ns n (later m ns n ne has)
]

not_later : (i : ℕ) (is : List ℕ) (j : ℕ) → (Contains (i ∷ is) j → ⊥) → Contains is j → ⊥
not_later i is j none has = none (suc has.0, (let l = has.1 in omega (arith, l)), has.2)

not_first : (i : ℕ) (is : List ℕ) (j : ℕ) → (Contains (i ∷ is) j → ⊥) → j ≢ i
not_first i is j none e = none (zero, omega arith, sym e)

pub unset_other : (standing : Standing) (ns : List ℕ) (n : ℕ) → (Contains ns n → ⊥) → get_or (unset standing ns) n None ≡ get_or standing n None
unset_other standing [] n none = refl
unset_other standing (m ∷ ns) n none =
    unset_other (set standing m None) ns n (not_later m ns n none) ∙ get_or-set_other standing m n None None (not_first m ns n none)

none_or_some : (c : List Atom) → None ≡ Some c → ⊥
none_or_some c e = cc e

-- one that stood is one less
pub count_set : (standing : Standing) (n : ℕ) (c : List Atom) → IsStanding standing n c → count_standing (set standing n None) + 1 ≡ count_standing standing
count_set [] n c h = absurd (none_or_some c h)
count_set (None ∷ rest) zero c h = absurd (none_or_some c h)
count_set (Some x ∷ rest) zero c h = refl
count_set (None ∷ rest) (suc n) c h = count_set rest n c h
count_set (Some x ∷ rest) (suc n) c h = let e = count_set rest n c h in omega (arith, e)

-- different ones that stood
pub count_unset : (standing : Standing) (ns : List ℕ) → ((n : ℕ) → Contains ns n → (c : List Atom) × IsStanding standing n c) → AllPairs (λ n m. n ≢ m) ns → count_standing (unset standing ns) + length ns ≡ count_standing standing
count_unset standing [] stand apart = omega arith
count_unset standing (n ∷ ns) stand apart =
    let here = stand n (zero, omega arith, refl) in
    let one = count_set standing n here.0 here.1 in
    let rest = count_unset (set standing n None) ns
    (λ m has. (let more = stand m (suc has.0, (let l = has.1 in omega (arith, l)), has.2) in (more.0, get_or-set_other standing n m None None (λ e. first_apart n ns apart m has (sym e)) ∙ more.1)))
    (λ i j d l m. apart (suc i) (suc j) d (omega (arith, l)) (omega (arith, m))) in
    omega (arith, one, rest)
  where
    first_apart : (n : ℕ) (ns : List ℕ) → AllPairs (λ n m. n ≢ m) (n ∷ ns) → (m : ℕ) → Contains ns m → n ≢ m
    first_apart n ns apart m has e = apart zero (suc has.0) m (omega arith) (let l = has.1 in omega (arith, l)) (e ∙ sym has.2)

-- a count is at most the length
pub count_le : (standing : Standing) → count_standing standing ≤ length standing
count_le [] = omega arith
count_le (None ∷ rest) = let l = count_le rest in omega (arith, l)
count_le (Some c ∷ rest) = let l = count_le rest in omega (arith, l)

pub count_push : (standing : Standing) (c : List Atom) → count_standing (standing ++ Some c ∷ []) ≡ count_standing standing + 1
count_push [] c = refl
count_push (None ∷ rest) c = count_push rest c
count_push (Some x ∷ rest) c = let e = count_push rest c in omega (arith, e)

-- what stands has a place
pub standing_within : (standing : Standing) (n : ℕ) (c : List Atom) → IsStanding standing n c → n < length standing
standing_within standing n c h = elim (within_or n (length standing)) [ inl l ↦ l | inr past ↦ absurd (none_or_some c (sym (get_or_past standing n None past) ∙ h)) ]

-- the learnt clauses that stand are in force
pub numbered_in_force : (cs : List (List Atom)) (ds : List Bool) (learnt : List ℕ) (journal : List JournalItem) → AreNumbered cs ds learnt journal → AreInForce (in_force cs ds) journal
numbered_in_force cs ds learnt journal h n c stands =
    let at = h.standing n c stands in
    let l = standing_within (standing_in journal) n c stands in
    subst (λ (k : List Atom). Contains (in_force cs ds) k) at.1 (held_in cs ds (number_at learnt n) (record { within = h.within n 0 (omega (arith, l, h.count)); stays = at.0 }))

-- an imported clause more
pub numbered_imported : (cs : List (List Atom)) (ds : List Bool) (learnt : List ℕ) (journal : List JournalItem) (c : List Atom) → length ds ≡ length cs → AreNumbered cs ds learnt journal → AreNumbered (cs ++ c ∷ []) (ds ++ false ∷ []) learnt journal
numbered_imported cs ds learnt journal c sizes h = record {
  count = h.count;
  within = All-weaker (λ i. i < length cs) (λ i. i < length (cs ++ c ∷ [])) (λ i l. omega (arith, l, length-append cs (c ∷ []))) learnt h.within;
  rising = h.rising;
  standing = λ n k stands.
      let l = standing_within (standing_in journal) n k stands in
      let b = h.within n 0 (omega (arith, l, h.count)) in
      let at = h.standing n k stands in
      (get_or_append_left ds (false ∷ []) false (number_at learnt n) (omega (arith, b, sizes)) ∙ at.0, get_or_append_left cs (c ∷ []) [] (number_at learnt n) b ∙ at.1);
  fallen = λ n l keeps.
      let b = h.within n 0 l in
      subst (λ (k : List Atom). IsStanding (standing_in journal) n k) (sym (get_or_append_left cs (c ∷ []) [] (number_at learnt n) b))
      (h.fallen n l (sym (get_or_append_left ds (false ∷ []) false (number_at learnt n) (omega (arith, b, sizes))) ∙ keeps));
}

seam : (n i : ℕ) → i < n + 1 → (i < n) ⊎ (i ≡ n)
seam n i l = grind arith

-- a learnt one
pub numbered_learnt : (cs : List (List Atom)) (ds : List Bool) (learnt : List ℕ) (journal : List JournalItem) (c : List Atom) (below : Bound) → length ds ≡ length cs → AreNumbered cs ds learnt journal
    → AreNumbered (cs ++ c ∷ []) (ds ++ false ∷ []) (learnt ++ length cs ∷ []) (journal ++ Learnt c below ∷ [])
numbered_learnt cs ds learnt journal c below sizes h =
    let is = standing_in-push journal (Learnt c below) in
    let long = length-append learnt (length cs ∷ []) in
    record {
      count = omega (arith, h.count, ap (λ (s : Standing). length s) is, length-append (standing_in journal) (Some c ∷ []), long);
      within = All-push (λ i. i < length (cs ++ c ∷ [])) learnt (length cs) (All-weaker (λ i. i < length cs) (λ i. i < length (cs ++ c ∷ [])) (λ i l. omega (arith, l, length-append cs (c ∷ []))) learnt h.within) (omega (arith, length-append cs (c ∷ [])));
      rising = all_pairs_push (λ i j. i < j) learnt (length cs) h.rising (λ k d l. h.within k d l);
      standing = λ n k stands.
          let stands' : IsStanding (standing_in journal ++ Some c ∷ []) n k = subst (λ (s : Standing). IsStanding s n k) is stands in
          let l = standing_within (standing_in journal ++ Some c ∷ []) n k stands' in
          elim (seam (length (standing_in journal)) n (omega (arith, l, length-append (standing_in journal) (Some c ∷ [])))) [
            | inl before ↦
                let at = h.standing n k (sym (get_or_append_left (standing_in journal) (Some c ∷ []) None n before) ∙ stands') in
                let old = number_before n (omega (arith, before, h.count)) in
                let b = h.within n 0 (omega (arith, before, h.count)) in (
                  ap (λ (i : ℕ). is_dropped (ds ++ false ∷ []) i) old ∙ get_or_append_left ds (false ∷ []) false (number_at learnt n) (omega (arith, b, sizes)) ∙ at.0,
                  ap (λ (i : ℕ). clause_of (cs ++ c ∷ []) i) old ∙ get_or_append_left cs (c ∷ []) [] (number_at learnt n) b ∙ at.1,
                )
            | inr last ↦
                let new = number_last n (omega (arith, last, h.count)) in (
                  ap (λ (i : ℕ). is_dropped (ds ++ false ∷ []) i) new ∙ get_or_push ds false false (length cs) (omega (arith, sizes)),
                  ap (λ (i : ℕ). clause_of (cs ++ c ∷ []) i) new ∙ get_or_push cs c [] (length cs) refl
                      ∙ some_same c k (sym (get_or_push (standing_in journal) (Some c) None n (sym last)) ∙ stands'),
                )
          ];
      fallen = λ n l keeps.
          subst (λ (s : Standing). IsStanding s n (clause_of (cs ++ c ∷ []) (number_at (learnt ++ length cs ∷ []) n))) (sym is) (elim (seam (length learnt) n (omega (arith, l, long))) [
            | inl before ↦
                let old = number_before n before in
                let b = h.within n 0 before in
                get_or_append_left (standing_in journal) (Some c ∷ []) None n (omega (arith, before, h.count))
                ∙ h.fallen n before (sym (ap (λ (i : ℕ). is_dropped (ds ++ false ∷ []) i) old ∙ get_or_append_left ds (false ∷ []) false (number_at learnt n) (omega (arith, b, sizes))) ∙ keeps)
                ∙ ap (λ (k : List Atom). Some k) (sym (ap (λ (i : ℕ). clause_of (cs ++ c ∷ []) i) old ∙ get_or_append_left cs (c ∷ []) [] (number_at learnt n) b))
            | inr last ↦
                let new = number_last n last in
                get_or_push (standing_in journal) (Some c) None n (omega (arith, last, h.count))
                ∙ ap (λ (k : List Atom). Some k) (sym (ap (λ (i : ℕ). clause_of (cs ++ c ∷ []) i) new ∙ get_or_push cs c [] (length cs) refl))
          ]);
    }
  where
    some_same : (a b : List Atom) → Some a ≡ Some b → a ≡ b
    some_same a b e = cc e

    number_before : (n : ℕ) → n < length learnt → number_at (learnt ++ length cs ∷ []) n ≡ number_at learnt n
    number_before n l = get_or_append_left learnt (length cs ∷ []) 0 n l

    number_last : (n : ℕ) → n ≡ length learnt → number_at (learnt ++ length cs ∷ []) n ≡ length cs
    number_last n e = get_or_push learnt (length cs) 0 n (sym e)

-- no more clauses were learnt than were added
rising_at : (xs : List ℕ) (k : ℕ) → AllPairs (λ i j. i < j) xs → k < length xs → k ≤ get_or xs k 0
rising_at xs zero h l = omega arith
rising_at xs (suc k) h l =
    let before = rising_at xs k h (omega (arith, l)) in
    let step = h k (suc k) 0 (omega arith) l in
    omega (arith, before, step)

pub rising_few : (n : ℕ) (xs : List ℕ) → AllPairs (λ i j. i < j) xs → All (λ i. i < n) xs → length xs ≤ n
rising_few n [] h all = omega arith
rising_few n (x ∷ xs) h all =
    let last = rising_at (x ∷ xs) (length xs) h (omega arith) in
    let b = all (length xs) 0 (omega arith) in
    omega (arith, last, b)

-- different places have different numbers
pub number_apart : (learnt : List ℕ) (n m : ℕ) → AllPairs (λ i j. i < j) learnt → n < length learnt → m < length learnt → number_at learnt n ≡ number_at learnt m → n ≡ m
number_apart learnt n m rising l k e = elim (three n m) [
  | inl less ↦ absurd (let b = rising n m 0 less k in omega (arith, b, e))
  | inr (inl same) ↦ same
  | inr (inr more) ↦ absurd (let b = rising m n 0 more l in omega (arith, b, e))
]
  where
    three : (n m : ℕ) → (n < m) ⊎ ((n ≡ m) ⊎ (m < n))
    three n m = grind arith

pub number_among : (learnt which : List ℕ) (n : ℕ) → Contains which n → Contains (map (number_at learnt) which) (number_at learnt n)
number_among learnt [] n has = absurd (let l = has.1 in omega (arith, l))
number_among learnt (m ∷ ms) n has = elim (same_or n m) [
  | inl e ↦ (zero, omega arith, ap (λ (k : ℕ). number_at learnt k) (sym e))
  | inr ne ↦ (let rest = number_among learnt ms n (later m ms n ne has) in (suc rest.0, (let l = rest.1 in omega (arith, l)), rest.2))
]

pub number_of_some : (learnt which : List ℕ) (i : ℕ) → Contains (map (number_at learnt) which) i → (n : ℕ) × Contains which n × (number_at learnt n ≡ i)
number_of_some learnt [] i has = absurd (let l = has.1 in omega (arith, l))
number_of_some learnt (m ∷ ms) i has = elim (same_or i (number_at learnt m)) [
  | inl e ↦ (m, (zero, omega arith, refl), sym e)
  | inr ne ↦ (let rest = number_of_some learnt ms i (later (number_at learnt m) (map (number_at learnt) ms) i ne has) in (rest.0, (suc rest.1.0, (let l = rest.1.1 in omega (arith, l)), rest.1.2), rest.2))
]

-- learnt clauses that were dropped
module _ (cs : List (List Atom)) (ds : List Bool) (learnt : List ℕ) (journal : List JournalItem) (which : List ℕ) (sizes : length ds ≡ length cs) (blank : (i : ℕ) → is_dropped ds i ≡ true → clause_of cs i ≡ [])
    (h : AreNumbered cs ds learnt journal) (places : All (λ n. n < length learnt) which) where
  numbers : All (λ i. i < length ds) (map (number_at learnt) which)
  numbers = All-map (λ i. i < length ds) (number_at learnt) which (All-weaker (λ n. n < length learnt) (λ n. number_at learnt n < length ds) (λ n l. (let b = h.within n 0 l in omega (arith, b, sizes))) which places)

  pub emptied_is : emptied cs (map (number_at learnt) which) ≡ blanked cs (marked ds (map (number_at learnt) which))
  emptied_is = sym (blanked_marked cs ds (map (number_at learnt) which) numbers ∙ ap (λ (ks : List (List Atom)). emptied ks (map (number_at learnt) which)) (blanked_same cs ds blank))

  other_number : (n : ℕ) → n < length learnt → (Contains which n → ⊥) → Contains (map (number_at learnt) which) (number_at learnt n) → ⊥
  other_number n l none has =
      let some = number_of_some learnt which (number_at learnt n) has in
      none (subst (λ (k : ℕ). Contains which k) (number_apart learnt some.0 n h.rising (subst (λ (k : ℕ). k < length learnt) some.1.2 (places some.1.0 some.0 some.1.1)) l some.2) some.1)

  pub numbered_dropped : AreNumbered (blanked cs (marked ds (map (number_at learnt) which))) (marked ds (map (number_at learnt) which)) learnt (journal ++ drops which)
  numbered_dropped =
      let is = standing_in-drops journal which in
      record {
        count = h.count ∙ sym (ap (λ (s : Standing). length s) is ∙ length-unset (standing_in journal) which);
        within = All-weaker (λ i. i < length cs) (λ i. i < length (blanked cs (marked ds (map (number_at learnt) which)))) (λ i l. omega (arith, l, length-blanked cs (marked ds (map (number_at learnt) which)))) learnt h.within;
        rising = h.rising;
        standing = λ n k stands.
            let stands' : IsStanding (unset (standing_in journal) which) n k = subst (λ (s : Standing). IsStanding s n k) is stands in
            let none : Contains which n → ⊥ = λ has. none_or_some k (sym (unset_has (standing_in journal) which n has) ∙ stands') in
            let old : IsStanding (standing_in journal) n k = sym (unset_other (standing_in journal) which n none) ∙ stands' in
            let l = standing_within (standing_in journal) n k old in
            let at = h.standing n k old in
            let keeps = marked_only ds (map (number_at learnt) which) (number_at learnt n) (other_number n (omega (arith, l, h.count)) none) ∙ at.0 in
            (keeps, blanked_kept cs (marked ds (map (number_at learnt) which)) (number_at learnt n) keeps ∙ at.1);
        fallen = λ n l keeps.
            let none : Contains which n → ⊥ = λ has. true≢false (sym (marked_has ds (map (number_at learnt) which) (number_at learnt n) numbers (number_among learnt which n has)) ∙ keeps) in
            let old = sym (marked_only ds (map (number_at learnt) which) (number_at learnt n) (other_number n l none)) ∙ keeps in
            subst (λ (s : Standing). IsStanding s n (clause_of (blanked cs (marked ds (map (number_at learnt) which))) (number_at learnt n))) (sym is)
            (unset_other (standing_in journal) which n none ∙ h.fallen n l old ∙ ap (λ (k : List Atom). Some k) (sym (blanked_kept cs (marked ds (map (number_at learnt) which)) (number_at learnt n) keeps)));
      }
