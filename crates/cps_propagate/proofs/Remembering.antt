-- What propagators remember stays so where entries are added, and as one of them is visited.
use Rattle.std.specs.Prelude.{IfSome, MatchOption}
use Rattle.std.proofs.Common.{ℕ, zero, suc, ◌≤◌, ◌<◌, ◌≡◌, ◌≢◌, Option, Some, None, List, [], ◌∷◌, length, take, get_or, set, map, length-set, refl, sym, ◌∙◌, ap, subst, inl, inr, ◌⊎◌, arith}
use Rattle.std.specs.List.{All}
use Rattle.std.proofs.lemmas.List.{take-append-le, length-map}
use Rattle.std.proofs.lemmas.List.Elements.{All-nil, All-weaker}
use Rattle.cps_trail.specs.Trail.{Domains, Entry, Trail, admits}
use Rattle.cps_trail.specs.Changes.{IsHull}
use Rattle.cps_trail.specs.Adds.{Grounds, Infers}
use Rattle.cps_propagate.specs.Recalling.{Remembered, Memory, Recall, Seen, Stand, IsRecalled, IsOfFirst, no_memory, Recalls, AllRecall, RecallNow}
use Rattle.cps_propagate.proofs.Listing.{get_or-map}

-- entries that were there before are there still
get_or-take : (xs : List Entry) (k j : ℕ) (d : Entry) → j < k → get_or (take k xs) j d ≡ get_or xs j d
get_or-take [] zero j d l = refl
get_or-take [] (suc k) j d l = refl
get_or-take (x ∷ xs) zero j d l = absurd (omega arith)
get_or-take (x ∷ xs) (suc k) zero d l = refl
get_or-take (x ∷ xs) (suc k) (suc j) d l = get_or-take xs k j d (omega arith)

-- what is remembered of some entries is a matter of these and of the first domains
pub IsRecalled-same : (s t : Trail) (k : ℕ) (r : Remembered) → t.first ≡ s.first → take k t.entries ≡ take k s.entries → IsRecalled s k r → IsRecalled t k r
IsRecalled-same s t k r f e h = record {
  hull = subst (λ (es : List Entry). IsHull (admits t.first es r.subject) (r.low, r.high)) (sym e) (subst (λ (ds : Domains). IsHull (admits ds (take k s.entries) r.subject) (r.low, r.high)) (sym f) h.hull);
  after = λ j d low high. subst (λ (x : Entry). x.atom.subject ≢ r.subject) (sym (get_or-take s.entries k j d high) ∙ ap (λ (es : List Entry). get_or es j d) (sym e) ∙ get_or-take t.entries k j d high) (h.after j d low high);
}

pub Recalls-same : (m : Memory) (s t : Trail) (n : ℕ) → t.first ≡ s.first → ((k : ℕ) → k ≤ n → take k t.entries ≡ take k s.entries) → Recalls m s n → Recalls m t n
Recalls-same m s t n f e h = record {
  first = subst (λ (ds : Domains). All (IsOfFirst ds) m.ends) (sym f) h.first;
  here = λ k c l. All-weaker (λ r. r.since ≤ k → IsRecalled s k r) (λ r. r.since ≤ k → IsRecalled t k r) (λ r g low. IsRecalled-same s t k r f (e k l) (g low)) m.ends (h.here k c l);
}

pub Recalls-fewer : (m : Memory) (s : Trail) (n k : ℕ) → k ≤ n → Recalls m s n → Recalls m s k
Recalls-fewer m s n k l h = record { first = h.first; here = λ j c b. h.here j c (omega (arith, b, l)) }

-- where nothing is remembered
pub Recalls-nothing : (s : Trail) (n : ℕ) → Recalls no_memory s n
Recalls-nothing s n = record { first = All-nil (IsOfFirst s.first); here = λ k c l. All-nil (λ r. r.since ≤ k → IsRecalled s k r) }

-- more entries
pub Recalls-inferred : (C : Grounds) (m : Memory) (s t : Trail) (n : ℕ) → Infers C s t → n ≤ length s.entries → Recalls m s n → Recalls m t n
Recalls-inferred C m s t n i l h = Recalls-same m s t n i.first (λ k b. ap (λ (es : List Entry). take k es) i.entries ∙ take-append-le k s.entries i.added (omega (arith, b, l))) h

set_here : {M : Type 0} (ms : List M) (n : ℕ) (m d : M) → n < length ms → get_or (set ms n m) n d ≡ m
set_here [] n m d l = absurd (omega arith)
set_here (x ∷ ms) zero m d l = refl
set_here (x ∷ ms) (suc n) m d l = set_here ms n m d (omega arith)

set_other : {M : Type 0} (ms : List M) (n j : ℕ) (m d : M) → j ≢ n → get_or (set ms n m) j d ≡ get_or ms j d
set_other [] n j m d o = refl
set_other (x ∷ ms) zero zero m d o = absurd (o refl)
set_other (x ∷ ms) zero (suc j) m d o = refl
set_other (x ∷ ms) (suc n) zero m d o = refl
set_other (x ∷ ms) (suc n) (suc j) m d o = set_other ms n j m d (λ e. o (ap (λ (i : ℕ). suc i) e))

map_set : {P M : Type 0} (f : P → M) (xs : List P) (n : ℕ) (y : P) → map f (set xs n y) ≡ set (map f xs) n (f y)
map_set f [] n y = refl
map_set f (x ∷ xs) zero y = refl
map_set f (x ∷ xs) (suc n) y = ap (λ l. f x ∷ l) (map_set f xs n y)

number_cases : (i j : ℕ) → (i ≡ j) ⊎ (i ≢ j)
number_cases i j = grind arith

-- what a run begins with
pub RecallNow-begun : (ms : List Memory) (a b : Seen) (s : Trail) (rested : Option ℕ) → IfSome rested (AllRecall (record { memories = ms; seen = a }) s) → ((j k : ℕ) → Stand b j k → MatchOption rested ⊥ (λ from. Stand a j k × (k ≤ from)))
    → length b.stamps ≤ length s.entries → RecallNow (record { memories = ms; seen = b }) s
RecallNow-begun ms a b s None h stand within = record { within = within; each = λ j k d l st. absurd (stand j k st) }
RecallNow-begun ms a b s (Some from) h stand within = record { within = within; each = λ j k d l st. h j k d l (stand j k st).1 (stand j k st).0 }

-- what a run leaves
pub AllRecall-now : (r : Recall) (s : Trail) → RecallNow r s → (n : ℕ) → AllRecall r s n
AllRecall-now r s h n j k d l b st = h.each j k d l st

-- what a propagator's memory is right about
pub standing_recalls : {P : Type 0} (f : P → Memory) (xs : List P) (n : ℕ) (r : P) (a : Seen) (s : Trail) (standing : Option ℕ) → r ≡ get_or xs n r → n < length xs → RecallNow (record { memories = map f xs; seen = a }) s
    → IfSome standing (Stand a n) → IfSome standing (Recalls (f r) s)
standing_recalls f xs n r a s None is l h st = tt
standing_recalls f xs n r a s (Some k) is l h st = subst (λ (m : Memory). Recalls m s k) (get_or-map f xs n r ∙ ap f (sym is)) (h.each n k (f r) (omega (arith, l, length-map xs f)) st)

-- after a visit
pub RecallNow-visited : {P : Type 0} (f : P → Memory) (C : Grounds) (xs : List P) (n : ℕ) (y : P) (a b c : Seen) (s t : Trail) → n < length xs → Infers C s t → RecallNow (record { memories = map f xs; seen = a }) s → Recalls (f y) t (length t.entries)
    → ((j k : ℕ) → Stand b j k → Stand a j k) → length b.stamps ≤ length t.entries → ((j k : ℕ) → Stand c j k → Stand b j k ⊎ (j ≡ n)) → c.stamps ≡ b.stamps → RecallNow (record { memories = map f (set xs n y); seen = c }) t
RecallNow-visited f C xs n y a b c s t l infers h own noted within visited same = record {
  within = sized;
  each = λ j k d small st. elim (number_cases j n) [
    | inl here ↦ subst (λ (m : Memory). Recalls m t k) (sym (at_own j d here)) (Recalls-fewer (f y) t (length t.entries) k (omega (arith, st.within, sized)) own)
    | inr other ↦
        let stood = noted j k (elim (visited j k st) [ inl b ↦ b | inr e ↦ absurd (other e) ]) in
        subst (λ (m : Memory). Recalls m t k) (sym (at_other j d other))
        (Recalls-inferred C (get_or (map f xs) j d) s t k infers (omega (arith, stood.within, h.within)) (h.each j k d (omega (arith, small, length-set_map)) stood))
  ];
}
  where
    sized : length c.stamps ≤ length t.entries
    sized = omega (arith, within, ap (λ (l : List ℕ). length l) same)

    length-set_map : length (map f (set xs n y)) ≡ length (map f xs)
    length-set_map = ap (λ (l : List Memory). length l) (map_set f xs n y) ∙ length-set (map f xs) n (f y)

    at_own : (j : ℕ) (d : Memory) → j ≡ n → get_or (map f (set xs n y)) j d ≡ f y
    at_own j d here = ap (λ (l : List Memory). get_or l j d) (map_set f xs n y) ∙ ap (λ (i : ℕ). get_or (set (map f xs) n (f y)) i d) here ∙ set_here (map f xs) n (f y) d (omega (arith, l, length-map xs f))

    at_other : (j : ℕ) (d : Memory) → j ≢ n → get_or (map f (set xs n y)) j d ≡ get_or (map f xs) j d
    at_other j d other = ap (λ (l : List Memory). get_or l j d) (map_set f xs n y) ∙ set_other (map f xs) n j (f y) d other
