-- Boxes that do not overlap, two by two.
use Rattle.std.specs.Prelude.{IsTrue}
use Rattle.std.specs.List.{All, AllPairs, cons_option}
use Rattle.std.proofs.Common.{◌≡◌, ℕ, zero, suc, ◌<◌, ◌⊎◌, inl, inr, ℤ, Bool, true, false, Option, Some, None, List, [], ◌∷◌, length, get_or, refl, sym, ◌∙◌, ap, subst, arith}
use Rattle.std.proofs.lemmas.List.Elements.{All-head, All-tail, All-nil, All-cons}
use Rattle.std.proofs.lemmas.List.Kept.{AllPairs-cons}
use Rattle.cps_domain.proofs.Tests.{or_cases}
use Rattle.cps_model.specs.declared.parts.Run.{Run}
use Rattle.cps_model.specs.declared.parts.Area.{Area}
use Rattle.cps_model.specs.Scheduling.{are_apart, area_of, are_disjoint, IsNoOverlap2d}
use Rattle.cps_instance.specs.declared.task.Span.{Span}
use Rattle.cps_instance.specs.Parts.{span_run, span_areas}
use Rattle.cps_p_span.specs.Spans.{is_present, IsBefore}
use Rattle.cps_p_span.proofs.Apart.{run_at, run_some, run_none, before, apart, or_left, or_right}

abbrev area_at : List ℤ → Span → Span → Area
area_at xs p q = record { x = run_at xs p; y = run_at xs q }

-- a box is there where both its spans are present
area_some : (xs : List ℤ) (p q : Span) → is_present xs p ≡ true → is_present xs q ≡ true → area_of (span_run xs p) (span_run xs q) ≡ Some (area_at xs p q)
area_some xs p q e f = ap (λ (o : Option Run). area_of o (span_run xs q)) (run_some xs p e) ∙ ap (λ (o : Option Run). area_of (Some (run_at xs p)) o) (run_some xs q f)

area_none_x : (xs : List ℤ) (p q : Span) → is_present xs p ≡ false → area_of (span_run xs p) (span_run xs q) ≡ None
area_none_x xs p q e = ap (λ (o : Option Run). area_of o (span_run xs q)) (run_none xs p e)

area_none_y : (xs : List ℤ) (p q : Span) → is_present xs q ≡ false → area_of (span_run xs p) (span_run xs q) ≡ None
area_none_y xs p q e = ap (λ (o : Option Run). area_of (span_run xs p) o) (run_none xs q e) ∙ no_area (span_run xs p)
  where
    no_area : (o : Option Run) → area_of o None ≡ None
    no_area None = refl
    no_area (Some r) = refl

all_later : (Q : Area → Type 0) (o : Option Area) (bs : List Area) → All Q (cons_option o bs) → All Q bs
all_later Q None bs h = h
all_later Q (Some b) bs h = All-tail Q b bs h

area_in : (Q : Area → Type 0) (xs : List ℤ) (ps qs : List Span) (k : ℕ) (d : Span) → k < length ps → k < length qs → is_present xs (get_or ps k d) ≡ true → is_present xs (get_or qs k d) ≡ true → All Q (span_areas xs ps qs) → Q (area_at xs (get_or ps k d) (get_or qs k d))
area_in Q xs [] qs k d l m e f h = absurd (omega arith)
area_in Q xs (p ∷ ps) [] k d l m e f h = absurd (omega arith)
area_in Q xs (p ∷ ps) (q ∷ qs) zero d l m e f h = All-head Q (area_at xs p q) (span_areas xs ps qs) (subst (λ (o : Option Area). All Q (cons_option o (span_areas xs ps qs))) (area_some xs p q e f) h)
area_in Q xs (p ∷ ps) (q ∷ qs) (suc k) d l m e f h = area_in Q xs ps qs k d (omega arith) (omega arith) e f (all_later Q (area_of (span_run xs p) (span_run xs q)) (span_areas xs ps qs) h)

abbrev Disjoint : Area → Area → Type 0
Disjoint a b = IsTrue (are_disjoint a b)

pairs_head : (b : Area) (bs : List Area) → AllPairs Disjoint (b ∷ bs) → All (Disjoint b) bs
pairs_head b bs h = λ k d l. h 0 (suc k) d (omega arith) (omega arith)

pairs_tail : (b : Area) (bs : List Area) → AllPairs Disjoint (b ∷ bs) → AllPairs Disjoint bs
pairs_tail b bs h = λ i j d l m. h (suc i) (suc j) d (omega arith) (omega arith)

pairs_later : (o : Option Area) (bs : List Area) → AllPairs Disjoint (cons_option o bs) → AllPairs Disjoint bs
pairs_later None bs h = h
pairs_later (Some b) bs h = pairs_tail b bs h

-- one of two spans comes before the other
abbrev pub Either : List ℤ → Span → Span → Type 0
Either xs p q = IsBefore xs p q ⊎ IsBefore xs q p

apart_of_areas : (xs : List ℤ) (p q r t : Span) → Disjoint (area_at xs p r) (area_at xs q t) → Either xs p q ⊎ Either xs r t
apart_of_areas xs p q r t h = elim (or_cases (are_apart (run_at xs p) (run_at xs q)) (are_apart (run_at xs r) (run_at xs t)) h) [
  | inl e ↦ inl (before xs p q e)
  | inr e ↦ inr (before xs r t e)
]

areas_apart : (xs : List ℤ) (p q r t : Span) → Either xs p q ⊎ Either xs r t → Disjoint (area_at xs p r) (area_at xs q t)
areas_apart xs p q r t (inl h) = or_left (are_apart (run_at xs p) (run_at xs q)) (are_apart (run_at xs r) (run_at xs t)) (apart xs p q h)
areas_apart xs p q r t (inr h) = or_right (are_apart (run_at xs p) (run_at xs q)) (are_apart (run_at xs r) (run_at xs t)) (apart xs r t h)

-- two present boxes of a list are apart in one direction
pub disjoint_of : (xs : List ℤ) (ps qs : List Span) (i j : ℕ) (d : Span) → i < j → j < length ps → j < length qs
    → is_present xs (get_or ps i d) ≡ true → is_present xs (get_or qs i d) ≡ true → is_present xs (get_or ps j d) ≡ true → is_present xs (get_or qs j d) ≡ true → IsNoOverlap2d (span_areas xs ps qs)
    → Either xs (get_or ps i d) (get_or ps j d) ⊎ Either xs (get_or qs i d) (get_or qs j d)
disjoint_of xs [] qs i j d l m n a b e f h = absurd (omega arith)
disjoint_of xs (p ∷ ps) [] i j d l m n a b e f h = absurd (omega arith)
disjoint_of xs (p ∷ ps) (q ∷ qs) zero zero d l m n a b e f h = absurd (omega arith)
disjoint_of xs (p ∷ ps) (q ∷ qs) zero (suc j) d l m n a b e f h =
    let k : AllPairs Disjoint (area_at xs p q ∷ span_areas xs ps qs) = subst (λ (o : Option Area). AllPairs Disjoint (cons_option o (span_areas xs ps qs))) (area_some xs p q a b) h in
    apart_of_areas xs p (get_or ps j d) q (get_or qs j d) (area_in (Disjoint (area_at xs p q)) xs ps qs j d (omega arith) (omega arith) e f (pairs_head (area_at xs p q) (span_areas xs ps qs) k))
disjoint_of xs (p ∷ ps) (q ∷ qs) (suc i) zero d l m n a b e f h = absurd (omega arith)
disjoint_of xs (p ∷ ps) (q ∷ qs) (suc i) (suc j) d l m n a b e f h = disjoint_of xs ps qs i j d (omega arith) (omega arith) (omega arith) a b e f (pairs_later (area_of (span_run xs p) (span_run xs q)) (span_areas xs ps qs) h)

-- and boxes that are so two by two do not overlap
areas_all : (Q : Area → Type 0) (xs : List ℤ) (ps qs : List Span)
    → ((k : ℕ) (d : Span) → k < length ps → k < length qs → is_present xs (get_or ps k d) ≡ true → is_present xs (get_or qs k d) ≡ true → Q (area_at xs (get_or ps k d) (get_or qs k d))) → All Q (span_areas xs ps qs)
areas_all Q xs [] qs h = All-nil Q
areas_all Q xs (p ∷ ps) [] h = All-nil Q
areas_all Q xs (p ∷ ps) (q ∷ qs) h = cons (is_present xs p) (is_present xs q) refl refl (areas_all Q xs ps qs (λ k d l m e f. h (suc k) d (omega arith) (omega arith) e f))
  where
    cons : (b c : Bool) → b ≡ is_present xs p → c ≡ is_present xs q → All Q (span_areas xs ps qs) → All Q (cons_option (area_of (span_run xs p) (span_run xs q)) (span_areas xs ps qs))
    cons true true e f rest = subst (λ (o : Option Area). All Q (cons_option o (span_areas xs ps qs))) (sym (area_some xs p q (sym e) (sym f))) (All-cons Q (area_at xs p q) (span_areas xs ps qs) (h 0 p (omega arith) (omega arith) (sym e) (sym f)) rest)
    cons true false e f rest = subst (λ (o : Option Area). All Q (cons_option o (span_areas xs ps qs))) (sym (area_none_y xs p q (sym f))) rest
    cons false c e f rest = subst (λ (o : Option Area). All Q (cons_option o (span_areas xs ps qs))) (sym (area_none_x xs p q (sym e))) rest

-- each two boxes whose spans are present are apart in one direction
abbrev pub AllDisjoint : List ℤ → List Span → List Span → Type 0
AllDisjoint xs ps qs = (i j : ℕ) (d : Span) → i < j → j < length ps → j < length qs
    → is_present xs (get_or ps i d) ≡ true → is_present xs (get_or qs i d) ≡ true → is_present xs (get_or ps j d) ≡ true → is_present xs (get_or qs j d) ≡ true
    → Either xs (get_or ps i d) (get_or ps j d) ⊎ Either xs (get_or qs i d) (get_or qs j d)

pub no_overlap_2d : (xs : List ℤ) (ps qs : List Span) → AllDisjoint xs ps qs → IsNoOverlap2d (span_areas xs ps qs)
no_overlap_2d xs [] qs h = λ i j d l m. absurd (omega arith)
no_overlap_2d xs (p ∷ ps) [] h = λ i j d l m. absurd (omega arith)
no_overlap_2d xs (p ∷ ps) (q ∷ qs) h = cons (is_present xs p) (is_present xs q) refl refl (no_overlap_2d xs ps qs (λ i j d l m n a b e f. h (suc i) (suc j) d (omega arith) (omega arith) (omega arith) a b e f))
  where
    cons : (b c : Bool) → b ≡ is_present xs p → c ≡ is_present xs q → AllPairs Disjoint (span_areas xs ps qs) → AllPairs Disjoint (cons_option (area_of (span_run xs p) (span_run xs q)) (span_areas xs ps qs))
    cons true true e f rest = subst (λ (o : Option Area). AllPairs Disjoint (cons_option o (span_areas xs ps qs))) (sym (area_some xs p q (sym e) (sym f)))
        (AllPairs-cons Disjoint (area_at xs p q) (span_areas xs ps qs)
        (areas_all (Disjoint (area_at xs p q)) xs ps qs (λ k d l m a b. areas_apart xs p (get_or ps k d) q (get_or qs k d) (h 0 (suc k) d (omega arith) (omega arith) (omega arith) (sym e) (sym f) a b))) rest)
    cons true false e f rest = subst (λ (o : Option Area). AllPairs Disjoint (cons_option o (span_areas xs ps qs))) (sym (area_none_y xs p q (sym f))) rest
    cons false c e f rest = subst (λ (o : Option Area). AllPairs Disjoint (cons_option o (span_areas xs ps qs))) (sym (area_none_x xs p q (sym e))) rest
