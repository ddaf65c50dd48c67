-- Spans that do not overlap, two by two.
use Rattle.std.specs.Prelude.{int_le, IsTrue, if◌then◌else◌}
use Rattle.std.specs.List.{All, AllPairs, cons_option}
use Rattle.std.proofs.Common.{◌≡◌, ℕ, zero, suc, ◌<◌, ◌≤ℤ◌, ◌⊎◌, inl, inr, ℤ, Bool, true, false, ◌||◌, Option, Some, None, List, [], ◌∷◌, length, get_or, refl, sym, ap, subst, arith, true≢false}
use Rattle.std.proofs.lemmas.List.Elements.{All-head, All-tail, All-nil, All-cons}
use Rattle.std.proofs.lemmas.List.Kept.{AllPairs-cons}
use Rattle.cps_domain.proofs.Tests.{true_le, le_true, or_cases}
use Rattle.cps_model.specs.declared.parts.Run.{Run}
use Rattle.cps_model.specs.Scheduling.{are_apart, IsNoOverlap}
use Rattle.cps_literal.specs.Truth.{value_at}
use Rattle.cps_instance.specs.declared.task.Span.{Span}
use Rattle.cps_instance.specs.Parts.{span_end, span_run, span_runs}
use Rattle.cps_p_span.specs.Spans.{start_at, end_of, is_present, IsBefore}

abbrev pub run_at : List ℤ → Span → Run
run_at xs p = record { start = value_at xs p.start; end = span_end xs p.start p.end p.length }

pub end_same : (xs : List ℤ) (a b : ℕ) (far : Option ℤ) → span_end xs a b far ≡ end_of far (value_at xs a) (value_at xs b)
end_same xs a b (Some f) = refl
end_same xs a b None = refl

pub run_some : (xs : List ℤ) (p : Span) → is_present xs p ≡ true → span_run xs p ≡ Some (run_at xs p)
run_some xs p e = ap (λ b. let o : Option Run = if b then Some (run_at xs p) else None in o) e

pub run_none : (xs : List ℤ) (p : Span) → is_present xs p ≡ false → span_run xs p ≡ None
run_none xs p e = ap (λ b. let o : Option Run = if b then Some (run_at xs p) else None in o) e

all_later : (Q : Run → Type 0) (o : Option Run) (rs : List Run) → All Q (cons_option o rs) → All Q rs
all_later Q None rs h = h
all_later Q (Some r) rs h = All-tail Q r rs h

run_in : (Q : Run → Type 0) (xs : List ℤ) (ps : List Span) (k : ℕ) (d : Span) → k < length ps → is_present xs (get_or ps k d) ≡ true → All Q (span_runs xs ps) → Q (run_at xs (get_or ps k d))
run_in Q xs [] k d l e h = absurd (omega arith)
run_in Q xs (p ∷ ps) zero d l e h = All-head Q (run_at xs p) (span_runs xs ps) (subst (λ (o : Option Run). All Q (cons_option o (span_runs xs ps))) (run_some xs p e) h)
run_in Q xs (p ∷ ps) (suc k) d l e h = run_in Q xs ps k d (omega arith) e (all_later Q (span_run xs p) (span_runs xs ps) h)

abbrev Apart : Run → Run → Type 0
Apart r q = IsTrue (are_apart r q)

pairs_head : (r : Run) (rs : List Run) → AllPairs Apart (r ∷ rs) → All (Apart r) rs
pairs_head r rs h = λ k d l. h 0 (suc k) d (omega arith) (omega arith)

pairs_tail : (r : Run) (rs : List Run) → AllPairs Apart (r ∷ rs) → AllPairs Apart rs
pairs_tail r rs h = λ i j d l m. h (suc i) (suc j) d (omega arith) (omega arith)

pairs_later : (o : Option Run) (rs : List Run) → AllPairs Apart (cons_option o rs) → AllPairs Apart rs
pairs_later None rs h = h
pairs_later (Some r) rs h = pairs_tail r rs h

pub before : (xs : List ℤ) (p q : Span) → Apart (run_at xs p) (run_at xs q) → IsBefore xs p q ⊎ IsBefore xs q p
before xs p q h =
    let a = span_end xs p.start p.end p.length in
    let b = span_end xs q.start q.end q.length in
    elim (or_cases (int_le a (start_at xs q)) (int_le b (start_at xs p)) h) [
      | inl e ↦ inl (subst (λ (z : ℤ). z ≤ℤ start_at xs q) (end_same xs p.start p.end p.length) (true_le a (start_at xs q) e))
      | inr e ↦ inr (subst (λ (z : ℤ). z ≤ℤ start_at xs p) (end_same xs q.start q.end q.length) (true_le b (start_at xs p) e))
    ]

pub or_left : (a b : Bool) → a ≡ true → (a || b) ≡ true
or_left true b e = refl
or_left false b e = absurd (true≢false (sym e))

pub or_right : (a b : Bool) → b ≡ true → (a || b) ≡ true
or_right true b e = refl
or_right false b e = e

pub apart : (xs : List ℤ) (p q : Span) → IsBefore xs p q ⊎ IsBefore xs q p → Apart (run_at xs p) (run_at xs q)
apart xs p q (inl h) =
    let a = span_end xs p.start p.end p.length in
    let b = span_end xs q.start q.end q.length in
    (or_left (int_le a (start_at xs q)) (int_le b (start_at xs p)) (le_true a (start_at xs q) (subst (λ (z : ℤ). z ≤ℤ start_at xs q) (sym (end_same xs p.start p.end p.length)) h)))
apart xs p q (inr h) =
    let a = span_end xs p.start p.end p.length in
    let b = span_end xs q.start q.end q.length in
    (or_right (int_le a (start_at xs q)) (int_le b (start_at xs p)) (le_true b (start_at xs p) (subst (λ (z : ℤ). z ≤ℤ start_at xs p) (sym (end_same xs q.start q.end q.length)) h)))

-- two present spans of a list are apart
pub apart_of : (xs : List ℤ) (ps : List Span) (i j : ℕ) (d : Span) → i < j → j < length ps → is_present xs (get_or ps i d) ≡ true → is_present xs (get_or ps j d) ≡ true → IsNoOverlap (span_runs xs ps)
    → IsBefore xs (get_or ps i d) (get_or ps j d) ⊎ IsBefore xs (get_or ps j d) (get_or ps i d)
apart_of xs [] i j d l m e f h = absurd (omega arith)
apart_of xs (p ∷ ps) zero zero d l m e f h = absurd (omega arith)
apart_of xs (p ∷ ps) zero (suc j) d l m e f h =
    let k : AllPairs Apart (run_at xs p ∷ span_runs xs ps) = subst (λ (o : Option Run). AllPairs Apart (cons_option o (span_runs xs ps))) (run_some xs p e) h in
    before xs p (get_or ps j d) (run_in (Apart (run_at xs p)) xs ps j d (omega arith) f (pairs_head (run_at xs p) (span_runs xs ps) k))
apart_of xs (p ∷ ps) (suc i) zero d l m e f h = absurd (omega arith)
apart_of xs (p ∷ ps) (suc i) (suc j) d l m e f h = apart_of xs ps i j d (omega arith) (omega arith) e f (pairs_later (span_run xs p) (span_runs xs ps) h)

-- and spans that are so two by two do not overlap
runs_all : (Q : Run → Type 0) (xs : List ℤ) (ps : List Span) → ((k : ℕ) (d : Span) → k < length ps → is_present xs (get_or ps k d) ≡ true → Q (run_at xs (get_or ps k d))) → All Q (span_runs xs ps)
runs_all Q xs [] h = All-nil Q
runs_all Q xs (p ∷ ps) h = cons (is_present xs p) refl (runs_all Q xs ps (λ k d l e. h (suc k) d (omega arith) e))
  where
    cons : (b : Bool) → b ≡ is_present xs p → All Q (span_runs xs ps) → All Q (cons_option (span_run xs p) (span_runs xs ps))
    cons true f rest = subst (λ (o : Option Run). All Q (cons_option o (span_runs xs ps))) (sym (run_some xs p (sym f))) (All-cons Q (run_at xs p) (span_runs xs ps) (h 0 p (omega arith) (sym f)) rest)
    cons false f rest = subst (λ (o : Option Run). All Q (cons_option o (span_runs xs ps))) (sym (run_none xs p (sym f))) rest

pub no_overlap : (xs : List ℤ) (ps : List Span)
    → ((i j : ℕ) (d : Span) → i < j → j < length ps → is_present xs (get_or ps i d) ≡ true → is_present xs (get_or ps j d) ≡ true → IsBefore xs (get_or ps i d) (get_or ps j d) ⊎ IsBefore xs (get_or ps j d) (get_or ps i d))
    → IsNoOverlap (span_runs xs ps)
no_overlap xs [] h = λ i j d l m. absurd (omega arith)
no_overlap xs (p ∷ ps) h = cons (is_present xs p) refl (no_overlap xs ps (λ i j d l m e f. h (suc i) (suc j) d (omega arith) (omega arith) e f))
  where
    cons : (b : Bool) → b ≡ is_present xs p → AllPairs Apart (span_runs xs ps) → AllPairs Apart (cons_option (span_run xs p) (span_runs xs ps))
    cons true f rest = subst (λ (o : Option Run). AllPairs Apart (cons_option o (span_runs xs ps))) (sym (run_some xs p (sym f)))
        (AllPairs-cons Apart (run_at xs p) (span_runs xs ps) (runs_all (Apart (run_at xs p)) xs ps (λ k d l e. apart xs p (get_or ps k d) (h 0 (suc k) d (omega arith) (omega arith) (sym f) e))) rest)
    cons false f rest = subst (λ (o : Option Run). AllPairs Apart (cons_option o (span_runs xs ps))) (sym (run_none xs p (sym f))) rest
