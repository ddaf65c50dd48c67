-- What spans demand at a time, one by one.
use Rattle.std.proofs.Common.{ℕ, zero, suc, inl, inr, take, get_or, append_assoc, append-nil, ◌+◌, ◌<◌, ℤ, pos, ◌+ℤ◌, ◌≤ℤ◌, ◌<ℤ◌, ◌≡◌, Bool, true, false, cond, ◌&&◌, List, [], ◌∷◌, ◌++◌, length, refl, sym, ◌∙◌, ap, subst, arith}
use Rattle.std.specs.Prelude.{int_le, int_lt, Option, Some, None, IfSome, Result, Ok, Err, OnOk}
use Rattle.std.specs.List.{list_all, cons_option, All}
use Rattle.std.proofs.lemmas.Int.{ints}
use Rattle.std.proofs.lemmas.List.Elements.{All-head, All-tail, All-nil, All-cons}
use Rattle.std.proofs.lemmas.List.{take_more}
use Rattle.cps_domain.proofs.Tests.{true_le, le_true, first_of_both, second_of_both, both}
use Rattle.cps_model.specs.Scheduling.{use_of, load_at}
use Rattle.cps_literal.specs.declared.atom.Atom.{Atom}
use Rattle.cps_literal.specs.Truth.{value_at, atom_holds}
use Rattle.cps_instance.specs.declared.task.Span.{Span}
use Rattle.cps_instance.specs.Tasks.{atom_subjects, subjects_of_span, span_subjects}
use Rattle.cps_instance.proofs.Agreeing.{All-append_left, All-append_right}
use Rattle.cps_trail.specs.Trail.{Domains}
use Rattle.cps_rule.specs.declared.rule.Narrowing.{Narrowing}
use Rattle.cps_rule.specs.Rules.{IsFittingRule}
use Rattle.cps_p_cumulative.specs.declared.resource.Resource.{Resource}
use Rattle.cps_instance.specs.Parts.{span_end, span_uses}
use Rattle.cps_p_cumulative.specs.Running.{is_running, demand_of, demands_at, IsSpanOf, IsTimeOf, IsResourceOf, body_of}

-- one span more
pub demands-cons : (xs : List ℤ) (t : ℤ) (p : Span) (d : ℕ) (ps : List Span) (ds : List ℕ) → demands_at xs t (p ∷ ps) (d ∷ ds) ≡ demand_of xs t p d +ℤ demands_at xs t ps ds
demands-cons xs t p d ps ds = by (list_all (atom_holds xs) p.presence)
  where
    rest : ℤ
    rest = load_at t (span_uses xs ps ds)

    none : (x : ℤ) → x ≡ pos 0 +ℤ x
    none x = omega (arith, ints)

    by : (b : Bool) → load_at t (cons_option (use_of (cond b (Some (record { start = value_at xs p.start; end = span_end xs p.start p.end p.length })) None) (value_at xs d)) (span_uses xs ps ds))
        ≡ cond (b && (int_le (value_at xs p.start) t && int_lt t (span_end xs p.start p.end p.length))) (value_at xs d) (pos 0) +ℤ load_at t (span_uses xs ps ds)
    by true = refl
    by false = none (load_at t (span_uses xs ps ds))

pub lt_true : (a b : ℤ) → a <ℤ b → int_lt a b ≡ true
lt_true a b h = grind (arith, ints)

pub true_lt : (a b : ℤ) → int_lt a b ≡ true → a <ℤ b
true_lt a b h = grind (arith, ints)

pub false_lt : (a b : ℤ) → int_lt a b ≡ false → b ≤ℤ a
false_lt a b h = grind (arith, ints)

-- a span runs at a time where it is present, starts by then and ends later
pub running : (xs : List ℤ) (t : ℤ) (p : Span) → list_all (atom_holds xs) p.presence ≡ true → value_at xs p.start ≤ℤ t → t <ℤ span_end xs p.start p.end p.length → is_running xs t p ≡ true
running xs t p here a b =
    both (list_all (atom_holds xs) p.presence) (int_le (value_at xs p.start) t && int_lt t (span_end xs p.start p.end p.length)) here
    (both (int_le (value_at xs p.start) t) (int_lt t (span_end xs p.start p.end p.length)) (le_true (value_at xs p.start) t a) (lt_true t (span_end xs p.start p.end p.length) b))

pub record Runs (xs : List ℤ) (t : ℤ) (p : Span) : Type 0 where
  pub present : list_all (atom_holds xs) p.presence ≡ true
  pub started : value_at xs p.start ≤ℤ t
  pub later : t <ℤ span_end xs p.start p.end p.length

pub runs_of : (xs : List ℤ) (t : ℤ) (p : Span) → is_running xs t p ≡ true → Runs xs t p
runs_of xs t p h =
    let a = int_le (value_at xs p.start) t in
    let b = int_lt t (span_end xs p.start p.end p.length) in
    let rest = second_of_both (list_all (atom_holds xs) p.presence) (a && b) h in
    record {
      present = first_of_both (list_all (atom_holds xs) p.presence) (a && b) h;
      started = true_le (value_at xs p.start) t (first_of_both a b rest);
      later = true_lt t (span_end xs p.start p.end p.length) (second_of_both a b rest);
    }

pub all_hold : (xs : List ℤ) (us : List Atom) → All (λ u. atom_holds xs u ≡ true) us → list_all (atom_holds xs) us ≡ true
all_hold xs [] h = refl
all_hold xs (u ∷ us) h = both (atom_holds xs u) (list_all (atom_holds xs) us) (All-head (λ v. atom_holds xs v ≡ true) u us h) (all_hold xs us (All-tail (λ v. atom_holds xs v ≡ true) u us h))

-- what a span demands that runs, and one that does not
pub demand-runs : (xs : List ℤ) (t : ℤ) (p : Span) (d : ℕ) → is_running xs t p ≡ true → demand_of xs t p d ≡ value_at xs d
demand-runs xs t p d h = ap (λ b. cond b (value_at xs d) (pos 0)) h

pub demand-rests : (xs : List ℤ) (t : ℤ) (p : Span) (d : ℕ) → is_running xs t p ≡ false → demand_of xs t p d ≡ pos 0
demand-rests xs t p d h = ap (λ b. cond b (value_at xs d) (pos 0)) h

pub demand-some : (xs : List ℤ) (t : ℤ) (p : Span) (d : ℕ) → pos 0 ≤ℤ value_at xs d → pos 0 ≤ℤ demand_of xs t p d
demand-some xs t p d h = by (is_running xs t p)
  where
    by : (b : Bool) → pos 0 ≤ℤ cond b (value_at xs d) (pos 0)
    by true = h
    by false = omega (arith, ints)

-- the subjects of a span
pub atoms-inside : (n : ℕ) (us : List Atom) → All (λ i. i < n) (atom_subjects us) → All (λ u. u.subject < n) us
atoms-inside n [] h = All-nil (λ u. u.subject < n)
atoms-inside n (u ∷ us) h = All-cons (λ v. v.subject < n) u us (All-head (λ i. i < n) u.subject (atom_subjects us) h) (atoms-inside n us (All-tail (λ i. i < n) u.subject (atom_subjects us) h))

pub start-inside : (first : Domains) (p : Span) → IsSpanOf first p → p.start < length first
start-inside first p h = All-head (λ i. i < length first) p.start (p.end ∷ atom_subjects p.presence) h

pub end-inside : (first : Domains) (p : Span) → IsSpanOf first p → p.end < length first
end-inside first p h = All-head (λ i. i < length first) p.end (atom_subjects p.presence) (All-tail (λ i. i < length first) p.start (p.end ∷ atom_subjects p.presence) h)

-- two atoms on subjects of a store
pub both-inside : (first : Domains) (u v : Atom) → u.subject < length first → v.subject < length first → All (λ a. a.subject < length first) (u ∷ v ∷ [])
both-inside first u v a b = All-cons (λ w. w.subject < length first) u (v ∷ []) a (All-cons (λ w. w.subject < length first) v [] b (All-nil (λ w. w.subject < length first)))

pub time-inside : (first : Domains) (p : Span) (i : ℕ) → IsSpanOf first p → IsTimeOf p i → i < length first
time-inside first p i h (inl e) = subst (λ (j : ℕ). j < length first) (sym e) (start-inside first p h)
time-inside first p i h (inr e) = subst (λ (j : ℕ). j < length first) (sym e) (end-inside first p h)

pub presence-inside : (first : Domains) (p : Span) → IsSpanOf first p → All (λ u. u.subject < length first) p.presence
presence-inside first p h = atoms-inside (length first) p.presence (All-tail (λ i. i < length first) p.end (atom_subjects p.presence) (All-tail (λ i. i < length first) p.start (p.end ∷ atom_subjects p.presence) h))

pub span-inside : (first : Domains) (ps : List Span) (k : ℕ) (d : Span) → k < length ps → All (λ i. i < length first) (span_subjects ps) → IsSpanOf first (get_or ps k d)
span-inside first [] k d l h = absurd (omega arith)
span-inside first (p ∷ ps) zero d l h = All-append_left (λ i. i < length first) (subjects_of_span p) (span_subjects ps) h
span-inside first (p ∷ ps) (suc k) d l h = span-inside first ps k d (omega arith) (All-append_right (λ i. i < length first) (subjects_of_span p) (span_subjects ps) h)

pub resource-inside : (first : Domains) (r : Resource) → IsFittingRule first (body_of r) → IsResourceOf first r
resource-inside first r h =
    let rest = All-tail (λ i. i < length first) r.capacity (span_subjects r.spans ++ r.demands) h.subjects in
    record {
      capacity = All-head (λ i. i < length first) r.capacity (span_subjects r.spans ++ r.demands) h.subjects;
      spans = All-append_left (λ i. i < length first) (span_subjects r.spans) r.demands rest;
      demands = All-append_right (λ i. i < length first) (span_subjects r.spans) r.demands rest;
    }

-- one span's subjects more
pub subjects-more : (ps : List Span) (k : ℕ) (d : Span) → k < length ps → span_subjects (take (k + 1) ps) ≡ span_subjects (take k ps) ++ subjects_of_span (get_or ps k d)
subjects-more ps k d l = ap span_subjects (take_more ps k d l) ∙ last (take k ps) (get_or ps k d)
  where
    last : (qs : List Span) (q : Span) → span_subjects (qs ++ q ∷ []) ≡ span_subjects qs ++ subjects_of_span q
    last [] q = append-nil (subjects_of_span q)
    last (p ∷ qs) q = ap (λ is. subjects_of_span p ++ is) (last qs q) ∙ sym (append_assoc (subjects_of_span p) (span_subjects qs) (subjects_of_span q))

-- a number and two lists that were added one after another
pub spread : (old one two three : List ℕ) (a : ℕ) (xs ys : List ℕ) → one ≡ old ++ a ∷ [] → two ≡ one ++ xs → three ≡ two ++ ys → three ≡ old ++ (a ∷ (xs ++ ys))
spread old one two three a xs ys e f g = g ∙ ap (λ (is : List ℕ). is ++ ys) (f ∙ ap (λ (is : List ℕ). is ++ xs) e) ∙ append_assoc (old ++ a ∷ []) xs ys ∙ append_assoc old (a ∷ []) (xs ++ ys)

-- what follows from a success
pub on_ok : {A E : Type 0} (r : Result A E) (P Q : Type 0) → OnOk r P → (P → Q) → OnOk r Q
on_ok (Ok x) P Q h f = f h
on_ok (Err e) P Q h f = tt

-- one copy more
pub copied-more : (ps : List Span) (k : ℕ) (p q : Span) (old new : List Span) → k < length ps → old ≡ take k ps → new ≡ old ++ q ∷ [] → q ≡ p → p ≡ get_or ps k p → new ≡ take (k + 1) ps
copied-more ps k p q old new l so_far one same is = one ∙ ap (λ (qs : List Span). qs ++ q ∷ []) so_far ∙ ap (λ (r : Span). take k ps ++ r ∷ []) (same ∙ is) ∙ sym (take_more ps k p l)

-- a span that was read
pub span-read : (first : Domains) (ps qs : List Span) (k : ℕ) (p : Span) → qs ≡ ps → k < length ps → p ≡ get_or qs k p → All (λ i. i < length first) (span_subjects ps) → IsSpanOf first p
span-read first ps qs k p same l is h = subst (λ (q : Span). IsSpanOf first q) (sym is) (subst (λ (rs : List Span). IsSpanOf first (get_or rs k p)) (sym same) (span-inside first ps k p l h))

-- and a demand
pub demand-read : (first : Domains) (ds es : List ℕ) (k : ℕ) → es ≡ ds → k < length ds → All (λ i. i < length first) ds → get_or es k 0 < length first
demand-read first ds es k same l h = subst (λ (is : List ℕ). get_or is k 0 < length first) (sym same) (h k 0 l)

-- what is proposed of a span's start, of its start or end, and of a demand, is on a subject of the store
pub start-proposed : (first : Domains) (p : Span) (r : Option Narrowing) → IsSpanOf first p → IfSome r (λ n. n.target.subject ≡ p.start) → IfSome r (λ n. n.target.subject < length first)
start-proposed first p None h is = is
start-proposed first p (Some n) h is = subst (λ (i : ℕ). i < length first) (sym is) (start-inside first p h)

pub time-proposed : (first : Domains) (p : Span) (r : Option Narrowing) → IsSpanOf first p → IfSome r (λ n. IsTimeOf p n.target.subject) → IfSome r (λ n. n.target.subject < length first)
time-proposed first p None h is = is
time-proposed first p (Some n) h is = time-inside first p n.target.subject h is

pub demand-proposed : (first : Domains) (d : ℕ) (r : Option Narrowing) → IfSome r (λ n. n.target.subject ≡ d) → d < length first → IfSome r (λ n. n.target.subject < length first)
demand-proposed first d None is l = is
demand-proposed first d (Some n) is l = subst (λ (i : ℕ). i < length first) (sym is) l

-- and of three of them each is
pub three-proposed : (first : Domains) (r s t : Option Narrowing) → IfSome r (λ n. n.target.subject < length first) → IfSome s (λ n. n.target.subject < length first) → IfSome t (λ n. n.target.subject < length first) → All (λ o. IfSome o (λ n. n.target.subject < length first)) (r ∷ s ∷ t ∷ [])
three-proposed first r s t a b c =
    let P = λ (o : Option Narrowing). IfSome o (λ n. n.target.subject < length first) in
    All-cons P r (s ∷ t ∷ []) a (All-cons P s (t ∷ []) b (All-cons P t [] c (All-nil P)))
