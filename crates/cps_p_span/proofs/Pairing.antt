-- What two spans give.
use Rattle.std.specs.Prelude.{not, IfSome}
use Rattle.std.specs.List.{All, AllZip, list_all}
use Rattle.std.proofs.Common.{◌≡◌, ◌≢◌, ℕ, zero, suc, ◌+◌, ◌<◌, ◌≤ℤ◌, ◌<ℤ◌, ◌⊎◌, inl, inr, ℤ, Bool, true, false, Option, Some, None, List, [], ◌∷◌, length, get_or, refl, sym, ◌∙◌, ap, subst, arith}
use Rattle.std.proofs.lemmas.Int.{ints}
use Rattle.std.proofs.lemmas.List.{get_or_default}
use Rattle.std.proofs.lemmas.List.Elements.{All-head, All-tail, All-push}
use Rattle.cps_domain.proofs.Tests.{both}
use Rattle.cps_model.specs.Scheduling.{IsNoOverlap}
use Rattle.cps_literal.specs.declared.atom.Atom.{Atom}
use Rattle.cps_literal.specs.Truth.{value_at, atom_holds, meets}
use Rattle.cps_instance.specs.declared.task.Span.{Span}
use Rattle.cps_instance.specs.declared.task.Body.{Body}
use Rattle.cps_instance.specs.declared.task.Body.TheVariants.{NoOverlap}
use Rattle.cps_instance.specs.Parts.{span_runs}
use Rattle.cps_trail.specs.Trail.{Trail, IsTrueNow, IsAdmitted}
use Rattle.cps_propagate.specs.Now.{IsOpenTo}
use Rattle.cps_rule.specs.declared.rule.Narrowing.{Narrowing}
use Rattle.cps_rule.specs.Rules.{IsGiven, IsImpossible}
use Rattle.cps_p_span.specs.declared.pairs.Pair.{Pair}
use Rattle.cps_p_span.specs.declared.seen.Seen.{Seen}
use Rattle.cps_p_span.specs.Citing.{GivesMore}
use Rattle.cps_p_span.specs.Hulls.{Proposes}
use Rattle.cps_p_span.specs.Spans.{start_at, end_at, is_present, IsBefore, AreSpans, IsSpanSeen, SaysOfTimes, IsPair, AreKnown, AreSeen, AddsApart, IsAllowed, AreAllowed, AllowsFirst, Orders, LacksSpan, no_seen}
use Rattle.cps_p_span.proofs.Apart.{apart_of}
use Rattle.cps_p_span.proofs.Timing.{zip_at, zip_length}

pub all_hold : (xs : List ℤ) (us : List Atom) → All (λ u. atom_holds xs u ≡ true) us → list_all (atom_holds xs) us ≡ true
all_hold xs [] h = refl
all_hold xs (u ∷ us) h = both (atom_holds xs u) (list_all (atom_holds xs) us) (All-head (λ v. atom_holds xs v ≡ true) u us h) (all_hold xs us (All-tail (λ v. atom_holds xs v ≡ true) u us h))

pub less_or : (a b : ℕ) → a ≢ b → (a < b) ⊎ (b < a)
less_or zero zero n = absurd (n refl)
less_or zero (suc b) n = inl (omega arith)
less_or (suc a) zero n = inr (omega arith)
less_or (suc a) (suc b) n = elim (less_or a b (λ e. n (ap (λ (k : ℕ). suc k) e))) [ inl l ↦ inl (omega arith) | inr l ↦ inr (omega arith) ]

pub present_at : (s : Trail) (us : List Atom) (xs : List ℤ) → All (λ u. u.subject < length s.first) us → All (IsTrueNow s) us → IsAdmitted s.first s.entries xs → list_all (atom_holds xs) us ≡ true
present_at s us xs l t o = all_hold xs us (λ k d m. t k d m (value_at xs (get_or us k d).subject) (o (get_or us k d).subject (l k d m)))

-- two present spans are apart, in whatever order they stand
pub pair_apart : (xs : List ℤ) (ps : List Span) (i j : ℕ) (d : Span) → i ≢ j → i < length ps → j < length ps → is_present xs (get_or ps i d) ≡ true → is_present xs (get_or ps j d) ≡ true → IsNoOverlap (span_runs xs ps)
    → IsBefore xs (get_or ps i d) (get_or ps j d) ⊎ IsBefore xs (get_or ps j d) (get_or ps i d)
pair_apart xs ps i j d n l m e f h = elim (less_or i j n) [
  | inl k ↦ apart_of xs ps i j d k m e f h
  | inr k ↦ elim (apart_of xs ps j i d k l f e h) [ inl q ↦ inr q | inr q ↦ inl q ]
]

-- what was measured of spans
module _ (s : Trail) (ps : List Span) (vs : List Seen) (are : AreSpans s.first ps) (seen : AllZip (IsSpanSeen s) ps vs) where
  at : (k : ℕ) (d : Span) → k < length ps → IsSpanSeen s (get_or ps k d) (get_or vs k no_seen)
  at k d l = zip_at (IsSpanSeen s) ps vs k d no_seen seen l

  -- what a span's ends are between, at values that are left
  module _ (xs : List ℤ) (o : IsAdmitted s.first s.entries xs) (k : ℕ) (d : Span) (l : k < length ps) where
    from : IsOpenTo s (get_or ps k d).start (start_at xs (get_or ps k d))
    from = o (get_or ps k d).start (are k d l).start

    to : IsOpenTo s (get_or ps k d).end (value_at xs (get_or ps k d).end)
    to = o (get_or ps k d).end (are k d l).end

    pub start_least : (get_or vs k no_seen).times.start_low ≤ℤ start_at xs (get_or ps k d)
    start_least = (at k d l).times.start_low (start_at xs (get_or ps k d)) from

    pub start_most : start_at xs (get_or ps k d) ≤ℤ (get_or vs k no_seen).times.start_high
    start_most = (at k d l).times.start_high (start_at xs (get_or ps k d)) from

    pub end_least : (get_or vs k no_seen).times.end_low ≤ℤ end_at xs (get_or ps k d)
    end_least = (at k d l).times.end_low (start_at xs (get_or ps k d)) (value_at xs (get_or ps k d).end) from to

    pub end_most : end_at xs (get_or ps k d) ≤ℤ (get_or vs k no_seen).times.end_high
    end_most = (at k d l).times.end_high (start_at xs (get_or ps k d)) (value_at xs (get_or ps k d).end) from to

    pub surely : (get_or vs k no_seen).presence.sure ≡ true → is_present xs (get_or ps k d) ≡ true
    surely e = present_at s (get_or ps k d).presence xs (are k d l).presence ((at k d l).presence.sure e) o

  pub comes : (pair : Pair) → IsPair (length ps) pair → (get_or vs pair.before no_seen).times.start_high <ℤ (get_or vs pair.after no_seen).times.end_low
      → (get_or vs pair.before no_seen).presence.sure ≡ true → (get_or vs pair.after no_seen).presence.sure ≡ true → Orders (NoOverlap ps) s ps pair
  comes pair p late e f = λ xs d o h.
      elim (pair_apart xs ps pair.before pair.after d p.apart p.before p.after (surely xs o pair.before d p.before e) (surely xs o pair.after d p.after f) h) [
        | inl b ↦ b
        | inr b ↦ (let x = start_most xs o pair.before d p.before in let y = end_least xs o pair.after d p.after in absurd (omega (arith, ints)))
      ]

  clashing : (pair : Pair) → IsPair (length ps) pair → (get_or vs pair.after no_seen).times.start_high <ℤ (get_or vs pair.before no_seen).times.end_low → (get_or vs pair.before no_seen).times.start_high <ℤ (get_or vs pair.after no_seen).times.end_low
      → (xs : List ℤ) (d : Span) → IsAdmitted s.first s.entries xs → IsNoOverlap (span_runs xs ps) → is_present xs (get_or ps pair.before d) ≡ true → is_present xs (get_or ps pair.after d) ≡ true → ⊥
  clashing pair p forth back xs d o h e f =
      let x = start_most xs o pair.before d p.before in
      let y = end_least xs o pair.after d p.after in
      let z = start_most xs o pair.after d p.after in
      let w = end_least xs o pair.before d p.before in
      elim (pair_apart xs ps pair.before pair.after d p.apart p.before p.after e f h) [ inl b ↦ absurd (omega (arith, ints)) | inr b ↦ absurd (omega (arith, ints)) ]

  no_span : Span
  no_span = record { start = 0; end = 0; size = 0; presence = []; length = None }

  pub neither : (pair : Pair) → IsPair (length ps) pair → (get_or vs pair.after no_seen).times.start_high <ℤ (get_or vs pair.before no_seen).times.end_low → (get_or vs pair.before no_seen).times.start_high <ℤ (get_or vs pair.after no_seen).times.end_low
      → (get_or vs pair.before no_seen).presence.sure ≡ true → (get_or vs pair.after no_seen).presence.sure ≡ true → IsImpossible (NoOverlap ps) s
  neither pair p forth back e f = record { at = λ xs o h. clashing pair p forth back xs no_span o h (surely xs o pair.before no_span p.before e) (surely xs o pair.after no_span p.after f) }

  pub absent_before : (pair : Pair) → IsPair (length ps) pair → (get_or vs pair.after no_seen).times.start_high <ℤ (get_or vs pair.before no_seen).times.end_low → (get_or vs pair.before no_seen).times.start_high <ℤ (get_or vs pair.after no_seen).times.end_low
      → (get_or vs pair.after no_seen).presence.sure ≡ true → LacksSpan s ps pair.before
  absent_before pair p forth back f = λ xs d o h e. clashing pair p forth back xs d o h e (surely xs o pair.after d p.after f)

  pub absent_after : (pair : Pair) → IsPair (length ps) pair → (get_or vs pair.after no_seen).times.start_high <ℤ (get_or vs pair.before no_seen).times.end_low → (get_or vs pair.before no_seen).times.start_high <ℤ (get_or vs pair.after no_seen).times.end_low
      → (get_or vs pair.before no_seen).presence.sure ≡ true → LacksSpan s ps pair.after
  absent_after pair p forth back e = λ xs d o h f. clashing pair p forth back xs d o h (surely xs o pair.before d p.before e) f

  says_about : (k : ℕ) (d : Span) (u : Atom) (P : List ℤ → Type 0) → k < length ps → SaysOfTimes (get_or ps k d) u P → u.subject < length s.first
  says_about k d u P l h = elim h.place [
    | inl e ↦ (let i = (are k d l).start in omega (arith, e))
    | inr e ↦ (let i = (are k d l).end in omega (arith, e))
  ]

  pub start_given : (b : Body) (pair : Pair) (d : Span) (u : Atom) → IsPair (length ps) pair → Orders b s ps pair → SaysOfTimes (get_or ps pair.after d) u (λ xs. (get_or vs pair.before no_seen).times.end_low ≤ℤ start_at xs (get_or ps pair.after d)) → IsGiven b s u
  start_given b pair d u p order h = record {
    subject = says_about pair.after d u (λ xs. (get_or vs pair.before no_seen).times.end_low ≤ℤ start_at xs (get_or ps pair.after d)) p.after h;
    at = λ xs o holds. h.said xs (let a = order xs d o holds in let e = end_least xs o pair.before d p.before in omega (arith, ints));
  }

  pub end_given : (b : Body) (pair : Pair) (d : Span) (u : Atom) → IsPair (length ps) pair → Orders b s ps pair → SaysOfTimes (get_or ps pair.before d) u (λ xs. end_at xs (get_or ps pair.before d) ≤ℤ (get_or vs pair.after no_seen).times.start_high) → IsGiven b s u
  end_given b pair d u p order h = record {
    subject = says_about pair.before d u (λ xs. end_at xs (get_or ps pair.before d) ≤ℤ (get_or vs pair.after no_seen).times.start_high) p.before h;
    at = λ xs o holds. h.said xs (let a = order xs d o holds in let e = start_most xs o pair.after d p.after in omega (arith, ints));
  }

  -- where an atom is open and all others are true, a span that cannot be present makes it false
  pub denied : (k m : ℕ) (d : Span) (e : Atom) (u : Atom) → k < length ps → LacksSpan s ps k → m < length (get_or ps k d).presence → m ≡ (get_or vs k no_seen).presence.last → u.subject ≡ (get_or (get_or ps k d).presence m e).subject
      → ((x : ℤ) → meets u.op u.value x ≡ not (meets (get_or (get_or ps k d).presence m e).op (get_or (get_or ps k d).presence m e).value x)) → IsGiven (NoOverlap ps) s u
  denied k m d e u l absent n same about negated = record {
    subject = (let i = (are k d l).presence m e n in omega (arith, about));
    at = λ xs o b.
        let e' : atom_holds xs u ≡ meets u.op u.value (value_at xs (get_or (get_or ps k d).presence m e).subject) = ap (λ (i : ℕ). meets u.op u.value (value_at xs i)) about in
        e' ∙ negated (value_at xs (get_or (get_or ps k d).presence m e).subject) ∙ ap not (unheld (atom_holds xs (get_or (get_or ps k d).presence m e)) (λ t.
        absent xs d o b (all_hold xs (get_or ps k d).presence (λ j f q.
        held xs o j f q t (same_place j m)))));
  }
    where
      unheld : (t : Bool) → (t ≡ true → ⊥) → t ≡ false
      unheld true h = absurd (h refl)
      unheld false h = refl

      same_place : (i j : ℕ) → (i ≡ j) ⊎ (i ≢ j)
      same_place zero zero = inl refl
      same_place zero (suc j) = inr (λ g. absurd (omega (arith, g)))
      same_place (suc i) zero = inr (λ g. absurd (omega (arith, g)))
      same_place (suc i) (suc j) = elim (same_place i j) [ inl g ↦ inl (ap (λ (n : ℕ). suc n) g) | inr g ↦ inr (λ q. g (omega (arith, q))) ]

      held : (xs : List ℤ) → IsAdmitted s.first s.entries xs → (j : ℕ) (f : Atom) → j < length (get_or ps k d).presence → atom_holds xs (get_or (get_or ps k d).presence m e) ≡ true → ((j ≡ m) ⊎ (j ≢ m)) → atom_holds xs (get_or (get_or ps k d).presence j f) ≡ true
      held xs o j f q t (inl g) = subst (λ (i : ℕ). atom_holds xs (get_or (get_or ps k d).presence i f) ≡ true) (sym g) (subst (λ (v : Atom). atom_holds xs v ≡ true) (get_or_default (get_or ps k d).presence m e f n) t)
      held xs o j f q t (inr g) =
          let p = (at k d l).presence.others (omega (arith, same)) j f q (λ i. g (i ∙ sym same)) in
          p (value_at xs (get_or (get_or ps k d).presence j f).subject) (o (get_or (get_or ps k d).presence j f).subject ((are k d l).presence j f q))

  pub denied_in : (k m : ℕ) (d : Span) (e : Atom) (u : Atom) (us : List Atom) → us ≡ (get_or ps k d).presence → k < length ps → LacksSpan s ps k → m < length us → m ≡ (get_or vs k no_seen).presence.last → u.subject ≡ (get_or us m e).subject
      → ((x : ℤ) → meets u.op u.value x ≡ not (meets (get_or us m e).op (get_or us m e).value x)) → IsGiven (NoOverlap ps) s u
  denied_in k m d e u us same l absent n last about negated =
      subst (λ (bs : List Atom). m < length bs → u.subject ≡ (get_or bs m e).subject → ((x : ℤ) → meets u.op u.value x ≡ not (meets (get_or bs m e).op (get_or bs m e).value x)) → IsGiven (NoOverlap ps) s u) (sym same)
      (λ n' about' negated'. denied k m d e u l absent n' last about' negated') n about negated

pub swapped_pair : (n : ℕ) (p : Pair) → IsPair n p → IsPair n (record { before = p.after; after = p.before })
swapped_pair n p h = record { before = h.after; after = h.before; apart = λ e. h.apart (sym e) }

pub gives_proposed : (body : Body) (s : Trail) (t : Option Atom) (old new : List Narrowing) → IfSome t (IsGiven body s) → Proposes t old new → GivesMore body s old new
gives_proposed body s None old new g e h = subst (λ (ns : List Narrowing). All (λ n. IsGiven body s n.target) ns) (sym e) h
gives_proposed body s (Some t) old new g (hint, e) h =
    subst (λ (ns : List Narrowing). All (λ n. IsGiven body s n.target) ns) (sym e) (All-push (λ (n : Narrowing). IsGiven body s n.target) old (record { target = t; hint = hint }) h g)

-- what is as it was seen is known
pub are_known : (s : Trail) (ps : List Span) (vs : List Seen) → AreSeen s ps vs → AreKnown ps vs
are_known s ps vs are = record { each = zip_length (IsSpanSeen s) ps vs are.seen; small = λ k d l i e m. record { low = ((are.spans k d l).literals i e m).low; high = ((are.spans k d l).literals i e m).high } }

pub adds_then : (ps : List Span) (vs : List Seen) (old mid new : List Narrowing) → AddsApart ps vs old mid → AddsApart ps vs mid new → AddsApart ps vs old new
adds_then ps vs old mid new f g = λ s are h. g s are (f s are h)

pub below_or_same : (i n : ℕ) → i < n + 1 → (i < n) ⊎ (i ≡ n)
below_or_same zero zero l = inr refl
below_or_same zero (suc n) l = inl (omega arith)
below_or_same (suc i) zero l = absurd (omega arith)
below_or_same (suc i) (suc n) l = elim (below_or_same i n (omega arith)) [ inl k ↦ inl (omega arith) | inr k ↦ inr (ap (λ (m : ℕ). suc m) k) ]

pub first_more : (vs : List Seen) (j n : ℕ) → AllowsFirst vs j n → IsAllowed (get_or vs j no_seen) (get_or vs n no_seen) → AllowsFirst vs j (n + 1)
first_more vs j n h g = λ i l. elim (below_or_same i n l) [
  | inl k ↦ h i k
  | inr k ↦ subst (λ (m : ℕ). IsAllowed (get_or vs j no_seen) (get_or vs m no_seen)) (sym k) g
]

pub allowed_more : (vs : List Seen) (n : ℕ) → AreAllowed vs n → AllowsFirst vs n n → AreAllowed vs (n + 1)
allowed_more vs n h g = λ i j l m. elim (below_or_same j n m) [
  | inl k ↦ h i j l k
  | inr k ↦ subst (λ (q : ℕ). IsAllowed (get_or vs q no_seen) (get_or vs i no_seen)) (sym k) (g i (subst (λ (q : ℕ). i < q) k l))
]
