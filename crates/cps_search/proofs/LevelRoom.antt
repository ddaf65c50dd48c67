-- How many conflicts a search that never restarts can still learn from.
--
-- At rest each level has left fewer values than the one below it, so the numbers of spare values by level fall. In the
-- order of a search they stand for sets of numbers: a decision makes the list longer, and a conflict that goes back to a
-- level takes a value away there before anything is decided again. So a level with n spare values at its end, but for the
-- last, is good for 2 ^ n - 1 further decisions, and the last one for twice as many: those above it, and those after it
-- has lost a value. Each decision takes one of these away, and each conflict gives back one level at least.
use Rattle.std.proofs.Common.{ℕ, zero, suc, ◌+◌, ◌-◌, ◌*◌, ◌^◌, ◌≤◌, ◌<◌, ℤ, ◌≡◌, ◌∙◌, ◌⊎◌, inl, inr, Bool, true, false, true≢false, List, [], ◌∷◌, ◌++◌, length, refl, sym, ap, subst, arith, append-nil}
use Rattle.std.specs.Prelude.{nat_le, ◌&&◌}
use Rattle.std.specs.List.{All, Contains}
use Rattle.std.proofs.Math.Nat.{pow-succ'}
use Rattle.std.proofs.Math.Pow.{pow_mono}
use Rattle.std.proofs.lemmas.Nat.{pow_pos}
use Rattle.std.proofs.lemmas.Bool.{cases_Bool, cases_eq}
use Rattle.std.proofs.lemmas.List.Elements.{All-append, All-cons, All-contains, All-weaker, filter_passes}
use Rattle.cps_literal.specs.declared.atom.Atom.{Atom}
use Rattle.cps_literal.specs.Truth.{meets}
use Rattle.cps_trail.specs.Trail.{Domains, Entry, Trail, Decision, IsSoundTrail, admits, count_in, first_of, open_values, total, up_to}
use Rattle.cps_trail.proofs.Laws.{admits-push_other, admits-push_same}
use Rattle.cps_trail.proofs.Marks.{up_to-all, up_to-append_above, up_to-up_to}
use Rattle.cps_trail.proofs.Room.{among_first, count_in_back, open_values-push}
use Rattle.cps_clauses.specs.Quiet.{IsQuietAfter}
use Rattle.cps_branch.specs.Choice.{IsUndecided}
use Rattle.cps_search.specs.Enough.{spare_values}
use Rattle.cps_search.specs.Turns.{IsInferredAt}

-- ---- sums

total_same : (f g : ℕ → ℕ) (n : ℕ) → ((i : ℕ) → i < n → f i ≡ g i) → total f n ≡ total g n
total_same f g zero h = refl
total_same f g (suc n) h = omega (arith, h n (omega arith), total_same f g n (λ i l. h i (omega arith)))

total_next : (f : ℕ → ℕ) (n : ℕ) → total f (n + 1) ≡ f n + total f n
total_next f n = let e : n + 1 ≡ suc n = omega arith in ap (λ (k : ℕ). total f k) e

-- a sum up to a number has what stands there beside what stands below
total_past : (f : ℕ → ℕ) (m n : ℕ) → m < n → total f m + f m ≤ total f n
total_past f m zero l = absurd (omega (arith, l))
total_past f m (suc n) l = elim (split m n l) [
  | inl b ↦ omega (arith, total_past f m n b)
  | inr e ↦ omega (arith, ap (λ (k : ℕ). f k) e, ap (λ (k : ℕ). total f k) e)
]
  where
    split : (m n : ℕ) → m < suc n → (m < n) ⊎ (m ≡ n)
    split m n l = grind arith

total_some : (f : ℕ → ℕ) (n : ℕ) → ((i : ℕ) → i < n → 1 ≤ f i) → n ≤ total f n
total_some f zero h = omega arith
total_some f (suc n) h = omega (arith, h n (omega arith), total_some f n (λ i l. h i (omega arith)))

-- ---- powers

pub pow_some : (n : ℕ) → 1 ≤ 2 ^ n
pow_some n = omega (arith, pow_pos n)

pub pow_next : (n : ℕ) → 2 ^ (n + 1) ≡ 2 * 2 ^ n
pow_next n = let e : n + 1 ≡ suc n = omega arith in ap (λ (k : ℕ). 2 ^ k) e ∙ pow-succ' 2 n

pow_back : (n : ℕ) → 1 ≤ n → 2 * 2 ^ (n - 1) ≡ 2 ^ n
pow_back zero l = absurd (omega (arith, l))
pow_back (suc n) l = let e : suc n - 1 ≡ n = omega arith in let f : suc n ≡ n + 1 = omega arith in
    ap (λ (k : ℕ). 2 * 2 ^ k) e ∙ sym (pow_next n) ∙ sym (ap (λ (k : ℕ). 2 ^ k) f)

-- twice what one spare value less is good for is at most what they all are good for
pow_half : (n : ℕ) → 2 * (2 ^ (n - 1) - 1) ≤ 2 ^ n - 1
pow_half zero = omega arith
pow_half (suc n) = omega (arith, pow_back (suc n) (omega arith), pow_some (suc n - 1))

-- ---- values that are left

-- where a subject has no value left but if that is absurd, it has one
some_left : (first : Domains) (es : List Entry) (i : ℕ) → (((x : ℤ) → admits first es i x ≡ true → ⊥) → ⊥) → 1 ≤ count_in (admits first es i) (first_of first i)
some_left first es i some = elim (some_or_none (count_in (admits first es i) (first_of first i))) [
  | inl l ↦ l
  | inr none ↦ absurd (some (λ x a. true≢false (sym
      (count_in_back (admits first es i) (λ y. false) (λ y h. absurd (true≢false (sym h))) (first_of first i) (omega (arith, none)) x (among_first first es i x a) a))))
]
  where
    some_or_none : (n : ℕ) → (1 ≤ n) ⊎ (n ≡ 0)
    some_or_none n = grind arith

pub all_left : (first : Domains) (es : List Entry) → ((i : ℕ) → i < length first → ((x : ℤ) → admits first es i x ≡ true → ⊥) → ⊥) → length first ≤ open_values first es
unfolding open_values
all_left first es some = total_some (λ i. count_in (admits first es i) (first_of first i)) (length first) (λ i l. some_left first es i (some i l))

-- the store after a decision
abbrev decision : Trail → Atom → Entry
decision s t = record { atom = t; level = s.level + 1; reason = Decision }

-- a decision takes a value away
pub decided_less : (s : Trail) (t : Atom) → IsUndecided s t → open_values s.first (s.entries ++ decision s t ∷ []) + 1 ≤ open_values s.first s.entries
decided_less s t h = open_values-push s.first s.entries (decision s t) h.subject h.not_true

-- and leaves one to each subject
pub two_before : (s : Trail) (t : Atom) → IsSoundTrail s → IsUndecided s t → length s.first + 1 ≤ open_values s.first s.entries
two_before s t sound h = omega (arith, decided_less s t h, all_left s.first (s.entries ++ decision s t ∷ []) left)
  where
    both : (a b : Bool) → a ≡ true → b ≡ true → (a && b) ≡ true
    both a b x y = grind arith

    left : (i : ℕ) → i < length s.first → ((x : ℤ) → admits s.first (s.entries ++ decision s t ∷ []) i x ≡ true → ⊥) → ⊥
    left i l none = elim (cases_eq i t.subject) [
      | inl e ↦ h.not_false (λ x a. elim (cases_Bool (meets t.op t.value x)) [
        | inr off ↦ off
        | inl on ↦ absurd (none x (subst (λ (j : ℕ). admits s.first (s.entries ++ decision s t ∷ []) j x ≡ true) (sym e)
            (admits-push_same s.first s.entries (decision s t) x ∙ both (admits s.first s.entries t.subject x) (meets t.op t.value x) a on)))
      ])
      | inr ne ↦ (let v = sound.some_value i l in none v.0 (admits-push_other s.first s.entries (decision s t) i v.0 ne ∙ v.1))
    ]

-- ---- the room

-- what a level with so many values left is good for
abbrev nodes : Domains → List Entry → ℕ → ℕ
nodes first es l = 2 ^ spare_values first (up_to l es) - 1

-- a clause in force is false or unit, and one spare value is left beyond so many
pub record IsOwed (first : Domains) (es : List Entry) (clauses : List (List Atom)) (most : ℕ) : Type 0 where
  pub clause : List Atom
  pub in_force : Contains clauses clause
  pub acts : IsQuietAfter first es clause → ⊥
  pub within : spare_values first es ≤ most + 1

-- at rest no more than so many values will be spare
abbrev pub IsNear : Domains → List Entry → List (List Atom) → ℕ → Type 0
IsNear first es clauses most = (spare_values first es ≤ most) ⊎ IsOwed first es clauses most

-- conflicts that were learnt from, levels, and what is left of room are together at most so many
pub record HasRoom (top tally level : ℕ) (first : Domains) (es : List Entry) (clauses : List (List Atom)) : Type 0 where
  pub levels : All (λ e. e.level ≤ level) es
  pub most : ℕ
  pub near : IsNear first es clauses most
  pub room : tally + level + total (nodes first es) level + 2 * (2 ^ most - 1) ≤ top

nodes_same : (first : Domains) (es fs : List Entry) (level : ℕ) → ((l : ℕ) → l < level → up_to l fs ≡ up_to l es) → total (nodes first fs) level ≡ total (nodes first es) level
nodes_same first es fs level same = total_same (nodes first fs) (nodes first es) level (λ l less. ap (λ (gs : List Entry). 2 ^ spare_values first gs - 1) (same l less))

-- it has room at first
pub room_begins : (first : Domains) (clauses : List (List Atom)) → HasRoom (2 * (2 ^ spare_values first [] - 1)) 0 0 first [] clauses
room_begins first clauses = record { levels = λ k d l. absurd (omega (arith, l)); most = spare_values first []; near = inl (omega arith); room = omega arith }

-- and as long as entries are inferred
nearer : (first : Domains) (es added : List Entry) (clauses : List (List Atom)) (most : ℕ) → open_values first (es ++ added) + length added ≤ open_values first es → IsNear first es clauses most → IsNear first (es ++ added) clauses most
nearer first es added clauses most fewer (inl few) = inl (omega (arith, few, fewer))
nearer first es [] clauses most fewer (inr owed) = inr (subst (λ (fs : List Entry). IsOwed first fs clauses most) (sym (append-nil es)) owed)
nearer first es (e ∷ added) clauses most fewer (inr owed) = inl (omega (arith, owed.within, fewer))

pub room_onward : (top tally level : ℕ) (first : Domains) (es added : List Entry) (clauses : List (List Atom)) → All (IsInferredAt level) added → open_values first (es ++ added) + length added ≤ open_values first es
    → HasRoom top tally level first es clauses → HasRoom top tally level first (es ++ added) clauses
room_onward top tally level first es added clauses inferred fewer h = record {
  levels = All-append (λ e. e.level ≤ level) es added h.levels (All-weaker (IsInferredAt level) (λ e. e.level ≤ level) (λ e g. omega (arith, g.at)) added inferred);
  most = h.most;
  near = nearer first es added clauses h.most fewer h.near;
  room = omega (arith, h.room, nodes_same first es (es ++ added) level (λ l less. up_to-append_above l es added (All-weaker (IsInferredAt level) (λ e. l < e.level) (λ e g. omega (arith, g.at, less)) added inferred)));
}

-- at rest no value is owed
pub room_at_rest : (top tally level : ℕ) (first : Domains) (es : List Entry) (clauses : List (List Atom)) → All (IsQuietAfter first (up_to level es)) clauses → (h : HasRoom top tally level first es clauses) → spare_values first es ≤ h.most
room_at_rest top tally level first es clauses quiet h = elim h.near [
  | inl few ↦ few
  | inr owed ↦ absurd (owed.acts (subst (λ (fs : List Entry). IsQuietAfter first fs owed.clause) (up_to-all level es h.levels) (All-contains (IsQuietAfter first (up_to level es)) clauses owed.clause quiet owed.in_force)))
]

-- a decision there takes one away
room_less : (tally level below top x a b c : ℕ) → 2 * a ≡ b → b ≤ c → 1 ≤ a → tally + level + below + 2 * (c - 1) ≤ top → x ≡ (b - 1) + below → tally + (level + 1) + x + 2 * (a - 1) ≤ top
room_less tally level below top x a b c half more some h is = omega (arith, half, more, some, h, is)

pub room_decided : (top tally level : ℕ) (first : Domains) (es : List Entry) (d : Entry) (clauses : List (List Atom)) → d.level ≡ level + 1 → open_values first (es ++ d ∷ []) + 1 ≤ open_values first es → length first + 1 ≤ open_values first es
    → (h : HasRoom top tally level first es clauses) → spare_values first es ≤ h.most → HasRoom top tally (level + 1) first (es ++ d ∷ []) clauses
room_decided top tally level first es d clauses at less two h few =
    let spare = spare_values first es in
    let some : 1 ≤ spare = omega (arith, two) in
    let up : (l : ℕ) → l < level + 1 → up_to l (es ++ d ∷ []) ≡ up_to l es = λ l low.
    up_to-append_above l es (d ∷ []) (All-cons (λ e. l < e.level) d [] (omega (arith, at, low)) (λ k e g. absurd (omega (arith, g)))) in
    let here : nodes first es level ≡ 2 ^ spare - 1 = ap (λ (fs : List Entry). 2 ^ spare_values first fs - 1) (up_to-all level es h.levels) in
    record {
      levels = All-append (λ e. e.level ≤ level + 1) es (d ∷ []) (All-weaker (λ e. e.level ≤ level) (λ e. e.level ≤ level + 1) (λ e g. omega (arith, g)) es h.levels)
          (All-cons (λ e. e.level ≤ level + 1) d [] (omega (arith, at)) (λ k e g. absurd (omega (arith, g))));
      most = spare - 1;
      near = inl (omega (arith, less, two));
      room = room_less tally level (total (nodes first es) level) top (total (nodes first (es ++ d ∷ [])) (level + 1)) (2 ^ (spare - 1)) (2 ^ spare) (2 ^ h.most)
          (pow_back spare some) (pow_mono few) (pow_some (spare - 1)) h.room
          (nodes_same first es (es ++ d ∷ []) (level + 1) up ∙ total_next (nodes first es) level ∙ ap (λ (n : ℕ). n + total (nodes first es) level) here);
    }

-- what is sent back by a clause owes a value
room_more : (tally tally' level b below here lower top x c : ℕ) → b < level → tally' ≤ tally + 1 → lower + here ≤ below → x ≤ here → tally + level + below + 2 * c ≤ top → tally' + b + lower + x ≤ top
room_more tally tally' level b below here lower top x c back one past half h = omega (arith, back, one, past, half, h)

pub room_back : (top tally tally' level b : ℕ) (first : Domains) (es : List Entry) (clauses clauses' : List (List Atom)) (clause : List Atom) → b < level → tally' ≤ tally + 1 → Contains clauses' clause
    → (IsQuietAfter first (up_to b es) clause → ⊥) → HasRoom top tally level first es clauses → HasRoom top tally' b first (up_to b es) clauses'
room_back top tally tally' level b first es clauses clauses' clause back one has acts h =
    let spare = spare_values first (up_to b es) in
    let same : total (nodes first (up_to b es)) b ≡ total (nodes first es) b = nodes_same first es (up_to b es) b (λ l less. up_to-up_to l b es (omega (arith, less))) in
    record {
      levels = All-weaker (λ e. nat_le e.level b ≡ true) (λ e. e.level ≤ b) (λ e g. grind arith) (up_to b es) (filter_passes (λ e. nat_le e.level b) es);
      most = spare - 1;
      near = inr (record { clause = clause; in_force = has; acts = acts; within = omega arith });
      room = subst (λ (n : ℕ). tally' + b + n + 2 * (2 ^ (spare - 1) - 1) ≤ top) (sym same)
          (room_more tally tally' level b (total (nodes first es) level) (nodes first es b) (total (nodes first es) b) top (2 * (2 ^ (spare - 1) - 1)) (2 ^ h.most - 1) back one (total_past (nodes first es) b level back) (pow_half spare) h.room);
    }

-- more clauses change nothing
pub room_with : (top tally level : ℕ) (first : Domains) (es : List Entry) (clauses clauses' : List (List Atom)) → ((c : List Atom) → Contains clauses c → Contains clauses' c) → HasRoom top tally level first es clauses → HasRoom top tally level first es clauses'
room_with top tally level first es clauses clauses' more h = record {
  levels = h.levels;
  most = h.most;
  near = elim h.near [ inl few ↦ inl few | inr owed ↦ inr (record { clause = owed.clause; in_force = more owed.clause owed.in_force; acts = owed.acts; within = owed.within }) ];
  room = h.room;
}

-- so there were no more conflicts
pub few_learnt : (top tally level : ℕ) (first : Domains) (es : List Entry) (clauses : List (List Atom)) → HasRoom top tally level first es clauses → tally ≤ top
few_learnt top tally level first es clauses h = omega (arith, h.room)
