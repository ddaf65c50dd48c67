-- The events of a tank: their subjects, and the level that they make.
use Rattle.std.proofs.Common.{ℕ, zero, suc, inl, inr, min, get_or, ◌<◌, ℤ, pos, neg_ℤ, ◌+ℤ◌, ◌≤ℤ◌, ◌<ℤ◌, ◌≡◌, ◌⊎◌, Bool, true, false, cond, ◌&&◌, ◌==◌, List, [], ◌∷◌, ◌++◌, length, refl, sym, ◌∙◌, ap, subst, arith}
use Rattle.std.specs.Prelude.{int_le, Some, None}
use Rattle.std.specs.List.{All}
use Rattle.std.proofs.lemmas.Int.{ints}
use Rattle.std.proofs.lemmas.List.Elements.{All-head, All-tail, All-nil, All-cons}
use Rattle.cps_domain.proofs.Tests.{true_le, le_true, le_false}
use Rattle.cps_model.specs.declared.parts.Event.{Event}
use Rattle.cps_model.specs.Reservoirs.{level_at, IsReservoir}
use Rattle.cps_literal.specs.declared.atom.Atom.{Atom}
use Rattle.cps_literal.specs.Truth.{value_at, atom_holds}
use Rattle.cps_instance.specs.Tasks.{HoldsBody, subjects_of_body, atom_subjects}
use Rattle.cps_instance.specs.Parts.{change_at, all_changes, true_changes, changes_at}
use Rattle.cps_instance.proofs.Agreeing.{All-append_left, All-append_right}
use Rattle.cps_p_cumulative.specs.declared.tank.Tank.{Tank}
use Rattle.cps_p_cumulative.specs.declared.tank.Move.{Move}
use Rattle.cps_p_cumulative.specs.declared.tank.Side.{Side}
use Rattle.cps_p_cumulative.specs.declared.tank.Side.TheVariants.{Over, Under}
use Rattle.cps_p_cumulative.specs.Levels.{toward, is_active, has_acted, share_of, total, free_moves, tied_moves, all_moves, moves_of, tank_body, limit, move_subjects}

-- what is so of all subjects is so of those of each event
free_all : (P : ℕ → Type 0) (ts cs : List ℕ) → All P ts → All P cs → All (λ m. All P (move_subjects m)) (free_moves ts cs)
free_all P (t ∷ ts) (c ∷ cs) a b =
    All-cons (λ m. All P (move_subjects m)) (record { time = t; change = c; active = None }) (free_moves ts cs)
    (All-cons P t (c ∷ []) (All-head P t ts a) (All-cons P c [] (All-head P c cs b) (All-nil P)))
    (free_all P ts cs (All-tail P t ts a) (All-tail P c cs b))
free_all P [] cs a b = All-nil (λ m. All P (move_subjects m))
free_all P (t ∷ ts) [] a b = All-nil (λ m. All P (move_subjects m))

tied_all : (P : ℕ → Type 0) (ts cs : List ℕ) (us : List Atom) → All P ts → All P cs → All P (atom_subjects us) → All (λ m. All P (move_subjects m)) (tied_moves ts cs us)
tied_all P (t ∷ ts) (c ∷ cs) (u ∷ us) a b d =
    All-cons (λ m. All P (move_subjects m)) (record { time = t; change = c; active = Some u }) (tied_moves ts cs us)
    (All-cons P t (c ∷ u.subject ∷ []) (All-head P t ts a) (All-cons P c (u.subject ∷ []) (All-head P c cs b) (All-cons P u.subject [] (All-head P u.subject (atom_subjects us) d) (All-nil P))))
    (tied_all P ts cs us (All-tail P t ts a) (All-tail P c cs b) (All-tail P u.subject (atom_subjects us) d))
tied_all P [] cs us a b d = All-nil (λ m. All P (move_subjects m))
tied_all P (t ∷ ts) [] us a b d = All-nil (λ m. All P (move_subjects m))
tied_all P (t ∷ ts) (c ∷ cs) [] a b d = All-nil (λ m. All P (move_subjects m))

lists_all : (P : ℕ → Type 0) (ts cs : List ℕ) (us : List Atom) → All P ts → All P cs → All P (atom_subjects us) → All (λ m. All P (move_subjects m)) (all_moves ts cs us)
lists_all P ts cs [] a b d = free_all P ts cs a b
lists_all P ts cs (u ∷ us) a b d = tied_all P ts cs (u ∷ us) a b d

pub moves_all : (P : ℕ → Type 0) (k : Tank) → All P (subjects_of_body (tank_body k)) → All (λ m. All P (move_subjects m)) (moves_of k)
moves_all P k h =
    let rest = All-append_right P k.times (k.changes ++ atom_subjects k.active) h in
    lists_all P k.times k.changes k.active (All-append_left P k.times (k.changes ++ atom_subjects k.active) h)
    (All-append_left P k.changes (atom_subjects k.active) rest) (All-append_right P k.changes (atom_subjects k.active) rest)

-- how many events there are
length_free : (ts cs : List ℕ) → length (free_moves ts cs) ≡ min (length ts) (length cs)
length_free (t ∷ ts) (c ∷ cs) = let e = length_free ts cs in omega arith
length_free [] cs = omega arith
length_free (t ∷ ts) [] = omega arith

length_tied : (ts cs : List ℕ) (us : List Atom) → length (tied_moves ts cs us) ≡ min (min (length ts) (length cs)) (length us)
length_tied (t ∷ ts) (c ∷ cs) (u ∷ us) = let e = length_tied ts cs us in omega arith
length_tied [] cs us = omega arith
length_tied (t ∷ ts) [] us = omega arith
length_tied (t ∷ ts) (c ∷ cs) [] = omega arith

pub count_free : (ts cs : List ℕ) (us : List Atom) → length us ≡ 0 → length (all_moves ts cs us) ≡ min (length ts) (length cs)
count_free ts cs [] e = length_free ts cs
count_free ts cs (u ∷ us) e = absurd (omega arith)

pub count_tied : (ts cs : List ℕ) (us : List Atom) → 0 < length us → length (all_moves ts cs us) ≡ min (min (length ts) (length cs)) (length us)
count_tied ts cs [] l = absurd (omega arith)
count_tied ts cs (u ∷ us) l = length_tied ts cs (u ∷ us)

-- one event
get_free : (ts cs : List ℕ) (k : ℕ) (d : Move) → k < length (free_moves ts cs) → get_or (free_moves ts cs) k d ≡ record { time = get_or ts k 0; change = get_or cs k 0; active = None }
get_free (t ∷ ts) (c ∷ cs) zero d l = refl
get_free (t ∷ ts) (c ∷ cs) (suc k) d l = get_free ts cs k d (omega arith)
get_free [] cs k d l = absurd (omega arith)
get_free (t ∷ ts) [] k d l = absurd (omega arith)

get_tied : (ts cs : List ℕ) (us : List Atom) (k : ℕ) (d : Move) (a : Atom) → k < length (tied_moves ts cs us) → get_or (tied_moves ts cs us) k d ≡ record { time = get_or ts k 0; change = get_or cs k 0; active = Some (get_or us k a) }
get_tied (t ∷ ts) (c ∷ cs) (u ∷ us) zero d a l = refl
get_tied (t ∷ ts) (c ∷ cs) (u ∷ us) (suc k) d a l = get_tied ts cs us k d a (omega arith)
get_tied [] cs us k d a l = absurd (omega arith)
get_tied (t ∷ ts) [] us k d a l = absurd (omega arith)
get_tied (t ∷ ts) (c ∷ cs) [] k d a l = absurd (omega arith)

pub move_free : (ts cs : List ℕ) (us : List Atom) (k : ℕ) (d : Move) → length us ≡ 0 → k < length (all_moves ts cs us) → get_or (all_moves ts cs us) k d ≡ record { time = get_or ts k 0; change = get_or cs k 0; active = None }
move_free ts cs [] k d e l = get_free ts cs k d l
move_free ts cs (u ∷ us) k d e l = absurd (omega arith)

pub move_tied : (ts cs : List ℕ) (us : List Atom) (k : ℕ) (d : Move) (a : Atom) → 0 < length us → k < length (all_moves ts cs us) → get_or (all_moves ts cs us) k d ≡ record { time = get_or ts k 0; change = get_or cs k 0; active = Some (get_or us k a) }
move_tied ts cs [] k d a e l = absurd (omega arith)
move_tied ts cs (u ∷ us) k d a e l = get_tied ts cs (u ∷ us) k d a l

-- one event more
pub total-last : (side : Side) (xs : List ℤ) (t : ℤ) (ms : List Move) (m : Move) → total side xs t (ms ++ m ∷ []) ≡ total side xs t ms +ℤ share_of side xs t m
total-last side xs t [] m = swap (share_of side xs t m)
  where
    swap : (x : ℤ) → x +ℤ pos 0 ≡ pos 0 +ℤ x
    swap x = omega (arith, ints)
total-last side xs t (n ∷ ms) m = shift (share_of side xs t n) (total side xs t (ms ++ m ∷ [])) (total side xs t ms) (share_of side xs t m) (total-last side xs t ms m)
  where
    shift : (a b c d : ℤ) → b ≡ c +ℤ d → a +ℤ b ≡ (a +ℤ c) +ℤ d
    shift a b c d e = omega (arith, ints)

-- the level towards a side
toward-more : (side : Side) (b : Bool) (change rest sum : ℤ) → sum ≡ toward side rest → cond b (toward side change) (pos 0) +ℤ sum ≡ toward side (cond b change (pos 0) +ℤ rest)
toward-more Over true change rest sum e = ap (λ x. change +ℤ x) e
toward-more Over false change rest sum e = ap (λ x. pos 0 +ℤ x) e
toward-more Under true change rest sum e = omega (arith, ints)
toward-more Under false change rest sum e = omega (arith, ints)

pub toward-none : (side : Side) → pos 0 ≡ toward side (pos 0)
toward-none Over = refl
toward-none Under = refl

free_level : (side : Side) (xs : List ℤ) (t : ℤ) (ts cs : List ℕ) → total side xs t (free_moves ts cs) ≡ toward side (level_at t (all_changes xs ts cs))
free_level side xs t (i ∷ ts) (j ∷ cs) = toward-more side (int_le (value_at xs i) t) (value_at xs j) (level_at t (all_changes xs ts cs)) (total side xs t (free_moves ts cs)) (free_level side xs t ts cs)
free_level side xs t [] cs = toward-none side
free_level side xs t (i ∷ ts) [] = toward-none side

tied_level : (side : Side) (xs : List ℤ) (t : ℤ) (ts cs : List ℕ) (us : List Atom) → total side xs t (tied_moves ts cs us) ≡ toward side (level_at t (true_changes xs ts cs us))
tied_level side xs t (i ∷ ts) (j ∷ cs) (u ∷ us) = by (atom_holds xs u) (tied_level side xs t ts cs us)
  where
    zero_more : (x y : ℤ) → x ≡ y → pos 0 +ℤ x ≡ y
    zero_more x y e = omega (arith, ints)

    by : (b : Bool) → total side xs t (tied_moves ts cs us) ≡ toward side (level_at t (true_changes xs ts cs us)) → cond (b && int_le (value_at xs i) t) (toward side (value_at xs j)) (pos 0) +ℤ total side xs t (tied_moves ts cs us)
        ≡ toward side (level_at t (cond b (change_at xs i j ∷ true_changes xs ts cs us) (true_changes xs ts cs us)))
    by true rest = toward-more side (int_le (value_at xs i) t) (value_at xs j) (level_at t (true_changes xs ts cs us)) (total side xs t (tied_moves ts cs us)) rest
    by false rest = zero_more (total side xs t (tied_moves ts cs us)) (toward side (level_at t (true_changes xs ts cs us))) rest
tied_level side xs t [] cs us = toward-none side
tied_level side xs t (i ∷ ts) [] us = toward-none side
tied_level side xs t (i ∷ ts) (j ∷ cs) [] = toward-none side

pub level_of : (side : Side) (xs : List ℤ) (t : ℤ) (ts cs : List ℕ) (us : List Atom) → total side xs t (all_moves ts cs us) ≡ toward side (level_at t (changes_at xs ts cs us))
level_of side xs t ts cs [] = free_level side xs t ts cs
level_of side xs t ts cs (u ∷ us) = tied_level side xs t ts cs (u ∷ us)

-- what is so of each event that takes place
abbrev pub IsSoOf : (Event → Type 0) → List ℤ → Move → Type 0
IsSoOf P xs m = is_active xs m.active ≡ true → P (change_at xs m.time m.change)

free_down : (P : Event → Type 0) (xs : List ℤ) (ts cs : List ℕ) → All P (all_changes xs ts cs) → All (IsSoOf P xs) (free_moves ts cs)
free_down P xs (i ∷ ts) (j ∷ cs) h = All-cons (IsSoOf P xs) (record { time = i; change = j; active = None }) (free_moves ts cs)
    (λ e. All-head P (change_at xs i j) (all_changes xs ts cs) h) (free_down P xs ts cs (All-tail P (change_at xs i j) (all_changes xs ts cs) h))
free_down P xs [] cs h = All-nil (IsSoOf P xs)
free_down P xs (i ∷ ts) [] h = All-nil (IsSoOf P xs)

free_up : (P : Event → Type 0) (xs : List ℤ) (ts cs : List ℕ) → All (IsSoOf P xs) (free_moves ts cs) → All P (all_changes xs ts cs)
free_up P xs (i ∷ ts) (j ∷ cs) h =
    let m : Move = record { time = i; change = j; active = None } in
    All-cons P (change_at xs i j) (all_changes xs ts cs) (All-head (IsSoOf P xs) m (free_moves ts cs) h refl) (free_up P xs ts cs (All-tail (IsSoOf P xs) m (free_moves ts cs) h))
free_up P xs [] cs h = All-nil P
free_up P xs (i ∷ ts) [] h = All-nil P

tied_down : (P : Event → Type 0) (xs : List ℤ) (ts cs : List ℕ) (us : List Atom) → All P (true_changes xs ts cs us) → All (IsSoOf P xs) (tied_moves ts cs us)
tied_down P xs (i ∷ ts) (j ∷ cs) (u ∷ us) h =
    All-cons (IsSoOf P xs) (record { time = i; change = j; active = Some u }) (tied_moves ts cs us) (here (atom_holds xs u) h) (tied_down P xs ts cs us (rest (atom_holds xs u) h))
  where
    here : (b : Bool) → All P (cond b (change_at xs i j ∷ true_changes xs ts cs us) (true_changes xs ts cs us)) → b ≡ true → P (change_at xs i j)
    here true all e = All-head P (change_at xs i j) (true_changes xs ts cs us) all
    here false all e = cc

    rest : (b : Bool) → All P (cond b (change_at xs i j ∷ true_changes xs ts cs us) (true_changes xs ts cs us)) → All P (true_changes xs ts cs us)
    rest true all = All-tail P (change_at xs i j) (true_changes xs ts cs us) all
    rest false all = all
tied_down P xs [] cs us h = All-nil (IsSoOf P xs)
tied_down P xs (i ∷ ts) [] us h = All-nil (IsSoOf P xs)
tied_down P xs (i ∷ ts) (j ∷ cs) [] h = All-nil (IsSoOf P xs)

tied_up : (P : Event → Type 0) (xs : List ℤ) (ts cs : List ℕ) (us : List Atom) → All (IsSoOf P xs) (tied_moves ts cs us) → All P (true_changes xs ts cs us)
tied_up P xs (i ∷ ts) (j ∷ cs) (u ∷ us) h =
    let m : Move = record { time = i; change = j; active = Some u } in
    both' (atom_holds xs u) (All-head (IsSoOf P xs) m (tied_moves ts cs us) h) (tied_up P xs ts cs us (All-tail (IsSoOf P xs) m (tied_moves ts cs us) h))
  where
    both' : (b : Bool) → (b ≡ true → P (change_at xs i j)) → All P (true_changes xs ts cs us) → All P (cond b (change_at xs i j ∷ true_changes xs ts cs us) (true_changes xs ts cs us))
    both' true f all = All-cons P (change_at xs i j) (true_changes xs ts cs us) (f refl) all
    both' false f all = all
tied_up P xs [] cs us h = All-nil P
tied_up P xs (i ∷ ts) [] us h = All-nil P
tied_up P xs (i ∷ ts) (j ∷ cs) [] h = All-nil P

down : (P : Event → Type 0) (xs : List ℤ) (ts cs : List ℕ) (us : List Atom) → All P (changes_at xs ts cs us) → All (IsSoOf P xs) (all_moves ts cs us)
down P xs ts cs [] h = free_down P xs ts cs h
down P xs ts cs (u ∷ us) h = tied_down P xs ts cs (u ∷ us) h

up : (P : Event → Type 0) (xs : List ℤ) (ts cs : List ℕ) (us : List Atom) → All (IsSoOf P xs) (all_moves ts cs us) → All P (changes_at xs ts cs us)
up P xs ts cs [] h = free_up P xs ts cs h
up P xs ts cs (u ∷ us) h = tied_up P xs ts cs (u ∷ us) h

-- the last time of an event up to a time
record IsLatest (t : ℤ) (es : List Event) (v : ℤ) : Type 0 where
  pub place : ℕ
  pub within : place < length es
  pub is : (d : Event) → v ≡ (get_or es place d).time
  pub by : v ≤ℤ t
  pub last : All (λ e. (e.time ≤ℤ v) ⊎ (t <ℤ e.time)) es

pub le_or_lt : (a b : ℤ) → (a ≤ℤ b) ⊎ (b <ℤ a)
le_or_lt a b = by (int_le a b) refl
  where
    by : (v : Bool) → int_le a b ≡ v → (a ≤ℤ b) ⊎ (b <ℤ a)
    by true e = inl (true_le a b e)
    by false e = inr (grind (arith, ints))

raise : (t v w : ℤ) (es : List Event) → v ≤ℤ w → All (λ e. (e.time ≤ℤ v) ⊎ (t <ℤ e.time)) es → All (λ e. (e.time ≤ℤ w) ⊎ (t <ℤ e.time)) es
raise t v w es l h = λ k d m. elim (h k d m) [ inl a ↦ inl (omega (arith, ints)) | inr b ↦ inr b ]

latest : (t : ℤ) (es : List Event) → All (λ e. t <ℤ e.time) es ⊎ ((v : ℤ) × IsLatest t es v)
latest t [] = inl (All-nil (λ e. t <ℤ e.time))
latest t (e ∷ es) = by (le_or_lt e.time t) (latest t es)
  where
    P : ℤ → Event → Type 0
    P v f = (f.time ≤ℤ v) ⊎ (t <ℤ f.time)

    by : (e.time ≤ℤ t) ⊎ (t <ℤ e.time) → All (λ f. t <ℤ f.time) es ⊎ ((v : ℤ) × IsLatest t es v) → All (λ f. t <ℤ f.time) (e ∷ es) ⊎ ((v : ℤ) × IsLatest t (e ∷ es) v)
    by (inr after) (inl none) = inl (All-cons (λ f. t <ℤ f.time) e es after none)
    by (inr after) (inr (v, l)) = inr (v, record { place = suc l.place; within = (let a = l.within in omega arith); is = l.is; by = l.by; last = All-cons (P v) e es (inr after) l.last })
    by (inl upto) (inl none) = inr (e.time, record { place = 0; within = omega arith; is = λ d. refl; by = upto; last = All-cons (P e.time) e es (inl (omega (arith, ints))) (λ k d m. inr (none k d m)) })
    by (inl upto) (inr (v, l)) = elim (le_or_lt e.time v) [
      | inl a ↦ inr (v, record { place = suc l.place; within = (let b = l.within in omega arith); is = l.is; by = l.by; last = All-cons (P v) e es (inl a) l.last })
      | inr a ↦ inr (e.time, record { place = 0; within = omega arith; is = λ d. refl; by = upto; last = All-cons (P e.time) e es (inl (omega (arith, ints))) (raise t v e.time es (omega (arith, ints)) l.last) })
    ]

-- the level stays after the last event up to a time
level_same : (t v : ℤ) (es : List Event) → v ≤ℤ t → All (λ e. (e.time ≤ℤ v) ⊎ (t <ℤ e.time)) es → level_at t es ≡ level_at v es
level_same t v [] l h = refl
level_same t v (e ∷ es) l h =
    ap (λ b. cond b e.change (pos 0) +ℤ level_at t es) (same (All-head (λ f. (f.time ≤ℤ v) ⊎ (t <ℤ f.time)) e es h))
    ∙ ap (λ x. cond (int_le e.time v) e.change (pos 0) +ℤ x) (level_same t v es l (All-tail (λ f. (f.time ≤ℤ v) ⊎ (t <ℤ f.time)) e es h))
  where
    same : (e.time ≤ℤ v) ⊎ (t <ℤ e.time) → int_le e.time t ≡ int_le e.time v
    same (inl a) = le_true e.time t (omega (arith, ints)) ∙ sym (le_true e.time v a)
    same (inr a) = le_false e.time t a ∙ sym (le_false e.time v (omega (arith, ints)))

level_none : (t : ℤ) (es : List Event) → All (λ e. t <ℤ e.time) es → level_at t es ≡ pos 0
level_none t [] h = refl
level_none t (e ∷ es) h =
    ap (λ b. cond b e.change (pos 0) +ℤ level_at t es) (le_false e.time t (All-head (λ f. t <ℤ f.time) e es h))
    ∙ ap (λ x. pos 0 +ℤ x) (level_none t es (All-tail (λ f. t <ℤ f.time) e es h))

-- a level that is kept is kept at each time by which there was an event
kept_or_none : (least greatest t : ℤ) (es : List Event) → IsReservoir least greatest es → ((least ≤ℤ level_at t es) × (level_at t es ≤ℤ greatest)) ⊎ All (λ e. t <ℤ e.time) es
kept_or_none least greatest t es h = by (latest t es)
  where
    by : All (λ e. t <ℤ e.time) es ⊎ ((v : ℤ) × IsLatest t es v) → ((least ≤ℤ level_at t es) × (level_at t es ≤ℤ greatest)) ⊎ All (λ e. t <ℤ e.time) es
    by (inl none) = inr none
    by (inr (v, l)) =
        let d : Event = record { time = pos 0; change = pos 0 } in
        inl (subst (λ (x : ℤ). (least ≤ℤ x) × (x ≤ℤ greatest)) (ap (λ (u : ℤ). level_at u es) (sym (l.is d)) ∙ sym (level_same t v es l.by l.last)) (h l.place d l.within))

-- an event took place by a time
pub record HasBegun (xs : List ℤ) (t : ℤ) (ms : List Move) : Type 0 where
  pub place : ℕ
  pub event : Move
  pub within : place < length ms
  pub acted : has_acted xs t (get_or ms place event) ≡ true

first_true : (a b : Bool) → (a && b) ≡ true → a ≡ true
first_true true b e = refl
first_true false b e = e

second_true : (a b : Bool) → (a && b) ≡ true → b ≡ true
second_true true b e = e
second_true false b e = cc

-- where the level passes a limit and is asked for, the tank does not hold
pub passed : (k : Tank) (side : Side) (xs : List ℤ) (t : ℤ) → limit k side <ℤ total side xs t (moves_of k) → (pos 0 ≤ℤ limit k side) ⊎ HasBegun xs t (moves_of k) → HoldsBody (tank_body k) xs → ⊥
passed k side xs t over asked holds = by (kept_or_none k.min k.max t es holds)
  where
    es : List Event
    es = changes_at xs k.times k.changes k.active

    is : total side xs t (moves_of k) ≡ toward side (level_at t es)
    is = level_of side xs t k.times k.changes k.active

    passes : (s : Side) (x : ℤ) → limit k s <ℤ toward s x → (k.min ≤ℤ x) × (x ≤ℤ k.max) → ⊥
    passes Over x l w = let a = w.1 in omega (arith, ints)
    passes Under x l w = let a = w.0 in omega (arith, ints)

    none : (s : Side) (x lim : ℤ) → lim <ℤ toward s x → x ≡ pos 0 → pos 0 ≤ℤ lim → ⊥
    none Over x lim l e m = omega (arith, ints)
    none Under x lim l e m = omega (arith, ints)

    begun : All (λ e. t <ℤ e.time) es → HasBegun xs t (moves_of k) → ⊥
    begun all b =
        let m = get_or (moves_of k) b.place b.event in
        let after = down (λ e. t <ℤ e.time) xs k.times k.changes k.active all b.place b.event b.within (first_true (is_active xs m.active) (int_le (value_at xs m.time) t) b.acted) in
        let upto = true_le (value_at xs m.time) t (second_true (is_active xs m.active) (int_le (value_at xs m.time) t) b.acted) in
        omega (arith, ints)

    by : ((k.min ≤ℤ level_at t es) × (level_at t es ≤ℤ k.max)) ⊎ All (λ e. t <ℤ e.time) es → ⊥
    by (inl w) = passes side (level_at t es) (subst (λ (x : ℤ). limit k side <ℤ x) is over) w
    by (inr all) = elim asked [
      | inl room ↦ none side (level_at t es) (limit k side) (subst (λ (x : ℤ). limit k side <ℤ x) is over) (level_none t es all) room
      | inr b ↦ begun all b
    ]

-- where it passes none at the time of any event that takes place, the tank holds
pub never_passed : (k : Tank) (xs : List ℤ) → ((side : Side) → All (λ m. is_active xs m.active ≡ true → total side xs (value_at xs m.time) (moves_of k) ≤ℤ limit k side) (moves_of k)) → HoldsBody (tank_body k) xs
never_passed k xs h = up (λ e. (k.min ≤ℤ level_at e.time es) × (level_at e.time es ≤ℤ k.max)) xs k.times k.changes k.active (λ j d l active.
    let t = value_at xs (get_or (moves_of k) j d).time in
    let a = subst (λ (x : ℤ). x ≤ℤ limit k Over) (level_of Over xs t k.times k.changes k.active) (h Over j d l active) in
    let b = subst (λ (x : ℤ). x ≤ℤ limit k Under) (level_of Under xs t k.times k.changes k.active) (h Under j d l active) in
    (flip k.min (level_at t es) b, a))
  where
    es : List Event
    es = changes_at xs k.times k.changes k.active

    flip : (x y : ℤ) → neg_ℤ y ≤ℤ neg_ℤ x → x ≤ℤ y
    flip x y l = omega (arith, ints)

-- the lists of a tank, by what the code reads
differ : true ≡ false → ⊥
differ e = cc

pub none_of : (n : ℕ) (b : Bool) → b ≡ (n == 0) → b ≡ true → n ≡ 0
none_of n b e f = grind arith

pub some_of : (n : ℕ) (b : Bool) → b ≡ (n == 0) → b ≡ false → 0 < n
some_of zero b e f = absurd (differ (sym e ∙ f))
some_of (suc n) b e f = omega arith

none_or_some : (n : ℕ) → (n ≡ 0) ⊎ (0 < n)
none_or_some zero = inl refl
none_or_some (suc n) = inr (omega arith)

pub within_times : (k : Tank) (j : ℕ) → j < length (moves_of k) → j < length k.times
within_times k j l = elim (none_or_some (length k.active)) [
  | inl e ↦ (let a = count_free k.times k.changes k.active e in omega arith)
  | inr e ↦ (let a = count_tied k.times k.changes k.active e in omega arith)
]

pub within_changes : (k : Tank) (j : ℕ) → j < length (moves_of k) → j < length k.changes
within_changes k j l = elim (none_or_some (length k.active)) [
  | inl e ↦ (let a = count_free k.times k.changes k.active e in omega arith)
  | inr e ↦ (let a = count_tied k.times k.changes k.active e in omega arith)
]

pub within_active : (k : Tank) (j : ℕ) → 0 < length k.active → j < length (moves_of k) → j < length k.active
within_active k j e l = let a = count_tied k.times k.changes k.active e in omega arith

pub move_is_free : (k : Tank) (j time change : ℕ) (d : Move) → length k.active ≡ 0 → j < length (moves_of k) → time ≡ get_or k.times j 0 → change ≡ get_or k.changes j 0
    → ◌≡◌ {A = Move} (record { time = time; change = change; active = None }) (get_or (moves_of k) j d)
move_is_free k j time change d e l is-time is-change =
    ap (λ (t : ℕ). plain t change) is-time ∙ ap (λ (c : ℕ). plain (get_or k.times j 0) c) is-change ∙ sym (move_free k.times k.changes k.active j d e l)
  where
    plain : ℕ → ℕ → Move
    plain t c = record { time = t; change = c; active = None }

pub move_is_tied : (k : Tank) (j time change : ℕ) (u : Atom) (d : Move) → 0 < length k.active → j < length (moves_of k) → time ≡ get_or k.times j 0 → change ≡ get_or k.changes j 0 → u ≡ get_or k.active j u
    → ◌≡◌ {A = Move} (record { time = time; change = change; active = Some u }) (get_or (moves_of k) j d)
move_is_tied k j time change u d e l is-time is-change is-atom =
    ap (λ (t : ℕ). of t change u) is-time ∙ ap (λ (c : ℕ). of (get_or k.times j 0) c u) is-change ∙ ap (λ (a : Atom). of (get_or k.times j 0) (get_or k.changes j 0) a) is-atom ∙ sym (move_tied k.times k.changes k.active j d u e l)
  where
    of : ℕ → ℕ → Atom → Move
    of t c a = record { time = t; change = c; active = Some a }
