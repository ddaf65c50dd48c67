-- What events may have added at each time, from what they add at the last times of events.
use Rattle.std.proofs.Common.{ℕ, inl, inr, ℤ, pos, neg_ℤ, ◌+ℤ◌, ◌≤ℤ◌, ◌<ℤ◌, ◌≡◌, ◌⊎◌, List, [], ◌∷◌, refl, ◌∙◌, arith}
use Rattle.std.specs.List.{All}
use Rattle.std.proofs.lemmas.Int.{ints}
use Rattle.std.proofs.lemmas.List.Elements.{All-head, All-tail, All-nil, All-cons}
use Rattle.cps_literal.specs.declared.atom.Atom.{Atom}
use Rattle.cps_trail.specs.Trail.{Trail}
use Rattle.cps_propagate.specs.Now.{IsOpenTo}
use Rattle.cps_propagate.specs.Strength.{IsLevelNow, untied, tied, ties, HasLevels}
use Rattle.cps_p_cumulative.specs.declared.tank.Tank.{Tank}
use Rattle.cps_p_cumulative.specs.declared.tank.Move.{Move}
use Rattle.cps_p_cumulative.specs.declared.tank.Side.{Side}
use Rattle.cps_p_cumulative.specs.declared.tank.Side.TheVariants.{Over, Under}
use Rattle.cps_p_cumulative.specs.Levels.{toward, free_moves, tied_moves, all_moves, moves_of, limit, MayAddUp, StaysFrom, AllowsZero, HasRoomAt, HasRoomAfter}
use Rattle.cps_p_cumulative.proofs.Moves.{toward-none, le_or_lt}

pub zero_limit : (k : Tank) (side : Side) → AllowsZero k → pos 0 ≤ℤ limit k side
zero_limit k Over zero = zero.high
zero_limit k Under zero = (let a = zero.low in omega (arith, ints))

-- one share more of a level, towards a side
toward-sum : (side : Side) (v own rest share level : ℤ) → v ≡ own +ℤ rest → own ≡ toward side share → rest ≡ toward side level → v ≡ toward side (share +ℤ level)
toward-sum Over v own rest share level e f g = omega (arith, ints)
toward-sum Under v own rest share level e f g = omega (arith, ints)

-- what the events of two lists may have added, as rest speaks of it
pub record IsToward (side : Side) (s : Trail) (t : ℤ) (ts cs : List ℕ) (us : List Atom) (v : ℤ) : Type 0 where
  pub level : ℤ
  pub may : IsLevelNow s t ts cs (ties ts us) level
  pub is : v ≡ toward side level

free_toward : (side : Side) (s : Trail) (t : ℤ) (ts cs : List ℕ) (v : ℤ) → MayAddUp side s t (free_moves ts cs) v → (level : ℤ) × IsLevelNow s t ts cs (untied ts) level × (v ≡ toward side level)
free_toward side s t (i ∷ ts) (c ∷ cs) v h =
    let more = free_toward side s t ts cs h.1 h.3 in
    let own = h.2 in
    (own.0 +ℤ more.0, (own.0, more.0, own.1, more.1, refl), toward-sum side v h.0 h.1 own.0 more.0 h.4 own.2 more.2)
free_toward side s t [] cs v h = (pos 0, refl, h ∙ toward-none side)
free_toward side s t (i ∷ ts) [] v h = (pos 0, refl, h ∙ toward-none side)

tied_toward : (side : Side) (s : Trail) (t : ℤ) (ts cs : List ℕ) (us : List Atom) (v : ℤ) → MayAddUp side s t (tied_moves ts cs us) v → (level : ℤ) × IsLevelNow s t ts cs (tied us) level × (v ≡ toward side level)
tied_toward side s t (i ∷ ts) (c ∷ cs) (u ∷ us) v h =
    let more = tied_toward side s t ts cs us h.1 h.3 in
    let own = h.2 in
    (own.0 +ℤ more.0, (own.0, more.0, own.1, more.1, refl), toward-sum side v h.0 h.1 own.0 more.0 h.4 own.2 more.2)
tied_toward side s t [] cs us v h = (pos 0, refl, h ∙ toward-none side)
tied_toward side s t (i ∷ ts) [] us v h = (pos 0, refl, h ∙ toward-none side)
tied_toward side s t (i ∷ ts) (c ∷ cs) [] v h = (pos 0, refl, h ∙ toward-none side)

is_toward : (side : Side) (s : Trail) (t : ℤ) (k : Tank) (v : ℤ) → MayAddUp side s t (moves_of k) v → IsToward side s t k.times k.changes k.active v
is_toward side s t k v h = by k.active h
  where
    by : (us : List Atom) → MayAddUp side s t (all_moves k.times k.changes us) v → IsToward side s t k.times k.changes us v
    by [] g = (let found = free_toward side s t k.times k.changes v g in record { level = found.0; may = found.1; is = found.2 })
    by (u ∷ us) g = (let found = tied_toward side s t k.times k.changes (u ∷ us) v g in record { level = found.0; may = found.1; is = found.2 })

-- an event may be due after a time
abbrev IsDueAfter : Trail → ℤ → Move → Type 0
IsDueAfter s u m = (x : ℤ) × IsOpenTo s m.time x × (u <ℤ x)

-- where each may be, they may have added nothing
nothing_yet : (side : Side) (s : Trail) (u : ℤ) (ms : List Move) → All (IsDueAfter s u) ms → MayAddUp side s u ms (pos 0)
nothing_yet side s u [] h = refl
nothing_yet side s u (m ∷ ms) h =
    (pos 0, pos 0, (pos 0, inr (inr (All-head (IsDueAfter s u) m ms h), refl), toward-none side), nothing_yet side s u ms (All-tail (IsDueAfter s u) m ms h), refl)

-- a time up to another at which there is room, and from which on nothing becomes sure of these events
record IsLastRoom (s : Trail) (k : Tank) (side : Side) (u : ℤ) (ms : List Move) : Type 0 where
  pub time : ℤ
  pub by : time ≤ℤ u
  pub room : HasRoomAt s k side time
  pub stays : All (StaysFrom s time u) ms

later_stays : (s : Trail) (t v u : ℤ) (ms : List Move) → t ≤ℤ v → All (StaysFrom s t u) ms → All (StaysFrom s v u) ms
later_stays s t v u ms l h = λ j d m. elim (h j d m) [ inl due ↦ inl (λ x o. (let a = due x o in omega (arith, ints))) | inr after ↦ inr after ]

last_room : (s : Trail) (k : Tank) (side : Side) (u : ℤ) (ms : List Move) → All (HasRoomAfter s k side) ms → All (IsDueAfter s u) ms ⊎ IsLastRoom s k side u ms
last_room s k side u [] h = inl (All-nil (IsDueAfter s u))
last_room s k side u (m ∷ ms) h = by (le_or_lt own.late u) (last_room s k side u ms (All-tail (HasRoomAfter s k side) m ms h))
  where
    own : HasRoomAfter s k side m
    own = All-head (HasRoomAfter s k side) m ms h

    due : (t : ℤ) → own.late ≤ℤ t → StaysFrom s t u m
    due t l = inl (λ x o. (let a = own.last x o in omega (arith, ints)))

    here : own.late ≤ℤ u → All (StaysFrom s own.late u) ms → IsLastRoom s k side u (m ∷ ms)
    here upto rest = record {
      time = own.late;
      by = upto;
      room = own.room;
      stays = All-cons (StaysFrom s own.late u) m ms (due own.late (omega (arith, ints))) rest;
    }

    by : (own.late ≤ℤ u) ⊎ (u <ℤ own.late) → All (IsDueAfter s u) ms ⊎ IsLastRoom s k side u ms → All (IsDueAfter s u) (m ∷ ms) ⊎ IsLastRoom s k side u (m ∷ ms)
    by (inr after) (inl none) = inl (All-cons (IsDueAfter s u) m ms (own.late, own.reached, after) none)
    by (inr after) (inr l) = inr (record {
      time = l.time;
      by = l.by;
      room = l.room;
      stays = All-cons (StaysFrom s l.time u) m ms (inr (own.late, own.reached, after)) l.stays;
    })
    by (inl upto) (inl none) = inr (here upto (λ j d b. inr (none j d b)))
    by (inl upto) (inr l) = elim (le_or_lt own.late l.time) [
      | inl a ↦ inr (record { time = l.time; by = l.by; room = l.room; stays = All-cons (StaysFrom s l.time u) m ms (due l.time a) l.stays })
      | inr a ↦ inr (here upto (later_stays s l.time own.late u ms (omega (arith, ints)) l.stays))
    ]

-- so at each time there is something that they may have added and that is not past the limit
room_always : (s : Trail) (k : Tank) (side : Side) (u : ℤ) → AllowsZero k → All (HasRoomAfter s k side) (moves_of k) → (v : ℤ) × MayAddUp side s u (moves_of k) v × (v ≤ℤ limit k side)
room_always s k side u zero h = by (last_room s k side u (moves_of k) h)
  where
    by : All (IsDueAfter s u) (moves_of k) ⊎ IsLastRoom s k side u (moves_of k) → (v : ℤ) × MayAddUp side s u (moves_of k) v × (v ≤ℤ limit k side)
    by (inl none) = (pos 0, nothing_yet side s u (moves_of k) none, zero_limit k side zero)
    by (inr l) = (l.room.sum, l.room.level.may u l.by l.stays, l.room.below)

under_max : (v x max : ℤ) → v ≡ toward Over x → v ≤ℤ max → x ≤ℤ max
under_max v x max e l = omega (arith, ints)

over_min : (v x min : ℤ) → v ≡ toward Under x → v ≤ℤ neg_ℤ min → min ≤ℤ x
over_min v x min e l = omega (arith, ints)

pub has_levels : (s : Trail) (k : Tank) → AllowsZero k → ((side : Side) → All (HasRoomAfter s k side) (moves_of k)) → HasLevels s k.min k.max k.times k.changes k.active
has_levels s k zero h = record {
  low = λ u. (let found = room_always s k Over u zero (h Over) in let to = is_toward Over s u k found.0 found.1 in (to.level, to.may, under_max found.0 to.level k.max to.is found.2));
  high = λ u. (let found = room_always s k Under u zero (h Under) in let to = is_toward Under s u k found.0 found.1 in (to.level, to.may, over_min found.0 to.level k.min to.is found.2));
}
