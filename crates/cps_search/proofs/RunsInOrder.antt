-- Runs of a worker in order keep to the room that the domains give them.
use Rattle.std.specs.Prelude.{Bool}
use Rattle.std.proofs.Common.{ℕ, ◌+◌, ◌-◌, ◌*◌, ◌^◌, ◌≤◌, ◌<◌, ◌≡◌, ◌∙◌, ◌⊎◌, inl, inr, false, Option, Some, None, List, [], ◌∷◌, ◌++◌, length, get_or, refl, sym, ap, subst, arith, length-append}
use Rattle.std.specs.List.{All, Contains}
use Rattle.std.proofs.Math.Seq.{get_or-append_seam}
use Rattle.std.proofs.lemmas.List.Elements.{Contains-append_left, Contains-append_right}
use Rattle.cps_model.specs.declared.bound.Bound.{Bound}
use Rattle.cps_literal.specs.declared.atom.Atom.{Atom}
use Rattle.cps_instance.specs.Problem.{Problem}
use Rattle.cps_trail.specs.Trail.{Domains, Entry, Trail, Decision, IsTrueAfter, open_values, up_to}
use Rattle.cps_trail.proofs.Falls.{not_both}
use Rattle.cps_trail.proofs.Marks.{up_to-all, up_to-append_above}
use Rattle.cps_trail.proofs.Times.{IsTrueAfter-up_to}
use Rattle.cps_clauses.specs.Quiet.{Fits, IsQuietAfter}
use Rattle.cps_clauses.specs.declared.origin.Origin.{Origin}
use Rattle.cps_clauses.specs.declared.origin.Origin.TheVariants as origins
use Rattle.cps_clauses.proofs.DroppedClauses.{in_force_pushed}
use Rattle.cps_port.specs.declared.part.Part.{Part}
use Rattle.cps_branch.specs.Guidances.{Branching, in_order, by_activity, ChoosesAs, HearsAs, StaysAs, IsInOrder}
use Rattle.cps_search.specs.declared.end.End.{End}
use Rattle.cps_search.specs.declared.end.End.TheVariants as ends
use Rattle.cps_search.specs.declared.turn.Turn.{Turn}
use Rattle.cps_search.specs.declared.turn.Turn.TheVariants as turns
use Rattle.cps_search.specs.Enough.{enough, spare_values}
use Rattle.cps_search.specs.Guided.{RunsBy}
use Rattle.cps_search.specs.Lessons.{IsBackLevel}
use Rattle.cps_tracer.specs.Traced.{Traced}
use Rattle.cps_search.specs.Moves.{fresh, with_log}
use Rattle.cps_search.specs.Searches.{Search, IsSoundSearch}
use Rattle.cps_search.specs.Shelves.{Shelf, in_force_on, with_more}
use Rattle.cps_search.specs.Turns.{BackAsLearnt, IsOnward, LearntOne, SameLearnt, Teaches, TookOne, Uses}
use Rattle.cps_search.specs.Ends.{DecidedOne, OneTurn, TakesTurns, end_of, none_yet, one_more}
use Rattle.cps_search.proofs.LevelRoom.{HasRoom, decided_less, few_learnt, pow_next, pow_some, room_at_rest, room_back, room_begins, room_decided, room_onward, room_with, two_before}

-- what a search has of it
abbrev Room : ℕ → Search → Type 0
Room top s = HasRoom top s.tally s.store.level s.store.first s.store.entries (in_force_on s.base)

same_room : (top tally tally' level level' : ℕ) (first first' : Domains) (es es' : List Entry) (cs cs' : List (List Atom)) → tally' ≡ tally → level' ≡ level → first' ≡ first → es' ≡ es → cs' ≡ cs → HasRoom top tally level first es cs → HasRoom top tally' level' first' es' cs'
same_room top tally tally' level level' first first' es es' cs cs' a b c d e h =
    subst (λ (x : List (List Atom)). HasRoom top tally' level' first' es' x) (sym e)
    (subst (λ (x : List Entry). HasRoom top tally' level' first' x cs) (sym d)
    (subst (λ (x : Domains). HasRoom top tally' level' x es cs) (sym c)
    (subst (λ (x : ℕ). HasRoom top tally' x first es cs) (sym b)
    (subst (λ (x : ℕ). HasRoom top x level first es cs) (sym a) h))))

-- inference keeps it
onward_room : (top : ℕ) (s t : Search) → IsOnward s.store t.store → SameLearnt s t → Room top s → Room top t
onward_room top s t onward learnt h =
    same_room top s.tally t.tally s.store.level t.store.level s.store.first t.store.first (s.store.entries ++ onward.added) t.store.entries (in_force_on s.base) (in_force_on t.base)
    learnt.tally onward.level onward.first onward.entries (ap in_force_on learnt.base)
    (room_onward top s.tally s.store.level s.store.first s.store.entries onward.added (in_force_on s.base) onward.inferred
    (subst (λ (ds : Domains). open_values ds (s.store.entries ++ onward.added) + length onward.added ≤ open_values s.store.first s.store.entries) onward.first
    (subst (λ (es : List Entry). open_values t.store.first es + length onward.added ≤ open_values s.store.first s.store.entries) onward.entries onward.fewer)) h)

-- a decision takes some
decided_room : (top : ℕ) (chooses : Trail → Option Atom → Type 0) (s t : Search) (rows : ℕ) (p q : Part) → DecidedOne chooses s t rows p q → Room top s → Room top t
decided_room top chooses s t rows p q h room =
    let m = h.midway in
    let d : Entry = record { atom = h.atom; level = m.store.level + 1; reason = Decision } in
    let there : Room top m = onward_room top s m h.due.onward h.due.learnt room in
    let quiet : All (IsQuietAfter m.store.first (up_to m.store.level m.store.entries)) (in_force_on m.base) = h.due.settled.clauses.at m.store.level (omega arith) in
    subst (λ (x : Search). Room top x) (sym h.is)
    (room_decided top m.tally m.store.level m.store.first m.store.entries d (in_force_on m.base) refl (decided_less m.store h.atom h.undecided) (two_before m.store h.atom h.due.sound h.undecided) there
    (room_at_rest top m.tally m.store.level m.store.first m.store.entries (in_force_on m.base) quiet there))

-- one more clause is in force
pushed : (b c : Shelf) (clause : List Atom) (below : Bound) (origin : Origin) → length b.dropped ≡ length b.clauses → c ≡ with_more b clause below origin → in_force_on c ≡ in_force_on b ++ clause ∷ []
pushed b c clause below origin sizes is = ap in_force_on is ∙ in_force_pushed b.clauses b.dropped clause sizes

sizes_before : (b c : Shelf) (clause : List Atom) (below : Bound) (origin : Origin) → length c.dropped ≡ length c.clauses → c ≡ with_more b clause below origin → length b.dropped ≡ length b.clauses
sizes_before b c clause below origin sizes is =
    let pushed_sizes : length (b.dropped ++ false ∷ []) ≡ length (b.clauses ++ clause ∷ []) = subst (λ (x : Shelf). length x.dropped ≡ length x.clauses) is sizes in
    omega (arith, pushed_sizes, length-append b.dropped (false ∷ []), length-append b.clauses (clause ∷ []))

last_in : (cs : List (List Atom)) (clause : List Atom) → Contains (cs ++ clause ∷ []) clause
last_in cs clause = Contains-append_right cs (clause ∷ []) clause (0, omega arith, refl)

-- the last clause
abbrev last_of : Shelf → List Atom
last_of b = get_or b.clauses (length b.clauses - 1) []

last_is : (b c : Shelf) (clause : List Atom) (below : Bound) (origin : Origin) → c ≡ with_more b clause below origin → last_of c ≡ clause
last_is b c clause below origin is =
    let at : length (b.clauses ++ clause ∷ []) - 1 ≡ length b.clauses = omega (arith, length-append b.clauses (clause ∷ [])) in
    ap last_of is ∙ ap (λ (n : ℕ). get_or (b.clauses ++ clause ∷ []) n []) at ∙ get_or-append_seam b.clauses clause [] []

-- a learnt clause sends back to a level at whose end it is unit
module _ (s t : Search) (clause : List Atom) (teaches : Teaches s t.z clause) (back : IsBackLevel s.store clause t.store.level) (lower : t.store.level < s.store.level) (fits : Fits s.store.first clause) where
  not_true : (d : Atom) → IsTrueAfter s.store.first (up_to t.store.level s.store.entries) (get_or clause back.place d) → ⊥
  not_true d on =
      let m = teaches.midway.store in
      let o = teaches.onward in
      let u = get_or clause back.place d in
      let ups : up_to t.store.level m.entries ≡ up_to t.store.level s.store.entries =
      ap (λ (es : List Entry). up_to t.store.level es) o.entries ∙ up_to-append_above t.store.level s.store.entries o.added (λ i e l. omega (arith, (o.inferred i e l).at, lower)) in
      let later : IsTrueAfter m.first m.entries u = IsTrueAfter-up_to m.first m.entries t.store.level u
      (subst (λ (ds : Domains). IsTrueAfter ds (up_to t.store.level m.entries) u) (sym o.first) (subst (λ (es : List Entry). IsTrueAfter s.store.first es u) (sym ups) on)) in
      not_both m u (subst (λ (ds : Domains). u.subject < length ds) (sym o.first) (fits.subjects back.place d back.within)) teaches.lesson.in_conflict.sound later (teaches.lesson.false_now back.place d back.within)

  unit_there : IsQuietAfter s.store.first (up_to t.store.level s.store.entries) clause → ⊥
  unit_there quiet = quiet.not_unit (back.place, record { within = back.within; others = back.others; not_true = not_true; not_false = back.left_open })

-- what was learnt sends back, and owes a value there
learnt_room : (top : ℕ) (s t : Search) (rows : ℕ) (p q : Part) → IsSoundSearch t → t.store.first ≡ s.store.first → LearntOne s t rows p q → BackAsLearnt s t → Room top s → Room top t
learnt_room top s t rows p q after first h back room =
    let learns = back.learnt.1 in
    let same : h.clause ≡ back.clause = sym (last_is h.base.left t.base h.clause t.z origins.Learnt h.base.is) ∙ last_is learns.left t.base back.clause t.z origins.Learnt learns.is in
    let level : IsBackLevel s.store h.clause t.store.level = subst (λ (c : List Atom). IsBackLevel s.store c t.store.level) (sym same) back.level in
    let sizes = sizes_before h.base.left t.base h.clause t.z origins.Learnt after.base.sizes h.base.is in
    let cs = in_force_on h.base.left in
    let has : Contains (in_force_on t.base) h.clause = subst (λ (x : List (List Atom)). Contains x h.clause) (sym (pushed h.base.left t.base h.clause t.z origins.Learnt sizes h.base.is)) (last_in cs h.clause) in
    let fits : Fits s.store.first h.clause = fits_last s t h.base.left h.clause h.base.is after first in
    same_room top t.tally t.tally t.store.level t.store.level s.store.first t.store.first (up_to t.store.level s.store.entries) t.store.entries (in_force_on t.base) (in_force_on t.base)
    refl refl first back.entries refl
    (room_back top s.tally t.tally s.store.level t.store.level s.store.first s.store.entries (in_force_on s.base) (in_force_on t.base) h.clause h.back (omega (arith, h.tally)) has
    (unit_there s t h.clause h.teaches level h.back fits) room)
  where
    fits_last : (s t : Search) (left : Shelf) (clause : List Atom) → t.base ≡ with_more left clause t.z origins.Learnt → IsSoundSearch t → t.store.first ≡ s.store.first → Fits s.store.first clause
    fits_last s t left clause is after first =
        let count : length left.clauses < length t.base.clauses = subst (λ (b : Shelf). length left.clauses < length b.clauses) (sym is) (omega (arith, length-append left.clauses (clause ∷ []))) in
        let at : get_or t.base.clauses (length left.clauses) [] ≡ clause = ap (λ (b : Shelf). get_or b.clauses (length left.clauses) []) is ∙ get_or-append_seam left.clauses clause [] [] in
        subst (λ (ds : Domains). Fits ds clause) first (subst (λ (c : List Atom). Fits t.store.first c) at (after.subjects (length left.clauses) [] count))

-- an entry that was taken sends back too, or leaves the store
taken_room : (top : ℕ) (s t : Search) (rows : ℕ) (p q : Part) → IsSoundSearch s → TookOne s t rows p q → Room top s → Room top t
taken_room top s t rows p q before h room = elim h.used [
  | inr pass ↦ same_room top s.tally t.tally s.store.level t.store.level s.store.first t.store.first s.store.entries t.store.entries (in_force_on s.base) (in_force_on t.base)
      h.tally (ap (λ (x : Trail). x.level) pass.0.store) (ap (λ (x : Trail). x.first) pass.0.store) (ap (λ (x : Trail). x.entries) pass.0.store) (ap in_force_on pass.0.clauses) room
  | inl uses ↦ used_room uses.0
]
  where
    less_or_same : (a b : ℕ) → a ≤ b → (a < b) ⊎ (a ≡ b)
    less_or_same a b l = grind arith

    used_room : Uses t.z s.base t.base s.store t.store h.entry → Room top t
    used_room u =
        let all : in_force_on t.base ≡ in_force_on s.base ++ u.clause ∷ [] = pushed s.base t.base u.clause h.entry.below origins.Imported before.base.sizes u.added in
        same_room top s.tally t.tally u.level t.store.level s.store.first t.store.first (up_to u.level s.store.entries) t.store.entries (in_force_on s.base ++ u.clause ∷ []) (in_force_on t.base)
        h.tally (ap (λ (x : Trail). x.level) u.back.is) (ap (λ (x : Trail). x.first) u.back.is) (ap (λ (x : Trail). x.entries) u.back.is) all
        (elim (less_or_same u.level s.store.level u.back.within) [
          | inl less ↦ room_back top s.tally s.tally s.store.level u.level s.store.first s.store.entries (in_force_on s.base) (in_force_on s.base ++ u.clause ∷ []) u.clause less (omega arith) (last_in (in_force_on s.base) u.clause) (u.level_is.here less) room
          | inr same ↦ subst (λ (l : ℕ). HasRoom top s.tally l s.store.first (up_to l s.store.entries) (in_force_on s.base ++ u.clause ∷ [])) (sym same)
              (subst (λ (es : List Entry). HasRoom top s.tally s.store.level s.store.first es (in_force_on s.base ++ u.clause ∷ [])) (sym (up_to-all s.store.level s.store.entries room.levels))
              (room_with top s.tally s.store.level s.store.first s.store.entries (in_force_on s.base) (in_force_on s.base ++ u.clause ∷ []) (λ c has. Contains-append_left (in_force_on s.base) (u.clause ∷ []) c has) room))
        ])

-- ---- branchers in order

still_in_order : (b c : Branching) → IsInOrder b → StaysAs b c → IsInOrder c
still_in_order (in_order plan) (in_order after) h stays = tt
still_in_order (in_order plan) (by_activity after) h stays = absurd stays
still_in_order (by_activity b) c h stays = absurd h

hears_in_order : (b c : Branching) (clause : List Atom) (restart : Bool) → IsInOrder b → HearsAs b clause restart c → IsInOrder c × (restart ≡ false)
hears_in_order (in_order plan) (in_order after) clause restart h heard = (tt, heard.goes_on)
hears_in_order (in_order plan) (by_activity after) clause restart h heard = absurd heard
hears_in_order (by_activity b) c clause restart h heard = absurd h

-- ---- turns

same_in_order : (b c : Branching) → c ≡ b → IsInOrder b → IsInOrder c
same_in_order b c same h = subst (λ (x : Branching). IsInOrder x) (sym same) h

turn_room : (top rows : ℕ) (s t : Search) (b c : Branching) (p q : Part) (turn : Turn) → end_of turn ≡ None → OneTurn ChoosesAs HearsAs StaysAs rows (s, b) (t, c) p q turn → IsInOrder b → Room top s → Room top t × IsInOrder c
turn_room top rows s t b c p q turns.Imported goes_on h on room = (taken_room top s t rows p q h.before h.search.cause room, same_in_order b c h.brancher on)
turn_room top rows s t b c p q turns.Decided goes_on h on room = (
  decided_room top (ChoosesAs b) s t rows p q h.search.cause room,
  elim h.brancher [ inl stays ↦ still_in_order b c on stays | inr same ↦ same_in_order b c same on ],
)
turn_room top rows s t b c p q turns.Learnt goes_on h on room =
    let heard = h.brancher.heard in
    let never = hears_in_order b c h.brancher.clause heard.restart on heard.said in
    (learnt_room top s t rows p q h.after (h.search.store (λ is. absurd (cc is))).first h.search.cause (heard.goes_on never.1) room, never.0)
turn_room top rows s t b c p q turns.Found goes_on h on room = (onward_room top s t h.search.cause.onward h.search.cause.learnt room, same_in_order b c h.brancher on)
turn_room top rows s t b c p q turns.Exhausted goes_on h on room = absurd (cc goes_on)
turn_room top rows s t b c p q turns.SawClosed goes_on h on room = absurd (cc goes_on)
turn_room top rows s t b c p q (turns.Spent clause below) goes_on h on room = absurd (cc goes_on)
turn_room top rows s t b c p q turns.RoundsDone goes_on h on room = absurd (cc goes_on)
turn_room top rows s t b c p q (turns.Reformed base) goes_on h on room = absurd h.search.cause

turns_room : (top rows : ℕ) (s : Search × Branching) (p : Part) (t : Search × Branching) (q : Part) → TakesTurns ChoosesAs HearsAs StaysAs rows s p t q → IsInOrder s.1 → Room top s.0 → Room top t.0 × IsInOrder t.1
turns_room top rows s p t q none_yet on room = (room, on)
turns_room top rows s p t q (one_more m u n r turn before goes_on last) on room =
    let there = turns_room top rows s p m n before on room in
    turn_room top rows m.0 u.0 m.1 u.1 n r turn goes_on last there.1 there.0

-- what a turn leaves of the budget and, where it ends the worker, of the tally
turns_budget : (rows : ℕ) (s : Search × Branching) (p : Part) (t : Search × Branching) (q : Part) → TakesTurns ChoosesAs HearsAs StaysAs rows s p t q → t.0.budget ≡ s.0.budget
turns_budget rows s p t q none_yet = refl
turns_budget rows s p t q (one_more m u n r turn before goes_on last) = last.search.setting.budget ∙ turns_budget rows s p m n before

ends_tally : (rows : ℕ) (s t : Search) (b c : Branching) (p q : Part) (turn : Turn) (end : End) → end_of turn ≡ Some end → OneTurn ChoosesAs HearsAs StaysAs rows (s, b) (t, c) p q turn → t.tally ≡ s.tally
ends_tally rows s t b c p q turns.Imported end is h = absurd (cc is)
ends_tally rows s t b c p q turns.Decided end is h = absurd (cc is)
ends_tally rows s t b c p q turns.Learnt end is h = absurd (cc is)
ends_tally rows s t b c p q turns.Found end is h = absurd (cc is)
ends_tally rows s t b c p q turns.Exhausted end is h = h.search.cause.learnt.tally
ends_tally rows s t b c p q turns.SawClosed end is h = ap (λ (x : Search). x.tally) h.search.cause.same
ends_tally rows s t b c p q (turns.Spent clause below) end is h = h.search.cause.learnt.tally
ends_tally rows s t b c p q turns.RoundsDone end is h = absurd h.search.cause
ends_tally rows s t b c p q (turns.Reformed base) end is h = absurd (cc is)

spends_all : (rows : ℕ) (s t : Search) (b c : Branching) (p q : Part) (turn : Turn) (clause : List Atom) (below : Bound) → end_of turn ≡ Some (ends.Spent clause below) → OneTurn ChoosesAs HearsAs StaysAs rows (s, b) (t, c) p q turn → s.budget ≡ Some s.tally
spends_all rows s t b c p q turns.Imported clause below is h = absurd (cc is)
spends_all rows s t b c p q turns.Decided clause below is h = absurd (cc is)
spends_all rows s t b c p q turns.Learnt clause below is h = absurd (cc is)
spends_all rows s t b c p q turns.Found clause below is h = absurd (cc is)
spends_all rows s t b c p q turns.Exhausted clause below is h = absurd (cc is)
spends_all rows s t b c p q turns.SawClosed clause below is h = absurd (cc is)
spends_all rows s t b c p q (turns.Spent other under) clause below is h = h.search.cause.budget
spends_all rows s t b c p q turns.RoundsDone clause below is h = absurd h.search.cause
spends_all rows s t b c p q (turns.Reformed base) clause below is h = absurd (cc is)

-- ---- runs

top_below : (n : ℕ) → 2 * (2 ^ n - 1) < 2 ^ (n + 1)
top_below n = omega (arith, pow_next n, pow_some n)

-- turns of a worker that began so
few_begun : (p : Problem) (gap rows : ℕ) (budget : Option ℕ) (log : Option Traced) (b : Branching) → IsInOrder b → (t : Search × Branching) (q r : Part) → TakesTurns ChoosesAs HearsAs StaysAs rows (with_log log (fresh p gap budget), b) q t r → t.0.tally < enough p
few_begun p gap rows budget None b on t q r turns =
    let n = spare_values p.domains [] in
    let room = (turns_room (2 * (2 ^ n - 1)) rows (fresh p gap budget, b) q t r turns on (room_begins p.domains [])).0 in
    omega (arith, few_learnt _ _ _ _ _ _ room, top_below n)
few_begun p gap rows budget (Some l) b on t q r turns =
    let n = spare_values p.domains [] in
    let room = (turns_room (2 * (2 ^ n - 1)) rows (with_log (Some l) (fresh p gap budget), b) q t r turns on (room_begins p.domains [])).0 in
    omega (arith, few_learnt _ _ _ _ _ _ room, top_below n)

begun_budget : (p : Problem) (gap : ℕ) (budget : Option ℕ) (log : Option Traced) → (with_log log (fresh p gap budget)).budget ≡ budget
begun_budget p gap budget None = refl
begun_budget p gap budget (Some l) = refl

module _ (p : Problem) (gap rows : ℕ) (budget : Option ℕ) (log : Option Traced) (b : Branching) (on : IsInOrder b) where
  few_before : (t : Search × Branching) (q r : Part) → TakesTurns ChoosesAs HearsAs StaysAs rows (with_log log (fresh p gap budget), b) q t r → t.0.tally < enough p
  few_before t q r turns = few_begun p gap rows budget log b on t q r turns

  -- a worker in order learns from few conflicts, whatever its budget
  pub few_conflicts : (t : Search × Branching) (q r : Part) (end : End) → RunsBy rows (with_log log (fresh p gap budget), b) t q r end → t.0.tally < enough p
  few_conflicts t q r end h =
      omega (arith, few_before h.before q h.part h.turns, ends_tally rows h.before.0 t.0 h.before.1 t.1 h.part r h.turn end h.ended h.last)

  -- so it never spends one that is enough
  pub never_spent : (t : Search × Branching) (q r : Part) (clause : List Atom) (below : Bound) (most : ℕ) → budget ≡ Some most → enough p ≤ most → RunsBy rows (with_log log (fresh p gap budget), b) t q r (ends.Spent clause below) → ⊥
  never_spent t q r clause below most is within h =
      let spent : Some most ≡ Some h.before.0.tally = sym is ∙ sym (begun_budget p gap budget log) ∙ sym (turns_budget rows (with_log log (fresh p gap budget), b) q h.before h.part h.turns) ∙ spends_all rows h.before.0 t.0 h.before.1 t.1 h.part r h.turn clause below h.ended h.last in
      let same : most ≡ h.before.0.tally = cc spent in
      absurd (omega (arith, few_before h.before q h.part h.turns, same, within))
