-- Steps of a board are events of the board that it shows.
use Rattle.std.proofs.Common.{◌≡◌, ◌≢◌, ℕ, zero, suc, ◌+◌, ◌-◌, ◌*◌, ◌%◌, ◌<◌, ◌≤◌, ◌^◌, nat_lt, Bool, true, false, if◌then◌else◌, Option, Some, None, List, [], ◌∷◌, map, length, replicate, get_or, set, refl, sym, ap, ◌∙◌, subst, arith, length-set, get_or-set_same, get_or-set_other}
use Rattle.std.specs.Prelude.{◌↔◌}
use Rattle.std.proofs.lemmas.Bool.Decides.{nat_tests}
use Rattle.std.proofs.lemmas.List.{length-map, length-replicate}
use mathlib.Core.Logic.{dite}
use mathlib.Core.Option.{some, some-injective, some-ne-none}
use native.Mathlib.Decide.{dec_le, ℕ_discrete}
use lib.ListN.{get_elem?}
use lib.Seq.{map-set, set-get_or}
use Rattle.atomic_table.specs.Table.{Me, stepped, keeps}
use Rattle.atomic_table.proofs.Lists.{at_last}
use Rattle.cps_model.specs.declared.model.CpModel.{CpModel}
use Rattle.cps_port.specs.declared.entry.Entry.{Entry}
use Rattle.cps_port.specs.declared.event.Event.{Event}
use Rattle.cps_port.specs.declared.event.Event.TheVariants.{Draw, Publish, Look, Offer, Raise, SeeUpper, SeeLower}
use Rattle.cps_port.specs.declared.part.BoardPart.{BoardPart}
use Rattle.cps_port.specs.Entries.{IsSoundEntry}
use Rattle.cps_port.specs.Incumbents.{HoldsBelow}
use Rattle.cps_port.specs.Parts.{no_rows, with_row, with_past, with_mine, with_taken, with_misses}
use Rattle.cps_port.specs.Shared.{BoardState, Shared, board_part, row_at, next_row, actor_count, counted, drawn_by, looked_by, board_after, bounds_after, after, MayPublish, IsLawful}
use Rattle.cps_port.specs.Totals.{total, one_if_some, times}
use Rattle.cps_port.proofs.Places.{here, total_set}
use Rattle.cps_port.proofs.PortEvents.{counted_rises}
use Rattle.cps_board.specs.declared.view.View.{View}
use Rattle.cps_board.specs.Rows.{row_words, flag, owns, past, IsOpen, KeptRows, drawing}
use Rattle.cps_board.specs.Events.{RowTable, Shows, Draws, Publishes, Looks, Puts, Reads, makes, puts, reads, Makes, StepsAreEvents, ShowsFirst}
use Rattle.cps_board.proofs.Basics.{Away, away_flag, away_word, away_claim, beyond, none_of, one_below}
use Rattle.cps_board.proofs.Keeps.{data_kept, open_kept, one_entry}

abbrev part_in : View → BoardPart
part_in v = v.part

abbrev draws_of : View → ℕ
draws_of v = v.draws

abbrev Token : Type 0
Token = Me (Unit {0}) View

same_some : {X : Type 0} (x y : X) → Some x ≡ Some y → x ≡ y
same_some x y e = cc

part_at_seat : (vs : List View) (id : ℕ) (v : View) → get_elem? vs id ≡ some v → get_or (map part_in vs) id no_rows ≡ v.part
part_at_seat [] id v e = absurd (some-ne-none v (sym e))
part_at_seat (x ∷ xs) zero v e = ap part_in (some-injective x v e)
part_at_seat (x ∷ xs) (suc id) v e = part_at_seat xs id v e

seat_below : (vs : List View) (id : ℕ) (v : View) → get_elem? vs id ≡ some v → id < length vs
seat_below [] id v e = absurd (some-ne-none v (sym e))
seat_below (x ∷ xs) zero v e = omega arith
seat_below (x ∷ xs) (suc id) v e = let h = seat_below xs id v e in omega arith

is_below : (n c : ℕ) → n < c → nat_lt n c ≡ true
is_below n c h = grind (arith, nat_tests)

not_below : (n c : ℕ) → c ≤ n → nat_lt n c ≡ false
not_below n c h = grind (arith, nat_tests)

-- open rows stay open, and no other row opens, where one row changes that is closed before and after
away_back : (r0 : ℕ) (ws ws' : List ℕ) → Away r0 ws ws' → Away r0 ws' ws
away_back r0 ws ws' a = record { flags = λ r n. sym (a.flags r n); words = λ r k n l. sym (a.words r k n l) }

open_away : (n : ℕ) (ws ws' : List ℕ) (r0 row : ℕ) (e : Entry) → Away r0 ws ws' → row ≢ r0 → IsOpen n ws row e → IsOpen n ws' row e
open_away n ws ws' r0 row e a other o = record {
  within = o.within;
  flag_set = λ z. o.flag_set (sym (a.flags row other) ∙ z);
  named = o.named;
  coded = o.coded;
  words = data_kept ws ws' r0 row _ a other o.words;
}

-- a row has this entry just where it is open with it
abbrev HasRow : BoardState → ℕ → List ℕ → ℕ → Entry → Type 0
HasRow b n ws row e = (row_at b row ≡ Some e) ↔ IsOpen n ws row e

closed_stays : (b : BoardState) (n : ℕ) (ws ws' : List ℕ) (r0 row : ℕ) (e : Entry) → Away r0 ws ws' → flag ws r0 ≡ 0 → flag ws' r0 ≡ 0 → HasRow b n ws row e → HasRow b n ws' row e
closed_stays b n ws ws' r0 row e a before now h =
    ((λ q. open_kept n ws ws' r0 row e a before (h.0 q)), (λ o. h.1 (open_kept n ws' ws r0 row e (away_back r0 ws ws' a) now o)))

-- one row opens
opens_row : (b : BoardState) (n : ℕ) (ws ws' : List ℕ) (x : Entry) → Away x.row ws ws' → x.row < length b.rows → IsOpen n ws' x.row x → ((row : ℕ) (e : Entry) → HasRow b n ws row e)
    → (row : ℕ) (e : Entry) → (get_or (set b.rows x.row (Some x)) row None ≡ Some e) ↔ IsOpen n ws' row e
opens_row b n ws ws' x a inside o has row e =
    dite (ℕ_discrete row x.row)
    (λ same. let at : get_or (set b.rows x.row (Some x)) row None ≡ Some x = ap (λ (r : ℕ). get_or (set b.rows x.row (Some x)) r None) same ∙ get_or-set_same b.rows x.row (Some x) None inside in (
      (λ q. subst (λ (y : Entry). IsOpen n ws' row y) (same_some x e (sym at ∙ q)) (subst (λ (r : ℕ). IsOpen n ws' r x) (sym same) o)),
      (λ p. at ∙ ap Some (one_entry n ws' x.row x e o (subst (λ (r : ℕ). IsOpen n ws' r e) same p))),
    ))
    (λ other. let at : get_or (set b.rows x.row (Some x)) row None ≡ row_at b row = get_or-set_other b.rows x.row row (Some x) None other in
    ((λ q. open_away n ws ws' x.row row e a other ((has row e).0 (sym at ∙ q))), (λ p. at ∙ (has row e).1 (open_away n ws' ws x.row row e (away_back x.row ws ws' a) other p))))

-- what is shown after a step on one word
shows_after : (s t : RowTable) (b : BoardState) (id place n : ℕ) (w : View) → t ≡ stepped s place n id [] w keeps → length s.homes ≡ length b.rows
    → ((row : ℕ) (e : Entry) → HasRow b (length s.homes) (set s.words place n) row e) → get_or (set s.words place n) 0 0 ≡ b.next → set (map part_in s.views) id w.part ≡ b.parts → Shows t b
shows_after s t b id place n w state size rows next parts =
    subst (λ (z : RowTable). Shows z b) (sym state) (record { size = size; rows = rows; next = next; parts = map-set part_in s.views id w ∙ parts })

-- an entry that is sound may be published in its row
may_publish : (m : CpModel) (p : BoardPart) (e : Entry) → p.drawn ≡ Some e.row → IsSoundEntry m e → MayPublish m p e
unfolding HoldsBelow
may_publish m p e drawn sound = record { drawn = drawn; fits = sound.fits; clause = sound.clause; incumbent = sound.incumbent; follows = λ a free less _. sound.holds a free less }

-- what a draw leaves of a part, and of a count of draws
drawn_is : (v w : View) (n c : ℕ) → (c < n → (let me : Token = (w, []) in me) ≡ (drawing v (with_row v.part c), [])) → (n ≤ c → (let me : Token = (w, []) in me) ≡ (drawing v (with_past v.part), []))
    → (w.part ≡ drawn_by v.part c n) × (w.draws ≡ v.draws + 1)
drawn_is v w n c less full = dite (dec_le n c)
    (λ h. (ap (λ (z : Token). z.0.part) (full h) ∙ sym (ap (λ (t : Bool). if t then with_row v.part c else with_past v.part) (not_below c n h)), ap (λ (z : Token). z.0.draws) (full h)))
    (λ h. let l : c < n = omega arith in (ap (λ (z : Token). z.0.part) (less l) ∙ sym (ap (λ (t : Bool). if t then with_row v.part c else with_past v.part) (is_below c n l)), ap (λ (z : Token). z.0.draws) (less l)))

-- one step is one event
record IsOneEvent (c : Shared) (id : ℕ) (e : Event) (t : RowTable) : Type 0 where
  actor : id < actor_count c
  lawful : IsLawful c id e
  shown : Shows t (board_after c.board id e)
  bounds : bounds_after c.bounds id e ≡ c.bounds
  kept : KeptRows c.model t

-- or none
record IsNone (c : Shared) (t : RowTable) : Type 0 where
  shown : Shows t c.board
  kept : KeptRows c.model t

module _ (c : Shared) (s : RowTable) (id : ℕ) (k : KeptRows c.model s) (shows : Shows s c.board) where
  abbrev P : BoardPart
  P = board_part c.board id

  module _ (old : View) (seat : get_elem? s.views id ≡ some old) where
    knew : P ≡ old.part
    knew = sym (ap (λ (ps : List BoardPart). get_or ps id no_rows) shows.parts) ∙ part_at_seat s.views id old seat

    among : id < actor_count c
    among = let h = seat_below s.views id old seat in let l = length-map s.views part_in in let q = ap (λ (ps : List BoardPart). length ps) shows.parts in omega arith

    -- the parts, of which one becomes p
    parts_now : (w : View) (p : BoardPart) → w.part ≡ p → set (map part_in s.views) id w.part ≡ set c.board.parts id p
    parts_now w p e = ap (λ (ps : List BoardPart). set ps id w.part) shows.parts ∙ ap (set c.board.parts id) e

    parts_same : (w : View) → w.part ≡ old.part → set (map part_in s.views) id w.part ≡ c.board.parts
    parts_same w e = parts_now w P (e ∙ sym knew) ∙ set-get_or c.board.parts id no_rows

  seat_after : (t : RowTable) (place n : ℕ) (v w : View) → get_elem? s.views id ≡ some v → t ≡ stepped s place n id [] w keeps → get_elem? t.views id ≡ some w
  seat_after t place n v w seat state = ap (λ (z : RowTable). get_elem? z.views id) state ∙ here s.views id v w seat

  draws_row : (t : RowTable) → Draws c.model s id t → IsOneEvent c id Draw t
  draws_row t made =
      let old = made.0 in let st = made.1 in let b = c.board in let n : ℕ = length s.homes in let x : ℕ = get_or s.words 0 0 in
      let was = knew old st.seat in
      let drew = drawn_is old st.new n x st.told.0 st.told.1 in
      let part : st.new.part ≡ drawn_by P b.next (length b.rows) = drew.0
      ∙ (ap (λ (y : ℕ). drawn_by old.part y n) shows.next ∙ (ap (drawn_by old.part b.next) shows.size ∙ ap (λ (p : BoardPart). drawn_by p b.next (length b.rows)) (sym was))) in
      let ws' : List ℕ = set s.words 0 ((x + 1) % 2 ^ 64) in
      let a : Away n s.words ws' = away_claim s.words n ((x + 1) % 2 ^ 64) in
      let wide = k.wide in let wide' = length-set s.words 0 ((x + 1) % 2 ^ 64) in
      let before : flag s.words n ≡ 0 = beyond s.words (row_words * n + 1) (omega arith) in
      let now : flag ws' n ≡ 0 = beyond ws' (row_words * n + 1) (omega arith) in
      let first = k.counted in let last = st.kept.counted in let more = total_set draws_of s.views id old st.new st.seat in let one = drew.1 in
      let views = ap (λ (z : RowTable). total draws_of z.views) st.state in let words = ap (λ (z : RowTable). get_or z.words 0 0) st.state in let shown = shows.next in
      record {
        actor = among old st.seat;
        lawful = (ap (λ (p : BoardPart). p.full) was ∙ made.2, ap (λ (p : BoardPart). p.drawn) was ∙ made.3);
        shown = shows_after s t (board_after b id Draw) id 0 ((x + 1) % 2 ^ 64) st.new st.state shows.size (λ row e. closed_stays b n s.words ws' n row e a before now (shows.rows row e)) (omega arith)
            (parts_now old st.seat st.new (drawn_by P b.next (length b.rows)) part);
        bounds = refl;
        kept = st.kept;
      }

  publishes : (e : Entry) (t : RowTable) → Publishes c.model s id e t → IsOneEvent c id (Publish e) t
  publishes e t made =
      let old = made.0 in let st = made.1 in let b = c.board in let n : ℕ = length s.homes in let i : ℕ = row_words * e.row + 1 in
      let was = knew old st.seat in
      let part : st.new.part ≡ with_mine old.part e = ap (λ (z : Token). z.0.part) (st.told e.row made.2) ∙ ap (with_mine old.part) (sym made.3) in
      let o = (k.each id old st.seat).drawn e.row made.2 in let inside = o.within in let size = shows.size in
      let mine : get_elem? st.new.part.mine (length old.part.mine) ≡ some e = ap (λ (p : BoardPart). get_elem? p.mine (length old.part.mine)) part ∙ at_last old.part.mine e (length old.part.mine) refl in
      let there : IsOpen (length t.homes) t.words e.row e = (st.kept.each id st.new (seat_after t i 1 old st.new st.seat st.state)).mine (length old.part.mine) e mine in
      let opened : IsOpen n (set s.words i 1) e.row e = subst (λ (z : RowTable). IsOpen (length z.homes) z.words e.row e) st.state there in
      let sound = st.kept.sound e.row there.within there.flag_set in
      let good : IsSoundEntry c.model e = subst (IsSoundEntry c.model) {x = sound.0} (one_entry (length t.homes) t.words e.row sound.0 e sound.1 there) sound.2 in
      record {
        actor = among old st.seat;
        lawful = may_publish c.model P e (ap (λ (p : BoardPart). p.drawn) was ∙ made.2) good;
        shown = shows_after s t (board_after b id (Publish e)) id i 1 st.new st.state (size ∙ sym (length-set b.rows e.row (Some e)))
            (opens_row b n s.words (set s.words i 1) e (away_flag s.words e.row 1) (omega arith) opened shows.rows)
            (get_or-set_other s.words i 0 1 0 (λ q. omega arith) ∙ shows.next) (parts_now old st.seat st.new (with_mine P e) (part ∙ ap (λ (p : BoardPart). with_mine p e) (sym was)));
        bounds = refl;
        kept = st.kept;
      }

  no_entry : (row : ℕ) → flag s.words row ≡ 0 → row_at c.board row ≡ None
  no_entry row shut = go (row_at c.board row) refl where
    go : (r : Option Entry) → row_at c.board row ≡ r → row_at c.board row ≡ None
    go None e = e
    go (Some x) e = absurd (((shows.rows row x).0 e).flag_set shut)

  -- the part after a look, by what the row has
  looked_part : (t : RowTable) (made : Looks c.model s id t) → made.1.new.part ≡ looked_by P (next_row c.board id)
  looked_part t made =
      let old = made.0 in let st = made.1 in let b = c.board in let row : ℕ = length old.part.taken in let i : ℕ = row_words * row + 1 in let n : ℕ = length s.homes in
      let was = knew old st.seat in
      let next : next_row b id ≡ row_at b row = ap (λ (p : BoardPart). row_at b (length p.taken)) was in
      dite (ℕ_discrete (flag s.words row) 0)
      (λ shut. ap (λ (z : Token). z.0.part) (st.told.0 shut).0
      ∙ (ap (with_misses old.part) (sym ((counted_rises old.part.misses).rose made.3)) ∙ (ap (λ (p : BoardPart). with_misses p (counted p.misses)) (sym was) ∙ ap (looked_by P) (sym (next ∙ no_entry row shut)))))
      (λ open_. let found = st.told.1 open_ in let e : Entry = found.0 in
      let part : st.new.part ≡ with_taken old.part e = ap (λ (z : Token). z.0.part) found.1 in
      let taken : get_elem? st.new.part.taken row ≡ some e = ap (λ (p : BoardPart). get_elem? p.taken row) part ∙ at_last old.part.taken e row refl in
      let there : IsOpen (length t.homes) t.words row e = (st.kept.each id st.new (seat_after t i (get_or s.words i 0) old st.new st.seat st.state)).taken row e taken in
      let open_here : IsOpen n s.words row e = subst (λ (ws : List ℕ). IsOpen n ws row e) (set-get_or s.words i 0) (subst (λ (z : RowTable). IsOpen (length z.homes) z.words row e) st.state there) in
      part ∙ (ap (λ (p : BoardPart). with_taken p e) (sym was) ∙ ap (looked_by P) (sym (next ∙ (shows.rows row e).1 open_here))))

  -- a word that is loaded stays
  rows_loaded : (i row : ℕ) (e : Entry) → HasRow c.board (length s.homes) (set s.words i (get_or s.words i 0)) row e
  rows_loaded i row e = subst (λ (ws : List ℕ). HasRow c.board (length s.homes) ws row e) (sym (set-get_or s.words i 0)) (shows.rows row e)

  next_loaded : (i : ℕ) → get_or (set s.words i (get_or s.words i 0)) 0 0 ≡ c.board.next
  next_loaded i = ap (λ (ws : List ℕ). get_or ws 0 0) (set-get_or s.words i 0) ∙ shows.next

  looks : (t : RowTable) → Looks c.model s id t → IsOneEvent c id Look t
  looks t made =
      let old = made.0 in let st = made.1 in let b = c.board in let i : ℕ = row_words * length old.part.taken + 1 in
      let was = ap (λ (p : BoardPart). length p.taken) (knew old st.seat) in let left = made.2 in let size = shows.size in
      record {
        actor = among old st.seat;
        lawful = omega arith;
        shown = shows_after s t (board_after b id Look) id i (get_or s.words i 0) st.new st.state size (rows_loaded i) (next_loaded i) (parts_now old st.seat st.new (looked_by P (next_row b id)) (looked_part t made));
        bounds = refl;
        kept = st.kept;
      }

  puts_word : (word : ℕ) (t : RowTable) → Puts c.model s id word t → IsNone c t
  puts_word word t made =
      let old = made.0 in let row = made.1 in let st = made.2 in let b = c.board in let j : ℕ = length old.written in let i : ℕ = row_words * row + (j + 2) in
      let o = (k.each id old st.seat).drawn row made.3 in
      let now : flag (set s.words i word) row ≡ 0 = get_or-set_other s.words i (row_words * row + 1) word 0 (λ q. omega arith) ∙ o.closed in
      record {
        shown = shows_after s t b id i word st.new st.state shows.size
            (λ r e. closed_stays b (length s.homes) s.words (set s.words i word) row r e (away_word s.words row j word made.4) o.closed now (shows.rows r e))
            (get_or-set_other s.words i 0 word 0 (λ q. omega arith) ∙ shows.next) (parts_same old st.seat st.new (ap (λ (z : Token). z.0.part) st.told));
        kept = st.kept;
      }

  reads_word : (place : ℕ) (t : RowTable) → Reads c.model s id place t → IsNone c t
  reads_word place t made =
      let old = made.0 in let st = made.1 in record {
        shown = shows_after s t c.board id place (get_or s.words place 0) st.new st.state shows.size (rows_loaded place) (next_loaded place) (parts_same old st.seat st.new (ap (λ (z : Token). z.0.part) st.told.0));
        kept = st.kept;
      }

  one_event : (e : Event) (t : RowTable) → Makes c.model s id e t → IsOneEvent c id e t
  one_event Draw t made = draws_row t made
  one_event (Publish e) t made = publishes e t made
  one_event Look t made = looks t made
  one_event (Offer v) t made = absurd made
  one_event (Raise l) t made = absurd made
  one_event SeeUpper t made = absurd made
  one_event SeeLower t made = absurd made

pub steps_are_events : StepsAreEvents
steps_are_events c s t [] k shows made = record { lawful = tt; shown = subst (λ (z : RowTable). Shows z c.board) (sym made) shows; bounds = refl }
steps_are_events c s t ((id, makes e) ∷ os) k shows made =
    let one = one_event c s id k shows e made.0 made.1 in
    let rest = steps_are_events (after c id e) made.0 t os one.kept one.shown made.2 in
    record { lawful = (one.actor, one.lawful, rest.lawful); shown = rest.shown; bounds = rest.bounds ∙ one.bounds }
steps_are_events c s t ((id, puts word) ∷ os) k shows made =
    let none_ = puts_word c s id k shows word made.0 made.1 in steps_are_events c made.0 t os none_.kept none_.shown made.2
steps_are_events c s t ((id, reads place) ∷ os) k shows made =
    let none_ = reads_word c s id k shows place made.0 made.1 in steps_are_events c made.0 t os none_.kept none_.shown made.2

idle_parts : (vs : List View) → ((i : ℕ) (v : View) → get_elem? vs i ≡ some v → v.part ≡ no_rows) → map part_in vs ≡ replicate (length vs) no_rows
idle_parts [] idle = refl
idle_parts (x ∷ xs) idle =
    ap (λ (p : BoardPart). p ∷ map part_in xs) (idle 0 x refl) ∙ ap (λ (ps : List BoardPart). no_rows ∷ ps) (idle_parts xs (λ i v e. idle (suc i) v e))

no_row_at : (n row : ℕ) → get_or {A = Option Entry} (replicate n None) row None ≡ None
no_row_at zero row = refl
no_row_at (suc n) zero = refl
no_row_at (suc n) (suc row) = no_row_at n row

none_some : {X : Type 0} (x : X) → None ≡ Some x → ⊥
none_some x e = cc

-- where no seat has done anything, nothing was drawn
none_drawn : (m : CpModel) (s : RowTable) → KeptRows m s → ((i : ℕ) (v : View) → get_elem? s.views i ≡ some v → v.part ≡ no_rows) → get_or s.words 0 0 ≡ 0
none_drawn m s k idle =
    let claim : ℕ = get_or s.words 0 0 in
    let within = none_of past s.views (λ i v e. ap (λ (p : BoardPart). if p.full then v.splits else 0) (idle i v e)) in
    let most = k.draws in
    dite (dec_le claim 0) (λ none_. omega arith) (λ some_.
    let row : ℕ = claim - 1 in
    let no_owner = none_of (owns row) s.views (λ i v e. ap (λ (p : BoardPart). one_if_some row p.drawn + times (λ (x : Entry). x.row) row p.mine) (idle i v e)) in
    let one = k.owned row (omega arith) in
    let counts = one_below row claim (omega arith) in
    absurd (omega arith))

pub shows_first : ShowsFirst
shows_first m s k idle =
    let none_ = none_drawn m s k idle in record {
      size = sym (length-replicate (length s.homes) None);
      rows = λ row e. ((λ q. absurd (none_some e (sym (no_row_at (length s.homes) row) ∙ q))), (λ o. let h = k.claimed row o.within o.flag_set in absurd (omega arith)));
      next = none_;
      parts = idle_parts s.views idle;
    }
