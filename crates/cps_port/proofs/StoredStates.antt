-- Events on the state as it is stored.
use Rattle.std.proofs.Common.{◌≡◌, ◌≢◌, ℕ, zero, suc, ◌+◌, ◌<◌, ◌≤◌, ◌^◌, ◌==◌, nat_lt, ◌⊎◌, ⊎_elim, inl, inr, Bool, true, false, ◌&&◌, if◌then◌else◌, ℤ, Option, Some, None, List, [], ◌∷◌, ◌++◌, map, take, replicate, length, get_or, set, sym, refl, ap, ◌∙◌, subst, arith, length-set}
use Rattle.std.proofs.lemmas.Bool.Decides.{nat_tests}
use Rattle.std.proofs.lemmas.List.{length-replicate, take-set-le, take_more, map-set, length-map, length-take}
use Rattle.std.proofs.Math.ListN.{get_or-map}
use Rattle.cps_model.specs.declared.bound.Bound.{Bound}
use Rattle.cps_model.specs.declared.bound.Bound.TheVariants.{At, Infinite}
use Rattle.cps_model.specs.declared.model.CpModel.{CpModel}
use Rattle.cps_model.specs.Start.{objective_start}
use Rattle.cps_model.specs.Validity.{IsValid}
use Rattle.cps_port.specs.declared.entry.Entry.{Entry}
use Rattle.cps_port.specs.declared.event.Event.{Event}
use Rattle.cps_port.specs.declared.event.Event.TheVariants.{Draw, Publish, Look, Offer, Raise, SeeUpper, SeeLower}
use Rattle.cps_port.specs.declared.part.BoardPart.{BoardPart}
use Rattle.cps_port.specs.declared.part.BoundsPart.{BoundsPart}
use Rattle.cps_port.specs.declared.seat.Row.{Row}
use Rattle.cps_port.specs.declared.seat.Seat.{Seat}
use Rattle.cps_port.specs.Order.{lesser, greater, raised_to}
use Rattle.cps_port.specs.Parts.{no_rows, no_bounds, with_row, with_past, with_mine, with_taken, with_misses, after_upper, after_lower, after_offer, after_raise}
use Rattle.cps_port.specs.Shared.{Shared, first_shared, board_part, bounds_part, next_row, row_drawn, counted, drawn_by, looked_by, actor_count, after, IsLawful}
use Rattle.cps_port.specs.Sound.{IsSoundShared}
use Rattle.cps_port.specs.Totals.{total, one_if}
use Rattle.cps_port.specs.Kept.{full_count, IsStateKept}
use Rattle.cps_port.specs.Views.{no_row, no_seat, row_entry, is_own, own_entries, first_entries, seat_part, seat_parts, shared_of, row_of, seat_of, IsStateStored, IsWhole}
use Rattle.cps_port.proofs.Lists.{at_each}
use Rattle.cps_port.proofs.BoardEvents.{taken_before}
use Rattle.cps_port.proofs.SoundShared.{get_or-replicate, starts, keeps, sound_of}

-- an element that is there does not depend on what stands for one that is not
pub get_or-there : {A : Type 0} (l : List A) (i : ℕ) (x d : A) → i < length l → x ≡ get_or l i x → get_or l i d ≡ x
get_or-there [] i x d h e = absurd (omega arith)
get_or-there (y ∷ ys) zero x d h e = sym e
get_or-there (y ∷ ys) (suc i) x d h e = get_or-there ys i x d (omega arith) e

some_same : (x y : ℕ) → Some x ≡ Some y → x ≡ y
some_same x y e = cc

bool_cases : (t : Bool) → (t ≡ true) ⊎ (t ≡ false)
bool_cases true = inl refl
bool_cases false = inr refl

is_below : (n c : ℕ) → n < c → nat_lt n c ≡ true
is_below n c h = grind (arith, nat_tests)

not_below : (n c : ℕ) → c ≤ n → nat_lt n c ≡ false
not_below n c h = grind (arith, nat_tests)

none_some : (x : ℕ) → None ≡ Some x → ⊥
none_some x e = cc

get_or-default : {A : Type 0} (l : List A) (i : ℕ) (d : A) → i < length l → get_or l i d ≡ get_or l i (get_or l i d)
get_or-default [] i d h = absurd (omega arith)
get_or-default (x ∷ xs) zero d h = refl
get_or-default (x ∷ xs) (suc i) d h = get_or-default xs i d (omega arith)

same_number : (i : ℕ) → (i == i) ≡ true
same_number i = grind (arith, nat_tests)

other_number : (i j : ℕ) → (i ≡ j → ⊥) → (i == j) ≡ false
other_number i j n = grind (arith, nat_tests)

own_entry : (i : ℕ) (r : Row) → is_own i r ≡ true → row_entry r ≡ Some r.entry
own_entry i r e = ap (λ (t : Bool). if t then Some r.entry else None) (first_true r.published (r.owner == i) e) where
  first_true : (a b : Bool) → (a && b) ≡ true → a ≡ true
  first_true true b g = refl
  first_true false b g = cc

not_own : (i : ℕ) (r : Row) → row_entry r ≡ None → is_own i r ≡ false
not_own i r none = ⊎_elim (λ t. absurd (not_none r.entry (sym none ∙ own_entry i r t))) (λ f. f) (bool_cases (is_own i r)) where
  not_none : (x : Entry) → None ≡ Some x → ⊥
  not_none x e = cc

own_here : (i : ℕ) (e : Entry) → is_own i (record { published = true; owner = i; entry = e }) ≡ true
own_here i e = same_number i

own_other : (i j : ℕ) (e : Entry) → (i ≡ j → ⊥) → is_own j (record { published = true; owner = i; entry = e }) ≡ false
own_other i j e n = other_number i j n

at_most_one : (t : Bool) → one_if t ≤ 1
at_most_one true = omega arith
at_most_one false = omega arith

length-seat_parts : (rows : List Row) (b : ℕ) (ss : List Seat) → length (seat_parts rows b ss) ≡ length ss
length-seat_parts rows b [] = refl
length-seat_parts rows b (s ∷ ss) = ap suc (length-seat_parts rows (b + 1) ss)

seat_parts-at : (rows : List Row) (b : ℕ) (ss : List Seat) (i n : ℕ) (s : Seat) → n ≡ b + i → i < length ss → s ≡ get_or ss i s → get_or (seat_parts rows b ss) i no_rows ≡ seat_part rows n s
seat_parts-at rows b [] i n s q h e = absurd (omega arith)
seat_parts-at rows b (x ∷ xs) zero n s q h e = let same : b ≡ n = omega arith in ap (λ (k : ℕ). seat_part rows k x) same ∙ ap (seat_part rows n) (sym e)
seat_parts-at rows b (x ∷ xs) (suc i) n s q h e = seat_parts-at rows (b + 1) xs i n s (omega arith) (omega arith) e

-- one actor's part changes, and what each other one knows stays
seat_parts-set : (rows rows' : List Row) (b : ℕ) (ss : List Seat) (i : ℕ) (s : Seat) (p : BoardPart) → i < length ss → ((n : ℕ) → n ≡ b + i → seat_part rows' n s ≡ p)
    → ((j n : ℕ) → n ≡ b + j → j ≢ i → j < length ss → seat_part rows' n (seat_of ss j) ≡ seat_part rows n (seat_of ss j)) → seat_parts rows' b (set ss i s) ≡ set (seat_parts rows b ss) i p
seat_parts-set rows rows' b [] i s p h mine others = absurd (omega arith)
seat_parts-set rows rows' b (x ∷ xs) zero s p h mine others = ap (λ (q : BoardPart). q ∷ seat_parts rows' (b + 1) xs) (mine b (omega arith)) ∙ ap (λ (l : List BoardPart). p ∷ l) (rest (b + 1) xs (λ j n q l. others (suc j) n (omega arith) (λ e. omega arith) (omega arith))) where
  rest : (b : ℕ) (ss : List Seat) → ((j n : ℕ) → n ≡ b + j → j < length ss → seat_part rows' n (seat_of ss j) ≡ seat_part rows n (seat_of ss j)) → seat_parts rows' b ss ≡ seat_parts rows b ss
  rest b [] f = refl
  rest b (y ∷ ys) f = ap (λ (q : BoardPart). q ∷ seat_parts rows' (b + 1) ys) (f 0 b (omega arith) (omega arith)) ∙ ap (λ (l : List BoardPart). seat_part rows b y ∷ l) (rest (b + 1) ys (λ j n q l. f (suc j) n (omega arith) (omega arith)))
seat_parts-set rows rows' b (x ∷ xs) (suc i) s p h mine others = ap (λ (q : BoardPart). q ∷ seat_parts rows' (b + 1) (set xs i s)) (others 0 b (omega arith) (λ e. omega arith) (omega arith))
    ∙ ap (λ (l : List BoardPart). seat_part rows b x ∷ l) (seat_parts-set rows rows' (b + 1) xs i s p (omega arith) (λ n q. mine n (omega arith)) (λ j n q ne l. others (suc j) n (omega arith) (λ e. ne (omega arith)) (omega arith)))

-- the rows of the state
row_at-stored : (rows : List Row) (k : ℕ) → get_or (map row_entry rows) k None ≡ row_entry (row_of rows k)
row_at-stored rows k = get_or-map row_entry rows k no_row

length-first_entries : (rows : List Row) (n : ℕ) → n ≤ length rows → length (first_entries n rows) ≡ n
length-first_entries rows n h = let l = length-map rows (λ (r : Row). r.entry) in let t = length-take n (map (λ (r : Row). r.entry) rows) in omega arith

first_entries-more : (rows : List Row) (n : ℕ) (r : Row) → n < length rows → r ≡ get_or rows n r → first_entries (n + 1) rows ≡ first_entries n rows ++ r.entry ∷ []
first_entries-more rows n r h e =
    let l = length-map rows (λ (x : Row). x.entry) in
    let there : get_or (map (λ (x : Row). x.entry) rows) n r.entry ≡ r.entry = get_or-map (λ (x : Row). x.entry) rows n r ∙ ap (λ (x : Row). x.entry) (sym e) in
    take_more (map (λ (x : Row). x.entry) rows) n r.entry (omega arith) ∙ ap (λ (x : Entry). first_entries n rows ++ x ∷ []) there

first_entries-set : (rows : List Row) (k n : ℕ) (r : Row) → n ≤ k → first_entries n (set rows k r) ≡ first_entries n rows
first_entries-set rows k n r h = ap (take n) (map-set (λ (x : Row). x.entry) rows k r) ∙ take-set-le n (map (λ (x : Row). x.entry) rows) k r.entry h

own_step : (t : Bool) (e : Entry) (l : List Entry) → t ≡ false → (if t then e ∷ l else l) ≡ l
own_step t e l f = ap (λ (b : Bool). if b then e ∷ l else l) f

own_none : (i : ℕ) (rows : List Row) → ((k : ℕ) → is_own i (row_of rows k) ≡ false) → own_entries i rows ≡ []
own_none i [] h = refl
own_none i (r ∷ rs) h = own_step (is_own i r) r.entry (own_entries i rs) (h 0) ∙ own_none i rs (λ k. h (suc k))

own_more : (i : ℕ) (rows : List Row) (row : ℕ) (r : Row) → row < length rows → is_own i r ≡ true → ((k : ℕ) → row ≤ k → is_own i (row_of rows k) ≡ false) → own_entries i (set rows row r) ≡ own_entries i rows ++ r.entry ∷ []
own_more i [] row r h mine after_ = absurd (omega arith)
own_more i (x ∷ xs) zero r h mine after_ =
    let behind : own_entries i xs ≡ [] = own_none i xs (λ k. after_ (suc k) (omega arith)) in
    ap (λ (b : Bool). if b then r.entry ∷ own_entries i xs else own_entries i xs) mine ∙ (ap (λ (l : List Entry). r.entry ∷ l) behind ∙ ap (λ (l : List Entry). l ++ r.entry ∷ []) (sym (own_step (is_own i x) x.entry (own_entries i xs) (after_ 0 (omega arith)) ∙ behind)))
own_more i (x ∷ xs) (suc row) r h mine after_ =
    let rest = own_more i xs row r (omega arith) mine (λ k l. after_ (suc k) (omega arith)) in
    ap (λ (l : List Entry). if is_own i x then x.entry ∷ l else l) rest ∙ if_append (is_own i x) x.entry (own_entries i xs) (r.entry ∷ []) where
      if_append : (t : Bool) (e : Entry) (l m : List Entry) → (if t then e ∷ (l ++ m) else l ++ m) ≡ (if t then e ∷ l else l) ++ m
      if_append true e l m = refl
      if_append false e l m = refl

own_same : (i : ℕ) (rows : List Row) (row : ℕ) (r : Row) → is_own i r ≡ false → is_own i (row_of rows row) ≡ false → own_entries i (set rows row r) ≡ own_entries i rows
own_same i [] row r new old = refl
own_same i (x ∷ xs) zero r new old = own_step (is_own i r) r.entry (own_entries i xs) new ∙ sym (own_step (is_own i x) x.entry (own_entries i xs) old)
own_same i (x ∷ xs) (suc row) r new old = ap (λ (l : List Entry). if is_own i x then x.entry ∷ l else l) (own_same i xs row r new old)

-- the state after an event of an actor
pub record Stepped (c c' : Shared) (rows : List Row) (seats : List Seat) (i : ℕ) (event : Event) : Type 0 where
  pub state : c' ≡ after c i event
  pub whole : IsWhole c' rows seats
  pub sound : IsSoundShared c × IsSoundShared c'

module _ (m : CpModel) (rows : List Row) (next : ℕ) (seats : List Seat) (upper lower : Bound) (bounds : List BoundsPart) where
  abbrev C : Shared
  C = shared_of m rows next seats upper lower bounds

  module _ (c : Shared) (is : C ≡ c) (w : IsWhole C rows seats) (i : ℕ) (h : i < actor_count c) where
    pub among : i < length seats
    among = let l = length-seat_parts rows 0 seats in let n : length (seat_parts rows 0 seats) ≡ actor_count c = ap (λ (x : Shared). actor_count x) is in omega arith

    pub among_bounds : i < length bounds
    among_bounds = let a = among in let l = length-seat_parts rows 0 seats in let b = w.kept.both in omega arith

    total_full : (l : List BoardPart) → total full_count l ≤ length l
    total_full [] = omega arith
    total_full (p ∷ ps) = let h = total_full ps in let o = at_most_one p.full in omega arith

    -- the count of draws stays far below its type's end
    pub next_small : next < 2 ^ 34
    next_small = let n = w.kept.board.next in let t = total_full (seat_parts rows 0 seats) in let l = length-seat_parts rows 0 seats in let a = w.stored.actors in let f = w.kept.few in omega arith

    -- a row has a number of 32 bits
    pub row_small : next < length rows → next < 2 ^ 32
    row_small room = let f = w.kept.few in let l = length-map rows row_entry in omega arith

    pub row_left : next < length rows → Some next ≡ row_drawn c.board
    row_left room = sym (ap (λ (x : Shared). row_drawn x.board) (sym is) ∙ ap (λ (t : Bool). if t then Some next else None) (is_below next (length (map row_entry rows)) (let l = length-map rows row_entry in omega arith)))

    pub no_row_left : length rows ≤ next → None ≡ row_drawn c.board
    no_row_left past = sym (ap (λ (x : Shared). row_drawn x.board) (sym is) ∙ ap (λ (t : Bool). if t then Some next else None) (not_below next (length (map row_entry rows)) (let l = length-map rows row_entry in omega arith)))

    here : i < actor_count C
    here = subst (λ (x : Shared). i < actor_count x) (sym is) h

    stepped : (event : Event) (c' : Shared) (rows' : List Row) (seats' : List Seat) → IsLawful C i event → c' ≡ after C i event → IsStateStored rows' seats' → Stepped c c' rows' seats' i event
    stepped event c' rows' seats' lawful e stored =
        let kept : IsStateKept c' = subst IsStateKept (sym e) (keeps C i event w.kept here lawful) in
        record { state = e ∙ ap (λ (x : Shared). after x i event) is; whole = record { kept = kept; stored = stored }; sound = (subst IsSoundShared is (sound_of C w.kept), sound_of c' kept) }

    lawful_here : (event : Event) → IsLawful c i event → IsLawful C i event
    lawful_here event l = subst (λ (x : Shared). IsLawful x i event) (sym is) l

    -- the events on the bounds
    module _ (x : BoundsPart) (there : x ≡ get_or bounds i x) where
      part : bounds_part C.bounds i ≡ x
      part = get_or-there bounds i x no_bounds among_bounds there

      pub sees_upper : (count : ℕ) → count ≡ counted x.upper_loads → Stepped c (shared_of m rows next seats upper lower (set bounds i (after_upper x upper count))) rows seats i SeeUpper
      sees_upper count e = stepped SeeUpper _ rows seats tt (ap (λ (p : BoundsPart). shared_of m rows next seats upper lower (set bounds i p)) (ap (after_upper x upper) e ∙ ap (λ (p : BoundsPart). after_upper p upper (counted p.upper_loads)) (sym part))) w.stored

      pub sees_lower : (count : ℕ) → count ≡ counted x.lower_loads → Stepped c (shared_of m rows next seats upper lower (set bounds i (after_lower x lower count))) rows seats i SeeLower
      sees_lower count e = stepped SeeLower _ rows seats tt (ap (λ (p : BoundsPart). shared_of m rows next seats upper lower (set bounds i p)) (ap (after_lower x lower) e ∙ ap (λ (p : BoundsPart). after_lower p lower (counted p.lower_loads)) (sym part))) w.stored

      pub offers : (v : ℤ) (u o : Bound) → IsLawful c i (Offer v) → u ≡ lesser upper (At v) → o ≡ lesser x.offered (At v) → Stepped c (shared_of m rows next seats u lower (set bounds i (record x { saw_upper = u; offered = o }))) rows seats i (Offer v)
      offers v u o l e f = stepped (Offer v) _ rows seats (lawful_here (Offer v) l)
          (ap (λ (q : Bound). shared_of m rows next seats u lower (set bounds i (record x { saw_upper = u; offered = q }))) f ∙ (ap (λ (q : Bound). shared_of m rows next seats q lower (set bounds i (after_offer x (At v) q))) e ∙ ap (λ (p : BoundsPart). shared_of m rows next seats (lesser upper (At v)) lower (set bounds i (after_offer p (At v) (lesser upper (At v))))) (sym part))) w.stored

      pub raises : (b l : Bound) (r : Option Bound) → IsLawful c i (Raise b) → l ≡ greater lower b → r ≡ raised_to x.raised b → Stepped c (shared_of m rows next seats upper l (set bounds i (record x { saw_lower = Some l; raised = r }))) rows seats i (Raise b)
      raises b l r lawful e f = stepped (Raise b) _ rows seats (lawful_here (Raise b) lawful)
          (ap (λ (q : Option Bound). shared_of m rows next seats upper l (set bounds i (record x { saw_lower = Some l; raised = q }))) f ∙ (ap (λ (q : Bound). shared_of m rows next seats upper q (set bounds i (after_raise x b q))) e ∙ ap (λ (p : BoundsPart). shared_of m rows next seats upper (greater lower b) (set bounds i (after_raise p b (greater lower b)))) (sym part))) w.stored

    -- the events on the board
    module _ (x : Seat) (there : x ≡ get_or seats i x) where
      seat_is : seat_of seats i ≡ x
      seat_is = get_or-there seats i x no_seat among there

      board_is : board_part C.board i ≡ seat_part rows i x
      board_is = seat_parts-at rows 0 seats i i x (omega arith) among there

      -- where no row changes
      parts_are : (s : Seat) → seat_parts rows 0 (set seats i s) ≡ set (seat_parts rows 0 seats) i (seat_part rows i s)
      parts_are s = seat_parts-set rows rows 0 seats i s (seat_part rows i s) among (λ n e. ap (λ (k : ℕ). seat_part rows k s) (let q : n ≡ i = omega arith in q)) (λ j n e ne l. refl)

      stored_as : (s : Seat) → s.taken ≤ length rows → ((row k : ℕ) → s.drawn ≡ Some row → row ≤ k → is_own i (row_of rows k) ≡ false) → IsStateStored rows (set seats i s)
      stored_as s taken ordered = record {
        actors = let l = length-set seats i s in let a = w.stored.actors in omega arith;
        taken = λ j. at_each seats i s no_seat j (λ (q : Seat). q.taken ≤ length rows) among (λ _. taken) (λ _. w.stored.taken j);
        ordered = λ j row k. at_each seats i s no_seat j (λ (q : Seat). q.drawn ≡ Some row → row ≤ k → is_own j (row_of rows k) ≡ false) among
            (λ e g l. subst (λ (n : ℕ). is_own n (row_of rows k) ≡ false) (sym e) (ordered row k g l)) (λ _ g l. w.stored.ordered j row k g l);
      }

      -- the row that is published
      pub publishes_within : (e : Entry) → IsLawful c i (Publish e) → e.row < length rows
      publishes_within e lawful = let may = lawful_here (Publish e) lawful in let d = w.kept.board.drawn i e.row may.drawn in let a = d.within in let b = length-map rows row_entry in omega arith

      seat_taken : x.taken ≤ length rows
      seat_taken = subst (λ (q : Seat). q.taken ≤ length rows) seat_is (w.stored.taken i)

      seat_ordered : (row k : ℕ) → x.drawn ≡ Some row → row ≤ k → is_own i (row_of rows k) ≡ false
      seat_ordered row k g l = subst (λ (q : Seat). q.drawn ≡ Some row → is_own i (row_of rows k) ≡ false) seat_is (λ d. w.stored.ordered i row k d l) g

      length-rows : length (map row_entry rows) ≡ length rows
      length-rows = length-map rows row_entry

      board_same : (n : ℕ) (s : Seat) (p : BoardPart) → p ≡ seat_part rows i s → shared_of m rows n (set seats i s) upper lower bounds ≡ record C { board = record { rows = map row_entry rows; next = n; parts = set (seat_parts rows 0 seats) i p } }
      board_same n s p e = ap (λ (l : List BoardPart). record C { board = record { rows = map row_entry rows; next = n; parts = l } }) (parts_are s ∙ ap (set (seat_parts rows 0 seats) i) (sym e))

      pub draws_row : IsLawful c i Draw → next < length rows → Stepped c (shared_of m rows (next + 1) (set seats i (record x { drawn = Some next })) upper lower bounds) rows (set seats i (record x { drawn = Some next })) i Draw
      draws_row lawful room =
          let s : Seat = record x { drawn = Some next } in
          let test : nat_lt next (length (map row_entry rows)) ≡ true = let l = length-rows in is_below next (length (map row_entry rows)) (omega arith) in
          let p : drawn_by (board_part C.board i) next (length (map row_entry rows)) ≡ seat_part rows i s = ap (λ (t : Bool). if t then with_row (board_part C.board i) next else with_past (board_part C.board i)) test ∙ ap (λ (q : BoardPart). with_row q next) board_is in
          stepped Draw _ rows (set seats i s) (lawful_here Draw lawful) (board_same (next + 1) s (drawn_by (board_part C.board i) next (length (map row_entry rows))) p)
          (stored_as s seat_taken (λ row k g l. let same : next ≡ row = some_same next row g in ⊎_elim (λ t. let below = w.kept.board.claimed k (row_of rows k).entry (row_at-stored rows k ∙ own_entry i (row_of rows k) t) in absurd (omega arith)) (λ f. f) (bool_cases (is_own i (row_of rows k)))))

      pub draws_past : IsLawful c i Draw → length rows ≤ next → Stepped c (shared_of m rows (next + 1) (set seats i (record x { full = true })) upper lower bounds) rows (set seats i (record x { full = true })) i Draw
      draws_past lawful past =
          let s : Seat = record x { full = true } in
          let test : nat_lt next (length (map row_entry rows)) ≡ false = let l = length-rows in not_below next (length (map row_entry rows)) (omega arith) in
          let p : drawn_by (board_part C.board i) next (length (map row_entry rows)) ≡ seat_part rows i s = ap (λ (t : Bool). if t then with_row (board_part C.board i) next else with_past (board_part C.board i)) test ∙ ap with_past board_is in
          stepped Draw _ rows (set seats i s) (lawful_here Draw lawful) (board_same (next + 1) s (drawn_by (board_part C.board i) next (length (map row_entry rows))) p) (stored_as s seat_taken seat_ordered)

      pub full_is : x.full ≡ (board_part c.board i).full
      full_is = ap (λ (p : BoardPart). p.full) (sym board_is) ∙ ap (λ (d : Shared). (board_part d.board i).full) is

      pub taken_is : length (board_part c.board i).taken ≡ x.taken
      taken_is = ap (λ (d : Shared). length (board_part d.board i).taken) (sym is) ∙ (ap (λ (p : BoardPart). length p.taken) board_is ∙ length-first_entries rows x.taken seat_taken)

      pub rows_is : length c.board.rows ≡ length rows
      rows_is = ap (λ (d : Shared). length d.board.rows) (sym is) ∙ length-rows

      -- how far the actor took
      pub looks_within : IsLawful c i Look → x.taken < length rows
      looks_within lawful = let l : length (board_part C.board i).taken < length (map row_entry rows) = lawful_here Look lawful in let a : length (board_part C.board i).taken ≡ length (first_entries x.taken rows) = ap (λ (p : BoardPart). length p.taken) board_is in
          let n = length-first_entries rows x.taken seat_taken in let r = length-rows in omega arith

      -- the count of rows stays far below its type's end
      pub looks_few : IsLawful c i Look → x.taken < 4096
      looks_few lawful = let t = looks_within lawful in let f = w.kept.few in let r = length-rows in omega arith

      next_is : (r : Row) → r ≡ get_or rows x.taken r → x.taken < length rows → next_row C.board i ≡ row_entry r
      next_is r e l = let a : length (board_part C.board i).taken ≡ x.taken = ap (λ (p : BoardPart). length p.taken) board_is ∙ length-first_entries rows x.taken seat_taken in
          ap (λ (n : ℕ). get_or (map row_entry rows) n None) a ∙ (row_at-stored rows x.taken ∙ ap row_entry (get_or-there rows x.taken r no_row l e))

      pub looks_closed : (r : Row) (count : ℕ) → r ≡ get_or rows x.taken r → IsLawful c i Look → r.published ≡ false → count ≡ counted x.misses
          → Stepped c (shared_of m rows next (set seats i (record x { misses = count })) upper lower bounds) rows (set seats i (record x { misses = count })) i Look × (None ≡ next_row c.board i)
      looks_closed r count e lawful closed counts =
          let s : Seat = record x { misses = count } in
          let none : next_row C.board i ≡ None = next_is r e (looks_within lawful) ∙ ap (λ (t : Bool). if t then Some r.entry else None) closed in
          let p : looked_by (board_part C.board i) (next_row C.board i) ≡ seat_part rows i s = ap (looked_by (board_part C.board i)) none ∙ (ap (λ (q : BoardPart). with_misses q (counted q.misses)) board_is ∙ ap (with_misses (seat_part rows i x)) (sym counts)) in
          (stepped Look _ rows (set seats i s) (lawful_here Look lawful) (board_same next s (looked_by (board_part C.board i) (next_row C.board i)) p) (stored_as s seat_taken seat_ordered), sym none ∙ ap (λ (d : Shared). next_row d.board i) is)

      pub looks_open : (r : Row) → r ≡ get_or rows x.taken r → IsLawful c i Look → r.published ≡ true
          → Stepped c (shared_of m rows next (set seats i (record x { taken = x.taken + 1 })) upper lower bounds) rows (set seats i (record x { taken = x.taken + 1 })) i Look × (Some r.entry ≡ next_row c.board i)
      looks_open r e lawful open_ =
          let s : Seat = record x { taken = x.taken + 1 } in let l = looks_within lawful in
          let some_ : next_row C.board i ≡ Some r.entry = next_is r e l ∙ ap (λ (t : Bool). if t then Some r.entry else None) open_ in
          let more : with_taken (seat_part rows i x) r.entry ≡ seat_part rows i s = ap (λ (t : List Entry). record (seat_part rows i x) { taken = t }) (sym (first_entries-more rows x.taken r l e)) in
          let p : looked_by (board_part C.board i) (next_row C.board i) ≡ seat_part rows i s = ap (looked_by (board_part C.board i)) some_ ∙ (ap (λ (q : BoardPart). with_taken q r.entry) board_is ∙ more) in
          (stepped Look _ rows (set seats i s) (lawful_here Look lawful) (board_same next s (looked_by (board_part C.board i) (next_row C.board i)) p) (stored_as s (omega arith) seat_ordered), sym some_ ∙ ap (λ (d : Shared). next_row d.board i) is)

      pub publishes : (e : Entry) → IsLawful c i (Publish e)
          → Stepped c (shared_of m (set rows e.row (record { published = true; owner = i; entry = e })) next (set seats i (record x { drawn = None })) upper lower bounds) (set rows e.row (record { published = true; owner = i; entry = e })) (set seats i (record x { drawn = None })) i (Publish e)
      publishes e lawful =
          let s : Seat = record x { drawn = None } in
          let r : Row = record { published = true; owner = i; entry = e } in
          let rows' : List Row = set rows e.row r in
          let may = lawful_here (Publish e) lawful in
          let is_drawn : x.drawn ≡ Some e.row = sym (ap (λ (p : BoardPart). p.drawn) board_is) ∙ may.drawn in
          let d = w.kept.board.drawn i e.row may.drawn in
          let within : e.row < length rows = let a = d.within in let b = length-rows in omega arith in
          let closed : row_entry (row_of rows e.row) ≡ None = sym (row_at-stored rows e.row) ∙ d.closed in
          let taken_below : (j : ℕ) → j < length seats → (seat_of seats j).taken ≤ e.row = λ j l.
          let q : Seat = seat_of seats j in
          let part_j : board_part C.board j ≡ seat_part rows j q = seat_parts-at rows 0 seats j j q (omega arith) l (get_or-default seats j no_seat l) in
          let long : length (board_part C.board j).taken ≡ q.taken = ap (λ (p : BoardPart). length p.taken) part_j ∙ length-first_entries rows q.taken (w.stored.taken j) in
          let b = taken_before (board_part C.board j).taken (map row_entry rows) e.row (w.kept.board.sound.taken j) d.closed in omega arith in
          let mine : seat_part rows' i s ≡ with_mine (board_part C.board i) e =
          ap (λ (l : List Entry). record (seat_part rows' i s) { mine = l }) (own_more i rows e.row r within (own_here i e) (λ k l. seat_ordered e.row k is_drawn l))
          ∙ (ap (λ (l : List Entry). record (with_mine (seat_part rows i x) e) { taken = l }) (first_entries-set rows e.row x.taken r (subst (λ (q : Seat). q.taken ≤ e.row) seat_is (taken_below i among)))
          ∙ ap (λ (p : BoardPart). with_mine p e) (sym board_is)) in
          let parts : seat_parts rows' 0 (set seats i s) ≡ set (seat_parts rows 0 seats) i (with_mine (board_part C.board i) e) =
          seat_parts-set rows rows' 0 seats i s (with_mine (board_part C.board i) e) among (λ n q. ap (λ (k : ℕ). seat_part rows' k s) (let same : n ≡ i = omega arith in same) ∙ mine)
          (λ j n q ne l.
          let apart : is_own n r ≡ false = own_other i n e (λ same. ne (omega arith)) in
          let old : is_own n (row_of rows e.row) ≡ false = not_own n (row_of rows e.row) closed in
          ap (λ (k : List Entry). record (seat_part rows' n (seat_of seats j)) { mine = k }) (own_same n rows e.row r apart old)
          ∙ ap (λ (k : List Entry). record (seat_part rows n (seat_of seats j)) { taken = k }) (first_entries-set rows e.row (seat_of seats j).taken r (taken_below j l))) in
          stepped (Publish e) _ rows' (set seats i s) may
          (ap (λ (l : List (Option Entry)). record C { board = record { rows = l; next = next; parts = seat_parts rows' 0 (set seats i s) } }) (map-set row_entry rows e.row r)
          ∙ ap (λ (l : List BoardPart). record C { board = record { rows = set (map row_entry rows) e.row (Some e); next = next; parts = l } }) parts)
          (record {
            actors = let l = length-set seats i s in let a = w.stored.actors in omega arith;
            taken = λ j. at_each seats i s no_seat j (λ (q : Seat). q.taken ≤ length rows') among (λ _. let l = length-set rows e.row r in let t = seat_taken in omega arith) (λ _. let l = length-set rows e.row r in let t = w.stored.taken j in omega arith);
            ordered = λ j row k. at_each seats i s no_seat j (λ (q : Seat). q.drawn ≡ Some row → row ≤ k → is_own j (row_of rows' k) ≡ false) among (λ _ g _. absurd (none_some row g))
                (λ ne g l. at_each rows e.row r no_row k (λ (y : Row). is_own j y ≡ false) within (λ _. own_other i j e (λ same. ne (sym same))) (λ _. w.stored.ordered j row k g l));
          })

-- the state before the first event
own_replicate : (i n : ℕ) → own_entries i (replicate n no_row) ≡ []
own_replicate i zero = refl
own_replicate i (suc n) = own_replicate i n

map-replicate : {A B : Type 0} (f : A → B) (n : ℕ) (x : A) → map f (replicate n x) ≡ replicate n (f x)
map-replicate f zero x = refl
map-replicate {B = B} f (suc n) x = ap (λ (l : List B). f x ∷ l) (map-replicate f n x)

seat_parts-replicate : (rows b n : ℕ) → seat_parts (replicate rows no_row) b (replicate n no_seat) ≡ replicate n no_rows
seat_parts-replicate rows b zero = refl
seat_parts-replicate rows b (suc n) = ap (λ (l : List Entry). record no_rows { mine = l } ∷ seat_parts (replicate rows no_row) (b + 1) (replicate n no_seat)) (own_replicate b rows)
    ∙ ap (λ (l : List BoardPart). no_rows ∷ l) (seat_parts-replicate rows (b + 1) n)

module _ (m : CpModel) (actors n : ℕ) (rows : List Row) (seats : List Seat) (bounds : List BoundsPart) (start : ℤ) (r : rows ≡ replicate n no_row) (s : seats ≡ replicate actors no_seat) (b : bounds ≡ replicate actors no_bounds) (is : start ≡ objective_start m) where
  pub begins : shared_of m rows 0 seats Infinite (At start) bounds ≡ first_shared m actors n
  begins =
      ap (λ (l : List Row). shared_of m l 0 seats Infinite (At start) bounds) r ∙ (ap (λ (l : List Seat). shared_of m (replicate n no_row) 0 l Infinite (At start) bounds) s
      ∙ (ap (λ (l : List BoundsPart). shared_of m (replicate n no_row) 0 (replicate actors no_seat) Infinite (At start) l) b ∙ (ap (λ (z : ℤ). shared_of m (replicate n no_row) 0 (replicate actors no_seat) Infinite (At z) (replicate actors no_bounds)) is
      ∙ (ap (λ (l : List (Option Entry)). record (first_shared m actors n) { board = record { rows = l; next = 0; parts = seat_parts (replicate n no_row) 0 (replicate actors no_seat) } }) (map-replicate row_entry n no_row)
      ∙ ap (λ (l : List BoardPart). record (first_shared m actors n) { board = record { rows = replicate n None; next = 0; parts = l } }) (seat_parts-replicate n 0 actors)))))

  pub begins_whole : IsValid m → n ≤ 4096 → actors < 2 ^ 32 → IsWhole (shared_of m rows 0 seats Infinite (At start) bounds) rows seats
  begins_whole valid few small =
      let seat : (i : ℕ) → seat_of seats i ≡ no_seat = λ i. ap (λ (l : List Seat). seat_of l i) s ∙ get_or-replicate actors i no_seat in
      let row : (k : ℕ) → row_of rows k ≡ no_row = λ k. ap (λ (l : List Row). row_of l k) r ∙ get_or-replicate n k no_row in record {
        kept = subst IsStateKept (sym begins) (starts m actors n valid few);
        stored = record {
          actors = let l = ap (λ (l : List Seat). length l) s in let h = length-replicate actors no_seat in omega arith;
          taken = λ i. subst (λ (q : Seat). q.taken ≤ length rows) (sym (seat i)) (omega arith);
          ordered = λ i x k _ _. subst (λ (q : Row). is_own i q ≡ false) (sym (row k)) refl;
        };
      }
