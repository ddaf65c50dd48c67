-- Why a plain port answers as it does: what each event does to its actor's part, and so what a list of them must have been.
use Rattle.std.proofs.Common.{◌≡◌, ℕ, zero, suc, ◌<◌, ◌≤◌, nat_lt, Bool, true, false, if◌then◌else◌, Option, Some, None, List, [], ◌∷◌, length, get_or, set, sym, refl, ap, ◌∙◌, arith, get_or-set_same, get_or-set_other, length-append}
use mathlib.Core.Logic.{dite}
use native.Mathlib.Decide.{ℕ_discrete}
use Rattle.cps_port.specs.declared.entry.Entry.{Entry}
use Rattle.cps_port.specs.declared.event.Event.{Event}
use Rattle.cps_port.specs.declared.event.Event.TheVariants.{Draw, Publish, Look, Offer, Raise, SeeUpper, SeeLower}
use Rattle.cps_port.specs.declared.part.BoardPart.{BoardPart}
use Rattle.cps_port.specs.Parts.{no_rows, with_row, with_past, with_mine}
use Rattle.cps_port.specs.Shared.{BoardState, Shared, board_part, next_row, looked_by, actor_count, board_after, after}
use Rattle.cps_port.specs.Sound.{run, AreLawful}
use Rattle.cps_port.specs.Others.{by}
use Rattle.cps_port.specs.Causes.{ClosedWasClosed}

none_some : {X : Type 0} (x : X) → None ≡ Some x → ⊥
none_some x e = cc

-- a row with an entry, of this number
abbrev HasEntry : List (Option Entry) → ℕ → Type 0
HasEntry rows row = (e : Entry) × (get_or rows row None ≡ Some e)

within : (rows : List (Option Entry)) (row : ℕ) (x : Entry) → get_or rows row None ≡ Some x → row < length rows
within [] row x e = absurd (none_some x e)
within (r ∷ rs) zero x e = omega arith
within (r ∷ rs) (suc row) x e = let h = within rs row x e in omega arith

-- it has one after a row was published
stays_open : (rows : List (Option Entry)) (at row : ℕ) (e : Entry) → HasEntry rows row → HasEntry (set rows at (Some e)) row
stays_open rows at row e o = dite (ℕ_discrete row at) (λ same. let h = within rows row o.0 o.1 in (e, ap (λ (n : ℕ). get_or (set rows at (Some e)) n None) same ∙ get_or-set_same rows at (Some e) None (omega arith)))
    (λ other. (o.0, get_or-set_other rows at row (Some e) None other ∙ o.1))

-- what an actor took and missed stays
record Rests (old new : BoardPart) : Type 0 where
  taken : new.taken ≡ old.taken
  misses : new.misses ≡ old.misses

draw_rests : (t : Bool) (p : BoardPart) (next : ℕ) → Rests p (if t then with_row p next else with_past p)
draw_rests true p next = record { taken = refl; misses = refl }
draw_rests false p next = record { taken = refl; misses = refl }

rests_at : (b : BoardState) (i : ℕ) (q : BoardPart) → i < length b.parts → Rests (board_part b i) q → Rests (board_part b i) (get_or (set b.parts i q) i no_rows)
rests_at b i q h r = let g = get_or-set_same b.parts i q no_rows h in
    record { taken = ap (λ (p : BoardPart). p.taken) g ∙ r.taken; misses = ap (λ (p : BoardPart). p.misses) g ∙ r.misses }

looked : (b : BoardState) (i : ℕ) (r : Option Entry) → i < length b.parts → next_row b i ≡ r → board_part (board_after b i Look) i ≡ looked_by (board_part b i) r
looked b i r h is = get_or-set_same b.parts i (looked_by (board_part b i) (next_row b i)) no_rows h ∙ ap (looked_by (board_part b i)) is

-- how much an actor took
abbrev count : Shared → ℕ → ℕ
count c i = length (board_part c.board i).taken

look_grows : (p : BoardPart) (r : Option Entry) → length p.taken ≤ length (looked_by p r).taken
look_grows p None = omega arith
look_grows p (Some e) = let n = length-append p.taken (e ∷ []) in omega arith

rests_grow : (p q : BoardPart) → Rests p q → length p.taken ≤ length q.taken
rests_grow p q r = let n = ap (λ (l : List Entry). length l) r.taken in omega arith

grows : (c : Shared) (i : ℕ) (e : Event) → i < actor_count c → count c i ≤ count (after c i e) i
grows c i Draw h = rests_grow _ _ (rests_at c.board i _ h (draw_rests (nat_lt c.board.next (length c.board.rows)) (board_part c.board i) c.board.next))
grows c i (Publish e) h = rests_grow _ _ (rests_at c.board i (with_mine (board_part c.board i) e) h (record { taken = refl; misses = refl }))
grows c i Look h =
    let r : Option Entry = next_row c.board i in
    let n = ap (λ (p : BoardPart). length p.taken) (looked c.board i r h refl) in let g = look_grows (board_part c.board i) r in omega arith
grows c i (Offer v) h = omega arith
grows c i (Raise l) h = omega arith
grows c i SeeUpper h = omega arith
grows c i SeeLower h = omega arith

run_grows : (c : Shared) (i : ℕ) (es : List Event) → AreLawful c (by i es) → count c i ≤ count (run c (by i es)) i
run_grows c i [] l = omega arith
run_grows c i (e ∷ es) l = let first = grows c i e l.0 in let rest = run_grows (after c i e) i es l.2 in omega arith

-- an actor at an open row that takes nothing misses nothing, and is at it still
record Waits (c d : Shared) (i : ℕ) : Type 0 where
  misses : (board_part d.board i).misses ≡ (board_part c.board i).misses
  row : HasEntry d.board.rows (count d i)

waits : (c d : Shared) (i : ℕ) → Rests (board_part c.board i) (board_part d.board i) → HasEntry d.board.rows (count c i) → Waits c d i
waits c d i r o = let n : count d i ≡ count c i = ap (λ (l : List Entry). length l) r.taken in
    record { misses = r.misses; row = (o.0, ap (λ (k : ℕ). get_or d.board.rows k None) n ∙ o.1) }

waits_once : (c : Shared) (i : ℕ) (e : Event) → i < actor_count c → HasEntry c.board.rows (count c i) → count (after c i e) i ≤ count c i → Waits c (after c i e) i
waits_once c i Draw h o t =
    waits c (after c i Draw) i (rests_at c.board i _ h (draw_rests (nat_lt c.board.next (length c.board.rows)) (board_part c.board i) c.board.next)) o
waits_once c i (Publish e) h o t =
    waits c (after c i (Publish e)) i (rests_at c.board i (with_mine (board_part c.board i) e) h (record { taken = refl; misses = refl })) (stays_open c.board.rows e.row (count c i) e o)
waits_once c i Look h o t =
    let p : BoardPart = board_part c.board i in
    let n = ap (λ (q : BoardPart). length q.taken) (looked c.board i (Some o.0) h o.1) in let g = length-append p.taken (o.0 ∷ []) in absurd (omega arith)
waits_once c i (Offer v) h o t = record { misses = refl; row = o }
waits_once c i (Raise l) h o t = record { misses = refl; row = o }
waits_once c i SeeUpper h o t = record { misses = refl; row = o }
waits_once c i SeeLower h o t = record { misses = refl; row = o }

waits_on : (c : Shared) (i : ℕ) (es : List Event) → AreLawful c (by i es) → HasEntry c.board.rows (count c i) → count (run c (by i es)) i ≤ count c i
    → (board_part (run c (by i es)).board i).misses ≡ (board_part c.board i).misses
waits_on c i [] l o t = refl
waits_on c i (e ∷ es) l o t =
    let rest = run_grows (after c i e) i es l.2 in
    let first = grows c i e l.0 in
    let w = waits_once c i e l.0 o (omega arith) in
    waits_on (after c i e) i es l.2 w.row (omega arith) ∙ w.misses

pub closed_was_closed : ClosedWasClosed
closed_was_closed i c d h f low = go (next_row c.board i) refl where
  go : (r : Option Entry) → next_row c.board i ≡ r → next_row c.board i ≡ None
  go None e = e
  go (Some x) e =
      let end : board_part d.board i ≡ board_part (run c (by i h.events)).board i = ap (λ (x : Shared). board_part x.board i) h.reaches in
      let taken = ap (λ (p : BoardPart). length p.taken) (sym end ∙ f.counts) in
      let same = waits_on c i h.events h.lawful (x, e) (omega arith) in
      let misses = ap (λ (p : BoardPart). p.misses) end in
      let rose = f.misses.rose low in
      absurd (omega arith)
