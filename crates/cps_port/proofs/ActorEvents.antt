-- Lawful events of one actor: what they leave, and what a port makes by one of them or two.
use Rattle.std.proofs.Common.{◌≡◌, ◌≢◌, ℕ, ◌<◌, List, [], ◌∷◌, length, refl, ap, ◌∙◌, length-set, get_or-set_other, arith}
use Rattle.cps_port.specs.declared.event.Event.{Event}
use Rattle.cps_port.specs.declared.event.Event.TheVariants.{Draw, Publish, Look, Offer, Raise, SeeUpper, SeeLower}
use Rattle.cps_port.specs.declared.part.BoardPart.{BoardPart}
use Rattle.cps_port.specs.declared.part.BoundsPart.{BoundsPart}
use Rattle.cps_port.specs.declared.part.Part.{Part}
use Rattle.cps_port.specs.Parts.{no_rows, no_bounds}
use Rattle.cps_port.specs.Shared.{BoardState, BoundsState, Shared, board_part, bounds_part, part_at, actor_count, board_after, bounds_after, after, IsLawful}
use Rattle.cps_port.specs.Sound.{run}
use Rattle.cps_port.specs.Others.{by, ActsAlone, OthersStay, moved_on}

other_rows : (b : BoardState) (i j : ℕ) (e : Event) → j ≢ i → board_part (board_after b i e) j ≡ board_part b j
other_rows b i j Draw n = get_or-set_other b.parts i j _ no_rows n
other_rows b i j (Publish e) n = get_or-set_other b.parts i j _ no_rows n
other_rows b i j Look n = get_or-set_other b.parts i j _ no_rows n
other_rows b i j (Offer v) n = refl
other_rows b i j (Raise l) n = refl
other_rows b i j SeeUpper n = refl
other_rows b i j SeeLower n = refl

other_bounds : (s : BoundsState) (i j : ℕ) (e : Event) → j ≢ i → bounds_part (bounds_after s i e) j ≡ bounds_part s j
other_bounds s i j Draw n = refl
other_bounds s i j (Publish e) n = refl
other_bounds s i j Look n = refl
other_bounds s i j (Offer v) n = get_or-set_other s.parts i j _ no_bounds n
other_bounds s i j (Raise l) n = get_or-set_other s.parts i j _ no_bounds n
other_bounds s i j SeeUpper n = get_or-set_other s.parts i j _ no_bounds n
other_bounds s i j SeeLower n = get_or-set_other s.parts i j _ no_bounds n

other_part : (c : Shared) (i j : ℕ) (e : Event) → j ≢ i → part_at (after c i e) j ≡ part_at c j
other_part c i j e n =
    let board : board_part (board_after c.board i e) j ≡ board_part c.board j = other_rows c.board i j e n in
    let bounds : bounds_part (bounds_after c.bounds i e) j ≡ bounds_part c.bounds j = other_bounds c.bounds i j e n in
    let first : part_at (after c i e) j ≡ record { board = board_part c.board j; bounds = bounds_part (bounds_after c.bounds i e) j } =
    ap (λ (p : BoardPart). let q : Part = record { board = p; bounds = bounds_part (bounds_after c.bounds i e) j } in q) board in
    first ∙ ap (λ (p : BoundsPart). let q : Part = record { board = board_part c.board j; bounds = p } in q) bounds

same_count : (b : BoardState) (i : ℕ) (e : Event) → length (board_after b i e).parts ≡ length b.parts
same_count b i Draw = length-set b.parts i _
same_count b i (Publish e) = length-set b.parts i _
same_count b i Look = length-set b.parts i _
same_count b i (Offer v) = refl
same_count b i (Raise l) = refl
same_count b i SeeUpper = refl
same_count b i SeeLower = refl

run_count : (c : Shared) (i : ℕ) (es : List Event) → actor_count (run c (by i es)) ≡ actor_count c
run_count c i [] = refl
run_count c i (e ∷ es) = run_count (after c i e) i es ∙ same_count c.board i e

run_other : (c : Shared) (i j : ℕ) (es : List Event) → j ≢ i → part_at (run c (by i es)) j ≡ part_at c j
run_other c i j [] n = refl
run_other c i j (e ∷ es) n = run_other (after c i e) i j es n ∙ other_part c i j e n

-- what the other actors know stays
pub others_stay : (actor actor' : ℕ) (c d : Shared) → ActsAlone actor actor' c d → OthersStay actor actor' c d
others_stay actor actor' c d h = record {
  same = h.same;
  count = ap actor_count h.reaches ∙ run_count c actor h.events;
  parts = λ i n. ap (λ (x : Shared). part_at x i) h.reaches ∙ run_other c actor i h.events n;
}

-- one event
pub acts : (c d : Shared) (i : ℕ) (e : Event) → i < actor_count c → IsLawful c i e → d ≡ after c i e → ActsAlone i i c d
acts c d i e h l is = record { same = refl; events = e ∷ []; lawful = (h, l, tt); reaches = is }

-- one event after another
pub acts_twice : (b c d : Shared) (i : ℕ) (e f : Event) → i < actor_count b → IsLawful b i e → c ≡ after b i e → IsLawful c i f → d ≡ after c i f → ActsAlone i i b d
acts_twice b c d i e f h l is m at =
    let count : actor_count c ≡ actor_count b = ap actor_count is ∙ same_count b.board i e in
    moved_on i i i b c d (acts b c i e h l is) (acts c d i f (omega arith) m at)

-- an event keeps the model, and how many rows the board has
same_rows : (b : BoardState) (i : ℕ) (e : Event) → length (board_after b i e).rows ≡ length b.rows
same_rows b i Draw = refl
same_rows b i (Publish e) = length-set b.rows e.row _
same_rows b i Look = refl
same_rows b i (Offer v) = refl
same_rows b i (Raise l) = refl
same_rows b i SeeUpper = refl
same_rows b i SeeLower = refl

pub stays_same : (c d : Shared) (i : ℕ) (e : Event) → d ≡ after c i e → (d.model ≡ c.model) × (length d.board.rows ≡ length c.board.rows)
stays_same c d i e is = (ap (λ (x : Shared). x.model) is, ap (λ (x : Shared). length x.board.rows) is ∙ same_rows c.board i e)

pub stays_same_twice : (b c d : Shared) (i : ℕ) (e f : Event) → c ≡ after b i e → d ≡ after c i f → (d.model ≡ b.model) × (length d.board.rows ≡ length b.board.rows)
stays_same_twice b c d i e f is at = let x = stays_same b c i e is in let y = stays_same c d i f at in (y.0 ∙ x.0, y.1 ∙ x.1)
