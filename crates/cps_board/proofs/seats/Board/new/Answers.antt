-- The rule holds of closed rows and a seat that has all splits.
use Rattle.std.proofs.Common.{ℕ, List, length, sym, ap, ◌∙◌, subst}
use Rattle.std.proofs.lemmas.List.{length-replicate}
use Rattle.atomic_table.specs.Table.{opening}
use Rattle.cps_board.specs.Rows.{KeptRows, first_view}
use Rattle.cps_board.proofs.Keeps.{opens}
use Rattle.cps_board.proofs.seats.Board.new.Goals as goal

pub new-requires : goal.new-requires
new-requires c =
    let closed = c.as_slice.ensures.value ∙ c.in_ok-words.ensures.items_if_clones_equal (λ y e. e) in
    let slots = ap (λ (l : List (Unit {0})). length l) (c.in_ok-slots.ensures.items_if_clones_equal (λ y e. e)) ∙ length-replicate c.args.rows tt in
    subst (λ (words : List ℕ). KeptRows c.args.model.now (opening words c.in_ok-slots.slots.items (first_view c.args.model.now))) (sym closed) (opens c.args.model.now c.args.rows c.in_ok-slots.slots.items slots)
