-- A seat that found a row open has taken its entry, and knows no more than that beside what it knew.
use Rattle.std.proofs.Common.{rules, arith, ◌∷◌, [], length, sym, ap, ◌∙◌}
use Rattle.std.proofs.lemmas.List.{length-append}
use lib.ListN.{get_elem?}
use Rattle.cps_board.proofs.Keeps.{looks}
use Rattle.cps_board.proofs.FilledRows.{Token, found_closed, taken_here, took_entry}
use Rattle.cps_board.proofs.seats.Board.take.Goals as goal

pub load-flag-requires : goal.load-flag-requires
load-flag-requires c = (search rules, omega arith, looks _ _ _ _ (search rules) _ (search rules) (search rules))

pub returns-then-flag-eq0-clause-said : goal.returns-then-flag-eq0-clause-said
returns-then-flag-eq0-clause-said c =
    let looked = c.load-flag.ensures.2.0 c.if-flag-eq0.true in
    let at = c.args.seat.now.same_taken in
    found_closed c.args.seat.now.seat.me c.load-flag.new.seat.me c.args.self.now.rows (omega arith) looked.0 looked.1

pub read_row-entry-requires-clause-taken : goal.read_row-entry-requires-clause-taken
read_row-entry-requires-clause-taken c =
    let looked = c.load-flag.ensures.2.1 c.if-flag-eq0.false in
    let at = c.args.seat.now.same_taken in
    (looked.0, taken_here c.args.seat.now.seat.me c.load-flag.new.seat.me c.args.seat.now.taken looked.0 at looked.1, looked.2.next ∙ sym at, looked.2.coded)

pub returns-clause-said : goal.returns-clause-said
returns-clause-said c =
    let looked = c.load-flag.ensures.2.1 c.if-flag-eq0.false in
    let at = c.args.seat.now.same_taken in
    let same = c.read_row-entry.ensures.own.2 in
    took_entry c.args.self.now.table.shared.key c.args.seat.now.seat.me c.read_row-entry.new.seat.me c.args.self.now.rows c.args.seat.now.taken looked.0 c.read_row-entry.result c.requires.1 (omega arith) at (same ∙ looked.1) looked.2
    (ap (λ (z : Token). get_elem? z.0.part.taken c.args.seat.now.taken) same ∙ c.read_row-entry.ensures.entry)

pub invariant_of-seat-2 : goal.invariant_of-seat-2
invariant_of-seat-2 c =
    let looked = c.load-flag.ensures.2.1 c.if-flag-eq0.false in
    let old = c.args.seat.now in
    let same = c.read_row-entry.ensures.own.2 ∙ looked.1 in
    let taken = ap (λ (z : Token). length z.0.part.taken) same in
    let more = length-append c.args.seat.now.seat.me.0.part.taken (looked.0 ∷ []) in
    record {
      same_splits = old.same_splits ∙ sym (ap (λ (z : Token). z.0.splits) same);
      some_part = old.some_part;
      not_more = old.not_more;
      same_taken = omega (arith, taken, more, old.same_taken);
      same_full = old.same_full ∙ sym (ap (λ (z : Token). z.0.part.full) same);
      none_drawn = ap (λ (z : Token). z.0.part.drawn) same ∙ old.none_drawn;
      holds_none = ap (λ (z : Token). z.1) same ∙ old.holds_none;
    }
