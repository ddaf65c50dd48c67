-- A run is left where the first state is marked.
use Rattle.std.proofs.Common.{◌≡◌, Bool, List, length, true, false, get_or, sym, ◌∙◌, ap, arith}
use Rattle.cps_p_sequence.proofs.Layering.{dead_from, looked_by}
use Rattle.cps_p_sequence.proofs.layers.look_at.Goals as goal

pub is_marked-requires : goal.is_marked-requires
is_marked-requires c =
    let l = c.requires.first in
    let size = c.in_ok-end_rows.ensures.ends.size in
    let same : length c.as_slice-whole.result.now ≡ length c.end_rows.new.room.row.items = ap (λ (xs : List Bool). length xs) c.as_slice-whole.ensures.value in
    omega arith

pub returns-then-not-is_marked : goal.returns-then-not-is_marked
returns-then-not-is_marked c =
    let net = c.args.net.now in
    let off : get_or c.end_rows.new.room.row.items net.first false ≡ false = ap (λ (xs : List Bool). get_or xs net.first false) (sym c.as_slice-whole.ensures.value) ∙ sym c.is_marked.ensures ∙ c.if-not-is_marked.true in
    dead_from c.args.store.now net.steps.now net.last.now net.first net.subjects.now c.end_rows.new.room.row.items c.clear.new.self.items c.clear.ensures.items off c.in_ok-end_rows.ensures.ends

pub returns : goal.returns
returns c =
    let net = c.args.net.now in
    let on : get_or c.end_rows.new.room.row.items net.first false ≡ true = ap (λ (xs : List Bool). get_or xs net.first false) (sym c.as_slice-whole.ensures.value) ∙ sym c.is_marked.ensures ∙ c.if-not-is_marked.false in
    looked_by c.args.store.now net.steps.now net.first net.last.now net.subjects.now c.narrow.new.found.items c.in_ok-possible.possible (c.in_ok-end_rows.ensures.ends.ends net.first on) c.in_ok-possible.ensures

pub narrow-requires-clause-subjects : goal.narrow-requires-clause-subjects
narrow-requires-clause-subjects c = c.requires.subjects

pub narrow-requires-clause-first : goal.narrow-requires-clause-first
narrow-requires-clause-first c = c.requires.first
