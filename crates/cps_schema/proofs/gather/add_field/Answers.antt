use Rattle.std.proofs.Common.{◌≡◌, List, ℕ, Some, None, ap, sym, ◌∙◌}
use Rattle.std.specs.Vec.{with_item}
use Rattle.cps_schema.specs.declared.gather.Slot.{Slot}
use Rattle.cps_schema.specs.declared.gather.Gathered.{Gathered}
use Rattle.cps_schema.specs.Inputs.{written_of}
use Rattle.cps_schema.specs.Written.{token_text}
use Rattle.cps_schema.specs.Tables.{is_given}
use Rattle.cps_schema.specs.Gathered.{line_place}
use Rattle.cps_schema.proofs.Gatherings.{slot_named, placed, unplaced, Placed, field_passes, field_read, field_lines, field_stops, no_field_stops}
use Rattle.cps_schema.proofs.gather.add_field.Goals as goal

at_place : (slots view : List Slot) (text name : List ℕ) (place : ℕ) → view ≡ slots → name ≡ text → Some place ≡ line_place 0 view name → Placed slots text place
at_place slots view text name place same called found = rw (← same, ← called) (placed view name place (sym found))

no_place : (slots view : List Slot) (text name : List ℕ) → view ≡ slots → name ≡ text → None ≡ line_place 0 view name → slot_named slots text ≡ None
no_place slots view text name same called none = rw (← same, ← called) (unplaced view name (sym none))

pub index_mut-slot-requires : goal.index_mut-slot-requires
index_mut-slot-requires c =
    let w = written_of c.args.input.now in
    let at = at_place c.args.parts.now.slots.items c.deref.result.now (token_text w c.args.field.now.name) c.token_text.result.now c.in-Some.place
    c.deref.ensures.value c.token_text.ensures c.in-Some.ensures in
    rw (← c.deref.ensures.len, c.deref.ensures.value) at.within

pub returns-in_default-clause-err : goal.returns-in_default-clause-err
unfolding is_given
returns-in_default-clause-err c = λ m before is given.
    let w = written_of c.args.input.now in
    let none = no_place c.args.parts.now.slots.items c.deref.result.now (token_text w c.args.field.now.name) c.token_text.result.now
    c.deref.ensures.value c.token_text.ensures c.in_default.ensures in
    rw c.refused_field.ensures (no_field_stops w c.args.field.now c.args.parts.now.slots.items none m before is)

pub returns-clause-passes : goal.returns-clause-passes
returns-clause-passes c =
    let w = written_of c.args.input.now in
    let text = token_text w c.args.field.now.name in
    let old = c.args.parts.now in
    let s = c.index_mut-slot.result.now in
    let at = at_place old.slots.items c.deref.result.now text c.token_text.result.now c.in-Some.place
    c.deref.ensures.value c.token_text.ensures c.in-Some.ensures in
    let new : Gathered = record { slots = with_item old.slots c.in-Some.place c.add_to.new.slot; form = c.add_to.new.form } in
    field_passes w c.args.field.now old new s c.add_to.new.slot c.add_to.result
    (at.named s ∙ ap (λ (x : Slot). Some x) (sym c.index_mut-slot.ensures.value)) c.requires (at.put c.add_to.new.slot)
    c.add_to.ensures.fault c.add_to.ensures.added c.add_to.ensures.line c.add_to.ensures.same c.add_to.ensures.form

pub returns-clause-read : goal.returns-clause-read
returns-clause-read c =
    let w = written_of c.args.input.now in
    let text = token_text w c.args.field.now.name in
    let old = c.args.parts.now in
    let s = c.index_mut-slot.result.now in
    let at = at_place old.slots.items c.deref.result.now text c.token_text.result.now c.in-Some.place
    c.deref.ensures.value c.token_text.ensures c.in-Some.ensures in
    let new : Gathered = record { slots = with_item old.slots c.in-Some.place c.add_to.new.slot; form = c.add_to.new.form } in
    field_read w c.args.field.now old new s c.add_to.new.slot c.add_to.result
    (at.named s ∙ ap (λ (x : Slot). Some x) (sym c.index_mut-slot.ensures.value)) c.requires (at.put c.add_to.new.slot)
    c.add_to.ensures.added c.add_to.ensures.line

pub returns-clause-lines : goal.returns-clause-lines
returns-clause-lines c =
    let w = written_of c.args.input.now in
    let text = token_text w c.args.field.now.name in
    let old = c.args.parts.now in
    let s = c.index_mut-slot.result.now in
    let at = at_place old.slots.items c.deref.result.now text c.token_text.result.now c.in-Some.place
    c.deref.ensures.value c.token_text.ensures c.in-Some.ensures in
    let new : Gathered = record { slots = with_item old.slots c.in-Some.place c.add_to.new.slot; form = c.add_to.new.form } in
    field_lines text old new s c.add_to.new.slot c.add_to.result
    (at.named s ∙ ap (λ (x : Slot). Some x) (sym c.index_mut-slot.ensures.value)) (at.put c.add_to.new.slot) c.add_to.ensures.line

pub returns-clause-err : goal.returns-clause-err
returns-clause-err c =
    let w = written_of c.args.input.now in
    let text = token_text w c.args.field.now.name in
    let old = c.args.parts.now in
    let s = c.index_mut-slot.result.now in
    let at = at_place old.slots.items c.deref.result.now text c.token_text.result.now c.in-Some.place
    c.deref.ensures.value c.token_text.ensures c.in-Some.ensures in
    field_stops w c.args.field.now old s c.add_to.result
    (at.named s ∙ ap (λ (x : Slot). Some x) (sym c.index_mut-slot.ensures.value)) c.add_to.ensures.err
