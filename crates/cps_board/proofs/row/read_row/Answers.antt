-- Each load tells a word of the entry that was taken, so what is read is that entry.
use Rattle.std.proofs.Common.{rules, arith, ◌≡◌, ◌+◌, ◌<◌, ◌-◌, ◌++◌, ℕ, List, length, take, replicate, set, sym, refl, ap, ◌∙◌, subst}
use mathlib.Core.Option.{some}
use Rattle.atomic_table.specs.Table.{Me}
use Rattle.cps_literal.specs.declared.atom.Atom.{Atom}
use Rattle.cps_port.specs.declared.entry.Entry.{Entry}
use Rattle.cps_port.specs.Entries.{blank, entry_clause}
use Rattle.cps_port.specs.Words.{bound_of}
use Rattle.cps_board.specs.declared.view.View.{View}
use Rattle.cps_board.proofs.Keeps.{reads}
use Rattle.cps_board.proofs.FilledRows.{tells, only, head_told, number_told, head_small, atom_told, fill_next, entry_whole}
use Rattle.cps_board.proofs.row.read_row.Goals as goal

pub load-len-requires : goal.load-len-requires
load-len-requires c = (search rules, omega arith, reads _ _ _ _ c.requires.part _)

pub load-below-requires : goal.load-below-requires
load-below-requires c = (search rules, omega arith, reads _ _ _ _ (subst (λ (z : Me (Unit {0}) View). 0 < z.0.splits) (sym c.load-len.ensures.2.0) c.requires.part) _)

pub loop-i-init : goal.loop-i-init
loop-i-init c =
    let old = c.args.seat.now.me in
    let t = c.requires.taken in
    let first = c.load-len.ensures.2 in
    let second = c.load-below.ensures.2 in
    let view = second.0 ∙ first.0 in
    let len = tells old c.args.row t.0 t.1 old _ c.load-len.result 0 refl first.1 (omega arith) (omega arith) in
    let below = tells old c.args.row t.0 t.1 c.load-len.new.seat.me _ c.load-below.result 1 first.0 second.1 (omega arith) (omega arith) in
    record {
      table = c.load-below.ensures.0 ∙ c.load-len.ensures.0;
      id = c.load-below.ensures.1 ∙ c.load-len.ensures.1;
      view = view;
      count = λ d at. subst (λ (x : Entry). c.load-len.result ≡ length (entry_clause x)) (only old c.args.row t.0 t.1 d at) len;
      below = λ d at. subst (λ (x : Entry). bound_of c.load-below.result ≡ x.below) (only old c.args.row t.0 t.1 d at) (ap bound_of below ∙ t.3.coded.below_back);
      atoms = λ d at. refl;
    }

pub load-head-requires : goal.load-head-requires
load-head-requires c =
    let t = c.requires.taken in
    let count = c.loop-i.invariant.count t.0 t.1 in
    let few = t.3.coded.few in
    (search rules, omega arith, reads _ _ _ _ (subst (λ (z : Me (Unit {0}) View). 0 < z.0.splits) (sym c.loop-i.invariant.view) c.requires.part) _)

pub load-number-requires : goal.load-number-requires
load-number-requires c =
    let t = c.requires.taken in
    let count = c.loop-i.invariant.count t.0 t.1 in
    let few = t.3.coded.few in
    (search rules, omega arith, reads _ _ _ _ (subst (λ (z : Me (Unit {0}) View). 0 < z.0.splits) (sym (c.load-head.ensures.2.0 ∙ c.loop-i.invariant.view)) c.requires.part) _)

pub atom_of-requires : goal.atom_of-requires
atom_of-requires c =
    let t = c.requires.taken in
    let count = c.loop-i.invariant.count t.0 t.1 in
    let old = c.args.seat.now.me in
    let head = head_told old c.args.row t.0 t.1 c.loop-i.seat.me _ c.load-head.result c.loop-i.i blank c.loop-i.invariant.view c.load-head.ensures.2.1 (omega arith) (omega arith) in
    head_small old c.args.row t.0 t.1 c.load-head.result c.loop-i.i blank t.3 (omega arith) head

pub loop-i-preserved : goal.loop-i-preserved
loop-i-preserved c =
    let t = c.requires.taken in
    let old = c.args.seat.now.me in
    let i : ℕ = c.loop-i.i in
    let inv = c.loop-i.invariant in
    let count = inv.count t.0 t.1 in
    let few = t.3.coded.few in
    let less : i < length (entry_clause t.0) = omega arith in
    let head = head_told old c.args.row t.0 t.1 c.loop-i.seat.me _ c.load-head.result i blank inv.view c.load-head.ensures.2.1 (omega arith) less in
    let number = number_told old c.args.row t.0 t.1 c.load-head.new.seat.me _ c.load-number.result i blank (c.load-head.ensures.2.0 ∙ inv.view) c.load-number.ensures.2.1 (omega arith) less in
    let atom = c.atom_of.ensures ∙ atom_told old c.args.row t.0 t.1 c.load-head.result c.load-number.result i blank t.3 less head number in
    let atoms = ap (λ (l : List Atom). set l i c.atom_of.result) (inv.atoms t.0 t.1) ∙ fill_next (entry_clause t.0) i c.atom_of.result blank less few atom in
    record {
      table = c.load-number.ensures.0 ∙ (c.load-head.ensures.0 ∙ inv.table);
      id = c.load-number.ensures.1 ∙ (c.load-head.ensures.1 ∙ inv.id);
      view = c.load-number.ensures.2.0 ∙ (c.load-head.ensures.2.0 ∙ inv.view);
      count = inv.count;
      below = inv.below;
      atoms = λ d at. subst (λ (x : Entry). set c.loop-i.atoms i c.atom_of.result ≡ take (i + 1) (entry_clause x) ++ replicate (16 - (i + 1)) blank) (only old c.args.row t.0 t.1 d at) atoms;
    }

pub returns-clause-entry : goal.returns-clause-entry
returns-clause-entry c =
    let t = c.requires.taken in
    let inv = c.loop-i.invariant in
    let count = inv.count t.0 t.1 in
    let whole = entry_whole t.0 c.args.row c.bound_of.result c.load-len.result c.loop-i.i c.loop-i.atoms t.3 t.2 (c.bound_of.ensures ∙ inv.below t.0 t.1) count (omega (arith, c.loop-i-test.false, c.loop-i.auto.i-end, count)) (inv.atoms t.0 t.1) in
    t.1 ∙ ap (λ (e : Entry). some e) whole
