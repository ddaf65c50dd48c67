use Rattle.std.proofs.Common.{◌∷◌, [], ◌≡◌, true, refl, ap, Ok}
use Rattle.std.proofs.lemmas.Int.{to_z-of_z}
use Rattle.std.proofs.lemmas.List.Elements.{All-contains}
use Rattle.cps_literal.specs.declared.atom.Atom.{Atom}
use Rattle.cps_literal.specs.Truth.{atom_holds}
use Rattle.cps_p_sequence.proofs.Growing.{adds_holds, grown_by, grows_same, alone}
use Rattle.cps_p_sequence.proofs.Cutting.{low_out, high_out, hole_out}
use Rattle.cps_p_sequence.proofs.cuts.rule_out.Goals as goal

pub returns-then-is_beyond : goal.returns-then-is_beyond
returns-then-is_beyond c =
    let us = c.args.facts.now.items in
    let off = simp (to_z-of_z, c.ranges.label) at c.is_beyond.ensures in
    record {
      grows = grows_same c.args.past.now (c.args.subject ∷ []) us us refl;
      out = λ e limited goal. low_out goal us c.args.subject c.args.limits.now c.args.label (off c.if-is_beyond.true) limited;
    }

pub returns-then-is_beyond-2 : goal.returns-then-is_beyond-2
returns-then-is_beyond-2 c =
    let us = c.args.facts.now.items in
    let off = simp (to_z-of_z, c.ranges.label) at c.is_beyond-2.ensures in
    record {
      grows = grows_same c.args.past.now (c.args.subject ∷ []) us us refl;
      out = λ e limited goal. high_out goal us c.args.subject c.args.limits.now c.args.label (off c.if-is_beyond-2.true) limited;
    }

pub returns-then-is_last : goal.returns-then-is_last
returns-then-is_last c =
    let us = c.args.facts.now.items in
    let u = c.atom-hole.result in
    let is = simp (to_z-of_z, c.ranges.label) at c.atom-hole.ensures in
    let has = rw c.deref.ensures.value at c.is_last.ensures in
    record {
      grows = grows_same c.args.past.now (c.args.subject ∷ []) us us refl;
      out = λ e limited goal. hole_out goal us c.args.subject c.args.label u is (λ xs all. All-contains (λ (w : Atom). atom_holds xs w ≡ true) us u all (has c.if-is_last.true));
    }

pub returns : goal.returns
returns c =
    let s = c.args.past.now in
    let old = c.args.facts.now.items in
    let new = c.push_fact.new.facts.items in
    let u = c.atom-hole.result in
    let is = simp (to_z-of_z, c.ranges.label) at c.atom-hole.ensures in
    let added = c.in_ok-is_out.ensures in
    record {
      grows = grown_by s u (c.args.subject ∷ []) old new c.in_ok-is_out.is_out (alone c.args.subject u.subject (ap (λ (w : Atom). w.subject) is)) (λ e. added.yes (ap Ok e)) (λ e. added.no (ap Ok e));
      out = λ e limited goal. hole_out goal new c.args.subject c.args.label u is (adds_holds s u old new (added.yes e));
    }
