-- Where the target is false, both spans are present and clash.
use Rattle.std.proofs.Common.{Ok, ◌≡◌, true, pos, rules, ◌<◌, length, ◌+◌, ◌-◌, drop}
use Rattle.cps_literal.specs.declared.atom.Atom.{Atom}
use Rattle.cps_literal.specs.declared.atom.Op.TheVariants.{Le}
use Rattle.cps_p_span.proofs.Citing.{cites_absence, presence_of, small_of}
use Rattle.std.proofs.lemmas.List.Elements.{All-take, All-drop}
use Rattle.cps_p_span.proofs.Refusing.{refused}
use Rattle.cps_p_span.proofs.explain.explain_absence.Goals as goal

abbrev no_atom : Atom
no_atom = record { subject = 0; op = Le; value = pos 0 }

pub returns : goal.returns
returns c e =
    let one : c.cite_all.result ≡ Ok true = search rules in
    let two : c.cite_all-2.result ≡ Ok true = search rules in
    let three : c.cite_all-3.result ≡ Ok true = search rules in
    let l : c.denied_place-place.result < length c.as_slice-atoms.result.now = search rules in
    cites_absence c.args.spans.now c.args.pair c.requires.pair c.index-spans-pair.result c.index-spans-pair-2.result c.index-spans-pair.is c.index-spans-pair-2.is c.args.past.now c.args.facts.now.items c.cite_all.new.facts.items c.cite_all-2.new.facts.items c.cite_all-3.new.facts.items c.cite_clash.new.facts.items c.as_slice-atoms.result.now c.as_slice.result.now c.denied_place-place.result no_atom c.args.target
    c.as_slice-atoms.ensures c.as_slice.ensures l (λ xs. c.denied_place-place.ensures l no_atom xs) (c.cite_all.ensures one) (c.cite_all-2.ensures two) (c.cite_all-3.ensures three) (c.cite_clash.ensures e)

pub denied_place-place-requires : goal.denied_place-place-requires
denied_place-place-requires c = small_of c.args.past.now.first c.args.spans.now c.args.pair.before c.index-spans-pair.result c.as_slice-atoms.result.now c.requires.spans c.requires.pair.before c.as_slice-atoms.ensures

pub cite_all-requires-3 : goal.cite_all-requires-3
cite_all-requires-3 c = presence_of c.args.past.now.first c.args.spans.now c.args.pair.after c.index-spans-pair-2.result c.as_slice.result.now c.requires.spans c.requires.pair.after c.as_slice.ensures

pub cite_all-requires : goal.cite_all-requires
cite_all-requires c =
    let within = presence_of c.args.past.now.first c.args.spans.now c.args.pair.before c.index-spans-pair.result c.as_slice-atoms.result.now c.requires.spans c.requires.pair.before c.as_slice-atoms.ensures in
    All-take (λ (u : Atom). u.subject < length c.args.past.now.first) c.denied_place-place.result c.as_slice-atoms.result.now within

pub cite_all-requires-2 : goal.cite_all-requires-2
cite_all-requires-2 c =
    let k = c.denied_place-place.result + 1 in
    let us = c.as_slice-atoms.result.now in
    let within = presence_of c.args.past.now.first c.args.spans.now c.args.pair.before c.index-spans-pair.result c.as_slice-atoms.result.now c.requires.spans c.requires.pair.before c.as_slice-atoms.ensures in
    let P = λ (u : Atom). u.subject < length c.args.past.now.first in
    All-take P (length us - k) (drop k us) (All-drop P k us within)

pub returns-then-place-atoms : goal.returns-then-place-atoms
returns-then-place-atoms c e = refused e

pub returns-then-not-branch : goal.returns-then-not-branch
returns-then-not-branch c e = refused e

pub returns-then-not-branch-2 : goal.returns-then-not-branch-2
returns-then-not-branch-2 c e = refused e

pub returns-then-not-branch-3 : goal.returns-then-not-branch-3
returns-then-not-branch-3 c e = refused e
