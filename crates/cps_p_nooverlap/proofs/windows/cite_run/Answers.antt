-- The span is present, takes so long, and lies in the window.
use Rattle.std.proofs.Common.{Ok, ◌≡◌, ◌≤ℤ◌, true, List, subst, rules, refl}
use Rattle.std.specs.List.{list_all}
use Rattle.cps_literal.specs.declared.atom.Atom.{Atom}
use Rattle.cps_literal.specs.Truth.{atom_holds}
use Rattle.cps_p_span.specs.Citing.{Cites}
use Rattle.cps_p_span.specs.Spans.{is_present}
use Rattle.cps_p_nooverlap.specs.Crowds.{low_at, high_at, LastsAt, IsRun}
use Rattle.cps_p_span.proofs.Citing.{cites_as, cites_then, cites_among, of_presence}
use Rattle.cps_p_nooverlap.proofs.Crowding.{run_is}
use Rattle.cps_p_span.proofs.Refusing.{refused}
use Rattle.cps_p_nooverlap.proofs.windows.cite_run.Goals as goal
use Rattle.cps_instance.specs.Tasks.{atom_subjects, subjects_of_span}

pub returns : goal.returns
returns c e =
    let s = c.args.past.now in
    let p = c.args.span.now in
    let w = c.args.window in
    let a = c.args.facts.now.items in
    let b = c.cite_all.new.facts.items in
    let d = c.cite_length.new.facts.items in
    let f = c.cite_low.new.facts.items in
    let g = c.cite_high.new.facts.items in
    let one : c.cite_all.result ≡ Ok true = search rules in
    let two : c.cite_length.result ≡ Ok true = search rules in
    let three : c.cite_low.result ≡ Ok true = search rules in
    let present = subst (λ (us : List Atom). Cites c.args.past.now (atom_subjects us) c.args.facts.now.items c.cite_all.new.facts.items (λ xs. list_all (atom_holds xs) us ≡ true)) c.as_slice.ensures (c.cite_all.ensures one) in
    cites_as s (subjects_of_span p) a g (λ xs. ((is_present xs p ≡ true) × LastsAt xs p c.args.weight) × ((w.from ≤ℤ low_at w.ends w.is_reversed xs p) × (high_at w.ends w.is_reversed xs p ≤ℤ w.to))) (λ xs. IsRun w.ends w.is_reversed xs p c.args.weight w.from w.to)
    (λ xs h. run_is w.ends w.is_reversed xs p c.args.weight w.from w.to h.0.1 h.0.0 h.1.0 h.1.1)
    (cites_then s (subjects_of_span p) a d g (λ xs. (is_present xs p ≡ true) × LastsAt xs p c.args.weight) (λ xs. (w.from ≤ℤ low_at w.ends w.is_reversed xs p) × (high_at w.ends w.is_reversed xs p ≤ℤ w.to))
    (cites_then s (subjects_of_span p) a b d (λ xs. is_present xs p ≡ true) (λ xs. LastsAt xs p c.args.weight) (cites_among s (atom_subjects p.presence) (subjects_of_span p) a b (λ xs. is_present xs p ≡ true) (of_presence p p.presence refl) present) (c.cite_length.ensures two))
    (cites_then s (subjects_of_span p) d f g (λ xs. w.from ≤ℤ low_at w.ends w.is_reversed xs p) (λ xs. high_at w.ends w.is_reversed xs p ≤ℤ w.to) (c.cite_low.ensures three) (c.cite_high.ensures e)))

pub returns-then-not-branch : goal.returns-then-not-branch
returns-then-not-branch c e = refused e

pub returns-then-not-branch-2 : goal.returns-then-not-branch-2
returns-then-not-branch-2 c e = refused e

pub returns-then-not-branch-3 : goal.returns-then-not-branch-3
returns-then-not-branch-3 c e = refused e
