use Rattle.std.proofs.Common.{Ok, ◌≡◌, ◌<◌, true, [], List, length, rules, sym, subst, FitsSigned}
use Rattle.std.specs.List.{list_all}
use Rattle.std.proofs.lemmas.Int.{to_z-of_z}
use mir.Syntax.{w64}
use Rattle.cps_literal.specs.declared.atom.Atom.{Atom}
use Rattle.cps_literal.specs.Truth.{atom_holds}
use Rattle.cps_p_nooverlap.specs.declared.crowd.PushedSpan.{PushedSpan}
use Rattle.cps_p_span.specs.Citing.{Cites}
use Rattle.cps_p_nooverlap.specs.Crowds.{StartsFrom}
use Rattle.cps_p_nooverlap.proofs.Claims.{reasoned_bound}
use Rattle.cps_p_nooverlap.proofs.set_reasons.give_bound.Goals as goal
use Rattle.cps_instance.specs.Tasks.{atom_subjects, span_subjects}

pub returns-in-Some : goal.returns-in-Some
returns-in-Some c =
    let f : FitsSigned w64 c.pushed-pushed.result.time = search rules in
    let one : c.cite_push.result ≡ Ok true = search rules in
    let two : c.cite_all.result ≡ Ok true = search rules in
    let none : c.clear.new.self.items ≡ [] = c.clear.ensures.items in
    let l : c.pushed-pushed.result.place < length c.args.spans.now = search rules in
    let present = subst (λ (us : List Atom). Cites c.args.past.now (atom_subjects us) c.cite_push.new.facts.items c.cite_all.new.facts.items (λ xs. list_all (atom_holds xs) us ≡ true)) c.as_slice.ensures (c.cite_all.ensures two) in
    let pushes = subst (λ (q : PushedSpan). Cites c.args.past.now (span_subjects c.args.spans.now) c.clear.new.self.items c.cite_push.new.facts.items (λ xs. StartsFrom q.is_reversed xs c.args.spans.now q.place q.time)) (sym c.pushed-pushed.ensures) (c.cite_push.ensures one) in
    reasoned_bound c.args.past.now c.args.spans.now c.clear.new.self.items c.cite_push.new.facts.items c.cite_all.new.facts.items c.pushed-pushed.result.place c.pushed-pushed.result.is_reversed c.pushed-pushed.result.time c.index-spans-pushed.result c.in-Some.target c.requires l c.index-spans-pushed.is none
    pushes present (rw (to_z-of_z w64 c.pushed-pushed.result.time f) at c.in-Some.ensures)
