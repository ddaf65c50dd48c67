-- All literals but the one were false, before it and after it.
use Rattle.std.proofs.Common.{List, ◌≡◌, ◌<◌, ◌++◌, ◌+◌, [], length, take, drop, get_or, subst, ap, Ok, arith}
use Rattle.std.specs.List.{All}
use Rattle.std.proofs.lemmas.List.{take_rest}
use Rattle.cps_literal.specs.declared.atom.Atom.{Atom}
use Rattle.cps_trail.specs.Trail.{IsFalseNow}
use Rattle.cps_propagate.proofs.Past.{none}
use Rattle.cps_p_bool.specs.Denying.{Denies, IsDenyingReason, IsFit}
use Rattle.cps_p_bool.proofs.Denials.{Denies-append}
use Rattle.cps_p_bool.proofs.ReasonConsequences.{IsDenyingReason-made}
use Rattle.cps_p_bool.proofs.LazyReasons.{IsExplanation-given, Gives-but}
use Rattle.cps_p_bool.proofs.AtomPlaces.{all_before, all_after}
use Rattle.cps_p_bool.proofs.explain.explain_last.Goals as goal

pub returns : goal.returns
returns c = λ _ body n.
    let s = c.args.past.now in
    let e = c.args.enforcement.now in
    let us = c.args.atoms.now in
    let p = c.place_of-place.result in
    let l : p < length us = omega (arith, c.if-place-atoms.false, c.place_of-place.ensures.within) in
    let same : get_or us p none ≡ c.args.atom = c.place_of-place.ensures.found none l in
    let enforced : Denies s [] c.deny_all.new.reason.items e = subst (λ (old : List Atom). Denies s old c.deny_all.new.reason.items e) c.clear.ensures.items c.in_ok-deny_all.ensures in
    let before : Denies s c.deny_all.new.reason.items c.deny_false.new.reason.items (take p us) = c.in_ok-deny_false.ensures.denies (ap Ok c.if-not-branch.false) in
    let after : Denies s c.deny_false.new.reason.items c.deny_false-2.new.reason.items (drop (p + 1) us) = subst (λ (vs : List Atom). Denies s c.deny_false.new.reason.items c.deny_false-2.new.reason.items vs) (take_rest us (p + 1)) (c.in_ok-deny_false-2.ensures.denies (ap Ok c.if-not-branch-2.false)) in
    let false_before : All (IsFalseNow s) (take p us) = c.in_ok-deny_false.ensures.all_false (ap Ok c.if-not-branch.false) in
    let false_after : All (IsFalseNow s) (drop (p + 1) us) = subst (λ (vs : List Atom). All (IsFalseNow s) vs) (take_rest us (p + 1)) (c.in_ok-deny_false-2.ensures.all_false (ap Ok c.if-not-branch-2.false)) in
    let others : Denies s c.deny_all.new.reason.items c.deny_false-2.new.reason.items (take p us ++ drop (p + 1) us) = Denies-append s c.deny_all.new.reason.items c.deny_false.new.reason.items c.deny_false-2.new.reason.items (take p us) (drop (p + 1) us) before after in
    let all : Denies s [] c.deny_false-2.new.reason.items (e ++ (take p us ++ drop (p + 1) us)) = Denies-append s [] c.deny_all.new.reason.items c.deny_false-2.new.reason.items e (take p us ++ drop (p + 1) us) enforced others in
    let made : IsDenyingReason s (e ++ (take p us ++ drop (p + 1) us)) c.args.atom c.push.new.self.items = IsDenyingReason-made s c.deny_false-2.new.reason.items c.push.new.self.items (e ++ (take p us ++ drop (p + 1) us)) c.args.atom all c.in_ok-push.ensures.items in
    IsExplanation-given s e (take p us ++ drop (p + 1) us) body (get_or us p none) c.args.atom c.push.new.self.items same (c.requires.atoms_fit p none l).subject made (Gives-but s body us n p none l false_before false_after e c.requires.enforced)

pub deny_false-requires : goal.deny_false-requires
deny_false-requires c = all_before (IsFit c.args.past.now.first) c.args.atoms.now c.place_of-place.result c.requires.atoms_fit

pub deny_false-requires-2 : goal.deny_false-requires-2
deny_false-requires-2 c = all_after (IsFit c.args.past.now.first) c.args.atoms.now c.place_of-place.result c.requires.atoms_fit
