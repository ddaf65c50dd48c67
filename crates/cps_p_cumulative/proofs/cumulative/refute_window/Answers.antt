-- The greatest capacity is a fact, and with it the window is overloaded.
use Rattle.std.proofs.Common.{◌<◌, ap, sym, arith, refl, subst, List, rules, FitsSigned, w64}
use Rattle.std.proofs.lemmas.Int.{to_z-of_z}
use Rattle.cps_literal.specs.declared.atom.Atom.{Atom}
use Rattle.cps_instance.specs.Tasks.{HoldsBody, subjects_of_body}
use Rattle.cps_p_cumulative.specs.Running.{body_of}
use Rattle.cps_p_cumulative.specs.Relying.{Relies}
use Rattle.cps_p_cumulative.proofs.Relied.{refuted, fact-capacity, one_fact}
use Rattle.cps_p_cumulative.proofs.Levelled.{no_yes}
use Rattle.cps_p_cumulative.proofs.cumulative.refute_window.Goals as goal

pub charge-requires-clause-facts : goal.charge-requires-clause-facts
charge-requires-clause-facts c =
    let most = c.ends-most.result.1 in
    let f : FitsSigned w64 most = search rules in
    let is = rw (to_z-of_z w64 most f) at c.at_most.ensures in
    let inside = rw (to_z-of_z w64 most f) at (c.is_inside.ensures c.if-not-is_inside.false) in
    fact-capacity c.args.past.now c.args.resource.now.capacity most c.at_most.result c.push.new.self.items (one_fact c.clear.new.self.items c.push.new.self.items c.at_most.result c.clear.ensures.items c.in_ok-push.ensures.items) is c.requires.capacity inside c.ends-most.ensures.greatest

pub returns : goal.returns
returns c = λ ok.
    let s = c.args.past.now in
    let r = c.args.resource.now in
    let most = c.ends-most.result.1 in
    let f : FitsSigned w64 most = search rules in
    let is = rw (to_z-of_z w64 most f) at c.at_most.ensures in
    refuted s (body_of r) c.at_most.result c.charge.new.facts.items (0, omega arith, sym (ap (λ (v : Atom). v.subject) is))
    (subst (λ (us : List Atom). Relies s c.at_most.result (subjects_of_body (body_of r)) (λ xs. HoldsBody (body_of r) xs → ⊥) us c.charge.new.facts.items) (one_fact c.clear.new.self.items c.push.new.self.items c.at_most.result c.clear.ensures.items c.in_ok-push.ensures.items) (c.charge.ensures ok))

pub returns-then-not-is_inside : goal.returns-then-not-is_inside
returns-then-not-is_inside c = λ ok. no_yes _ _ ok refl

pub ends-most-requires : goal.ends-most-requires
ends-most-requires c = c.requires.capacity

pub charge-requires-clause-resource : goal.charge-requires-clause-resource
charge-requires-clause-resource c = c.requires
