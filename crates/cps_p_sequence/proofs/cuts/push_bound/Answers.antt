use Rattle.std.proofs.Common.{◌∷◌, [], ◌∙◌, Ok, refl, sym, ap}
use Rattle.cps_literal.specs.declared.atom.Atom.{Atom}
use Rattle.cps_literal.specs.Truth.{atom_holds}
use Rattle.cps_rule.specs.Facts.{Adds}
use Rattle.cps_p_sequence.proofs.Growing.{adds_grows, adds_holds, grows_same, alone}
use Rattle.cps_p_sequence.proofs.cuts.push_bound.Goals as goal

pub returns-then-branch : goal.returns-then-branch
returns-then-branch c =
    let s = c.args.past.now in
    let u = c.atom.result in
    let old = c.args.facts.now.items in
    let new = c.push_fact.new.facts.items in
    let is = c.atom.ensures in
    let added : Adds s u old new = c.in_ok-push_fact-in-Some.ensures.yes (ap Ok c.if-branch.true) in
    record { grows = adds_grows s u (c.args.subject ∷ []) old new (alone c.args.subject u.subject (ap (λ (w : Atom). w.subject) is)) added; bounded = λ xs all. ap (λ (w : Atom). atom_holds xs w) (sym is) ∙ adds_holds s u old new added xs all }

pub returns-else-branch : goal.returns-else-branch
returns-else-branch c = record { grows = grows_same c.args.past.now (c.args.subject ∷ []) c.args.facts.now.items c.push_fact.new.facts.items (c.in_ok-push_fact-in-Some.ensures.no (ap Ok c.if-branch.false)); bounded = λ xs all. tt }

pub returns-in-None : goal.returns-in-None
returns-in-None c = record { grows = grows_same c.args.past.now (c.args.subject ∷ []) c.args.facts.now.items c.args.facts.now.items refl; bounded = λ xs all. tt }
