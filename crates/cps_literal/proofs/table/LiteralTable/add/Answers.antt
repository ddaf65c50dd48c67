-- The new atom stands at the end of the list, and the map has its place.
use Rattle.std.proofs.Common.{ℕ, ◌≡◌, Some, cond, sym, ◌∙◌, ap, subst, length, ◌++◌, ◌∷◌, [], arith}
use Rattle.std.specs.Prelude.{slice_get, ◌≢◌}
use Rattle.std.specs.HashMap.{get, IsUnique}
use Rattle.cps_literal.specs.declared.atom.Atom.{Atom}
use Rattle.cps_literal.specs.Table.{Numbers}
use Rattle.cps_literal.proofs.Ordering.{eq_same, same_Decides}
use Rattle.cps_literal.proofs.Indexing.{Agree, IsAdded, absent, added, added_agree}
use Rattle.cps_literal.proofs.table.LiteralTable.add.Goals as goal

pub invariant_of-self-2 : goal.invariant_of-self-2
invariant_of-self-2 c =
    let i = c.self.inside in
    let h : Agree c.self.inside.atoms.items c.self.inside.numbers = record { number = c.self.invariant.number; listed = c.self.invariant.listed } in
    let none = absent i.atoms.items i.numbers c.args.atom h (subst (λ l. (k : ℕ) → slice_get l k ≢ Some c.args.atom) (sym c.self.view_is) c.requires) in
    let k : c.len-number.result ≡ length c.self.inside.atoms.items = omega (arith, c.len-number.ensures, c.self.inside.atoms.ok.0) in
    let updates = subst (λ r. (q : Atom) → get r c.insert.new.self q ≡ cond (r c.args.atom q) (Some c.len-number.result) (get r c.self.inside.numbers q)) eq_same (λ q. c.in_ok-insert.ensures.updates.0 q) in
    let agree = added_agree i.atoms.items i.numbers c.insert.new.self c.args.atom same_Decides h
    (subst (λ n. IsAdded c.self.inside.numbers c.insert.new.self c.args.atom n) k (record { updates = updates; new = none })) in
    let items = c.push_reserved.ensures.items ∙ ap (λ l. l ++ (c.args.atom ∷ [])) c.reserve.ensures.items in
    let whole = subst (λ l. Agree l c.insert.new.self) (sym items) agree in
    record { unique = subst (λ r. IsUnique r c.insert.new.self) eq_same c.insert.ensures.unique; number = whole.number; listed = whole.listed }

pub returns-clause-ok : goal.returns-clause-ok
returns-clause-ok c =
    let i = c.self.inside in
    let h : Agree c.self.inside.atoms.items c.self.inside.numbers = record { number = c.self.invariant.number; listed = c.self.invariant.listed } in
    let none = absent i.atoms.items i.numbers c.args.atom h (subst (λ l. (k : ℕ) → slice_get l k ≢ Some c.args.atom) (sym c.self.view_is) c.requires) in
    let k : c.len-number.result ≡ length c.self.inside.atoms.items = omega (arith, c.len-number.ensures, c.self.inside.atoms.ok.0) in
    subst (λ l. Numbers l c.push_reserved.new.self.items c.args.atom c.len-number.result) c.self.view_is
    (added i.atoms.items c.push_reserved.new.self.items i.numbers c.args.atom c.len-number.result k (c.push_reserved.ensures.items ∙ ap (λ l. l ++ (c.args.atom ∷ [])) c.reserve.ensures.items) h none)
