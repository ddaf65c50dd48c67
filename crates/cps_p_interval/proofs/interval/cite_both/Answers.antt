-- Each of the two atoms was cited.
use Rattle.std.proofs.Common.{ℤ, List, [], ◌∷◌, ◌++◌, Ok, ◌≡◌, true, rules, subst}
use Rattle.cps_literal.specs.Truth.{atom_holds}
use Rattle.cps_p_span.proofs.Citing.{cites_then, cites_as, cites_left, cites_right}
use Rattle.cps_p_span.proofs.Refusing.{refused}
use Rattle.cps_literal.specs.declared.atom.Atom.{Atom}
use Rattle.cps_p_interval.proofs.interval.cite_both.Goals as goal

pub returns : goal.returns
returns c e =
    let one : c.cite.result ≡ Ok true = search rules in
    let s = c.args.past.now in
    let i = c.args.support.one.subject ∷ [] in
    let j = c.args.support.other.subject ∷ [] in
    let P : List ℤ → Type 0 = λ xs. atom_holds xs c.args.support.one ≡ true in
    let Q : List ℤ → Type 0 = λ xs. atom_holds xs c.args.support.other ≡ true in
    cites_then s (i ++ j) c.args.facts.now.items c.cite.new.facts.items c.cite-2.new.facts.items P Q
    (cites_left s i j c.args.facts.now.items c.cite.new.facts.items P (c.cite.ensures.yes one)) (cites_right s i j c.cite.new.facts.items c.cite-2.new.facts.items Q (c.cite-2.ensures.yes e))

pub returns-then-not-branch : goal.returns-then-not-branch
returns-then-not-branch c e = refused e

pub returns-then-eq : goal.returns-then-eq
returns-then-eq c e =
    let one : c.cite.result ≡ Ok true = search rules in
    let same : c.args.support.one ≡ c.args.support.other = search rules in
    cites_as c.args.past.now (c.args.support.one.subject ∷ c.args.support.other.subject ∷ []) c.args.facts.now.items c.cite.new.facts.items (λ xs. atom_holds xs c.args.support.one ≡ true) (λ xs. (atom_holds xs c.args.support.one ≡ true) × (atom_holds xs c.args.support.other ≡ true))
    (λ xs h. (h, subst (λ (u : Atom). atom_holds xs u ≡ true) same h))
    (cites_left c.args.past.now (c.args.support.one.subject ∷ []) (c.args.support.other.subject ∷ []) c.args.facts.now.items c.cite.new.facts.items (λ xs. atom_holds xs c.args.support.one ≡ true) (c.cite.ensures.yes one))
