use Rattle.std.proofs.Common.{◌≡◌, Bool, true, false, ◌<◌, length, arith, refl, ap, ◌∙◌}
use Rattle.std.specs.Prelude.{◌&&◌}
use Rattle.cps_domain.specs.Window.{is_among}
use Rattle.cps_trail.specs.Trail.{admits, first_of}
use Rattle.cps_trail.specs.Changes.{Past}
use Rattle.cps_trail.proofs.Facts.{first_contains, firsts_length}
use Rattle.cps_trail.proofs.history.History.is_always_met.Goals as goal

pub index-requires : goal.index-requires
index-requires c =
    let i = c.self.inside in
    omega (arith, c.requires, ap (λ (p : Past). length p.first) c.self.view_is, firsts_length i.first.items, c.self.inside.first.ok.0)

and_true : (a : Bool) → (a && true) ≡ true → a ≡ true
and_true true h = refl
and_true false h = h

pub returns-in-Yes : goal.returns-in-Yes
unfolding admits
returns-in-Yes c = λ yes x a.
    let i = c.self.inside in
    let l : c.args.atom.subject < length i.first.items = omega (arith, c.requires, ap (λ (p : Past). length p.first) c.self.view_is, firsts_length i.first.items) in
    let among : is_among (first_of c.args.self.now.first c.args.atom.subject) x ≡ true = and_true (is_among (first_of c.args.self.now.first c.args.atom.subject) x) a in
    c.truth_in.ensures.yes.0 c.in-Yes.is x
    (first_contains i.first.items c.args.atom.subject c.index.result.now x l c.index.ensures
    ∙ ap (λ (p : Past). is_among (first_of p.first c.args.atom.subject) x) c.self.view_is
    ∙ among)
