use Rattle.std.proofs.Common.{◌≡◌, ◌<◌, ◌^◌, ◌∙◌, ℕ, pos, false, ap, to_z, sym, arith, rules, FitsSigned, w64}
use Rattle.std.proofs.lemmas.Int.{to_z-of_z, to_z_pos}
use Rattle.cps_domain.specs.Window.{contains}
use Rattle.cps_p_lookup.proofs.Missing.{lists_none, lists_one, single_between}
use Rattle.cps_p_lookup.proofs.places.list_value.Goals as goal

small : (k : ℕ) → k < 2 ^ 62 → k < 2 ^ 63
small k l = omega arith

pub returns-then-not-contains : goal.returns-then-not-contains
returns-then-not-contains c = λ e.
    let k = c.args.place in
    let no : contains c.domain-index.result.now (pos k) ≡ false = rw (to_z_pos w64 k (small k c.requires.small)) at (sym c.if-not-contains.ensures) in
    lists_none c.args.store.now c.args.lookup.now.index c.args.lookup.now.target c.args.lookup.now.exprs.now k c.domain-index.result.now c.args.values.now.items c.requires.fits c.domain-index.ensures no

pub returns : goal.returns
returns c = λ e.
    let a = c.min-low.result in
    let b = c.max-high.result in
    let fa : FitsSigned w64 a = search rules in
    let fb : FitsSigned w64 b = search rules in
    let same : a ≡ b = sym (to_z-of_z w64 a fa) ∙ ap (to_z w64) c.if-low-high.false ∙ to_z-of_z w64 b fb in
    lists_one c.args.store.now c.args.lookup.now.index c.args.lookup.now.target c.args.lookup.now.exprs.now c.args.place c.domain-expr.result.now c.args.values.now.items c.push.new.self.items a c.requires.place c.requires.fits c.domain-expr.ensures
    (λ x h. single_between a b x same (c.min-low.ensures.least x h) (c.max-high.ensures.greatest x h)) (rw (to_z-of_z w64 a fa) at c.in_ok-push.ensures.items)
