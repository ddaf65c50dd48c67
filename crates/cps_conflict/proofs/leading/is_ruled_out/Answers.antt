use Rattle.std.proofs.Common.{◌-◌, ◌<◌, length, get_or, arith, subst, sym}
use Rattle.cps_literal.specs.declared.atom.Atom.{Atom}
use Rattle.cps_conflict.specs.Behind.{RulesOut}
use Rattle.cps_conflict.proofs.Uniting.{none_view, entry_at, read, inside}
use Rattle.cps_conflict.proofs.leading.is_ruled_out.Goals as goal

pub rules_out-requires : goal.rules_out-requires
rules_out-requires c =
    inside c.args.store.now.entries c.entries.result.now (c.args.count - 1) c.entries.ensures.sound.inside c.entries.ensures.views (omega (arith, c.requires, c.if-count-eq0.false))

pub returns : goal.returns
returns c =
    let es = c.args.store.now.entries in
    let last = c.args.count - 1 in
    let l : last < length es = omega (arith, c.requires, c.if-count-eq0.false) in
    let e : Atom = (get_or c.entries.result.now last none_view).atom in
    let is = read es c.entries.result.now last c.entries.ensures.views l in (
      λ yes. record { last = last; is = omega (arith, c.if-count-eq0.false); rules_out = λ d. subst (λ (u : Atom). RulesOut u c.args.atom) (sym (is d)) (c.rules_out.ensures.0 yes) },
      λ out. let d = entry_at es last l in
          c.rules_out.ensures.1 (subst (λ (u : Atom). RulesOut u c.args.atom) (is d) (subst (λ k. RulesOut (get_or es k d).atom c.args.atom) (omega (arith, out.is)) (out.rules_out d))),
    )
