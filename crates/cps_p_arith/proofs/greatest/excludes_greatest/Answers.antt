use Rattle.std.proofs.Common.{rules, true≢false, sym, ◌∙◌}
use Rattle.cps_p_arith.proofs.Maxima.{passed, fallen_short, is_fixed_greatest, may_reach}
use Rattle.cps_p_arith.proofs.greatest.excludes_greatest.Goals as goal

pub returns-then-some_passes-clause-sound : goal.returns-then-some_passes-clause-sound
returns-then-some_passes-clause-sound c = λ t v ns target within g.
    passed c.args.target.high v c.args.members.now ns (c.some_passes.ensures.0 (search rules)) within target.to g

pub returns-else-some_passes-clause-sound : goal.returns-else-some_passes-clause-sound
returns-else-some_passes-clause-sound c = λ t v ns target within g.
    fallen_short c.args.target.low v c.args.members.now ns (c.all_fall_short.ensures.0 t) within target.from g

pub returns-else-some_passes-clause-exact : goal.returns-else-some_passes-clause-exact
returns-else-some_passes-clause-exact c = λ f v ns target fixed.
    is_fixed_greatest c.args.target v c.args.members.now ns target (λ h. true≢false (sym (c.some_passes.ensures.1 h) ∙ c.if-some_passes.false)) (λ h. true≢false (sym (c.all_fall_short.ensures.1 h) ∙ f)) fixed

pub returns-else-some_passes-clause-possible : goal.returns-else-some_passes-clause-possible
returns-else-some_passes-clause-possible c = λ f.
    may_reach c.args.target c.args.members.now (λ h. true≢false (sym (c.some_passes.ensures.1 h) ∙ c.if-some_passes.false)) (λ h. true≢false (sym (c.all_fall_short.ensures.1 h) ∙ f))
