use Rattle.std.proofs.Common.{rules, sym, ◌∙◌, true≢false, w64, FitsSigned}
use Rattle.std.specs.Prelude.{int_le}
use Rattle.cps_domain.specs.Window.{contains}
use Rattle.cps_literal.proofs.Implying.{code_le, code_lt}
use Rattle.cps_literal.proofs.Deciding.{only_not, only_test, only_there, as_coded}
use Rattle.cps_literal.proofs.atom.is_only.Goals as goal

pub returns-then-value-max : goal.returns-then-value-max
returns-then-value-max c =
    let f : FitsSigned w64 c.max.result = search rules in
    record {
      alone = (λ e. absurd (true≢false (sym e)), λ h. absurd (only_not (contains c.args.domain.now) c.args.value c.max.result c.max.ensures.within (sym (code_lt c.args.value c.max.result c.ranges.value f) ∙ c.if-value-max.true) h));
      there = λ e. absurd (true≢false (sym e));
    }

pub returns : goal.returns
returns c =
    let admits = contains c.args.domain.now in
    let f : FitsSigned w64 c.max.result = search rules in
    let g : FitsSigned w64 c.min.result = search rules in
    let coded = code_le c.args.value c.min.result c.ranges.value g in
    let no_less = sym (code_lt c.args.value c.max.result c.ranges.value f) ∙ c.if-value-max.false in
    record {
      alone = as_coded _ (int_le c.args.value c.min.result) _ coded
          (only_test admits c.args.value c.min.result c.max.result c.min.ensures.within c.min.ensures.least c.max.ensures.greatest no_less);
      there = λ e. only_there admits c.args.value c.min.result c.max.result c.min.ensures.within c.max.ensures.greatest no_less (sym coded ∙ e);
    }
