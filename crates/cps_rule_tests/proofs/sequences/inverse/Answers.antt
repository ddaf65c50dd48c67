use Rattle.std.proofs.Common.{ℕ, ◌∙◌, List, length, ap, sym}
use Rattle.cps_rule_tests.proofs.Readiness.{plain_by}
use Rattle.cps_rule_tests.proofs.sequences.inverse.Goals as goal

pub returns : goal.returns
returns c =
    plain_by c.in_ok-propagator.propagator _ c.in_ok-propagator.ensures c.new.ensures
    (λ first. ap (λ (is : List ℕ). length is) (c.from_vec-direct.ensures ∙ c.in_ok-from_slice.ensures.items)
    ∙ sym (ap (λ (is : List ℕ). length is) (c.from_vec-inverse.ensures ∙ c.in_ok-from_slice-2.ensures.items)))
