-- The two rules of a cumulative constraint, in their order.
use Rattle.std.proofs.Common.{◌≡◌, ◌∙◌, option_map, ap, sym, subst}
use Rattle.std.specs.List.{list_all}
use Rattle.cps_model.specs.declared.constraint.Kind.{Kind}
use Rattle.cps_model.specs.KindRules.{is_never_negative, names_interval, kind_rules}
use Rattle.cps_model.specs.Validity.{first_broken}
use Rattle.cps_validate.specs.Numbers.{number_of}
use Rattle.cps_validate.specs.declared.rule.Rule.TheVariants.{NegativeDemand, UnknownInterval}
use Rattle.cps_validate.proofs.Firsts.{of_two}
use Rattle.cps_validate.proofs.rules.kind_fault.Goals as goal

pub returns-in-Cumulative : goal.returns-in-Cumulative
returns-in-Cumulative c =
    subst (λ (k : Kind). option_map number_of c.or-fault-in-Cumulative.result ≡ first_broken (kind_rules c.args.variables.now c.args.constraints.now k))
    (sym c.in-Cumulative.is)
    (of_two NegativeDemand UnknownInterval c.or-fault-in-Cumulative.ensures c.unless-in-Cumulative.ensures c.unless-in-Cumulative-2.ensures
    (c.are_never_negative-kept.ensures ∙ ap (list_all (is_never_negative c.args.variables.now)) c.as_slice-in-Cumulative.ensures)
    (c.name_intervals-named-in-Cumulative.ensures ∙ ap (list_all (names_interval c.args.constraints.now)) c.as_slice-in-Cumulative-2.ensures))
