-- Those that are written out, and the references behind them.
use Rattle.std.specs.Prelude.{string_bytes}
use Rattle.std.specs.List.{flat_map}
use Rattle.std.proofs.Common.{ℕ, List, ◌++◌, map, sym, ap, ◌∙◌, append_assoc}
use Rattle.std.proofs.lemmas.List.Concat.{flat_map-append}
use Rattle.cps_model.specs.declared.model.LinearExpr.{LinearExpr}
use Rattle.cps_model.specs.Values.{reference_expression}
use Rattle.cps_print.specs.Layout.{text_of}
use Rattle.cps_print.specs.Fields.{message_field}
use Rattle.cps_print.specs.Expressions.{printed_expression}
use Rattle.cps_print.proofs.Lines.{on_ok}
use Rattle.cps_print.proofs.expression.put_all.Goals as goal

pub returns : goal.returns
returns c =
    let lines = λ (e : LinearExpr). text_of c.args.level (message_field c.args.name.now (printed_expression e)) in
    let es = c.parts.result.0.now in
    let rs = map reference_expression c.parts.result.1.now in
    let before = string_bytes c.args.text.now in
    on_ok c.put_references.result
    (λ h.
    h
    ∙ ap (λ (s : List ℕ). s ++ flat_map lines rs) (c.in_ok-put_expressions.ensures {u = tt})
    ∙ append_assoc before (flat_map lines es) (flat_map lines rs)
    ∙ ap (λ (s : List ℕ). before ++ s) (sym (flat_map-append lines es rs) ∙ ap (λ (xs : List LinearExpr). flat_map lines xs) (sym c.parts.ensures)))
    c.put_references.ensures
