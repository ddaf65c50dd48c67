-- What stands behind the name is the number's text, or the line is another.
use Rattle.std.specs.Fmt.{signed_decimal}
use Rattle.std.proofs.Common.{◌++◌, sym, ◌∙◌, ap, List, ℕ}
use Rattle.std.proofs.lemmas.List.{append_cancel_left}
use Rattle.std.proofs.lemmas.Int.{to_z-of_z}
use mir.Syntax.{w128}
use Rattle.cps_cert.proofs.fields.shows_number.Goals as goal

pub returns-in-Some : goal.returns-in-Some
returns-in-Some c =
    let bits = ap signed_decimal (to_z-of_z w128 c.args.number c.ranges.number) in (
      λ yes. c.in-Some.ensures ∙ ap (λ (bs : List ℕ). c.args.field.now ++ bs) (c.is_written.ensures.0 yes ∙ bits),
      λ e. c.is_written.ensures.1 (append_cancel_left c.args.field.now c.in-Some.word.now (signed_decimal c.args.number) (sym c.in-Some.ensures ∙ e) ∙ sym bits),
    )
