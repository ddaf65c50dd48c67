-- A number is one word, and stands behind the name.
use Rattle.std.specs.Fmt.{signed_decimal}
use Rattle.std.proofs.Common.{sym, ◌∙◌}
use Rattle.std.proofs.lemmas.List.{append_cancel_left}
use Rattle.cps_cert.proofs.fields.number_behind.Goals as goal

pub returns-in_default-number_of : goal.returns-in_default-number_of
returns-in_default-number_of c = λ z near e. c.in_default-number_of.ensures z near (append_cancel_left c.args.field.now c.in-Some.word.now (signed_decimal z) (sym c.in-Some.ensures ∙ e))
