use Rattle.std.specs.Option.{option_map}
use Rattle.std.proofs.Common.{◌≡◌, ℕ, Option, Some, sym, ap, ◌∙◌, arith}
use Rattle.cps_schema.specs.Digits.{capped}
use Rattle.cps_schema.specs.Written.{token_size}
use Rattle.cps_schema.specs.Numbers.{fitted}
use Rattle.cps_schema.proofs.Sizes.{fitted_capped}
use Rattle.cps_schema.proofs.number.whole_number.Goals as goal

pub returns-in-Some : goal.returns-in-Some
returns-in-Some c =
    let size = token_size (Some c.args.kind) c.args.text.now in
    let is : option_map capped size ≡ Some c.in-Some.size = grind arith in
    c.in_type.ensures
    ∙ (ap (λ (o : Option ℕ). fitted c.args.number c.args.negative o) (sym is) ∙ fitted_capped c.args.number c.args.negative size)
