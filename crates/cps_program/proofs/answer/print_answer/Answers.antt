-- The model's text is read as the model again.
use Rattle.std.proofs.Common.{ℕ, List, sym, subst}
use Rattle.cps_schema.specs.Open.{closed_names}
use Rattle.cps_print.specs.ReadBack.{IsReadAs}
use Rattle.cps_program.proofs.answer.print_answer.Goals as goal

pub returns-clause-back : goal.returns-clause-back
returns-clause-back c =
    λ bytes read. subst (λ (xs : List ℕ). IsReadAs xs c.args.model.now) (sym c.text_answer.ensures.text) (c.in_ok-text.ensures.back closed_names bytes read)
