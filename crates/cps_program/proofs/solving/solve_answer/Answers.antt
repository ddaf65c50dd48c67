-- The outcome is good, and so it keeps its promise.
use Rattle.cps_program.proofs.Outcomes.{bounded, promise_kept, solved}
use Rattle.std.proofs.Common.{rules, refl}
use Rattle.cps_program.proofs.solving.solve_answer.Goals as goal

pub response_text-requires-clause-solved : goal.response_text-requires-clause-solved
response_text-requires-clause-solved g c =
    solved c.args.model.now c.model.result.now c.args.options.now _ c.model.ensures.same c.model.ensures.valid c.in_ok-outcome.ensures.good

pub response_text-requires-clause-bounded : goal.response_text-requires-clause-bounded
response_text-requires-clause-bounded g c = bounded c.args.model.now c.args.options.now _ c.in_ok-outcome.ensures.good

pub returns : goal.returns
returns g c =
    let shown = c.in_ok-text.ensures in
    record {
      found = _;
      exit = refl;
      outcome = refl;
      text = search rules;
      good = c.in_ok-outcome.ensures.good;
      promise = promise_kept c.args.model.now c.args.options.now _ c.in_ok-outcome.ensures.good;
      drawn = c.in_ok-outcome.ensures.drawn;
    }
