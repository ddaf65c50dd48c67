-- What is left of the rows is what lies below the last one.
use Rattle.std.proofs.Common.{◌-◌, ℕ, ◌∙◌, take, ap, arith}
use Rattle.cps_p_sequence.proofs.layers.drop_top.Goals as goal

pub overflow_sub-below : goal.overflow_sub-below
overflow_sub-below c = omega (arith, c.requires, c.len.ensures, c.args.rows.now.ok.0)

pub returns : goal.returns
returns c = c.truncate.ensures.items ∙ ap (λ (m : ℕ). take (m - c.args.count) c.args.rows.now.items) (c.len.ensures ∙ c.args.rows.now.ok.0)
