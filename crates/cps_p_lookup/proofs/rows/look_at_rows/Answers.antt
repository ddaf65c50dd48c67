-- What the list of rows says.
use Rattle.std.proofs.Common.{ℕ, List, ◌<◌, length, sym, subst, rules}
use Rattle.cps_p_lookup.specs.Tabling.{AreLive}
use Rattle.cps_p_lookup.proofs.Tables.{live_seen, ends_rest}
use Rattle.cps_p_lookup.proofs.rows.look_at_rows.Goals as goal

pub returns-clause-seen : goal.returns-clause-seen
returns-clause-seen c =
    let s = c.args.store.now in
    let es = c.args.tuples.now.exprs in
    let vs = c.args.tuples.now.values in
    let some : 0 < length c.as_slice-live.result.now = search rules in
    live_seen s es vs c.as_slice-live.result.now (subst (λ (rs : List ℕ). AreLive s es vs rs) (sym c.as_slice-live.ensures.value) c.in_ok-collect.ensures) some

pub returns-clause-rest : goal.returns-clause-rest
returns-clause-rest c = λ _ trues. ends_rest c.args.store.now c.args.tuples.now.exprs c.args.tuples.now.values c.requires.some (rw (c.grid.ensures.exprs, c.grid.ensures.values) at (c.in_ok-narrow_columns.ensures.ends trues))
