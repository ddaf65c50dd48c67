use Rattle.std.specs.List.{All}
use Rattle.cps_p_lookup.specs.Tabling.{IsLive, HasEndRows}
use Rattle.cps_p_lookup.proofs.rows.have_end_rows.Given as goal

abbrev pub invariant-loop-place : goal.invariant-loop-place
invariant-loop-place l = record {
  tested : All (IsLive l.store l.grid.exprs.now l.grid.values.now) l.tested.items;
  ends : HasEndRows l.store l.grid.exprs.now l.grid.values.now l.place;
}
