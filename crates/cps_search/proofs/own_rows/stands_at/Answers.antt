-- A clause that is in force and has these atoms stands, and one that stands is in force and has them.
use Rattle.cps_search.proofs.own_rows.stands_at.Goals as goal

pub returns-then-in_force : goal.returns-then-in_force
returns-then-in_force c = (
  (λ same. record {
    in_force = c.in_force.ensures.0 c.if-in_force.true;
    same = c.is_clause.ensures.0 same;
  }),
  (λ stands. c.is_clause.ensures.1 stands.same),
)
