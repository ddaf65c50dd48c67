use Rattle.cps_literal.specs.Truth.{value_at}
use Rattle.cps_p_arith.specs.Ranges.{IsIn, IsAt}
use Rattle.cps_instance.specs.Parts.{values_at}
use Rattle.cps_p_arith.proofs.Zips.{zip_mapped}
use Rattle.cps_p_arith.proofs.bounds.Bounds.exclude.Goals as goal

pub returns-clause-sound : goal.returns-clause-sound
returns-clause-sound c = λ t. record {
  at = λ xs h m. (rw c.as_slice.ensures.value at c.excludes.ensures.sound t) (value_at xs c.args.demand.now.target) (values_at xs c.args.demand.now.exprs.items) h.target
      (zip_mapped IsIn (value_at xs) c.args.demand.now.exprs.items c.args.self.now.members.items h.members) m;
}

pub returns-clause-exact : goal.returns-clause-exact
returns-clause-exact c = λ f. record {
  at = λ xs h. (rw c.as_slice.ensures.value at c.excludes.ensures.exact f) (value_at xs c.args.demand.now.target) (values_at xs c.args.demand.now.exprs.items) h.target
      (zip_mapped IsAt (value_at xs) c.args.demand.now.exprs.items c.args.self.now.members.items h.members);
}

pub returns-clause-possible : goal.returns-clause-possible
returns-clause-possible c = λ f. rw c.as_slice.ensures.value at c.excludes.ensures.possible f
