use Rattle.std.proofs.Common.{arith}
use Rattle.std.proofs.lemmas.Int.{ints}
use Rattle.cps_p_interval.proofs.Bounding.{own_size, own_start, below_of, least_of, most_of, least_holds, most_holds}
use Rattle.cps_p_interval.proofs.interval.support_end.Goals as goal

pub returns-in_ok-checked_sub-in-Ge : goal.returns-in_ok-checked_sub-in-Ge
returns-in_ok-checked_sub-in-Ge c = record {
  one = below_of _ _ _ _ _ c.at_least.ensures c.requires.within.start;
  own_one = own_start c.args.places _ _ _ c.at_least.ensures;
  other = below_of _ _ _ _ _ c.at_least-in-Ge.ensures c.requires.within.size;
  own_other = own_size c.args.places _ _ _ c.at_least-in-Ge.ensures;
  gives = λ xs a b i. least_holds xs c.args.target c.args.places.end c.in-Ge.is c.requires.subject
      (let s = i.1 in let k = c.in_ok-checked_sub-in-Ge.ensures in omega (arith, ints, least_of xs c.at_least.result _ _ c.at_least.ensures a, least_of xs c.at_least-in-Ge.result _ _ c.at_least-in-Ge.ensures b));
}

pub returns-in_ok-checked_sub-in-Le : goal.returns-in_ok-checked_sub-in-Le
returns-in_ok-checked_sub-in-Le c = record {
  one = below_of _ _ _ _ _ c.at_most.ensures c.requires.within.start;
  own_one = own_start c.args.places _ _ _ c.at_most.ensures;
  other = below_of _ _ _ _ _ c.at_most-in-Le.ensures c.requires.within.size;
  own_other = own_size c.args.places _ _ _ c.at_most-in-Le.ensures;
  gives = λ xs a b i. most_holds xs c.args.target c.args.places.end c.in-Le.is c.requires.subject
      (let s = i.1 in let k = c.in_ok-checked_sub-in-Le.ensures in omega (arith, ints, most_of xs c.at_most.result _ _ c.at_most.ensures a, most_of xs c.at_most-in-Le.result _ _ c.at_most-in-Le.ensures b));
}

pub returns-then-target-low : goal.returns-then-target-low
returns-then-target-low c = record {
  one = below_of _ _ _ _ _ c.at_least-one.ensures c.requires.within.start;
  own_one = own_start c.args.places _ _ _ c.at_least-one.ensures;
  other = below_of _ _ _ _ _ c.at_least-one.ensures c.requires.within.start;
  own_other = own_start c.args.places _ _ _ c.at_least-one.ensures;
  gives = λ xs a b i. least_holds xs c.args.target c.args.places.end c.in-Ge.is c.requires.subject
      (let s = i.0 in let t = i.1 in omega (arith, ints, least_of xs c.at_least-one.result _ _ c.at_least-one.ensures a));
}
