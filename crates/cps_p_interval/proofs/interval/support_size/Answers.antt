use Rattle.std.proofs.Common.{arith}
use Rattle.std.proofs.lemmas.Int.{ints}
use Rattle.cps_p_interval.proofs.Bounding.{own_end, own_start, below_of, least_of, most_of, least_holds, most_holds}
use Rattle.cps_p_interval.proofs.interval.support_size.Goals as goal

pub returns-in_ok-checked_sub-in-Ge : goal.returns-in_ok-checked_sub-in-Ge
returns-in_ok-checked_sub-in-Ge c = record {
  one = below_of _ _ _ _ _ c.at_least.ensures c.requires.within.end;
  own_one = own_end c.args.places _ _ _ c.at_least.ensures;
  other = below_of _ _ _ _ _ c.at_most.ensures c.requires.within.start;
  own_other = own_start c.args.places _ _ _ c.at_most.ensures;
  gives = λ xs a b i. least_holds xs c.args.target c.args.places.size c.in-Ge.is c.requires.subject
      (let s = i.1 in let k = c.in_ok-checked_sub-in-Ge.ensures in omega (arith, ints, least_of xs c.at_least.result _ _ c.at_least.ensures a, most_of xs c.at_most.result _ _ c.at_most.ensures b));
}

pub returns-in_ok-checked_sub-in-Le : goal.returns-in_ok-checked_sub-in-Le
returns-in_ok-checked_sub-in-Le c = record {
  one = below_of _ _ _ _ _ c.at_most-in-Le.ensures c.requires.within.end;
  own_one = own_end c.args.places _ _ _ c.at_most-in-Le.ensures;
  other = below_of _ _ _ _ _ c.at_least-in-Le.ensures c.requires.within.start;
  own_other = own_start c.args.places _ _ _ c.at_least-in-Le.ensures;
  gives = λ xs a b i. most_holds xs c.args.target c.args.places.size c.in-Le.is c.requires.subject
      (let s = i.1 in let k = c.in_ok-checked_sub-in-Le.ensures in omega (arith, ints, most_of xs c.at_most-in-Le.result _ _ c.at_most-in-Le.ensures a, least_of xs c.at_least-in-Le.result _ _ c.at_least-in-Le.ensures b));
}
