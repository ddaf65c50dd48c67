-- What contracts see of a searcher.
use Rattle.std.specs.Prelude.{false}
use Rattle.cps_search.specs.declared.searcher.Searcher.TheInside.{Inside}
use Rattle.cps_search.specs.Resting.{Rest, recalled}
use Rattle.cps_search.specs.Searches.{Search}
use Rattle.cps_search.specs.Shelves.{shelf_of}

-- where a searcher's inference came to rest
abbrev pub rest_in : {P : Type 0} → Inside P → Rest
rest_in {P} s = record {
  tasks = s.rested.tasks;
  recall = recalled s.rested.tasks s.engine.recall;
  clauses = s.rested.clauses;
  watched = s.clauses.watched;
}

-- the search that a searcher stands for, as long as no allocation failed
abbrev pub search_of : {P : Type 0} → Inside P → Search
search_of {P} s = record {
  instance = s.instance;
  store = s.store;
  tasks = s.engine.tasks;
  base = shelf_of s.clauses;
  z = s.z;
  gap = s.gap;
  budget = s.budget;
  tally = s.tally;
  imported = s.imported;
  best = s.best;
  raised = s.raised;
  core = s.core;
  log = s.log;
  rested = rest_in s;
  phase = s.phase;
  refused = false;
}
