-- What the workers of all kinds leave is seen alike.
use Rattle.cps_search.specs.Ends.{Ending}
use Rattle.cps_crew.specs.declared.ended.Finished.{Finished}
use Rattle.cps_crew.specs.declared.ended.Finished.TheVariants.{Plain, Core}

abbrev pub seen_of : Finished → Ending
seen_of (Plain e) = e
seen_of (Core e) = e
