-- What a contract sees of `TrailedDomains`.
use Rattle.std.specs.Prelude.{List}
use Rattle.cps_domain.specs.Window.{Window}

-- the domain of each subject at first, and as it is now
pub record Trailed : Type 0 where
  pub first : List Window
  pub now : List Window
