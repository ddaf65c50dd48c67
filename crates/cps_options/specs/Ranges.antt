-- The ranges of the options.
use Rattle.std.specs.Prelude.{◌≡◌, ◌≤◌, IsTrue}
use Rattle.cps_options.specs.declared.options.Options.{Options}

-- options with which a log may be kept: one worker, and no gap
pub record MayLog (o : Options) : Type 0 where
  pub workers : o.workers ≡ 1
  pub gap : o.gap ≡ 0

-- 1 to 16 workers, at most 10^9 conflicts, and a gap of at most 2^63 - 1; a log only where one may be kept
pub record AreInRange (o : Options) : Type 0 where
  pub some_worker : 1 ≤ o.workers
  pub workers : o.workers ≤ 16
  pub conflicts : o.conflicts ≤ 1000000000
  pub gap : o.gap ≤ 9223372036854775807
  pub log : IsTrue o.log → MayLog o
