use Rattle.cps_clauses.specs.Watches.{list_at}
use Rattle.cps_clauses.proofs.ReleasedWatchers.{watching_released}
use Rattle.cps_clauses.proofs.watching.Watching.release.Goals as goal

pub returns-clause-watching : goal.returns-clause-watching
returns-clause-watching c = λ clauses sizes h.
    watching_released clauses c.args.dropped.now c.args.self.now.watches.items c.args.self.now.attached (list_at c.args.self.now.lists.items) (list_at c.release_all.new.lists.items) c.release_all.ensures.released h
