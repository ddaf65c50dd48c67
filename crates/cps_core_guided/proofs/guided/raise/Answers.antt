-- The port says what a raise leaves of the shared state.
use Rattle.cps_core_guided.proofs.guided.raise.Goals as goal

pub returns-clause-keeps : goal.returns-clause-keeps
returns-clause-keeps g c = record { model = c.raise.ensures.same.0; rows = c.raise.ensures.same.1; others = c.raise.ensures.others }
