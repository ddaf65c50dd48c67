use Rattle.std.proofs.Common.{ap}
use Rattle.cps_port.specs.Shared.{Shared}
use Rattle.cps_port.proofs.state.CoreState.lower.Goals as goal

pub returns : goal.returns
returns c = ap (λ (x : Shared). x.bounds.lower) c.self.view_is
