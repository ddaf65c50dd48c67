use Rattle.std.proofs.Common.{ap, subst}
use Rattle.cps_port.specs.Shared.{Shared}
use Rattle.cps_port.specs.Sound.{IsSoundShared}
use Rattle.cps_port.specs.Views.{shared_of}
use Rattle.cps_port.proofs.SoundShared.{sound_of}
use Rattle.cps_port.proofs.state.CoreState.upper.Goals as goal

pub returns-clause-bound : goal.returns-clause-bound
returns-clause-bound c = ap (λ (x : Shared). x.bounds.upper) c.self.view_is

pub returns-clause-sound : goal.returns-clause-sound
returns-clause-sound c = let s = c.self.inside in subst IsSoundShared c.self.view_is (sound_of (shared_of s.model.now s.rows.items s.next s.seats.items s.upper s.lower s.bounds.items) c.self.invariant.kept)
