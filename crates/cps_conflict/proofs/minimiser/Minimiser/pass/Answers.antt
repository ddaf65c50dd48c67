use Rattle.std.proofs.Common.{refl}
use Rattle.cps_conflict.proofs.Minimising.{Carries-passed}
use Rattle.cps_conflict.proofs.minimiser.Minimiser.pass.Goals as goal

pub returns-then-next-node : goal.returns-then-next-node
returns-then-next-node c =
    Carries-passed c.args.self.now _ c.as_slice-nodes.result.now c.args.top _ c.as_slice-nodes.ensures.value c.if-top-nodes.false refl refl refl c.passed-next.ensures refl refl refl

pub returns : goal.returns
returns c =
    Carries-passed c.args.self.now _ c.as_slice-nodes.result.now c.args.top _ c.as_slice-nodes.ensures.value c.if-top-nodes.false refl refl refl c.passed-next.ensures refl refl refl
