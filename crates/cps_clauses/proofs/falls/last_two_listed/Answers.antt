use Rattle.std.proofs.Common.{ℕ, ◌≡◌, length, subst, arith}
use Rattle.cps_clauses.specs.Falls.{AreLastTwo}
use Rattle.cps_clauses.proofs.falls.last_two_listed.Goals as goal

pub returns : goal.returns
returns c =
    let e : c.loop-i.i ≡ length c.args.atoms.now = omega (arith, c.loop-i-test.false, c.loop-i.auto.i-end, c.requires.some) in
    subst (λ (n : ℕ). AreLastTwo c.args.store.now c.args.atoms.now n c.loop-i.two) e c.loop-i.invariant
