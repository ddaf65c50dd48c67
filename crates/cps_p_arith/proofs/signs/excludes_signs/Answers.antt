use Rattle.std.proofs.Common.{pos}
use Rattle.cps_p_arith.proofs.Opposites.{of_two_factors}
use Rattle.cps_p_arith.proofs.signs.excludes_signs.Goals as goal

pub returns-then-members-eq2 : goal.returns-then-members-eq2
returns-then-members-eq2 c = λ t v ns hv h p.
    of_two_factors c.args.members.now ns v c.args.target (record { low = pos 0; high = pos 0 }) (record { low = pos 0; high = pos 0 }) c.if-members-eq2.true hv h p
    (λ x y hx hy i. c.excludes_two.ensures t x y hx hy i)
