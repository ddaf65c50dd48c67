use Rattle.std.proofs.Common.{pos}
use Rattle.cps_p_arith.proofs.Rests.{of_two_left, not_two_left, at_two_left}
use Rattle.cps_p_arith.proofs.Leaving.{leave_two}
use Rattle.cps_p_arith.proofs.remainder.excludes_remainder.Goals as goal

pub returns-then-members-eq2-clause-sound : goal.returns-then-members-eq2-clause-sound
returns-then-members-eq2-clause-sound c = λ t v ns hv h q.
    of_two_left c.args.members.now ns v (record { low = pos 0; high = pos 0 }) (record { low = pos 0; high = pos 0 }) c.if-members-eq2.true h q
    (λ n d hn hd ne e. c.excludes_pair.ensures.sound t v n d hv hn hd ne e)

pub returns-then-members-eq2-clause-exact : goal.returns-then-members-eq2-clause-exact
returns-then-members-eq2-clause-exact c = λ f v ns hv h.
    at_two_left c.args.members.now ns v (record { low = pos 0; high = pos 0 }) (record { low = pos 0; high = pos 0 }) c.if-members-eq2.true h
    (λ n d hn hd. c.excludes_pair.ensures.exact f v n d hv hn hd)

pub returns-clause-sound : goal.returns-clause-sound
returns-clause-sound c = λ _ v ns hv h q. not_two_left c.args.members.now ns v c.if-members-eq2.false h q

pub returns-then-members-eq2-clause-possible : goal.returns-then-members-eq2-clause-possible
returns-then-members-eq2-clause-possible c = λ f o all.
    leave_two c.args.members.now c.args.target (record { low = pos 0; high = pos 0 }) (record { low = pos 0; high = pos 0 }) c.if-members-eq2.true
    (λ n. c.excludes_pair.ensures.possible f o n) all
