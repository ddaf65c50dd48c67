-- The atoms that hold leave no interval.
use Rattle.std.proofs.Common.{Ok, ◌≡◌, true, rules}
use Rattle.cps_p_interval.proofs.Opposing.{opposed, opposed_twice}
use Rattle.cps_p_span.proofs.Refusing.{refused}
use Rattle.cps_p_interval.proofs.interval.IntervalRule.refute.Goals as goal

pub returns-else-eq : goal.returns-else-eq
returns-else-eq c e =
    let one : c.cite_both.result ≡ Ok true = search rules in
    opposed c.args.past.now c.args.self.now.places c.in-Some.support c.in-Some.last c.clear.new.self.items c.cite_both.new.facts.items c.cite.new.facts.items c.clear.ensures.items c.in-Some.ensures (c.cite_both.ensures one) (c.cite.ensures.yes e)

pub returns-then-eq : goal.returns-then-eq
returns-then-eq c e =
    let one : c.cite_both.result ≡ Ok true = search rules in
    let same : c.in-Some.last ≡ c.in-Some.support.one = search rules in
    opposed_twice c.args.past.now c.args.self.now.places c.in-Some.support c.in-Some.last c.clear.new.self.items c.cite_both.new.facts.items c.clear.ensures.items same c.in-Some.ensures (c.cite_both.ensures one)

pub returns-then-not-branch : goal.returns-then-not-branch
returns-then-not-branch c e = refused e

pub returns-in-None : goal.returns-in-None
returns-in-None c e = refused e
