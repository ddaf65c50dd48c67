use Rattle.cps_clauses.proofs.AtomFalls.{AreLastTwo-later, AreLastTwo-second, AreLastTwo-before}
use Rattle.cps_clauses.proofs.falls.LastTwo.with.Goals as goal

pub returns-then-self-count : goal.returns-then-self-count
returns-then-self-count c = λ s atoms l fall h. AreLastTwo-later s atoms c.args.place c.args.count c.args.self l fall c.if-self-count.true h

pub returns-then-self-count-2 : goal.returns-then-self-count-2
returns-then-self-count-2 c = λ s atoms l fall h. AreLastTwo-second s atoms c.args.place c.args.count c.args.self l fall c.if-self-count.false c.if-self-count-2.true h

pub returns : goal.returns
returns c = λ s atoms l fall h. AreLastTwo-before s atoms c.args.place c.args.count c.args.self l fall c.if-self-count-2.false h
