use Rattle.std.proofs.Common.{ℕ, ◌<◌, List, refl, subst}
use Rattle.std.specs.List.{All}
use Rattle.std.proofs.lemmas.List.{take_all}
use Rattle.std.proofs.lemmas.List.Elements.{All-more}
use Rattle.cps_rule_tests.proofs.runs.are_below.Goals as goal

pub returns : goal.returns
returns c = λ _. subst (λ (l : List ℕ). All (λ (i : ℕ). i < c.args.count) l) (take_all c.loop-subject.subject-index c.args.subjects.now c.loop-subject-test.false) c.loop-subject.invariant

pub loop-subject-preserved : goal.loop-subject-preserved
loop-subject-preserved c = All-more (λ (i : ℕ). i < c.args.count) c.args.subjects.now c.loop-subject.subject-index 0 c.loop-subject-test.true c.loop-subject.invariant (c.if-not-is_below.ensures refl)
