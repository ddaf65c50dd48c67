use Rattle.cps_learning_tests.proofs.conflicts.lesson_of.Goals as goal

pub taught-requires : goal.taught-requires
taught-requires c = λ k l has. tt
