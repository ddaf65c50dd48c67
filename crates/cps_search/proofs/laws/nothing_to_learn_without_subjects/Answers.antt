use Rattle.cps_search.proofs.HonestJournals.{none_without_subjects}
use Rattle.cps_search.proofs.laws.nothing_to_learn_without_subjects.Goals as goal

pub returns : goal.returns
returns c = λ p journal none honest. none_without_subjects p journal none honest
