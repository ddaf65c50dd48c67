use Rattle.cps_search.proofs.AlikeInstances.{enough_alike}
use Rattle.cps_search.proofs.laws.the_model_says_how_many_are_enough.Goals as goal

pub returns : goal.returns
returns c = λ p q first second model defs. enough_alike p q first second model defs
