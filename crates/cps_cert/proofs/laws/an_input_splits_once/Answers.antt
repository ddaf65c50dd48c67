-- The model ends at the first mark, and one mark stands there.
use Rattle.cps_cert.proofs.OneSplit.{split_once}
use Rattle.cps_cert.proofs.laws.an_input_splits_once.Goals as goal

pub returns : goal.returns
returns c = split_once
