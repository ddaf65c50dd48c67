use Rattle.std.specs.Prelude.{pos}
use Rattle.cps_port.proofs.BoundLaws.{attained_shown}
use Rattle.cps_shared_tests.proofs.WorkedClauses.{six_shareable, six_holds}
use Rattle.cps_board.specs.Seats.{model_of}
use Rattle.cps_shared_tests.proofs.clauses.share_six.Goals as goal

pub share-requires-clause-clause : goal.share-requires-clause-clause
share-requires-clause-clause c = six_shareable (model_of c.args.board.now) c.requires.minimised

pub share-requires-clause-holds : goal.share-requires-clause-holds
share-requires-clause-holds c = six_holds (model_of c.args.board.now) c.requires.minimised

pub share-requires-clause-incumbent : goal.share-requires-clause-incumbent
share-requires-clause-incumbent c = attained_shown (model_of c.args.board.now) (pos 7) c.requires.seven
