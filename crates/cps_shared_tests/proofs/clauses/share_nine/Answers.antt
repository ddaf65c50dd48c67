use Rattle.cps_shared_tests.proofs.WorkedClauses.{nine_shareable, nine_holds, infinite_shown}
use Rattle.cps_board.specs.Seats.{model_of}
use Rattle.cps_shared_tests.proofs.clauses.share_nine.Goals as goal

pub share-requires-clause-clause : goal.share-requires-clause-clause
share-requires-clause-clause c = nine_shareable (model_of c.args.board.now) c.requires.nine

pub share-requires-clause-holds : goal.share-requires-clause-holds
share-requires-clause-holds c = nine_holds (model_of c.args.board.now) c.requires.nine

pub share-requires-clause-incumbent : goal.share-requires-clause-incumbent
share-requires-clause-incumbent c = infinite_shown (model_of c.args.board.now)
