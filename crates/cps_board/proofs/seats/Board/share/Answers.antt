-- A row that is drawn takes the clause as a sound entry.
use Rattle.std.proofs.Common.{rules}
use Rattle.cps_board.proofs.Coded.{coded_clause, sound_entry}
use Rattle.cps_board.proofs.Keeps.{draws}
use Rattle.cps_board.proofs.seats.Board.share.Goals as goal

pub fetch_add-row-requires : goal.fetch_add-row-requires
fetch_add-row-requires c = (search rules, search rules, draws _ _ _ _ (search rules) (search rules) (search rules) (search rules))

pub fill-requires-clause-coded : goal.fill-requires-clause-coded
fill-requires-clause-coded c = coded_clause c.args.self.now.table.shared.key c.args.below c.args.clause.now c.args.self.now.valid c.requires.incumbent c.requires.clause

pub fill-requires-clause-sound : goal.fill-requires-clause-sound
fill-requires-clause-sound c = sound_entry c.args.self.now.table.shared.key c.fetch_add-row.result c.args.below c.args.clause.now c.requires.clause c.requires.holds c.requires.incumbent
