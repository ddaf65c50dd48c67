use Rattle.cps_search.proofs.JournalLengths.{greatest_length}
use Rattle.cps_search.proofs.laws.honest_journals_are_bounded.Goals as goal

pub returns : goal.returns
returns c = greatest_length c.args.instance.now c.domains.ensures.sound
