use Rattle.std.proofs.Common.{◌+◌, ap, refl}
use Rattle.cps_trail.specs.Trail.{Decision, Entry, Trail}
use Rattle.cps_rule_tests.proofs.Noting.{decided_noted}
use Rattle.cps_rule_tests.proofs.stores.decide.Goals as goal

pub returns-in_ok-decide-in-Undecided-clause-notes : goal.returns-in_ok-decide-in-Undecided-clause-notes
returns-in_ok-decide-in-Undecided-clause-notes c =
    let decided : Entry = record { atom = c.args.atom; level = c.args.store.now.level + 1; reason = Decision } in
    λ none. decided_noted c.args.store.now c.decide.new.self decided (ap (λ (s : Trail). s.entries) c.in_ok-decide-in-Undecided.ensures.ok) refl none
