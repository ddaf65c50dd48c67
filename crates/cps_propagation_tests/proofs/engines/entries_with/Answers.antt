use Rattle.cps_propagation_tests.proofs.engines.entries_with.Goals as goal

pub entries_at_rest-requires : goal.entries_at_rest-requires
entries_at_rest-requires c = c.in_ok-engine.ensures
