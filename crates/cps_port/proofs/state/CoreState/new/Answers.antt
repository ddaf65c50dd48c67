-- The state before the first event, as it is stored.
use Rattle.std.proofs.Common.{◌≡◌, ◌∙◌, ◌<◌, ◌^◌, subst, arith, to_z, of_z, w64, unsigned_abs, ℤ}
use Rattle.std.proofs.lemmas.Int.{ints}
use Rattle.cps_model.specs.Validity.{IsValid}
use Rattle.cps_port.proofs.SoundShared.{sound_of, stays_sound}
use Rattle.cps_port.proofs.StoredStates.{begins, begins_whole}
use Rattle.cps_port.proofs.state.CoreState.new.Goals as goal

stays : (x : ℤ) → unsigned_abs x < 2 ^ 62 → to_z w64 (of_z w64 x) ≡ x
stays x near = omega (arith, ints)

pub invariant_of-result : goal.invariant_of-result
invariant_of-result c =
    let rows = c.in_ok-rows.ensures.items_if_clones_equal (λ y e. e) in
    let seats = c.in_ok-seats.ensures.items_if_clones_equal (λ y e. e) in
    let bounds = c.in_ok-bounds.ensures.items_if_clones_equal (λ y e. e) in
    let start = stays c.objective_start-start.result c.objective_start-start.ensures.near ∙ c.objective_start-start.ensures.value in
    begins_whole c.args.model.now c.args.actors c.args.rows c.in_ok-rows.rows.items c.in_ok-seats.seats.items c.in_ok-bounds.bounds.items _ rows seats bounds start (subst IsValid c.model.ensures.same c.model.ensures.valid) c.requires.1 (omega arith)

pub returns-clause-first : goal.returns-clause-first
returns-clause-first c =
    let rows = c.in_ok-rows.ensures.items_if_clones_equal (λ y e. e) in
    let seats = c.in_ok-seats.ensures.items_if_clones_equal (λ y e. e) in
    let bounds = c.in_ok-bounds.ensures.items_if_clones_equal (λ y e. e) in
    let start = stays c.objective_start-start.result c.objective_start-start.ensures.near ∙ c.objective_start-start.ensures.value in
    begins c.args.model.now c.args.actors c.args.rows c.in_ok-rows.rows.items c.in_ok-seats.seats.items c.in_ok-bounds.bounds.items _ rows seats bounds start

pub returns-clause-sound : goal.returns-clause-sound
returns-clause-sound c =
    let rows = c.in_ok-rows.ensures.items_if_clones_equal (λ y e. e) in
    let seats = c.in_ok-seats.ensures.items_if_clones_equal (λ y e. e) in
    let bounds = c.in_ok-bounds.ensures.items_if_clones_equal (λ y e. e) in
    let start = stays c.objective_start-start.result c.objective_start-start.ensures.near ∙ c.objective_start-start.ensures.value in
    let whole = begins_whole c.args.model.now c.args.actors c.args.rows c.in_ok-rows.rows.items c.in_ok-seats.seats.items c.in_ok-bounds.bounds.items _ rows seats bounds start (subst IsValid c.model.ensures.same c.model.ensures.valid) c.requires.1 (omega arith) in
    sound_of _ whole.kept

pub returns-clause-lasting : goal.returns-clause-lasting
returns-clause-lasting c =
    let rows = c.in_ok-rows.ensures.items_if_clones_equal (λ y e. e) in
    let seats = c.in_ok-seats.ensures.items_if_clones_equal (λ y e. e) in
    let bounds = c.in_ok-bounds.ensures.items_if_clones_equal (λ y e. e) in
    let start = stays c.objective_start-start.result c.objective_start-start.ensures.near ∙ c.objective_start-start.ensures.value in
    let whole = begins_whole c.args.model.now c.args.actors c.args.rows c.in_ok-rows.rows.items c.in_ok-seats.seats.items c.in_ok-bounds.bounds.items _ rows seats bounds start (subst IsValid c.model.ensures.same c.model.ensures.valid) c.requires.1 (omega arith) in
    stays_sound _ whole.kept
