use Rattle.std.proofs.Common.{◌≡◌, ◌∙◌, ◌<◌, ◌^◌, ℕ, ℤ, [], ◌∷◌, ap, sym, subst, arith, to_z, of_z, w64, unsigned_abs}
use Rattle.std.proofs.lemmas.Int.{ints}
use Rattle.atomic_table.specs.Table.{opening}
use Rattle.cps_model.specs.declared.bound.Bound.TheVariants.{At}
use Rattle.cps_model.specs.Start.{objective_start}
use Rattle.cps_model.specs.Validity.{IsValid}
use Rattle.cps_model.proofs.Start.{objective_start-small}
use Rattle.cps_port.specs.Words.{top, word_of}
use Rattle.cps_port.proofs.InOrder.{has_word_at}
use Rattle.cps_port.proofs.SoundShared.{start_floor}
use Rattle.cps_bounds.specs.Rule.{KeptWords, first_view}
use Rattle.cps_bounds.proofs.Keeps.{opens}
use Rattle.cps_bounds.proofs.seats.Bounds.new.Goals as goal

stays : (x : ℤ) → unsigned_abs x < 2 ^ 62 → to_z w64 (of_z w64 x) ≡ x
stays x near = omega (arith, ints)

pub of_words-requires : goal.of_words-requires
of_words-requires c =
    let m = c.args.model.now in
    let valid : IsValid m = subst IsValid c.model.ensures.same c.model.ensures.valid in
    let word : c.word_of.result ≡ word_of (At (objective_start m)) =
    c.word_of.ensures ∙ ap (λ (z : ℤ). word_of (At z)) (stays c.objective_start.result c.objective_start.ensures.near ∙ c.objective_start.ensures.value) in
    subst (λ (k : ℕ). KeptWords {S = Unit {0}} m (opening (top ∷ k ∷ []) [] (first_view m))) (sym word) (opens m [] (start_floor m valid) (has_word_at (objective_start m) (objective_start-small m valid)))
