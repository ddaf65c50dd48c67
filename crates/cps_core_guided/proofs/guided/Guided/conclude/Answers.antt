-- What is raised to is the new base or z, and both are lower bounds.
use Rattle.std.proofs.Common.{◌≡◌, ◌∙◌, ◌<◌, ◌^◌, ℤ, true, true≢false, Option, ap, of_z, refl, subst, sym, to_z, unsigned_abs, w64}
use Rattle.cps_model.specs.declared.bound.Bound.{Bound}
use Rattle.cps_model.specs.declared.bound.Bound.TheVariants.{At}
use Rattle.cps_model.specs.declared.model.CpModel.{CpModel}
use Rattle.cps_port.specs.Order.{IsSmallBound, raised_to}
use Rattle.cps_port.specs.Incumbents.{IsLowerBound}
use Rattle.cps_search.specs.declared.turn.Turn.TheVariants.{Reformed}
use Rattle.cps_search.specs.Stepping.{Raises}
use Rattle.cps_search.proofs.ConflictLessons.{lower_bound_of}
use Rattle.cps_core_guided.specs.Guiding.{core_search_of}
use Rattle.cps_core_guided.specs.Reforming.{IsSoundCore}
use Rattle.cps_core_guided.proofs.FailedTerms.{raises-to}
use Rattle.cps_core_guided.proofs.CoreSoundness.{sound-ended, sound-raised}
use Rattle.cps_core_guided.proofs.Reforms.{read_back, z-small}
use Rattle.cps_core_guided.proofs.guided.Guided.conclude.Goals as goal

pub raise-requires-clause-bound : goal.raise-requires-clause-bound
raise-requires-clause-bound g c =
    let s = core_search_of c.args.self.now in
    let read : to_z w64 (of_z w64 c.base-base.result) ≡ s.form.base = ap (λ (v : ℤ). to_z w64 (of_z w64 v)) c.base-base.ensures ∙ read_back s.form.base c.requires.sound.base in
    subst (λ (m : CpModel). IsLowerBound m (At (to_z w64 (of_z w64 c.base-base.result)))) (sym c.requires.model)
    (subst (λ (v : ℤ). IsLowerBound s.search.instance.model (At v)) (sym read) (c.requires.base c.if-is_reformed.true))

pub raise-requires-clause-small : goal.raise-requires-clause-small
raise-requires-clause-small g c =
    let s = core_search_of c.args.self.now in
    let read : to_z w64 (of_z w64 c.base-base.result) ≡ s.form.base = ap (λ (v : ℤ). to_z w64 (of_z w64 v)) c.base-base.ensures ∙ read_back s.form.base c.requires.sound.base in
    subst (λ (v : ℤ). unsigned_abs v < 2 ^ 62) (sym read) c.requires.sound.base

pub raise-requires-2-clause-bound : goal.raise-requires-2-clause-bound
raise-requires-2-clause-bound g c =
    let s = c.args.self.now.frame in
    subst (λ (m : CpModel). IsLowerBound m c.z-z.result) (sym c.requires.model)
    (subst (λ (z : Bound). IsLowerBound s.instance.model z) (sym c.z-z.ensures) (lower_bound_of s.instance.model s.z (c.requires.none c.if-is_reformed.false)))

pub raise-requires-2-clause-small : goal.raise-requires-2-clause-small
raise-requires-2-clause-small g c = subst (λ (z : Bound). IsSmallBound z) (sym c.z-z.ensures) (z-small c.args.self.now.frame c.requires.sound.search)

pub returns-then-is_reformed-clause-keeps : goal.returns-then-is_reformed-clause-keeps
returns-then-is_reformed-clause-keeps g c = c.raise.ensures.keeps

pub returns-then-is_reformed-clause-reformed : goal.returns-then-is_reformed-clause-reformed
returns-then-is_reformed-clause-reformed g c =
    let s = core_search_of c.args.self.now in
    let p = g.Q.Port.part c.args.port.now in
    let q = g.Q.Port.part c.raise.new.port in
    let read : to_z w64 (of_z w64 c.base-base.result) ≡ s.form.base = ap (λ (v : ℤ). to_z w64 (of_z w64 v)) c.base-base.ensures ∙ read_back s.form.base c.requires.sound.base in
    λ _. (
      ap (λ (v : ℤ). Reformed v) read,
      raises-to s c.raise.new.raised s.ended s.core p q (At s.form.base) (subst (λ (v : ℤ). Raises (At v) p.bounds q.bounds) read c.raise.ensures.bounds) c.raise.ensures.board (c.raise.ensures.raised ∙ ap (λ (v : ℤ). raised_to s.raised (At v)) read),
      refl,
    )

pub returns-then-is_reformed-clause-exhausted : goal.returns-then-is_reformed-clause-exhausted
returns-then-is_reformed-clause-exhausted g c = λ off. absurd (true≢false (sym c.if-is_reformed.true ∙ off))

pub returns-then-is_reformed-clause-rest : goal.returns-then-is_reformed-clause-rest
returns-then-is_reformed-clause-rest g c = refl

pub returns-then-is_reformed-clause-sound : goal.returns-then-is_reformed-clause-sound
returns-then-is_reformed-clause-sound g c =
    let s = core_search_of c.args.self.now in
    let read : to_z w64 (of_z w64 c.base-base.result) ≡ s.form.base = ap (λ (v : ℤ). to_z w64 (of_z w64 v)) c.base-base.ensures ∙ read_back s.form.base c.requires.sound.base in
    subst (λ (r : Option Bound). IsSoundCore (record s { raised = r })) (sym (c.raise.ensures.raised ∙ ap (λ (v : ℤ). raised_to s.raised (At v)) read))
    (sound-raised s (At s.form.base) c.requires.sound (c.requires.base c.if-is_reformed.true))

pub returns-clause-keeps : goal.returns-clause-keeps
returns-clause-keeps g c = c.raise-2.ensures.keeps

pub returns-clause-reformed : goal.returns-clause-reformed
returns-clause-reformed g c = λ on. absurd (true≢false (sym on ∙ c.if-is_reformed.false))

pub returns-clause-exhausted : goal.returns-clause-exhausted
returns-clause-exhausted g c =
    let s = core_search_of c.args.self.now in
    let p = g.Q.Port.part c.args.port.now in
    let q = g.Q.Port.part c.raise-2.new.port in
    λ _. (
      refl,
      raises-to s c.raise-2.new.raised true c.args.core p q s.search.z (subst (λ (z : Bound). Raises z p.bounds q.bounds) c.z-z.ensures c.raise-2.ensures.bounds) c.raise-2.ensures.board (c.raise-2.ensures.raised ∙ ap (λ (z : Bound). raised_to s.raised z) c.z-z.ensures),
      refl,
      refl,
    )

pub returns-clause-rest : goal.returns-clause-rest
returns-clause-rest g c = refl

pub returns-clause-sound : goal.returns-clause-sound
returns-clause-sound g c =
    let s = core_search_of c.args.self.now in
    let none = c.requires.none c.if-is_reformed.false in
    let lower = subst (λ (z : Bound). IsLowerBound s.search.instance.model z) (sym c.z-z.ensures) (lower_bound_of s.search.instance.model s.search.z none) in
    subst (λ (r : Option Bound). IsSoundCore (record s { raised = r; ended = true; core = c.args.core })) (sym c.raise-2.ensures.raised)
    (sound-ended (record s { raised = raised_to s.raised c.z-z.result }) c.args.core (sound-raised s c.z-z.result c.requires.sound lower) none c.requires.core)
