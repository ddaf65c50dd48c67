-- What the form is lifted by is read of the frame and of the worker.
use Rattle.std.proofs.Common.{◌∙◌, ◌<◌, ◌^◌, ℤ, ◌≤ℤ◌, ap, of_z, sym, subst, to_z, unsigned_abs, w64}
use mir.Facts.{to_z-of_z}
use Rattle.cps_model.specs.declared.bound.Bound.{Bound}
use Rattle.cps_instance.specs.Problem.{Problem}
use Rattle.cps_literal.specs.Truth.{value_at}
use Rattle.cps_port.specs.Order.{IsSmallBound}
use Rattle.cps_search.specs.Searches.{NoneBelow}
use Rattle.cps_reform.specs.Floors.{IsFormPast, IsGreatestObjective, IsReform, NoneIsBelow, OfEachBelow}
use Rattle.cps_reform.specs.Forms.{Form, lifted, term_at}
use Rattle.cps_trail.specs.Trail.{Trail, IsSoundTrail}
use Rattle.cps_core_guided.specs.Guiding.{core_search_of}
use Rattle.cps_core_guided.proofs.CoreSoundness.{sound-form}
use Rattle.cps_core_guided.proofs.Reforms.{most-greatest, read-greatest, same-past, small-greatest, z-small}
use Rattle.cps_core_guided.proofs.guided.Guided.lift.Goals as goal

pub lift_below-requires-clause-reform : goal.lift_below-requires-clause-reform
lift_below-requires-clause-reform g c =
    let s = core_search_of c.args.self.now in
    subst (λ (p : Problem). IsReform p c.z.result s.form) (sym c.instance.ensures) (subst (λ (z : Bound). IsReform s.search.instance z s.form) (sym c.z.ensures) c.requires.sound.form)

pub lift_below-requires-clause-rises : goal.lift_below-requires-clause-rises
lift_below-requires-clause-rises g c = subst (λ (b : ℤ). (term_at c.args.self.now.reform.terms c.args.place).bound ≤ℤ b) (sym (to_z-of_z c.ranges.bound)) c.requires.rises

pub lift_below-requires-clause-risen : goal.lift_below-requires-clause-risen
lift_below-requires-clause-risen g c =
    let s = core_search_of c.args.self.now in
    let subject = (term_at s.form.terms c.args.place).subject in
    let b = to_z w64 (of_z w64 c.args.bound) in
    subst (λ (p : Problem). OfEachBelow p c.z.result (λ xs. b ≤ℤ value_at xs subject)) (sym c.instance.ensures)
    (subst (λ (z : Bound). OfEachBelow s.search.instance z (λ xs. b ≤ℤ value_at xs subject)) (sym c.z.ensures)
    (subst (λ (v : ℤ). OfEachBelow s.search.instance s.search.z (λ xs. v ≤ℤ value_at xs subject)) (sym (to_z-of_z c.ranges.bound)) c.requires.risen))

pub lift_below-requires-clause-z : goal.lift_below-requires-clause-z
lift_below-requires-clause-z g c = subst (λ (z : Bound). IsSmallBound z) (sym c.z.ensures) (z-small c.args.self.now.frame c.requires.sound.search)

pub lift_below-requires-clause-greatest : goal.lift_below-requires-clause-greatest
lift_below-requires-clause-greatest g c =
    let s = core_search_of c.args.self.now in
    subst (λ (p : Problem). IsGreatestObjective p.model (to_z w64 (of_z w64 s.greatest))) (sym c.instance.ensures)
    (subst (λ (v : ℤ). IsGreatestObjective s.search.instance.model v) (sym (read-greatest s c.requires.sound)) (most-greatest s c.requires.sound))

pub lift_below-requires-clause-small : goal.lift_below-requires-clause-small
lift_below-requires-clause-small g c =
    let s = core_search_of c.args.self.now in
    subst (λ (v : ℤ). unsigned_abs v < 2 ^ 62) (sym (read-greatest s c.requires.sound)) (small-greatest s c.requires.sound)

pub returns-clause-lifts : goal.returns-clause-lifts
returns-clause-lifts g c =
    let s = core_search_of c.args.self.now in
    λ done. ap (λ (f : Form). record s { form = f }) (c.lift_below.ensures.lifts done ∙ ap (λ (b : ℤ). lifted s.form c.args.place b) (to_z-of_z c.ranges.bound))

pub returns-clause-stays : goal.returns-clause-stays
returns-clause-stays g c =
    let s = core_search_of c.args.self.now in
    λ off. ap (λ (f : Form). record s { form = f }) (c.lift_below.ensures.stays off)

pub returns-clause-not_past : goal.returns-clause-not_past
returns-clause-not_past g c =
    let s = core_search_of c.args.self.now in
    λ done h. c.lift_below.ensures.not_past done
    (same-past s.search.z c.z.result s.greatest (to_z w64 (of_z w64 s.greatest)) s.search.instance c.instance.result.now c.lift_below.new.self (sym c.z.ensures) (sym (read-greatest s c.requires.sound)) (sym c.instance.ensures) h)

pub returns-clause-past : goal.returns-clause-past
returns-clause-past g c =
    let s = core_search_of c.args.self.now in
    λ off. subst (λ (b : ℤ). IsFormPast s.search.z s.greatest s.search.instance.domains (lifted s.form c.args.place b)) (to_z-of_z c.ranges.bound)
    (same-past c.z.result s.search.z (to_z w64 (of_z w64 s.greatest)) s.greatest c.instance.result.now s.search.instance (lifted s.form c.args.place (to_z w64 (of_z w64 c.args.bound))) c.z.ensures (read-greatest s c.requires.sound) c.instance.ensures (c.lift_below.ensures.past off))

pub returns-clause-none : goal.returns-clause-none
returns-clause-none g c =
    let s = core_search_of c.args.self.now in
    λ off. subst (λ (b : Bound). NoneBelow s.search.instance.model b) c.z.ensures (subst (λ (p : Problem). NoneIsBelow p c.z.result) c.instance.ensures (c.lift_below.ensures.none off))

pub returns-clause-sound : goal.returns-clause-sound
returns-clause-sound g c =
    let s = core_search_of c.args.self.now in
    let f : Form = c.lift_below.new.self in
    let reform : IsReform s.search.instance s.search.z f = subst (λ (p : Problem). IsReform p s.search.z f) c.instance.ensures (subst (λ (z : Bound). IsReform c.instance.result.now z f) c.z.ensures c.lift_below.ensures.reform) in
    sound-form s f c.requires.sound reform c.lift_below.ensures.base (subst (λ (x : Trail). IsSoundTrail x) c.store.ensures c.entries.ensures.sound) c.requires.bottom
