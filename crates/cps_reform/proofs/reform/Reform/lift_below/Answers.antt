use Rattle.std.proofs.Common.{◌≡◌, ◌≤ℤ◌, ◌<ℤ◌, inl, inr, subst, arith, rules, w64, FitsSigned}
use Rattle.std.proofs.lemmas.Int.{ints, to_z-of_z}
use Rattle.cps_instance.specs.Terms.{Domains}
use Rattle.cps_instance.specs.Sums.{extended}
use Rattle.cps_reform.specs.Forms.{FitsTypes, lifted, term_at}
use Rattle.cps_reform.proofs.Steps.{bool_cases, reform-past, reform-lifted, reform-bounds, reform-none, below-less, base-lifted, base-small, solution-greatest, roomy-subject}
use Rattle.cps_reform.proofs.Pasts.{not-past, past-lifted}
use Rattle.cps_reform.proofs.reform.Reform.lift_below.Goals as goal

pub returns-then-limit-base-clause-none : goal.returns-then-limit-base-clause-none
returns-then-limit-base-clause-none c = λ r.
    let fl : FitsSigned w64 c.limit-limit.result = search rules in
    let fb : FitsSigned w64 c.base.result = search rules in
    let base = c.base.ensures in
    let test = c.if-limit-base.true in
    reform-past c.args.instance.now c.args.ceiling.z c.args.self.now c.limit-limit.result c.args.ceiling.greatest c.requires.reform c.requires.greatest c.limit-limit.ensures.all (rw (← base) (grind (arith, ints, to_z-of_z)))

pub returns-clause-reform : goal.returns-clause-reform
returns-clause-reform c =
    let fb = c.ranges.bound in
    let roomy : FitsTypes c.args.instance.now.domains c.lift.new.self = subst (λ (ds : Domains). FitsTypes ds c.lift.new.self) c.domains.ensures.list c.lift.ensures.roomy in
    let above = simp to_z-of_z at c.lift.ensures.above in
    reform-lifted c.args.instance.now c.args.ceiling.z c.args.self.now c.lift.new.self c.args.place c.args.bound c.requires.reform roomy c.lift.ensures.worth above c.requires.risen

pub returns-clause-lifts : goal.returns-clause-lifts
returns-clause-lifts c = λ r. (let fb = c.ranges.bound in rw (← to_z-of_z w64 c.args.bound fb) (c.lift.ensures.lifts r))

pub returns-clause-base : goal.returns-clause-base
returns-clause-base c = elim (bool_cases c.lift.result) [
  | inl on ↦ (
      let fb = c.ranges.bound in
      let fl : FitsSigned w64 c.limit-limit.result = search rules in
      let is : c.lift.new.self ≡ lifted c.args.self.now c.args.place c.args.bound = rw (← to_z-of_z w64 c.args.bound fb) (c.lift.ensures.lifts on) in
      let up : c.args.self.now.base ≤ℤ c.lift.new.self.base = rw is (base-lifted c.args.self.now c.args.place c.args.bound c.requires.rises) in
      let within = c.lift.ensures.within on in
      let most = c.limit-limit.ensures.most in
      base-small c.args.self.now.base c.lift.new.self.base c.limit-limit.result c.args.ceiling.greatest up (omega (arith, ints)) (omega (arith, ints)) c.requires.base c.requires.small)
  | inr off ↦ rw (c.lift.ensures.stays off) c.requires.base
]

pub returns-clause-below : goal.returns-clause-below
returns-clause-below c = λ r.
    let fl : FitsSigned w64 c.limit-limit.result = search rules in
    let within = c.lift.ensures.within r in
    below-less c.lift.new.self.base c.limit-limit.result c.args.ceiling.z (omega (arith, ints)) c.limit-limit.ensures.below

pub returns-clause-bounds : goal.returns-clause-bounds
returns-clause-bounds c = λ r. reform-bounds c.args.instance.now c.args.ceiling.z c.lift.new.self (returns-clause-reform c) (returns-clause-below c r)

pub returns-clause-none : goal.returns-clause-none
returns-clause-none c = λ r.
    let p = c.args.instance.now in
    let f = c.args.self.now in
    let fb = c.ranges.bound in
    let fl : FitsSigned w64 c.limit-limit.result = search rules in
    let none = simp (to_z-of_z, c.domains.ensures.list) at c.lift.ensures.none r in
    reform-none p c.args.ceiling.z f c.limit-limit.result c.args.ceiling.greatest c.requires.reform c.requires.greatest c.limit-limit.ensures.all
    (λ a s b. none (extended p.defs a) (c.requires.reform.floor a s b) (c.requires.risen a s b) (solution-greatest p a (term_at f.terms c.args.place).subject c.domains.ensures.sound s (roomy-subject p f c.args.place c.requires.reform.roomy c.requires.place)))

pub returns-then-limit-base-clause-past : goal.returns-then-limit-base-clause-past
returns-then-limit-base-clause-past c = λ r.
    let fl : FitsSigned w64 c.limit-limit.result = search rules in
    let fb : FitsSigned w64 c.base.result = search rules in
    let fv = c.ranges.bound in
    let base = c.base.ensures in
    let test = c.if-limit-base.true in
    let low : c.limit-limit.result <ℤ c.args.self.now.base = rw (← base) (grind (arith, ints, to_z-of_z)) in
    let up = base-lifted c.args.self.now c.args.place c.args.bound c.requires.rises in
    past-lifted c.args.ceiling.z c.args.ceiling.greatest c.limit-limit.result c.args.instance.now.domains c.args.self.now c.args.place c.args.bound c.limit-limit.ensures.all c.requires.place (inr (omega (arith, ints, low, up)))

pub returns-clause-past : goal.returns-clause-past
returns-clause-past c = λ r.
    let fb = c.ranges.bound in
    let fl : FitsSigned w64 c.limit-limit.result = search rules in
    let past = simp (to_z-of_z, c.domains.ensures.list) at c.lift.ensures.past r in
    past-lifted c.args.ceiling.z c.args.ceiling.greatest c.limit-limit.result c.args.instance.now.domains c.args.self.now c.args.place c.args.bound c.limit-limit.ensures.all c.requires.place past

pub returns-clause-not_past : goal.returns-clause-not_past
returns-clause-not_past c = λ r.
    let fl : FitsSigned w64 c.limit-limit.result = search rules in
    let within = c.lift.ensures.within r in
    let most = c.limit-limit.ensures.most in
    not-past c.args.ceiling.z c.args.ceiling.greatest c.args.instance.now.domains c.lift.new.self (returns-clause-reform c).roomy (returns-clause-below c r) (omega (arith, ints))
