use Rattle.std.proofs.Common.{◌<ℤ◌, inr, subst, arith, rules, w64, FitsSigned}
use Rattle.std.proofs.lemmas.Int.{ints, to_z-of_z}
use Rattle.cps_instance.specs.Terms.{Domains}
use Rattle.cps_instance.specs.Sums.{extended}
use Rattle.cps_reform.specs.Forms.{FitsTypes}
use Rattle.cps_reform.proofs.Steps.{reform-past, reform-split, reform-bounds, reform-none, below-less, solution-greatest, assigned, split_base}
use Rattle.cps_reform.proofs.Pasts.{not-past, past-split}
use Rattle.cps_reform.proofs.reform.Reform.split_below.Goals as goal

pub returns-then-limit-base-clause-none : goal.returns-then-limit-base-clause-none
returns-then-limit-base-clause-none c = λ r.
    let fl : FitsSigned w64 c.limit-limit.result = search rules in
    let fb : FitsSigned w64 c.base.result = search rules in
    let base = c.base.ensures in
    let test = c.if-limit-base.true in
    reform-past c.args.instance.now c.args.ceiling.z c.args.self.now c.limit-limit.result c.args.ceiling.greatest c.requires.reform c.requires.greatest c.limit-limit.ensures.all (rw (← base) (grind (arith, ints, to_z-of_z)))

-- the domains as the sum's fact has them
pub returns-clause-reform : goal.returns-clause-reform
returns-clause-reform c =
    let roomy : FitsTypes c.args.instance.now.domains c.split.new.self = subst (λ (ds : Domains). FitsTypes ds c.split.new.self) c.domains.ensures.list c.split.ensures.roomy in
    reform-split c.args.instance.now c.args.ceiling.z c.args.self.now c.split.new.self c.args.subject c.requires.reform c.requires.sum roomy c.split.ensures.worth c.split.ensures.above c.requires.core

pub returns-clause-base : goal.returns-clause-base
returns-clause-base c = split_base c.args.self.now c.split.new.self c.args.subject c.limit-limit.result c.args.ceiling.greatest c.split.result c.split.ensures.splits c.split.ensures.stays c.split.ensures.err
    (let fl : FitsSigned w64 c.limit-limit.result = search rules in simp to_z-of_z at c.split.ensures.within) (let most = c.limit-limit.ensures.most in omega (arith, ints)) c.requires.base c.requires.small

pub returns-clause-below : goal.returns-clause-below
returns-clause-below c = λ r.
    let fl : FitsSigned w64 c.limit-limit.result = search rules in
    let within = c.split.ensures.within r in
    below-less c.split.new.self.base c.limit-limit.result c.args.ceiling.z (omega (arith, ints)) c.limit-limit.ensures.below

pub returns-clause-bounds : goal.returns-clause-bounds
returns-clause-bounds c = λ r. reform-bounds c.args.instance.now c.args.ceiling.z c.split.new.self (returns-clause-reform c) (returns-clause-below c r)

pub returns-clause-none : goal.returns-clause-none
returns-clause-none c = λ r.
    let p = c.args.instance.now in
    let f = c.args.self.now in
    let fl : FitsSigned w64 c.limit-limit.result = search rules in
    let none = simp (to_z-of_z, c.domains.ensures.list) at c.split.ensures.none r in
    reform-none p c.args.ceiling.z f c.limit-limit.result c.args.ceiling.greatest c.requires.reform c.requires.greatest c.limit-limit.ensures.all
    (λ a s b. none (extended p.defs a) (c.requires.reform.floor a s b) (c.requires.core a s b) (c.requires.sum.value a (assigned p a s)) (solution-greatest p a c.args.subject c.domains.ensures.sound s c.requires.sum.within))

pub returns-then-limit-base-clause-past : goal.returns-then-limit-base-clause-past
returns-then-limit-base-clause-past c = λ r.
    let fl : FitsSigned w64 c.limit-limit.result = search rules in
    let fb : FitsSigned w64 c.base.result = search rules in
    let base = c.base.ensures in
    let test = c.if-limit-base.true in
    let low : c.limit-limit.result <ℤ c.args.self.now.base = rw (← base) (grind (arith, ints, to_z-of_z)) in
    past-split c.args.ceiling.z c.args.ceiling.greatest c.limit-limit.result c.args.instance.now.domains c.args.self.now c.args.subject c.limit-limit.ensures.all (inr (omega (arith, ints, low)))

pub returns-clause-past : goal.returns-clause-past
returns-clause-past c = λ r.
    let fl : FitsSigned w64 c.limit-limit.result = search rules in
    let past = simp (to_z-of_z, c.domains.ensures.list) at c.split.ensures.past r in
    past-split c.args.ceiling.z c.args.ceiling.greatest c.limit-limit.result c.args.instance.now.domains c.args.self.now c.args.subject c.limit-limit.ensures.all past

pub returns-clause-not_past : goal.returns-clause-not_past
returns-clause-not_past c = λ r.
    let fl : FitsSigned w64 c.limit-limit.result = search rules in
    let within = c.split.ensures.within r in
    let most = c.limit-limit.ensures.most in
    not-past c.args.ceiling.z c.args.ceiling.greatest c.args.instance.now.domains c.split.new.self (returns-clause-reform c).roomy (returns-clause-below c r) (omega (arith, ints))
