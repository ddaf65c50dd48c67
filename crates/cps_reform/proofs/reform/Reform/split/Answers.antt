-- Where the core can be split it is, and else no value is within the limit.
use Rattle.std.proofs.Common.{ℕ, ℤ, pos, ◌+ℤ◌, ◌≤ℤ◌, map, w64, refl, subst, sym, arith}
use Rattle.std.proofs.lemmas.List.{length-map}
use Rattle.std.proofs.lemmas.Int.{to_z-of_z}
use Rattle.cps_domain.specs.Window.{intervals}
use Rattle.cps_reform.specs.Cores.{least_weight}
use Rattle.cps_reform.proofs.Rooms.{roomy-split, worth-split, above-split, none-split, core-small, weigh-least, least-some}
use Rattle.cps_reform.specs.Forms.{Form}
use Rattle.cps_reform.proofs.Words.{yes_not_no}
use Rattle.cps_reform.proofs.reform.Reform.split.Goals as goal

pub share-requires-clause-small : goal.share-requires-clause-small
share-requires-clause-small c = core-small (map intervals c.args.domains.now) c.args.self.now c.requires.roomy c.requires.weights

pub returns-in_ok-apply_split-in-Some-clause-roomy :
    goal.returns-in_ok-apply_split-in-Some-clause-roomy
returns-in_ok-apply_split-in-Some-clause-roomy c =
    let f = c.args.self.now in
    let high = c.in-Some.ensures.some.high in
    rw c.in_ok-apply_split-in-Some.ensures.splits (roomy-split (map intervals c.args.domains.now) f (least_weight f.terms) c.args.subject c.requires.roomy (weigh-least f.terms) (least-some f.terms c.requires.weights) (let s = c.requires.subject in let e = length-map c.args.domains.now intervals in omega arith) c.requires.sum (rw (← c.in-Some.ensures.some.bound_is) high))

pub returns-in_ok-apply_split-in-Some-clause-worth :
    goal.returns-in_ok-apply_split-in-Some-clause-worth
returns-in_ok-apply_split-in-Some-clause-worth c = λ xs e. rw c.in_ok-apply_split-in-Some.ensures.splits (worth-split xs c.args.self.now (least_weight c.args.self.now.terms) c.args.subject (weigh-least c.args.self.now.terms) e)

pub returns-in_ok-apply_split-in-Some-clause-above :
    goal.returns-in_ok-apply_split-in-Some-clause-above
returns-in_ok-apply_split-in-Some-clause-above c = λ xs h s e. rw c.in_ok-apply_split-in-Some.ensures.splits (above-split xs c.args.self.now (least_weight c.args.self.now.terms) c.args.subject h s e)

pub returns-in-None-clause-none : goal.returns-in-None-clause-none
returns-in-None-clause-none c = λ r xs h s e g. (let fl = c.ranges.limit in none-split (map intervals c.args.domains.now) xs c.args.self.now c.args.subject c.args.limit (rw (← to_z-of_z w64 c.args.limit fl) (c.in-None.ensures.none refl)) h s e g)

pub returns-in_ok-apply_split-in-Some-clause-none : goal.returns-in_ok-apply_split-in-Some-clause-none
returns-in_ok-apply_split-in-Some-clause-none c =
    λ is. yes_not_no _ is

pub returns-in_ok-apply_split-in-Some-clause-within : goal.returns-in_ok-apply_split-in-Some-clause-within
returns-in_ok-apply_split-in-Some-clause-within c =
    let f = c.args.self.now in
    let some = c.in-Some.ensures.some in
    λ _. subst (λ (g : Form). g.base ≤ℤ c.args.limit) (sym c.in_ok-apply_split-in-Some.ensures.splits)
    (subst (λ (n : ℕ). (f.base +ℤ pos n) ≤ℤ c.args.limit) some.weight_is (subst (λ (v : ℤ). (f.base +ℤ pos c.in-Some.share.weight) ≤ℤ v) (to_z-of_z w64 c.args.limit c.ranges.limit) some.within))
