-- Where the bound can rise it does, and else no value is within the limit.
use Rattle.std.proofs.Common.{◌≡◌, ◌≤ℤ◌, ℕ, map, refl, ap, ◌∙◌, arith, true≢false, ℤ, pos, ◌+ℤ◌, subst, sym, w64}
use Rattle.std.proofs.lemmas.Int.{ints, to_z-of_z}
use Rattle.cps_domain.specs.Window.{intervals}
use Rattle.cps_instance.specs.Terms.{domain_at, greatest_of}
use Rattle.cps_reform.specs.Forms.{Form, term_at, lifted}
use Rattle.cps_reform.proofs.Rooms.{roomy-lifted, worth-lifted, above-lifted, none-lifted}
use Rattle.cps_reform.proofs.reform.Reform.lift.Goals as goal

-- the bound as it was passed on
same : (f : Form) (i : ℕ) (b c : ℤ) → c ≡ b → lifted f i c ≡ lifted f i b
same f i b c e = ap (λ (v : ℤ). lifted f i v) e

pub returns-in-Some-clause-roomy : goal.returns-in-Some-clause-roomy
returns-in-Some-clause-roomy c =
    let f = c.args.self.now in
    let i = c.args.place in
    let b = c.args.bound in
    let fits = c.ranges.bound in
    let past = c.in-Some.ensures.some.high in
    let high : b ≤ℤ greatest_of (domain_at (map intervals c.args.domains.now) (term_at f.terms i).subject) = omega (arith, ints) in
    let e : c.apply_lift.new.self ≡ lifted f i b = c.apply_lift.ensures ∙ same f i b _ (to_z-of_z w64 b fits) in
    rw e (roomy-lifted (map intervals c.args.domains.now) f i b c.requires.roomy c.requires.place c.requires.rises high)

pub returns-in-Some-clause-worth : goal.returns-in-Some-clause-worth
returns-in-Some-clause-worth c = λ xs.
    let f = c.args.self.now in
    let e : c.apply_lift.new.self ≡ lifted f c.args.place c.args.bound = c.apply_lift.ensures ∙ same f c.args.place c.args.bound _ (to_z-of_z w64 c.args.bound c.ranges.bound) in
    rw e (worth-lifted xs f c.args.place c.args.bound c.requires.place)

pub returns-in-Some-clause-above : goal.returns-in-Some-clause-above
returns-in-Some-clause-above c = λ xs h v.
    let f = c.args.self.now in
    let e : c.apply_lift.new.self ≡ lifted f c.args.place c.args.bound = c.apply_lift.ensures ∙ same f c.args.place c.args.bound _ (to_z-of_z w64 c.args.bound c.ranges.bound) in
    rw e (above-lifted xs f c.args.place c.args.bound h v)

pub returns-in-None-clause-none : goal.returns-in-None-clause-none
returns-in-None-clause-none c = λ r xs h v g.
    let fb = c.ranges.bound in
    let fl = c.ranges.limit in
    none-lifted (map intervals c.args.domains.now) xs c.args.self.now c.args.place c.args.bound c.args.limit c.requires.place (rw (← to_z-of_z w64 c.args.bound fb, ← to_z-of_z w64 c.args.limit fl) (c.in-None.ensures.none refl)) h v g

pub returns-in-Some-clause-none : goal.returns-in-Some-clause-none
returns-in-Some-clause-none c =
    λ off. absurd (true≢false off)

pub returns-in-Some-clause-within : goal.returns-in-Some-clause-within
returns-in-Some-clause-within c =
    let f = c.args.self.now in
    let some = c.in-Some.ensures.some in
    λ _. subst (λ (g : Form). g.base ≤ℤ c.args.limit) (sym c.apply_lift.ensures)
    (subst (λ (x : ℤ). (f.base +ℤ x) ≤ℤ c.args.limit) some.is (subst (λ (v : ℤ). (f.base +ℤ pos c.in-Some.amount) ≤ℤ v) (to_z-of_z w64 c.args.limit c.ranges.limit) some.within))
