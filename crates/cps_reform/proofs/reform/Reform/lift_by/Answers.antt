-- The term is read, and its bound and the base rise within what the domains and the limit leave.
use Rattle.std.proofs.Common.{◌≡◌, ◌<◌, ◌^◌, ◌+ℤ◌, ◌≤ℤ◌, ◌<ℤ◌, ℤ, inr, of_z, subst, sym, to_z, unsigned_abs, w64, FitsSigned, rules, arith, ap, ◌∙◌, length, map}
use Rattle.std.proofs.lemmas.Int.{ints, to_z-of_z}
use Rattle.std.proofs.lemmas.List.{length-map}
use Rattle.cps_domain.specs.Window.{intervals}
use Rattle.cps_instance.specs.Terms.{domain_at, greatest_of}
use Rattle.cps_reform.specs.declared.held.Held.{Held}
use Rattle.cps_reform.specs.Forms.{IsHeldInDomain, term_at}
use Rattle.cps_reform.proofs.Rooms.{all-at, bound-small, new_bound-small, rise-small}
use Rattle.cps_reform.proofs.Words.{amount-is, high-read, over-read, read_small, within-read}
use Rattle.cps_reform.proofs.reform.Reform.lift_by.Goals as goal

pub rise-amount-requires-clause-small : goal.rise-amount-requires-clause-small
rise-amount-requires-clause-small c =
    let t = c.at-term.result in
    let ft : FitsSigned w64 t.bound = search rules in
    let fg : FitsSigned w64 c.greatest_at.result = search rules in
    let e : t ≡ term_at c.args.self.now.terms c.args.place = c.at-term.ensures ∙ ap (λ ts. term_at ts c.args.place) c.terms.ensures in
    let test = c.if-greatest_at-bound.false in
    let fb = c.ranges.bound in
    let high : c.args.bound ≤ℤ greatest_of (domain_at (map intervals c.args.domains.now) t.subject) = rw (← c.greatest_at.ensures) (grind (arith, ints, to_z-of_z)) in
    rw (to_z-of_z w64 t.bound ft, to_z-of_z w64 c.args.bound fb, e)
    (rise-small (map intervals c.args.domains.now) c.args.self.now c.args.place c.args.bound c.requires.roomy c.requires.place c.requires.rises (rw (← e) high))

pub rise-amount-requires-clause-rises : goal.rise-amount-requires-clause-rises
rise-amount-requires-clause-rises c =
    let f = c.args.self.now in
    let e : c.at-term.result ≡ term_at f.terms c.args.place = c.at-term.ensures ∙ ap (λ (ts : _). term_at ts c.args.place) c.terms.ensures in
    subst (λ (t : Held). to_z w64 (of_z w64 t.bound) ≤ℤ to_z w64 (of_z w64 c.args.bound)) (sym e)
    (subst (λ (v : ℤ). v ≤ℤ to_z w64 (of_z w64 c.args.bound)) (sym (read_small (term_at f.terms c.args.place).bound (bound-small (map intervals c.args.domains.now) f c.args.place c.requires.roomy c.requires.place)))
    (subst (λ (v : ℤ). (term_at f.terms c.args.place).bound ≤ℤ v) (sym (to_z-of_z w64 c.args.bound c.ranges.bound)) c.requires.rises))

pub rise-amount-requires-clause-from : goal.rise-amount-requires-clause-from
rise-amount-requires-clause-from c =
    let f = c.args.self.now in
    let e : c.at-term.result ≡ term_at f.terms c.args.place = c.at-term.ensures ∙ ap (λ (ts : _). term_at ts c.args.place) c.terms.ensures in
    let small = bound-small (map intervals c.args.domains.now) f c.args.place c.requires.roomy c.requires.place in
    subst (λ (t : Held). unsigned_abs (to_z w64 (of_z w64 t.bound)) < 2 ^ 62) (sym e) (subst (λ (v : ℤ). unsigned_abs v < 2 ^ 62) (sym (read_small (term_at f.terms c.args.place).bound small)) small)

pub returns-clause-some : goal.returns-clause-some
returns-clause-some c =
    let f = c.args.self.now in
    let e : c.at-term.result ≡ term_at f.terms c.args.place = c.at-term.ensures ∙ ap (λ (ts : _). term_at ts c.args.place) c.terms.ensures in
    let t = c.at-term.result in
    let fg : FitsSigned w64 c.greatest_at.result = search rules in
    let ft : FitsSigned w64 t.bound = search rules in
    record {
      is = amount-is f.terms c.args.place t c.args.bound c.rise-amount.result c.ranges.bound ft e c.rise-amount.ensures.is;
      high = subst (λ (u : Held). c.args.bound ≤ℤ greatest_of (domain_at (map intervals c.args.domains.now) u.subject)) e
          (subst (λ (v : ℤ). c.args.bound ≤ℤ v) c.greatest_at.ensures (high-read c.greatest_at.result c.args.bound fg c.ranges.bound c.if-greatest_at-bound.false));
      within = within-read f.base c.args.limit c.base.result c.room.result c.rise-amount.result c.base.ensures c.requires.base c.ranges.limit c.room.ensures.is c.if-room-amount.false;
      small = c.rise-amount.ensures.small;
    }

pub returns-then-room-amount-clause-none : goal.returns-then-room-amount-clause-none
returns-then-room-amount-clause-none c =
    let f = c.args.self.now in
    let e : c.at-term.result ≡ term_at f.terms c.args.place = c.at-term.ensures ∙ ap (λ (ts : _). term_at ts c.args.place) c.terms.ensures in
    let t = c.at-term.result in
    let ft : FitsSigned w64 t.bound = search rules in
    λ _. inr (subst (λ (x : ℤ). c.args.limit <ℤ (f.base +ℤ x)) (amount-is f.terms c.args.place t c.args.bound c.rise-amount.result c.ranges.bound ft e c.rise-amount.ensures.is)
    (over-read f.base c.args.limit c.base.result c.room.result c.rise-amount.result c.base.ensures c.requires.base c.ranges.limit c.room.ensures.is c.if-room-amount.true))

pub greatest_at-requires : goal.greatest_at-requires
greatest_at-requires c =
    let f = c.args.self.now in
    let e : c.at-term.result ≡ term_at f.terms c.args.place = c.at-term.ensures ∙ ap (λ (ts : _). term_at ts c.args.place) c.terms.ensures in
    let inside = (all-at (IsHeldInDomain (map intervals c.args.domains.now)) f.terms c.args.place c.requires.place c.requires.roomy.terms).subject in
    let size = length-map c.args.domains.now intervals in
    subst (λ (t : Held). t.subject < length c.args.domains.now) (sym e) (omega (arith, inside, size))

pub rise-amount-requires-clause-to : goal.rise-amount-requires-clause-to
rise-amount-requires-clause-to c =
    let f = c.args.self.now in
    let e : c.at-term.result ≡ term_at f.terms c.args.place = c.at-term.ensures ∙ ap (λ (ts : _). term_at ts c.args.place) c.terms.ensures in
    let fg : FitsSigned w64 c.greatest_at.result = search rules in
    let high = subst (λ (t : Held). c.args.bound ≤ℤ greatest_of (domain_at (map intervals c.args.domains.now) t.subject)) e
    (subst (λ (v : ℤ). c.args.bound ≤ℤ v) c.greatest_at.ensures (high-read c.greatest_at.result c.args.bound fg c.ranges.bound c.if-greatest_at-bound.false)) in
    subst (λ (v : ℤ). unsigned_abs v < 2 ^ 62) (sym (to_z-of_z w64 c.args.bound c.ranges.bound)) (new_bound-small (map intervals c.args.domains.now) f c.args.place c.args.bound c.requires.roomy c.requires.place c.requires.rises high)
