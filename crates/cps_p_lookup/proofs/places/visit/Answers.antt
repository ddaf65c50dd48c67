use Rattle.std.proofs.Common.{◌≡◌, ◌<◌, ◌^◌, ℤ, ℕ, List, pos, true, false, true≢false, sym, ◌∙◌, subst, get_or, rules, arith, FitsSigned, w64}
use Rattle.std.proofs.lemmas.Int.{to_z-of_z, to_z_pos}
use Rattle.cps_domain.specs.Window.{contains}
use Rattle.cps_instance.specs.declared.task.Body.TheVariants.{Element}
use Rattle.cps_trail.specs.Trail.{IsAdmitted}
use Rattle.cps_propagate.specs.Now.{IsOpenTo}
use Rattle.cps_propagate.specs.Lookups.{IsOpenPlace}
use Rattle.cps_p_lookup.specs.Elements.{IsChosen}
use Rattle.cps_p_lookup.proofs.Placing.{more_given, apart_not, visited_none, off_given, here_seen}
use Rattle.cps_p_lookup.proofs.Opening.{open_place, last_more}
use Rattle.cps_p_lookup.proofs.Resting.{nothing_found, one_found, true_off}
use Rattle.cps_p_lookup.proofs.places.visit.Goals as goal
use Rattle.cps_p_lookup.proofs.places.visit.Goals.{In_ok-push}

small : (k : ℕ) → k < 2 ^ 62 → k < 2 ^ 63
small k l = omega arith

pub returns-then-can_meet-clause-visited : goal.returns-then-can_meet-clause-visited
returns-then-can_meet-clause-visited c =
    let s = c.args.store.now in
    let k = c.args.place in
    let a = c.min.result in
    let b = c.max.result in
    let fa : FitsSigned w64 a = search rules in
    let fb : FitsSigned w64 b = search rules in
    let at = to_z_pos w64 k (small k c.requires.small) in
    let has : contains c.domain-index.result.now (pos k) ≡ true = rw at at (sym c.if-not-contains.ensures) in
    let d = c.widened.ensures in
    record {
      wider = d.wider;
      here = here_seen s c.args.lookup.now.index c.args.lookup.now.target c.args.lookup.now.exprs.now k c.domain-expr.result.now a b _ _ c.widened.result c.requires.place c.requires.fits c.domain-expr.ensures
          c.min.ensures.least c.max.ensures.greatest (to_z-of_z w64 a fa) (to_z-of_z w64 b fb) d.here;
      last = last_more s c.args.lookup.now.index c.args.lookup.now.target c.args.lookup.now.exprs.now k a b _ _ c.args.scan c.widened.result
          (open_place s c.args.lookup.now.index c.args.lookup.now.target c.args.lookup.now.exprs.now k c.domain-index.result.now c.domain-expr.result.now c.domain.result.now c.requires.place
          c.domain-index.ensures c.domain-expr.ensures c.domain.ensures has (c.can_meet.ensures.meet c.if-can_meet.true))
          (sym (c.domain-expr.ensures a) ∙ c.min.ensures.within) (sym (c.domain-expr.ensures b) ∙ c.max.ensures.within) (to_z-of_z w64 a fa) (to_z-of_z w64 b fb)
          d.last d.several d.least d.greatest;
    }

pub returns-then-can_meet-clause-rests : goal.returns-then-can_meet-clause-rests
returns-then-can_meet-clause-rests c =
    let s = c.args.store.now in
    let k = c.args.place in
    let i = c.args.lookup.now.index in
    let t = c.args.lookup.now.target in
    let es = c.args.lookup.now.exprs.now in
    let at = to_z_pos w64 k (small k c.requires.small) in
    let has : contains c.domain-index.result.now (pos k) ≡ true = rw at at (sym c.if-not-contains.ensures) in
    nothing_found s (IsOpenTo s i (pos k) → IsOpenPlace s i t es k) c.args.found.now.items
    (λ _. open_place s i t es k c.domain-index.result.now c.domain-expr.result.now c.domain.result.now c.requires.place c.domain-index.ensures c.domain-expr.ensures c.domain.ensures has (c.can_meet.ensures.meet c.if-can_meet.true))

pub returns-then-not-contains-clause-visited : goal.returns-then-not-contains-clause-visited
returns-then-not-contains-clause-visited c =
    let k = c.args.place in
    let no : contains c.domain-index.result.now (pos k) ≡ false = rw (to_z_pos w64 k (small k c.requires.small)) at (sym c.if-not-contains.ensures) in
    visited_none c.args.store.now c.args.lookup.now.index c.args.lookup.now.target c.args.lookup.now.exprs.now k c.args.scan
    (λ xs a h. true≢false (sym (c.domain-index.ensures (pos k) ∙ subst (λ (v : ℤ). IsOpenTo c.args.store.now c.args.lookup.now.index v) h.index (a c.args.lookup.now.index c.requires.fits.index)) ∙ no))

pub returns-then-not-contains-clause-rests : goal.returns-then-not-contains-clause-rests
returns-then-not-contains-clause-rests c =
    let s = c.args.store.now in
    let k = c.args.place in
    let i = c.args.lookup.now.index in
    let no : contains c.domain-index.result.now (pos k) ≡ false = rw (to_z_pos w64 k (small k c.requires.small)) at (sym c.if-not-contains.ensures) in
    nothing_found s (IsOpenTo s i (pos k) → IsOpenPlace s i c.args.lookup.now.target c.args.lookup.now.exprs.now k) c.args.found.now.items
    (λ o. absurd (true≢false (sym (c.domain-index.ensures (pos k) ∙ o) ∙ no)))

closed : (c : In_ok-push) (xs : List ℤ) → IsAdmitted c.args.store.now.first c.args.store.now.entries xs → IsChosen c.args.lookup.now.index c.args.lookup.now.target (get_or c.args.lookup.now.exprs.now c.args.place 0) c.args.place xs → ⊥
closed c = apart_not c.args.store.now c.args.lookup.now.index c.args.lookup.now.target c.args.lookup.now.exprs.now c.args.place c.domain-expr.result.now c.domain.result.now c.requires.place c.requires.fits c.domain-expr.ensures c.domain.ensures
    (c.can_meet.ensures.apart c.if-can_meet.false)

pub returns-clause-given : goal.returns-clause-given
returns-clause-given c =
    let s = c.args.store.now in
    let k = c.args.place in
    let i = c.args.lookup.now.index in
    let t = c.args.lookup.now.target in
    let es = c.args.lookup.now.exprs.now in
    more_given (Element i t es) s c.args.found.now.items c.push.new.self.items (record { target = c.atom-target.result; hint = record { a = pos 0; b = pos 0 } }) c.in_ok-push.ensures.items
    (off_given s i t es k c.atom-target.result (rw (to_z_pos w64 k (small k c.requires.small)) at c.atom-target.ensures) c.requires.fits (closed c)) c.requires.given

pub returns-clause-rests : goal.returns-clause-rests
returns-clause-rests c =
    let s = c.args.store.now in
    let k = c.args.place in
    let i = c.args.lookup.now.index in
    one_found s (IsOpenTo s i (pos k) → IsOpenPlace s i c.args.lookup.now.target c.args.lookup.now.exprs.now k) c.args.found.now.items c.push.new.self.items (record { target = c.atom-target.result; hint = record { a = pos 0; b = pos 0 } }) c.in_ok-push.ensures.items
    (λ h o. absurd (true_off s i (pos k) c.atom-target.result (rw (to_z_pos w64 k (small k c.requires.small)) at c.atom-target.ensures) h o))

pub returns-clause-visited : goal.returns-clause-visited
returns-clause-visited c = visited_none c.args.store.now c.args.lookup.now.index c.args.lookup.now.target c.args.lookup.now.exprs.now c.args.place c.args.scan (closed c)
