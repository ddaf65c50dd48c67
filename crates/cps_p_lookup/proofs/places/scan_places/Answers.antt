use Rattle.std.proofs.Common.{◌∙◌, ap, refl, sym, subst, List, ℤ, pos, arith, rules, FitsSigned, w64}
use Rattle.std.proofs.lemmas.Int.{to_z-of_z}
use Rattle.std.specs.List.{All}
use Rattle.std.proofs.lemmas.List.Elements.{All-nil}
use Rattle.cps_instance.specs.declared.task.Body.TheVariants.{Element}
use Rattle.cps_rule.specs.declared.rule.Narrowing.{Narrowing}
use Rattle.cps_rule.specs.Rules.{IsGiven}
use Rattle.cps_p_lookup.proofs.Placing.{index_low, index_high, seen_more, seen_all}
use Rattle.cps_p_lookup.proofs.Opening.{last_none, last_scanned, places_more, places_all}
use Rattle.cps_p_lookup.specs.Elements.{IsBetween}
use Rattle.cps_p_lookup.specs.Resting.{AreTrue}
use Rattle.cps_p_lookup.proofs.places.scan_places.Goals as goal
use Rattle.cps_p_lookup.proofs.places.scan_places.Goals.{then-places-gt0+in_ok-bound, else-places-gt0}

pub loop-place-init : goal.loop-place-init
loop-place-init c =
    let s = c.args.store.now in
    let i = c.args.lookup.now.index in
    let t = c.args.lookup.now.target in
    let es = c.args.lookup.now.exprs.now in
    let P : Narrowing → Type 0 = λ n. IsGiven (Element i t es) s n.target in
    let none : All (λ (n : Narrowing). IsGiven (Element i t es) s n.target) c.clear.new.self.items = subst (λ (ns : List Narrowing). All (λ (n : Narrowing). IsGiven (Element i t es) s n.target) ns) (sym c.clear.ensures.items) (All-nil (λ (n : Narrowing). IsGiven (Element i t es) s n.target)) in
    record {
      given = elim c.if-places-gt0.branch [
        | then-places-gt0+in_ok-bound w ↦
            (let f : FitsSigned w64 w.last_place.result = search rules in
            subst (λ (ns : List Narrowing). All (λ (n : Narrowing). IsGiven (Element i t es) s n.target) ns) (ap (λ v. v.items) (sym w.found-is))
            (w.in_ok-bound.ensures.at (Element i t es) (index_low s i t es c.requires.fits) (index_high s i t es c.requires.fits _ (to_z-of_z w64 w.last_place.result f ∙ w.last_place.ensures)) none))
        | else-places-gt0 w ↦ subst (λ (ns : List Narrowing). All (λ (n : Narrowing). IsGiven (Element i t es) s n.target) ns) (ap (λ v. v.items) (sym w.found-is)) none
      ];
      seen = λ k a b l. absurd (omega arith);
      last = last_none s i t es c.first_place-from.result (record { «open» = 0; last = 0; least = pos 0; greatest = pos 0 }) refl;
      within = elim c.if-places-gt0.branch [
        | then-places-gt0+in_ok-bound w ↦
            (let f : FitsSigned w64 w.last_place.result = search rules in
            let is = to_z-of_z w64 w.last_place.result f ∙ w.last_place.ensures in
            λ trues some. subst (λ (v : ℤ). IsBetween s i (pos 0) v) is (w.in_ok-bound.ensures.rests.left (subst (λ (ns : List Narrowing). AreTrue s ns) (ap (λ v. v.items) w.found-is) trues)))
        | else-places-gt0 w ↦ (let none = w.if-places-gt0.false in λ trues some. absurd (omega arith))
      ];
      places = λ trues k a l. absurd (omega arith);
    }

pub loop-place-preserved : goal.loop-place-preserved
loop-place-preserved c =
    let s = c.args.store.now in
    let v = c.in_ok-scan.ensures.visited in
    record {
      given = c.in_ok-scan.ensures.given;
      seen = seen_more s c.args.lookup.now.index c.args.lookup.now.target c.args.lookup.now.exprs.now c.first_place-from.result c.loop-place.place c.loop-place.scan c.in_ok-scan.scan c.loop-place.invariant.seen v;
      last = v.last c.loop-place.invariant.last;
      within = λ trues some. c.loop-place.invariant.within (c.in_ok-scan.ensures.rests.before trues) some;
      places = places_more s c.args.lookup.now.index c.args.lookup.now.target c.args.lookup.now.exprs.now c.first_place-from.result c.loop-place.place c.loop-place.found.items _ c.loop-place.invariant.places c.in_ok-scan.ensures.rests;
    }

pub returns-clause-scanned : goal.returns-clause-scanned
returns-clause-scanned c =
    let a = c.min.result in
    let b = c.max.result in
    let fa : FitsSigned w64 a = search rules in
    let fb : FitsSigned w64 b = search rules in
    record {
      seen = seen_all c.args.store.now c.args.lookup.now.index c.args.lookup.now.target c.args.lookup.now.exprs.now c.domain-index.result.now c.loop-place.scan a b _ _ c.first_place-from.result c.end_of_places-to.result c.loop-place.place
          c.requires.fits c.domain-index.ensures c.min.ensures.least c.max.ensures.greatest (to_z-of_z w64 a fa) (to_z-of_z w64 b fb) c.first_place-from.ensures c.end_of_places-to.ensures.covers c.loop-place-test.false c.loop-place.invariant.seen;
      last = last_scanned c.args.store.now c.args.lookup.now.index c.args.lookup.now.target c.args.lookup.now.exprs.now c.loop-place.place c.loop-place.scan c.loop-place.invariant.last;
    }

pub returns-clause-rests : goal.returns-clause-rests
returns-clause-rests c =
    let a = c.min.result in
    let b = c.max.result in
    let fa : FitsSigned w64 a = search rules in
    let fb : FitsSigned w64 b = search rules in
    λ trues some. places_all c.args.store.now c.args.lookup.now.index c.args.lookup.now.target c.args.lookup.now.exprs.now c.domain-index.result.now a b _ _ _ c.first_place-from.result c.end_of_places-to.result c.loop-place.place
    c.domain-index.ensures c.min.ensures.least c.max.ensures.greatest (to_z-of_z w64 a fa) (to_z-of_z w64 b fb) c.first_place-from.ensures c.end_of_places-to.ensures.covers c.loop-place-test.false refl some
    (c.loop-place.invariant.within trues some) (c.loop-place.invariant.places trues)
