use Rattle.std.proofs.Common.{◌<◌, ◌≤ℤ◌, ℤ, ◌∙◌, sym, rules, FitsSigned, w64, length}
use Rattle.std.proofs.lemmas.Int.{to_z-of_z}
use Rattle.std.specs.List.{All}
use Rattle.std.proofs.lemmas.List.Elements.{All-get_or}
use Rattle.cps_instance.specs.declared.task.Body.TheVariants.{Element}
use Rattle.cps_propagate.specs.Now.{IsOpenTo}
use Rattle.cps_rule.specs.declared.rule.Narrowing.{Narrowing}
use Rattle.cps_rule.specs.Rules.{IsGiven}
use Rattle.cps_p_lookup.specs.Elements.{IsBetween}
use Rattle.cps_p_lookup.specs.Resting.{LeavesAtRest}
use Rattle.cps_p_lookup.proofs.Elements.{target_low, target_high, expr_low, expr_high}
use Rattle.cps_p_lookup.proofs.places.bound_both.Goals as goal
use Rattle.cps_p_lookup.proofs.places.bound_both.Goals.{In_ok-bound}

bounded : (c : In_ok-bound) → All (λ (n : Narrowing). IsGiven (Element c.args.lookup.now.index c.args.lookup.now.target c.args.lookup.now.exprs.now) c.args.store.now n.target) c.bound.new.found.items
bounded c =
    let s = c.args.store.now in
    let i = c.args.lookup.now.index in
    let t = c.args.lookup.now.target in
    let es = c.args.lookup.now.exprs.now in
    let scan = c.args.scan in
    let h = c.requires.scanned in
    let fl : FitsSigned w64 scan.least = search rules in
    let fh : FitsSigned w64 scan.greatest = search rules in
    c.in_ok-bound.ensures.at (Element i t es) (target_low s i t es scan c.requires.fits h _ (to_z-of_z w64 scan.least fl)) (target_high s i t es scan c.requires.fits h _ (to_z-of_z w64 scan.greatest fh)) c.requires.given

pub bound-requires-then-scan-eq1 : goal.bound-requires-then-scan-eq1
bound-requires-then-scan-eq1 c = All-get_or (λ e. e < length c.args.store.now.first) c.args.lookup.now.exprs.now c.args.scan.last 0 (c.requires.scanned.last.last c.requires.some).within c.requires.fits.exprs

-- the target lies between the ends of the scan
target_kept : (c : In_ok-bound) → LeavesAtRest c.args.store.now (IsBetween c.args.store.now c.args.lookup.now.target c.args.scan.least c.args.scan.greatest) c.args.found.now.items c.bound.new.found.items
target_kept c =
    let fl : FitsSigned w64 c.args.scan.least = search rules in
    let fh : FitsSigned w64 c.args.scan.greatest = search rules in
    rw (to_z-of_z w64 c.args.scan.least fl, to_z-of_z w64 c.args.scan.greatest fh) at c.in_ok-bound.ensures.rests

pub returns-in_ok-bound-2-clause-rests : goal.returns-in_ok-bound-2-clause-rests
returns-in_ok-bound-2-clause-rests c =
    let s = c.args.store.now in
    let low = c.min.result in
    let high = c.max.result in
    let fl : FitsSigned w64 low = search rules in
    let fh : FitsSigned w64 high = search rules in
    let D = c.domain-target.ensures in
    let first = target_kept (goal.at.returns-in_ok-bound-2-clause-rests c).In_ok-bound in
    let next = rw (to_z-of_z w64 low fl, to_z-of_z w64 high fh) at c.in_ok-bound-2.ensures.rests in
    record {
      before = λ trues. first.before (next.before trues);
      left = λ trues. record {
        target = first.left (next.before trues);
        low = λ one v o. (low, sym (D low) ∙ c.min.ensures.within, ((next.left trues).at v o).0);
        high = λ one v o. (high, sym (D high) ∙ c.max.ensures.within, ((next.left trues).at v o).1);
      };
    }

pub returns-else-scan-eq1-clause-rests : goal.returns-else-scan-eq1-clause-rests
returns-else-scan-eq1-clause-rests c =
    let first = target_kept (goal.at.returns-else-scan-eq1-clause-rests c).In_ok-bound in
    record {
      before = first.before;
      left = λ trues. record { target = first.left trues; low = λ one. absurd (c.if-scan-eq1.false one); high = λ one. absurd (c.if-scan-eq1.false one) };
    }

pub returns-in_ok-bound-2-clause-given : goal.returns-in_ok-bound-2-clause-given
returns-in_ok-bound-2-clause-given c =
    let s = c.args.store.now in
    let i = c.args.lookup.now.index in
    let t = c.args.lookup.now.target in
    let es = c.args.lookup.now.exprs.now in
    let scan = c.args.scan in
    let h = c.requires.scanned in
    let inside : scan.last < length es = (h.last.last c.requires.some).within in
    let low = c.min.result in
    let high = c.max.result in
    let fl : FitsSigned w64 low = search rules in
    let fh : FitsSigned w64 high = search rules in
    let el = to_z-of_z w64 low fl in
    let eh = to_z-of_z w64 high fh in
    let D = c.domain-target.ensures in
    let least : (x : ℤ) → IsOpenTo s t x → low ≤ℤ x = λ x o. c.min.ensures.least x (D x ∙ o) in
    let greatest : (x : ℤ) → IsOpenTo s t x → x ≤ℤ high = λ x o. c.max.ensures.greatest x (D x ∙ o) in
    c.in_ok-bound-2.ensures.at (Element i t es)
    (rw el (expr_low s i t es scan low c.requires.fits h c.if-scan-eq1.true inside least)) (rw eh (expr_high s i t es scan high c.requires.fits h c.if-scan-eq1.true inside greatest)) (bounded (goal.at.returns-in_ok-bound-2-clause-given c).In_ok-bound)

pub returns-else-scan-eq1-clause-given : goal.returns-else-scan-eq1-clause-given
returns-else-scan-eq1-clause-given c = bounded (goal.at.returns-else-scan-eq1-clause-given c).In_ok-bound
