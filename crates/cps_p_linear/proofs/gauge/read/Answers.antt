use Rattle.std.proofs.Common.{arith, sym, subst, refl, ◌≡◌, ℕ, ◌<◌, List, false, length}
use Rattle.std.specs.List.{All, AllZip}
use Rattle.std.proofs.lemmas.List.Elements.{All-nil}
use Rattle.cps_trail.specs.Trail.{Trail}
use Rattle.cps_p_linear.specs.Ends.{IsTightEnds}
use Rattle.cps_p_linear.specs.Gauging.{remembered}
use Rattle.cps_p_linear.proofs.Reaches.{term_reach, zip_at, zip_length}
use Rattle.cps_p_linear.proofs.Gauges.{ok_of, all_read, width_fits, since_within}
use Rattle.cps_p_linear.proofs.gauge.read.Goals as goal

pub returns-clause-gauge : goal.returns-clause-gauge
returns-clause-gauge c = λ _.
    let s = c.args.store.now in
    let ts = c.args.terms.now in
    let es = c.measure.new.values.items in
    let ns = c.read_since.new.since.items in
    let hulls = subst (λ (u : Trail). AllZip (IsTightEnds u) ts es) c.present.ensures c.in_ok-sum.ensures.hulls in
    let now = all_read s ts es ns hulls c.in_ok-read_since.ensures.count c.in_ok-read_since.ensures.last in
    record {
      gauge = record {
        values = sym (zip_length (IsTightEnds s) ts es hulls);
        since = c.in_ok-read_since.ensures.count;
        ends = c.in_ok-sum.ensures.sum;
        flags = omega (arith, c.in_ok-resize.ensures.len, c.resize.new.self.ok.0);
        wide = subst (λ (ks : List ℕ). All (λ k. k < length ts) ks) (sym c.clear.ensures.items) (All-nil (λ k. k < length ts));
        listed = λ j l e. absurd (let f : _ ≡ false = c.resize.ensures.by_index.1 j false (ok_of c.resize.result _ c.in_ok-resize.was) (omega (arith, c.clear-2.ensures.len)) l in cc (e, f));
        widths = λ j t e l flag. width_fits _ _ (term_reach s ts j t _ c.requires.measurable l (zip_at (IsTightEnds s) ts es j t e hulls l).bounded);
        indexed = c.in_ok-fill.ensures;
      };
      newest = since_within s (remembered ts es ns) (length s.entries) _ (sym c.entries.ensures.views.same_length) now;
    }

pub returns-clause-fresh : goal.returns-clause-fresh
returns-clause-fresh c =
    let s = c.args.store.now in
    let ts = c.args.terms.now in
    let es = c.measure.new.values.items in
    let ns = c.read_since.new.since.items in
    let hulls = subst (λ (u : Trail). AllZip (IsTightEnds u) ts es) c.present.ensures c.in_ok-sum.ensures.hulls in
    record {
      is_read = refl;
      count = c.entries.ensures.views.same_length;
      whole = returns-clause-gauge c refl;
      now = all_read s ts es ns hulls c.in_ok-read_since.ensures.count c.in_ok-read_since.ensures.last;
    }
