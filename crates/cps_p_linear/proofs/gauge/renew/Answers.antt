-- The others keep room for one term, whatever its ends are within the first domain.
use Rattle.std.proofs.Common.{pos, refl, ap, subst, arith, true, get_or, ◌∙◌, length-set}
use Rattle.std.proofs.lemmas.Int.{ints}
use Rattle.std.proofs.lemmas.List.{get_or_default}
use Rattle.cps_instance.specs.declared.term.Term.{Term}
use Rattle.cps_p_linear.specs.declared.ends.Ends.{Ends}
use Rattle.cps_p_linear.specs.declared.ends.Side.TheVariants.{Low, High}
use Rattle.cps_p_linear.specs.Ends.{reach_of, term_end, IsNoWider}
use Rattle.cps_p_linear.proofs.Reaches.{term_reach}
use Rattle.cps_p_linear.proofs.Gauges.{read_as, all_reached, old_reach, replaced_small, sum_end-set, widths-set, set_read, now_right, first_set}
use Rattle.cps_p_linear.proofs.gauge.renew.Goals as goal

abbrev none : Term
none = record { coeff = pos 0; subject = 0 }

pub term_ends-old-requires : goal.term_ends-old-requires
term_ends-old-requires c =
    let g = c.args.gauge.now in
    let h = c.requires.held in
    let e = c.index.result.now in
    let near = all_reached c.args.store.now.first c.args.terms.now g.values.items g.since.items c.requires.measurable h.gauge.values h.gauge.since h.first in
    let r = old_reach c.args.store.now.first c.args.terms.now g.values.items c.args.place none e c.requires.measurable near c.requires.place in
    omega (arith, r, ap (λ (x : Ends). reach_of (get_or c.args.terms.now c.args.place none) x) c.index.ensures)

pub term_ends-own-requires : goal.term_ends-own-requires
term_ends-own-requires c = term_reach c.args.store.now c.args.terms.now c.args.place none c.ends_now-ends.result c.requires.measurable c.requires.place c.ends_now-ends.ensures.bounded

pub replaced-gauge-requires-clause-low : goal.replaced-gauge-requires-clause-low
replaced-gauge-requires-clause-low c =
    let g = c.args.gauge.now in
    let h = c.requires.held in
    let t = get_or c.args.terms.now c.args.place none in
    let near = all_reached c.args.store.now.first c.args.terms.now g.values.items g.since.items c.requires.measurable h.gauge.values h.gauge.since h.first in
    replaced_small Low c.args.store.now.first c.args.terms.now g.values.items c.args.place none c.index.result.now c.ends_now-ends.result g.spread.sum.low c.term_ends-old.result.low c.term_ends-own.result.low c.requires.measurable near c.requires.place h.gauge.ends.low
    (c.term_ends-old.ensures.low ∙ ap (λ (x : Ends). term_end Low t x) c.index.ensures) c.term_ends-own.ensures.low c.ends_now-ends.ensures.bounded.reach

pub replaced-gauge-requires-clause-high : goal.replaced-gauge-requires-clause-high
replaced-gauge-requires-clause-high c =
    let g = c.args.gauge.now in
    let h = c.requires.held in
    let t = get_or c.args.terms.now c.args.place none in
    let near = all_reached c.args.store.now.first c.args.terms.now g.values.items g.since.items c.requires.measurable h.gauge.values h.gauge.since h.first in
    replaced_small High c.args.store.now.first c.args.terms.now g.values.items c.args.place none c.index.result.now c.ends_now-ends.result g.spread.sum.high c.term_ends-old.result.high c.term_ends-own.result.high c.requires.measurable near c.requires.place h.gauge.ends.high
    (c.term_ends-old.ensures.high ∙ ap (λ (x : Ends). term_end High t x) c.index.ensures) c.term_ends-own.ensures.high c.ends_now-ends.ensures.bounded.reach

pub returns : goal.returns
returns c =
    let s = c.args.store.now in
    let ts = c.args.terms.now in
    let g = c.args.gauge.now in
    let h = c.requires.held in
    let p = c.args.place in
    let e = c.ends_now-ends.result in
    let n = c.last_on.result in
    let t = get_or ts p none in
    let l = c.requires.place in
    let old_low = c.term_ends-old.ensures.low ∙ ap (λ (x : Ends). term_end Low t x) c.index.ensures in
    let old_high = c.term_ends-old.ensures.high ∙ ap (λ (x : Ends). term_end High t x) c.index.ensures in
    let low = sum_end-set Low ts g.values.items p none c.index.result.now e h.gauge.values l in
    let high = sum_end-set High ts g.values.items p none c.index.result.now e h.gauge.values l in
    let a = h.gauge.ends.low in
    let b = h.gauge.ends.high in
    let x = c.term_ends-own.ensures.low in
    let y = c.term_ends-own.ensures.high in
    let u = c.replaced-gauge.ensures.low in
    let v = c.replaced-gauge.ensures.high in
    let w = c.widened-gauge.ensures in
    record {
      held = record {
        gauge = record {
          values = length-set g.values.items p e ∙ h.gauge.values;
          since = length-set g.since.items p n ∙ h.gauge.since;
          ends = record { low = omega (arith, ints); high = omega (arith, ints) };
          flags = h.gauge.flags;
          wide = h.gauge.wide;
          listed = h.gauge.listed;
          widths = widths-set g.spread.widest _ ts g.values.items g.is_wide.items p e e w.more (omega (arith, l, h.gauge.values)) h.gauge.widths (λ t' flag.
              let own = w.own (c.index-2.ensures ∙ get_or_default g.is_wide.items p c.index-2.result.now true (omega (arith, l, h.gauge.flags)) ∙ flag) in
              subst (λ (z : Term). IsNoWider c.widened-gauge.result z e) (get_or_default ts p none t' l) (omega (arith, ints)));
          indexed = h.gauge.indexed;
        };
        first = first_set s ts g p none e e n c.requires.measurable h l c.ends_now-ends.ensures c.last_on.ensures;
      };
      is_read = refl;
      places = refl;
      now = read_as t e n;
      subject = λ d. ap (λ (z : Term). z.subject) (get_or_default ts p none d l);
      right = now_right s ts g p none e e n c.requires.measurable h l c.ends_now-ends.ensures c.last_on.ensures;
      read = set_read s ts g p none e e n c.requires.measurable h l c.ends_now-ends.ensures c.last_on.ensures;
    }
