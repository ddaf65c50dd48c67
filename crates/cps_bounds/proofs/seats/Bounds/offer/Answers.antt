use Rattle.std.proofs.Common.{rules, arith, ◌≡◌, ℕ, ℤ, min, sym, ap, ◌∙◌, subst}
use mir.Facts.{to_z-of_z}
use Rattle.atomic_table.specs.Table.{Me}
use Rattle.cps_model.specs.declared.bound.Bound.{Bound}
use Rattle.cps_model.specs.declared.bound.Bound.TheVariants.{At}
use Rattle.cps_port.specs.Order.{lesser}
use Rattle.cps_port.specs.Incumbents.{IsIncumbent}
use Rattle.cps_port.specs.Parts.{after_offer}
use Rattle.cps_port.specs.Words.{word_of, bound_of}
use Rattle.cps_port.proofs.BoundLaws.{attained_shown, lesser_is}
use Rattle.cps_bounds.specs.declared.view.View.{View}
use Rattle.cps_bounds.proofs.Keeps.{offers}
use Rattle.cps_bounds.proofs.Offers.{handed_value, shown_word, bound_of-min}
use Rattle.cps_bounds.proofs.seats.Bounds.offer.Goals as goal

pub fetch_min-found-requires : goal.fetch_min-found-requires
fetch_min-found-requires c =
    let m = c.args.self.now.table.shared.key in
    let h = handed_value m c.args.value c.word_of-word.result c.args.self.now.valid c.requires.value (c.word_of-word.ensures ∙ ap (λ (z : ℤ). word_of (At z)) (to_z-of_z c.ranges.value)) in
    (search rules, search rules, offers _ _ _ _ (search rules) _ h.fits (shown_word m c.args.value c.word_of-word.result h c.requires.value))

pub returns-clause-part : goal.returns-clause-part
returns-clause-part c =
    let m = c.args.self.now.table.shared.key in
    let h = handed_value m c.args.value c.word_of-word.result c.args.self.now.valid c.requires.value (c.word_of-word.ensures ∙ ap (λ (z : ℤ). word_of (At z)) (to_z-of_z c.ranges.value)) in
    let p = c.args.seat.now.seat.me.0.part in
    let answer : bound_of (min c.fetch_min-found.result c.word_of-word.result) ≡ c.bound_of.result = ap bound_of (sym c.min.ensures) ∙ sym c.bound_of.ensures in
    ap (λ (me : Me (Unit {0}) View). me.0.part) c.fetch_min-found.ensures.2.0
    ∙ (ap (λ (b : Bound). after_offer p b (bound_of (min c.fetch_min-found.result c.word_of-word.result))) h.back ∙ ap (after_offer p (At c.args.value)) answer)

pub returns-clause-answer : goal.returns-clause-answer
returns-clause-answer c =
    let m = c.args.self.now.table.shared.key in
    let n : ℕ = c.fetch_min-found.result in
    let k : ℕ = c.word_of-word.result in
    let h = handed_value m c.args.value k c.args.self.now.valid c.requires.value (c.word_of-word.ensures ∙ ap (λ (z : ℤ). word_of (At z)) (to_z-of_z c.ranges.value)) in
    record {
      stood = bound_of n;
      no_worse = c.fetch_min-found.ensures.2.1;
      shown = c.fetch_min-found.ensures.2.2 m c.requires.own.1;
      is = c.bound_of.ensures ∙ (ap bound_of c.min.ensures ∙ (bound_of-min n k (omega arith) h.fits ∙ ap (lesser (bound_of n)) h.back));
    }

pub returns-clause-means : goal.returns-clause-means
returns-clause-means c =
    let m = c.args.self.now.table.shared.key in
    let n : ℕ = c.fetch_min-found.result in
    let k : ℕ = c.word_of-word.result in
    let h = handed_value m c.args.value k c.args.self.now.valid c.requires.value (c.word_of-word.ensures ∙ ap (λ (z : ℤ). word_of (At z)) (to_z-of_z c.ranges.value)) in
    subst (IsIncumbent m) (sym (c.bound_of.ensures ∙ (ap bound_of c.min.ensures ∙ (bound_of-min n k (omega arith) h.fits ∙ ap (lesser (bound_of n)) h.back))))
    (lesser_is (IsIncumbent m) (bound_of n) (At c.args.value) (c.fetch_min-found.ensures.2.2 m c.requires.own.1) (attained_shown m c.args.value c.requires.value))
