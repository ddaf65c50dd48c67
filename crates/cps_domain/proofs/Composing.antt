-- Cuts one after the other, cuts by tests that agree, and intersections.
use Rattle.std.proofs.Common.{◌+◌, ◌-◌, ◌^◌, ℤ, negsuc, ◌≡◌, Bool, true, false, ◌&&◌, ◌||◌, ◌⊎◌, inl, inr, List, length, refl, sym, ◌∙◌, ap, subst, true≢false, arith}
use Rattle.std.specs.Prelude.{not}
use Rattle.std.proofs.lemmas.List.{nil_from_length}
use Rattle.cps_domain.specs.Window.{Window, contains, intervals, within, is_among, IsDomain, interval_at, least, greatest}
use Rattle.cps_domain.specs.Cuts.{CutsTo}
use Rattle.cps_domain.specs.Meeting.{AreShared}
use Rattle.cps_domain.specs.declared.cut.Cut.{Cut}
use Rattle.cps_domain.specs.declared.cut.Cut.TheVariants as cuts
use Rattle.cps_domain.proofs.Tests.{both, and_all, first_of_both, second_of_both, cases_test}
use Rattle.cps_domain.proofs.Slices.{slice_range-none}
use Rattle.cps_domain.proofs.Windows.{at, after, contains_parts, least_in}
use Rattle.cps_domain.proofs.Cutting.{cuts_wiped, cuts_same, cuts_narrowed}
use Rattle.cps_domain.proofs.Meeting.{same, differ, compared, same_pair}

or_false : (a : Bool) → (a || false) ≡ a
or_false true = refl
or_false false = refl

either_true : (a : Bool) → (a ≡ true) ⊎ (a ≡ false)
either_true true = inl refl
either_true false = inr refl

and_same : (a k l : Bool) → (a ≡ true → k ≡ l) → (a && k) ≡ (a && l)
and_same true k l h = h refl
and_same false k l h = refl

-- two tests that agree on the old values make the same cut
pub cuts_alike : (k l : ℤ → Bool) (old new : Window) (cut : Cut) → ((x : ℤ) → contains old x ≡ true → k x ≡ l x) → CutsTo k old new cut → CutsTo l old new cut
cuts_alike k l old new cut h c = record {
  narrowed = λ e x. c.narrowed e x ∙ and_same (contains old x) (k x) (l x) (h x);
  unchanged = (λ e x i. sym (h x i) ∙ c.unchanged.0 e x i, λ f. c.unchanged.1 (λ x i. h x i ∙ f x i));
  wiped = (λ e x i. sym (h x i) ∙ c.wiped.0 e x i, λ f. c.wiped.1 (λ x i. h x i ∙ f x i));
  kept = c.kept;
}

-- the first cut leaves nothing
pub first_wipes : (k l : ℤ → Bool) (a b : Window) (z : ℤ) → contains a z ≡ true → CutsTo k a b cuts.Wiped → CutsTo (λ x. k x && l x) a b cuts.Wiped
first_wipes k l a b z n c =
    let m : ℤ → Bool = λ x. k x && l x in
    subst (λ w. CutsTo (λ x. k x && l x) a w cuts.Wiped) (sym (c.kept (λ e. cc)))
    (cuts_wiped m a z n (λ x i. ap (λ t. t && l x) (c.wiped.0 refl x i)))

-- the first cut changes nothing
pub first_keeps : (k l : ℤ → Bool) (a b d : Window) (cut : Cut) → CutsTo k a b cuts.NoChange → CutsTo l b d cut → CutsTo (λ x. k x && l x) a d cut
first_keeps k l a b d cut c e =
    let f = subst (λ w. CutsTo l w d cut) (c.kept (λ e. cc)) e in
    cuts_alike l (λ x. k x && l x) a d cut (λ x i. ap (λ t. t && l x) (sym (c.unchanged.0 refl x i))) f

-- the second cut leaves nothing of what the first did
pub second_wipes : (k l : ℤ → Bool) (a b d : Window) (z : ℤ) → contains a z ≡ true → CutsTo k a b cuts.Narrowed → CutsTo l b d cuts.Wiped → CutsTo (λ x. k x && l x) a a cuts.Wiped
second_wipes k l a b d z n c e =
    cuts_wiped (λ x. k x && l x) a z n (λ x i. cases_test (k x) (l x) (λ u v. true≢false (sym v ∙ e.wiped.0 refl x (c.narrowed refl x ∙ both (contains a x) (k x) i u))))

-- both leave something
narrowed_values : (l : ℤ → Bool) (b d : Window) (cut : Cut) (x : ℤ) → (cut ≡ cuts.Wiped → ⊥) → CutsTo l b d cut → contains d x ≡ (contains b x && l x)
narrowed_values l b d cuts.Narrowed x n c = c.narrowed refl x
narrowed_values l b d cuts.NoChange x n c = ap (λ w. contains w x) (c.kept (λ e. cc)) ∙ sym (and_all (contains b x) (l x) (c.unchanged.0 refl x))
narrowed_values l b d cuts.Wiped x n c = absurd (n refl)

and_three : (a b c : Bool) → ((a && b) && c) ≡ (a && (b && c))
and_three true b c = refl
and_three false b c = refl

pub both_narrow : (k l : ℤ → Bool) (a b d : Window) (cut : Cut) → (cut ≡ cuts.Wiped → ⊥) → CutsTo k a b cuts.Narrowed → CutsTo l b d cut → CutsTo (λ x. k x && l x) a d cuts.Narrowed
both_narrow k l a b d cut n c e = record {
  narrowed = λ r x. narrowed_values l b d cut x n e ∙ ap (λ t. t && l x) (c.narrowed refl x) ∙ and_three (contains a x) (k x) (l x);
  unchanged = (λ r. cc, λ f. c.unchanged.1 (λ x i. first_of_both (k x) (l x) (f x i)));
  wiped = (
    λ r. cc,
    λ f. absurd (n (e.wiped.1 (λ x i.
        let p = sym (c.narrowed refl x) ∙ i in
        sym (ap (λ t. t && l x) (second_of_both (contains a x) (k x) p)) ∙ f x (first_of_both (contains a x) (k x) p)))),
  );
  kept = λ r. absurd (r refl);
}

-- a domain of one interval has the numbers between its least and its greatest value
pub alone_contains : (d : Window) (p : ℤ × ℤ) (x : ℤ) → IsDomain d → d.to ≡ d.from + 1 → p.0 ≡ least d → p.1 ≡ greatest d → contains d x ≡ within x p
alone_contains d p x h e f g =
    let s = h.some in
    let l : d.to - 1 ≡ d.from = omega arith in
    let same : interval_at d.list d.from ≡ p = same_pair (interval_at d.list d.from) p (sym f) (ap (λ j. (interval_at d.list j).1) (sym l) ∙ sym g) in
    contains_parts d d.from x (record { low = omega arith; high = s; inside = h.inside })
    ∙ ap (λ ps. is_among ps x || (within x (at d d.from) || is_among (after d d.from) x)) (slice_range-none d.list d.from d.from (omega arith))
    ∙ ap (λ ps. within x (at d d.from) || is_among ps x) (slice_range-none d.list (d.from + 1) d.to (omega arith))
    ∙ or_false (within x (at d d.from))
    ∙ ap (λ r. within x r) same

values_of : (d : Window) (x : ℤ) → contains d x ≡ is_among (intervals d) x
unfolding contains
values_of d x = refl

shared_values_of : (d o : Window) (ps qs ms : List (ℤ × ℤ)) (x : ℤ) → ps ≡ intervals d → qs ≡ intervals o → AreShared ps qs ms → is_among ms x ≡ (contains d x && contains o x)
shared_values_of d o ps qs ms x e f s =
    s.values x
    ∙ ap (λ l. is_among l x && is_among qs x) e
    ∙ ap (λ l. is_among (intervals d) x && is_among l x) f
    ∙ ap (λ b. b && is_among (intervals o) x) (sym (values_of d x))
    ∙ ap (λ b. contains d x && b) (sym (values_of o x))

none_of_both : (a b : Bool) → (a && b) ≡ false → a ≡ true → b ≡ false
none_of_both true b e f = e
none_of_both false b e f = absurd (true≢false (sym f))

-- what the intersection leaves, by the intervals that the two domains share
pub shares_nothing : (d o : Window) (ps qs ms : List (ℤ × ℤ)) → IsDomain d → ps ≡ intervals d → qs ≡ intervals o → AreShared ps qs ms → length ms ≡ 0 → CutsTo (contains o) d d cuts.Wiped
shares_nothing d o ps qs ms h e f s n =
    cuts_wiped (contains o) d (least d) (least_in d h)
    (λ x i. none_of_both (contains d x) (contains o x) (sym (shared_values_of d o ps qs ms x e f s) ∙ ap (λ l. is_among l x) (nil_from_length ms n)) i)

pub shares_all : (d o : Window) (ps qs ms : List (ℤ × ℤ)) → IsDomain d → ps ≡ intervals d → qs ≡ intervals o → AreShared ps qs ms → ms ≡ intervals d → CutsTo (contains o) d d cuts.NoChange
shares_all d o ps qs ms h e f s n =
    cuts_same (contains o) d (least d) (least_in d h)
    (λ x i. second_of_both (contains d x) (contains o x) (sym (shared_values_of d o ps qs ms x e f s) ∙ ap (λ l. is_among l x) n ∙ sym (values_of d x) ∙ i))

leaves_out : (d o : Window) (ps qs ms : List (ℤ × ℤ)) → IsDomain d → ps ≡ intervals d → qs ≡ intervals o → AreShared ps qs ms → (ms ≡ intervals d → ⊥) → (x : ℤ) × ((contains d x ≡ true) × (contains o x ≡ false))
leaves_out d o ps qs ms h e f s n =
    elim (compared (negsuc (2 ^ 62 - 1)) ms (intervals d) s.rising h.rising) [
      | same g ↦ absurd (n g)
      | differ x g ↦ (
          let v = shared_values_of d o ps qs ms x e f s in
          let g' = g ∙ ap not (sym (values_of d x)) in
          elim (either_true (contains d x)) [
            | inl i ↦ (x, (i, none_of_both (contains d x) (contains o x) (sym v ∙ g' ∙ ap not i) i))
            | inr i ↦ absurd (true≢false (sym (g' ∙ ap not i) ∙ v ∙ ap (λ b. b && contains o x) i))
          ])
    ]

pub shares_some : (d o new : Window) (ps qs ms : List (ℤ × ℤ)) → IsDomain d → ps ≡ intervals d → qs ≡ intervals o → AreShared ps qs ms → (ms ≡ intervals d → ⊥) → IsDomain new → intervals new ≡ ms → CutsTo (contains o) d new cuts.Narrowed
shares_some d o new ps qs ms h e f s n i g =
    let y = leaves_out d o ps qs ms h e f s n in
    let values : (x : ℤ) → contains new x ≡ (contains d x && contains o x) = λ x. values_of new x ∙ ap (λ l. is_among l x) g ∙ shared_values_of d o ps qs ms x e f s in
    let z = sym (values (least new)) ∙ least_in new i in
    cuts_narrowed (contains o) d new y.0 (least new) y.1.0 y.1.1 (first_of_both (contains d (least new)) (contains o (least new)) z) (second_of_both (contains d (least new)) (contains o (least new)) z) values
