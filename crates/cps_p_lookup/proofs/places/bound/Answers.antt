use lib.Signed.{lt_z}
use Rattle.std.proofs.Common.{◌≡◌, ◌≤ℤ◌, ◌∙◌, ap, sym, subst, w64, FitsSigned, rules, arith, ℕ, ℤ, false, List, pos}
use Rattle.std.proofs.lemmas.Int.{to_z-of_z, ints}
use Rattle.std.specs.List.{All}
use Rattle.cps_literal.specs.declared.atom.Atom.{Atom}
use Rattle.cps_literal.specs.declared.atom.Op.TheVariants.{Ge}
use Rattle.cps_instance.specs.declared.task.Body.{Body}
use Rattle.cps_rule.specs.declared.rule.Narrowing.{Narrowing}
use Rattle.cps_rule.specs.Rules.{IsGiven}
use Rattle.cps_trail.specs.Trail.{Trail}
use Rattle.cps_propagate.specs.Now.{IsOpenTo}
use Rattle.cps_p_lookup.specs.Elements.{IsBetween}
use Rattle.cps_p_lookup.specs.Resting.{LeavesAtRest}
use Rattle.cps_p_lookup.proofs.Placing.{more_given}
use Rattle.cps_p_lookup.proofs.Resting.{nothing_found, one_found, true_low, true_high}
use Rattle.cps_p_lookup.proofs.places.bound.Goals as goal
use Rattle.cps_p_lookup.proofs.places.bound.Goals.{After-max, then-min-low+in_ok-push, else-min-low}

lower : (c : After-max) (body : Body) → ((u : Atom) → u ≡ record { subject = c.args.subject; op = Ge; value = c.args.low } → IsGiven body c.args.store.now u) → All (λ n. IsGiven body c.args.store.now n.target) c.args.found.now.items
    → All (λ n. IsGiven body c.args.store.now n.target) c.if-min-low.found.items
lower c body low before = elim c.if-min-low.branch [
  | then-min-low+in_ok-push w ↦
      subst (λ (ns : List Narrowing). All (λ n. IsGiven body c.args.store.now n.target) ns) (ap (λ v. v.items) (sym w.found-is))
      (more_given body c.args.store.now c.args.found.now.items w.push.new.self.items (record { target = w.atom-target.result; hint = record { a = pos 0; b = pos 0 } }) w.in_ok-push.ensures.items
      (low w.atom-target.result (rw (to_z-of_z w64 c.args.low c.ranges.low) at w.atom-target.ensures)) before)
  | else-min-low w ↦ subst (λ (ns : List Narrowing). All (λ n. IsGiven body c.args.store.now n.target) ns) (ap (λ v. v.items) (sym w.found-is)) before
]

not_less : (a b : ℤ) → lt_z a b ≡ false → b ≤ℤ a
not_less a b e = grind (arith, ints)

between : (s : Trail) (i : ℕ) (low high : ℤ) → ((x : ℤ) → IsOpenTo s i x → low ≤ℤ x) → ((x : ℤ) → IsOpenTo s i x → x ≤ℤ high) → IsBetween s i low high
between s i low high p q = record { at = λ x o. (p x o, q x o) }

over : (a b x : ℤ) → a ≤ℤ b → b ≤ℤ x → a ≤ℤ x
over a b x p q = omega (arith, ints)

-- where what was found of the lower end is true, all values lie above it
lower_rests : (c : After-max) → LeavesAtRest c.args.store.now ((x : ℤ) → IsOpenTo c.args.store.now c.args.subject x → c.args.low ≤ℤ x) c.args.found.now.items c.if-min-low.found.items
lower_rests c =
    let s = c.args.store.now in
    let i = c.args.subject in
    let old = c.args.found.now.items in
    elim c.if-min-low.branch [
      | then-min-low+in_ok-push w ↦
          subst (λ (ns : List Narrowing). LeavesAtRest s ((x : ℤ) → IsOpenTo s i x → c.args.low ≤ℤ x) old ns) (ap (λ v. v.items) (sym w.found-is))
          (one_found s ((x : ℤ) → IsOpenTo s i x → c.args.low ≤ℤ x) old w.push.new.self.items (record { target = w.atom-target.result; hint = record { a = pos 0; b = pos 0 } }) w.in_ok-push.ensures.items
          (true_low s i c.args.low w.atom-target.result (rw (to_z-of_z w64 c.args.low c.ranges.low) at w.atom-target.ensures)))
      | else-min-low w ↦
          (let m = c.min.result in
          let f : FitsSigned w64 m = search rules in
          let no : lt_z m c.args.low ≡ false = rw (to_z-of_z w64 m f, to_z-of_z w64 c.args.low c.ranges.low) at w.if-min-low.false in
          subst (λ (ns : List Narrowing). LeavesAtRest s ((x : ℤ) → IsOpenTo s i x → c.args.low ≤ℤ x) old ns) (ap (λ v. v.items) (sym w.found-is))
          (nothing_found s ((x : ℤ) → IsOpenTo s i x → c.args.low ≤ℤ x) old (λ x o. over c.args.low m x (not_less m c.args.low no) (c.min.ensures.least x (c.domain-domain.ensures x ∙ o)))))
    ]

pub returns-in_ok-push-2 : goal.returns-in_ok-push-2
returns-in_ok-push-2 c =
    let s = c.args.store.now in
    let i = c.args.subject in
    let at = (goal.at.returns-in_ok-push-2 c).After-max in
    let first = lower_rests at in
    let is = rw (to_z-of_z w64 c.args.high c.ranges.high) at c.atom-target-then-high-max.ensures in
    let next = one_found s ((x : ℤ) → IsOpenTo s i x → x ≤ℤ c.args.high) c.if-min-low.found.items c.push-then-high-max.new.self.items (record { target = c.atom-target-then-high-max.result; hint = record { a = pos 0; b = pos 0 } }) c.in_ok-push-2.ensures.items
    (true_high s i c.args.high c.atom-target-then-high-max.result is) in
    record {
      at = λ body low high before.
          more_given body c.args.store.now c.if-min-low.found.items c.push-then-high-max.new.self.items (record { target = c.atom-target-then-high-max.result; hint = record { a = pos 0; b = pos 0 } }) c.in_ok-push-2.ensures.items
          (high c.atom-target-then-high-max.result is) (lower at body low before);
      rests = record {
        before = λ trues. first.before (next.before trues);
        left = λ trues. between s i c.args.low c.args.high (first.left (next.before trues)) (next.left trues);
      };
    }

pub returns-else-high-max : goal.returns-else-high-max
returns-else-high-max c =
    let s = c.args.store.now in
    let i = c.args.subject in
    let at = (goal.at.returns-else-high-max c).After-max in
    let first = lower_rests at in
    let m = c.max.result in
    let f : FitsSigned w64 m = search rules in
    let no : lt_z c.args.high m ≡ false = rw (to_z-of_z w64 m f, to_z-of_z w64 c.args.high c.ranges.high) at c.if-high-max.false in
    record {
      at = λ body low high before. lower at body low before;
      rests = record {
        before = first.before;
        left = λ trues. between s i c.args.low c.args.high (first.left trues) (λ x o. over x m c.args.high (c.max.ensures.greatest x (c.domain-domain.ensures x ∙ o)) (not_less c.args.high m no));
      };
    }
