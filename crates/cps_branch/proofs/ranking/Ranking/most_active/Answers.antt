-- The winner is set aside while it is fixed.
use Rattle.std.proofs.Common.{ℕ, ◌≡◌, ◌∙◌, Option, length, sym, subst, refl, true≢false}
use Rattle.std.specs.Prelude.{IfSome, IsNone}
use Rattle.cps_branch.specs.declared.ranking.Aside.{Aside}
use Rattle.cps_branch.specs.Fixed.{AreFixed}
use Rattle.cps_branch.specs.SetAside.{LeadsInPlay, aside_of, size_of}
use Rattle.cps_branch.proofs.SetAside.{all_aside_fixed, have_still, leader_most, none_open, same_next, sets_more, sets_none}
use Rattle.cps_branch.proofs.ranking.Ranking.most_active.Goals as goal

pub variables-init : goal.variables-init
variables-init c = record {
  ranking = c.requires.ranking;
  count = refl;
  same = λ i l. refl;
  sets = sets_none c.args.store.now (aside_of c.args.self.now);
  fixed = c.requires.fixed;
}

pub variables-preserved : goal.variables-preserved
variables-preserved c =
    let i = c.variables.invariant in
    let s = c.args.store.now in
    let old = c.args.self.now in
    let mid = c.variables.self in
    let new = c.set_aside.new.self in
    let e = c.set_aside.ensures in
    let one : Aside = record { variable = c.in-Some.variable; after = length c.entries.result.now } in
    let fixed = c.is_fixed.ensures.0 c.if-not-is_fixed.false in
    let after : one.after ≡ length s.entries = c.entries.ensures.views.same_length in
    record {
      ranking = e.ranking;
      count = e.count ∙ i.count;
      same = same_next (size_of old) old mid new i.count i.same e.same;
      sets = sets_more s (aside_of old) (aside_of mid) (aside_of new) one e.aside after fixed i.sets;
      fixed = all_aside_fixed s (aside_of mid) (aside_of new) (sets_more s (aside_of mid) (aside_of mid) (aside_of new) one e.aside after fixed (sets_none s (aside_of mid))) i.fixed;
    }

pub returns-in_default-clause-choice : goal.returns-in_default-clause-choice
returns-in_default-clause-choice c =
    let i = c.variables.invariant in
    let mid = c.variables.self in
    subst (λ (k : ℕ). AreFixed c.args.store.now k) i.count (none_open (size_of mid) mid.nodes.items (aside_of mid) c.args.store.now i.ranking.tournament i.fixed (c.top.ensures.none (subst (λ (o : Option ℕ). IsNone o) (sym c.in_default.is) refl)))

pub returns-then-not-is_fixed-clause-choice : goal.returns-then-not-is_fixed-clause-choice
returns-then-not-is_fixed-clause-choice c = λ activities count have.
    let i = c.variables.invariant in
    let old = c.args.self.now in
    let mid = c.variables.self in
    let v = c.in-Some.variable in
    let leads = subst (λ (o : Option ℕ). IfSome o (λ v. LeadsInPlay (size_of mid) mid.nodes.items v)) c.in-Some.is c.top.ensures.some in
    leader_most (size_of mid) v mid.nodes.items (aside_of mid) c.args.store.now activities i.ranking.tournament i.fixed leads (λ f. true≢false (sym (c.is_fixed.ensures.1 f) ∙ c.if-not-is_fixed.true)) (count ∙ sym i.count)
    (have_still activities old mid (size_of old) (sym count) i.same have)

pub returns-then-not-is_fixed-clause-leads : goal.returns-then-not-is_fixed-clause-leads
returns-then-not-is_fixed-clause-leads c =
    let mid = c.variables.self in
    subst (λ (o : Option ℕ). IfSome o (λ v. LeadsInPlay (size_of mid) mid.nodes.items v)) c.in-Some.is c.top.ensures.some
