-- The last that went aside comes back first, until one stays.
use Rattle.std.proofs.Common.{◌-◌, ◌≤◌, ◌∙◌, List, length, take, refl, sym, ap, subst, arith, true≢false}
use Rattle.cps_branch.specs.declared.ranking.Aside.{Aside}
use Rattle.cps_branch.specs.SetAside.{PutsBack, aside_at, aside_of, size_of}
use Rattle.cps_branch.proofs.SetAside.{back_more, only_back, puts_back, same_next}
use Rattle.cps_branch.proofs.ranking.Ranking.put_back.Goals as goal

pub variables-init : goal.variables-init
variables-init c = record { ranking = c.requires; same = λ i l. refl; aside = refl; out = omega arith; only = λ p low high some. absurd (omega (arith, low, high)) }

pub variables-preserved : goal.variables-preserved
variables-preserved c =
    let i = c.variables.invariant in
    let e = c.put_back_last.ensures in
    record {
      ranking = e.ranking;
      same = same_next (size_of c.args.self.now) c.args.self.now c.variables.self c.put_back_last.new.self (ap (λ (xs : List Aside). length xs) i.aside) i.same e.same;
      aside = e.aside ∙ i.aside;
      out = omega (arith, e.out, i.out);
      only = back_more c.args.kept c.put_back_last.new.self.out c.variables.self.out c.args.self.now.out c.args.self.now.aside.items c.variables.self.aside.items e.out i.aside (λ h. true≢false (sym (c.last_stays.ensures.1 h) ∙ c.if-last_stays.false)) i.only;
    }

pub returns-then-last_stays-clause-back : goal.returns-then-last_stays-clause-back
returns-then-last_stays-clause-back c =
    let i = c.variables.invariant in
    let old = c.args.self.now in
    let mid = c.variables.self in
    let stays = c.last_stays.ensures.0 c.if-last_stays.true in
    subst (λ (xs : List Aside). PutsBack c.args.kept (aside_of old) (take mid.out xs)) (sym i.aside)
    (puts_back c.args.kept mid.out old.out old.aside.items i.out c.requires.within
    (λ _. (stays.0, subst (λ (xs : List Aside). (aside_at xs (mid.out - 1)).after ≤ c.args.kept) i.aside stays.1)))

pub returns-then-last_stays-clause-only : goal.returns-then-last_stays-clause-only
returns-then-last_stays-clause-only c =
    let i = c.variables.invariant in
    only_back c.args.kept c.variables.self.out c.args.self.now.out c.args.self.now.aside.items c.variables.self.aside.items c.requires.within i.out i.aside i.only

pub returns-clause-only : goal.returns-clause-only
returns-clause-only c =
    let i = c.variables.invariant in
    only_back c.args.kept c.variables.self.out c.args.self.now.out c.args.self.now.aside.items c.variables.self.aside.items c.requires.within i.out i.aside i.only

pub returns-clause-back : goal.returns-clause-back
returns-clause-back c =
    let i = c.variables.invariant in
    let old = c.args.self.now in
    let mid = c.variables.self in
    subst (λ (xs : List Aside). PutsBack c.args.kept (aside_of old) (take mid.out xs)) (sym i.aside)
    (puts_back c.args.kept mid.out old.out old.aside.items i.out c.requires.within (λ l. absurd (omega arith)))
