-- Each atom gives its variable the activity.
use Rattle.std.proofs.Common.{ℕ, ◌+◌, ◌≡◌, ◌⊎◌, ◌∙◌, inl, inr, List, length, get_or, pos, refl, sym, ap, subst, arith}
use Rattle.std.proofs.lemmas.List.{drop_all}
use Rattle.cps_literal.specs.declared.atom.Atom.{Atom}
use Rattle.cps_literal.specs.declared.atom.Op.TheVariants.{Le}
use Rattle.cps_branch.specs.declared.tournament.Contender.{Contender}
use Rattle.cps_branch.specs.declared.ranking.Aside.{Aside}
use Rattle.cps_branch.specs.Activities.{speaks_of}
use Rattle.cps_branch.specs.Tournament.{stands_at}
use Rattle.cps_branch.specs.SetAside.{size_of}
use Rattle.cps_branch.proofs.SetAside.{aside_next, speaks_on}
use Rattle.cps_branch.proofs.ranking.Ranking.refresh_clause.Goals as goal

-- what a read past the end would give
abbrev none : Atom
none = record { subject = 0; op = Le; value = pos 0 }

eq_cases : (a b : ℕ) → (a ≡ b) ⊎ (a ≡ b → ⊥)
eq_cases a b = grind arith

pub loop-atom-init : goal.loop-atom-init
loop-atom-init c = record { ranking = c.requires.ranking; aside = record { aside = refl; out = refl }; others = c.requires.others }

pub loop-atom-preserved : goal.loop-atom-preserved
loop-atom-preserved c =
    let i = c.loop-atom.invariant in
    let e = c.refresh.ensures in
    let old = c.args.self.now in
    let mid = c.loop-atom.self in
    let new = c.refresh.new.self in
    let k = c.loop-atom.atom-index in
    let t = get_or c.args.clause.now k none in
    let count : size_of mid ≡ size_of old = ap (λ (xs : List Aside). length xs) i.aside.aside in
    record {
      ranking = e.ranking;
      aside = aside_next old mid new i.aside e.aside;
      others = λ j l quiet. subst (λ (n : ℕ). (stands_at new.nodes.items (n + j)).activity ≡ get_or c.args.activities.now j 0) count (elim (eq_cases j t.subject) [
        | inl same ↦ subst (λ (m : ℕ). (stands_at new.nodes.items (size_of mid + m)).activity ≡ get_or c.args.activities.now m 0) (sym same) (e.here (omega (arith, l, same, count)))
        | inr ne ↦ ap (λ (x : Contender). x.activity) (e.others j ne)
            ∙ subst (λ (n : ℕ). (stands_at mid.nodes.items (n + j)).activity ≡ get_or c.args.activities.now j 0) (sym count) (i.others j l (speaks_on c.args.clause.now k t none j (omega arith) refl ne quiet))
      ]);
    }

pub returns-clause-activities : goal.returns-clause-activities
returns-clause-activities c = λ i l.
    c.loop-atom.invariant.others i l (ap (λ (ts : List Atom). speaks_of ts i) (drop_all c.loop-atom.atom-index c.args.clause.now (omega arith)))
