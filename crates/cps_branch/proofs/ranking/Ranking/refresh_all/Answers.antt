use Rattle.std.proofs.Common.{ℕ, ◌+◌, ◌<◌, ◌≡◌, ◌⊎◌, ◌∙◌, inl, inr, List, length, get_or, refl, sym, ap, subst, arith}
use Rattle.cps_branch.specs.declared.tournament.Contender.{Contender}
use Rattle.cps_branch.specs.declared.ranking.Aside.{Aside}
use Rattle.cps_branch.specs.Tournament.{stands_at}
use Rattle.cps_branch.specs.SetAside.{size_of}
use Rattle.cps_branch.proofs.SetAside.{aside_next}
use Rattle.cps_branch.proofs.ranking.Ranking.refresh_all.Goals as goal

below_or_last : (i n : ℕ) → i < n + 1 → ((i < n) × (i ≡ n → ⊥)) ⊎ (n ≡ i)
below_or_last i n l = grind arith

pub loop-variable-init : goal.loop-variable-init
loop-variable-init c = record { ranking = c.requires.ranking; aside = record { aside = refl; out = refl }; each = λ i l. absurd (omega arith) }

pub loop-variable-preserved : goal.loop-variable-preserved
loop-variable-preserved c =
    let i = c.loop-variable.invariant in
    let e = c.refresh.ensures in
    let old = c.args.self.now in
    let mid = c.loop-variable.self in
    let new = c.refresh.new.self in
    let v = c.loop-variable.variable in
    let count : size_of mid ≡ size_of old = ap (λ (xs : List Aside). length xs) i.aside.aside in
    record {
      ranking = e.ranking;
      aside = aside_next old mid new i.aside e.aside;
      each = λ j l. subst (λ (n : ℕ). (stands_at new.nodes.items (n + j)).activity ≡ get_or c.args.activities.now j 0) count (elim (below_or_last j v l) [
        | inl below ↦ ap (λ (x : Contender). x.activity) (e.others j below.1)
            ∙ subst (λ (n : ℕ). (stands_at mid.nodes.items (n + j)).activity ≡ get_or c.args.activities.now j 0) (sym count) (i.each j below.0)
        | inr last ↦ subst (λ (m : ℕ). (stands_at new.nodes.items (size_of mid + m)).activity ≡ get_or c.args.activities.now m 0) last (e.here (omega arith))
      ]);
    }
