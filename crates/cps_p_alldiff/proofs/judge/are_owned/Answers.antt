-- Each number so far is its own place's.
use mir.Val.{to_z, of_z}
use Rattle.std.proofs.Common.{ℕ, ℤ, pos, ◌+◌, ◌<◌, ◌≡◌, ◌∙◌, get_or, sym, subst, rules, FitsSigned, w64, arith}
use Rattle.std.proofs.lemmas.Int.{to_z-of_z}
use Rattle.cps_p_alldiff.specs.Owners.{owner_of}
use Rattle.cps_p_alldiff.proofs.NoCrowds.{owned_more, owned_apart}
use Rattle.cps_p_alldiff.proofs.judge.are_owned.Goals as goal

pub loop-k-preserved : goal.loop-k-preserved
loop-k-preserved c =
    let os = c.args.owners.now in
    let vs = c.args.values.now in
    let b = c.args.base in
    let k = c.loop-k.k in
    let v = get_or vs k (pos 0) in
    let fb : FitsSigned w64 b = search rules in
    let fv : FitsSigned w64 v = search rules in
    let P : ℕ → ℤ → Type 0 = λ n z. (j : ℕ) → j < n → owner_of os z (get_or vs j (pos 0)) ≡ j in
    let from = subst (λ (z : ℤ). c.owner_of.result ≡ owner_of os z (to_z w64 (of_z w64 v))) (to_z-of_z w64 b fb) c.owner_of.ensures in
    let own : owner_of os b v ≡ k = sym (subst (λ (z : ℤ). c.owner_of.result ≡ owner_of os b z) (to_z-of_z w64 v fv) from) ∙ c.if-owner_of-k.false in
    subst (λ (z : ℤ). P (k + 1) z) (sym (to_z-of_z w64 b fb)) (owned_more os b vs k own (subst (λ (z : ℤ). P k z) (to_z-of_z w64 b fb) c.loop-k.invariant))

pub returns : goal.returns
returns c yes' =
    let past = c.loop-k-test.false in
    let os = c.args.owners.now in
    let vs = c.args.values.now in
    let b = c.args.base in
    let fb : FitsSigned w64 b = search rules in
    let P : ℤ → Type 0 = λ z. (j : ℕ) → j < c.loop-k.k → owner_of os z (get_or vs j (pos 0)) ≡ j in
    let all = subst P (to_z-of_z w64 b fb) c.loop-k.invariant in
    owned_apart os b vs (λ j l. all j (omega arith))
