-- What was seen of one store is true of another with the same first entries.
-- Its terms prove that, and stand here since an `impl` names them as ghost items (`none_kept`, `kept_on`).
use Rattle.std.proofs.Common.{ℕ, ℤ, ◌≤◌, ◌<◌, ◌≡◌, true, List, take, get_or, sym, ap, ◌∙◌, ◌&&◌, arith}
use Rattle.std.specs.List.{list_all}
use Rattle.std.proofs.lemmas.List.{take-take}
use Rattle.cps_domain.specs.Window.{is_among}
use Rattle.cps_trail.specs.Trail.{Domains, Entry, Trail, first_of, leaves, admits}
use Rattle.cps_branch.specs.Fixed.{IsFixedAfter}
use Rattle.cps_branch.specs.Scope.{AreSameUpTo, AreFixedAfter}
use Rattle.cps_branch.specs.declared.ranking.Aside.{Aside}
use Rattle.cps_branch.specs.SetAside.{AreFixedAside, aside_at}

-- the same entries leave the same of the same domain
admits-same : (first first' : Domains) (es : List Entry) (i : ℕ) (x : ℤ) → first_of first' i ≡ first_of first i
    → admits first' es i x ≡ admits first es i x
unfolding admits
admits-same first first' es i x e = ap (λ ps. is_among ps x && list_all (leaves i x) es) e

take_same : (k n : ℕ) (es fs : List Entry) → n ≤ k → take k fs ≡ take k es → take n fs ≡ take n es
take_same k n es fs l e = sym (take-take n k fs l) ∙ ap (take n) e ∙ take-take n k es l

pub fixed-same : (n k c i : ℕ) (s t : Trail) → AreSameUpTo n k s t → i < n → c ≤ k
    → IsFixedAfter s.first (take c s.entries) i → IsFixedAfter t.first (take c t.entries) i
fixed-same n k c i s t same l m f x y a b =
    let to : (z : ℤ) → admits t.first (take c t.entries) i z ≡ true → admits s.first (take c s.entries) i z ≡ true =
    λ z h. sym (admits-same s.first t.first (take c s.entries) i z (same.domains i l)) ∙ ap (λ es. admits t.first es i z) (sym (take_same k c s.entries t.entries m same.entries)) ∙ h in
    f x y (to x a) (to y b)

-- what was seen of one store is true of another with the same first entries
pub kept_on : (order : List ℕ) (n : ℕ) (counts : List ℕ) (s t : Trail) (k l : ℕ) → k ≤ l → AreSameUpTo n k s t
    → AreFixedAfter order n counts s l → AreFixedAfter order n counts t k
kept_on order n counts s t k l kl same agrees pos i j li c lj jn =
    fixed-same n k (get_or counts i 0) (get_or order j 0) s t same jn c
    (agrees (omega arith) i j li (omega arith) lj jn)

pub none_kept : (order : List ℕ) (n : ℕ) (counts : List ℕ) (s : Trail) → AreFixedAfter order n counts s 0
none_kept order n counts s h = absurd (omega arith)

pub aside_kept_on : (n : ℕ) (aside : List Aside) (s t : Trail) (k l : ℕ) → k ≤ l → AreSameUpTo n k s t
    → AreFixedAside n aside s l → AreFixedAside n aside t k
aside_kept_on n aside s t k l kl same agrees pos i j li c lj jn =
    fixed-same n k (aside_at aside i).after (aside_at aside j).variable s t same jn c
    (agrees (omega arith) i j li (omega arith) lj jn)

pub aside_none_kept : (n : ℕ) (aside : List Aside) (s : Trail) → AreFixedAside n aside s 0
aside_none_kept n aside s h = absurd (omega arith)
