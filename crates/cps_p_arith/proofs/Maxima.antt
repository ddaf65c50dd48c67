-- What the ends of values say of the greatest of them.
use Rattle.std.proofs.Common.{ℕ, zero, suc, ◌<◌, ℤ, ◌≤ℤ◌, ◌<ℤ◌, List, [], ◌∷◌, length, get_or, ◌≡◌, ◌⊎◌, inl, inr, refl, arith, All, Any, Contains}
use Rattle.std.proofs.lemmas.Int.{ints, by_lt_z}
use Rattle.std.proofs.lemmas.List.Elements.{All-nil, All-cons, All-tail}
use Rattle.cps_model.specs.Arithmetic.{IsGreatest}
use Rattle.cps_p_arith.specs.declared.ends.Ends.{Ends}
use Rattle.cps_p_arith.specs.Ranges.{IsIn, AreIn, IsAt, AreAt}
use Rattle.cps_p_arith.specs.Maxima.{MayReach}
use Rattle.cps_p_arith.proofs.Zips.{zip_length, zip_at}

pub passed : (high v : ℤ) (es : List Ends) (ns : List ℤ) → Any (λ e. high <ℤ e.low) es → AreIn es ns → v ≤ℤ high → IsGreatest v ns → ⊥
passed high v es ns some within under g =
    let k = some.0 in
    let e = some.1 in
    let same : length es ≡ length ns = zip_length IsIn es ns within in
    let inside : IsIn (get_or es k e) (get_or ns k v) = zip_at IsIn es ns k e v within some.2 in
    let there : IsIn e (get_or ns k v) = rw some.3 at inside in
    let above : get_or ns k v ≤ℤ v = g.above k v (let l = some.2 in omega arith) in
    let past = some.4 in
    let from = there.from in
    omega (arith, ints)

pub fallen_short : (low v : ℤ) (es : List Ends) (ns : List ℤ) → All (λ e. e.high <ℤ low) es → AreIn es ns → low ≤ℤ v → IsGreatest v ns → ⊥
fallen_short low v es ns short within over g =
    let k = g.listed.0 in
    let same : length es ≡ length ns = zip_length IsIn es ns within in
    let l : k < length es = (let m = g.listed.1 in omega arith) in
    let d : Ends = record { low = v; high = v } in
    let inside : IsIn (get_or es k d) (get_or ns k v) = zip_at IsIn es ns k d v within l in
    let less = short k d l in
    let to = inside.to in
    let is = g.listed.2 in
    omega (arith, ints)

same_or : (xs : List Ends) (i : ℕ) (d : Ends) → i < length xs → get_or xs i (get_or xs i d) ≡ get_or xs i d
same_or [] i d l = absurd (omega arith)
same_or (x ∷ xs) zero d l = refl
same_or (x ∷ xs) (suc i) d l = same_or xs i d (omega arith)

none_above : (v : ℤ) (es : List Ends) (ns : List ℤ) → (Any (λ e. v <ℤ e.low) es → ⊥) → AreAt es ns → All (λ n. n ≤ℤ v) ns
none_above v es ns none fixed k d l =
    let same : length es ≡ length ns = zip_length IsAt es ns fixed in
    let m : k < length es = omega arith in
    let e : Ends = get_or es k (record { low = v; high = v }) in
    let at : IsAt e (get_or ns k d) = zip_at IsAt es ns k (record { low = v; high = v }) d fixed m in
    by_lt_z v (get_or ns k d) (λ less. absurd (none (k, e, m, same_or es k (record { low = v; high = v }) m, (let f = at.from in omega (arith, ints))))) (λ h. h)

listed_or : (v : ℤ) (es : List Ends) (ns : List ℤ) → AreAt es ns → All (λ n. n ≤ℤ v) ns → Contains ns v ⊎ All (λ e. e.high <ℤ v) es
listed_or v [] [] h a = inr (All-nil (λ e. e.high <ℤ v))
listed_or v [] (n ∷ ns) h a = absurd h
listed_or v (e ∷ es) [] h a = absurd h
listed_or v (e ∷ es) (n ∷ ns) h a =
    by_lt_z n v
    (λ less. elim (listed_or v es ns h.1 (All-tail (λ m. m ≤ℤ v) n ns a)) [
      | inl found ↦ inl (suc found.0, (let l = found.1 in omega arith), found.2)
      | inr short ↦ inr (All-cons (λ e. e.high <ℤ v) e es (let t = h.0.to in omega (arith, ints)) short)
    ])
    (λ least. inl (0, omega arith, (let m = a 0 v (omega arith) in omega (arith, ints))))

pub is_greatest : (v : ℤ) (es : List Ends) (ns : List ℤ) → (Any (λ e. v <ℤ e.low) es → ⊥) → (All (λ e. e.high <ℤ v) es → ⊥) → AreAt es ns → IsGreatest v ns
is_greatest v es ns none reached fixed =
    let above = none_above v es ns none fixed in
    elim (listed_or v es ns fixed above) [
      | inl found ↦ record { listed = found; above = above }
      | inr short ↦ absurd (reached short)
    ]

pub is_fixed_greatest : (t : Ends) (v : ℤ) (es : List Ends) (ns : List ℤ) → IsAt t v → (Any (λ e. t.high <ℤ e.low) es → ⊥) → (All (λ e. e.high <ℤ t.low) es → ⊥) → AreAt es ns → IsGreatest v ns
is_fixed_greatest t v es ns at none reached fixed =
    is_greatest v es ns
    (λ some. none (some.0, some.1, some.2, some.3, (let p = some.4 in let to = at.to in omega (arith, ints))))
    (λ short. reached (λ k d l. let p = short k d l in let from = at.from in omega (arith, ints)))
    fixed

-- some member reaches where not all fall short
some_reaches : (low : ℤ) (es : List Ends) → (All (λ e. e.high <ℤ low) es → ⊥) → (k : ℕ) × (k < length es) × ((d : Ends) → low ≤ℤ (get_or es k d).high)
some_reaches low [] reached = absurd (reached (All-nil (λ e. e.high <ℤ low)))
some_reaches low (e ∷ es) reached =
    by_lt_z e.high low
    (λ less. let r = some_reaches low es (λ all. reached (All-cons (λ e. e.high <ℤ low) e es less all)) in (suc r.0, (let l = r.1 in omega arith), r.2))
    (λ more. (0, omega arith, λ d. more))

pub may_reach : (t : Ends) (es : List Ends) → (Any (λ e. t.high <ℤ e.low) es → ⊥) → (All (λ e. e.high <ℤ t.low) es → ⊥) → MayReach t es
may_reach t es none reached = record {
  reached = some_reaches t.low es reached;
  above = λ k d l. by_lt_z t.high (get_or es k d).low (λ less. absurd (none (k, get_or es k d, l, same_or es k d l, less))) (λ h. h);
}
