-- Products that are cut off past all values.
use Rattle.std.proofs.Common.{ℕ, suc, ◌+◌, ◌^◌, ◌<◌, ◌≤◌, ℤ, pos, negsuc, ◌*ℤ◌, ◌≤ℤ◌, ◌<ℤ◌, ◌≡◌, sym, ◌∙◌, ap, arith, List, [], ◌∷◌, length, get_or, drop, drop-cons, subst, ◌-◌, ◌-ℤ◌, ◌⊎◌, inl, inr, refl, FitsSigned, w64, All}
use Rattle.std.specs.Prelude.{unsigned_abs}
use Rattle.std.proofs.lemmas.Int.{ints, clamps, by_lt_z}
use Rattle.std.proofs.lemmas.List.Elements.{All-head, All-tail}
use Rattle.std.proofs.Math.IntN.{*ℤ_comm}
use Rattle.cps_domain.proofs.Products.{times_grows, times_shrinks}
use Rattle.cps_model.specs.Arithmetic.{product}
use Rattle.cps_p_arith.specs.declared.ends.Ends.{Ends}
use Rattle.cps_p_arith.specs.declared.range.Range.{Range}
use Rattle.cps_p_arith.specs.Ranges.{IsBetween, IsBoth, IsOrdered, IsIn, IsAt, AreIn, AreAt}
use Rattle.cps_p_arith.specs.Products.{clamped, IsCorner, IsReachedBy, IsProductRange}
use Rattle.cps_propagate.specs.Arithmetic.{MayMultiply}

far : ℤ
far = pos (2 ^ 63 + 1)

pub clamped-inside : (p : ℤ) → negsuc (2 ^ 63) ≤ℤ p → p ≤ℤ pos (2 ^ 63 + 1) → clamped p ≡ p
clamped-inside p l h = omega (arith, ints, clamps)

pub clamped-past : (p : ℤ) → pos (2 ^ 63 + 1) ≤ℤ p → clamped p ≡ pos (2 ^ 63 + 1)
clamped-past p h = omega (arith, ints, clamps)

pub clamped-under : (p : ℤ) → p ≤ℤ negsuc (2 ^ 63) → clamped p ≡ negsuc (2 ^ 63)
clamped-under p h = omega (arith, ints, clamps)

pub clamped-grows : (p q : ℤ) → p ≤ℤ q → clamped p ≤ℤ clamped q
clamped-grows p q h = omega (arith, ints, clamps)

pub clamped-size : (p : ℤ) → unsigned_abs (clamped p) ≤ 2 ^ 63 + 8
clamped-size p =
    by_lt_z p (negsuc (2 ^ 63))
    (λ l. let e = clamped-under p (omega (arith, ints)) in rw e (omega (arith, ints)))
    (λ l. by_lt_z (pos (2 ^ 63 + 1)) p
    (λ m. let e = clamped-past p (omega (arith, ints)) in rw e (omega (arith, ints)))
    (λ m. let e = clamped-inside p l m in rw e (small p l m)))
  where
    small : (p : ℤ) → negsuc (2 ^ 63) ≤ℤ p → p ≤ℤ pos (2 ^ 63 + 1) → unsigned_abs p ≤ 2 ^ 63 + 8
    small (pos n) l h = omega (arith, ints)
    small (negsuc n) l h = omega (arith, ints)

-- far numbers stay far
grown : (n p : ℤ) → pos 1 ≤ℤ n → pos (2 ^ 63 + 1) ≤ℤ p → pos (2 ^ 63 + 1) ≤ℤ (n *ℤ p)
grown n p h g =
    let k = times_grows p (pos 1) n (omega (arith, ints)) h in
    let c = *ℤ_comm n p in
    let one : (p *ℤ pos 1) ≡ p = omega (arith, ints) in
    omega (arith, ints)

turned : (n p : ℤ) → n ≤ℤ negsuc 0 → pos (2 ^ 63 + 1) ≤ℤ p → (n *ℤ p) ≤ℤ negsuc (2 ^ 63)
turned n p h g =
    let k = times_grows p n (negsuc 0) (omega (arith, ints)) h in
    let c = *ℤ_comm n p in
    let one : (p *ℤ negsuc 0) ≡ (pos 0 -ℤ p) = omega (arith, ints) in
    omega (arith, ints)

grown_down : (n p : ℤ) → pos 1 ≤ℤ n → p ≤ℤ negsuc (2 ^ 63) → (n *ℤ p) ≤ℤ negsuc (2 ^ 63)
grown_down n p h g =
    let k = times_shrinks p (pos 1) n (omega (arith, ints)) h in
    let c = *ℤ_comm n p in
    let one : (p *ℤ pos 1) ≡ p = omega (arith, ints) in
    omega (arith, ints)

turned_up : (n p : ℤ) → n ≤ℤ negsuc 0 → p ≤ℤ negsuc (2 ^ 63) → pos (2 ^ 63 + 1) ≤ℤ (n *ℤ p)
turned_up n p h g =
    let k = times_shrinks p n (negsuc 0) (omega (arith, ints)) h in
    let c = *ℤ_comm n p in
    let one : (p *ℤ negsuc 0) ≡ (pos 0 -ℤ p) = omega (arith, ints) in
    omega (arith, ints)

-- to cut a factor off changes no product that is cut off
pub clamped-times : (n p : ℤ) → clamped (n *ℤ clamped p) ≡ clamped (n *ℤ p)
clamped-times n p =
    by_lt_z p (negsuc (2 ^ 63))
    (λ l. let u : p ≤ℤ negsuc (2 ^ 63) = omega (arith, ints) in rw (clamped-under p u) (under n u))
    (λ l. by_lt_z (pos (2 ^ 63 + 1)) p
    (λ m. let u : pos (2 ^ 63 + 1) ≤ℤ p = omega (arith, ints) in rw (clamped-past p u) (past n u))
    (λ m. ap (λ z. clamped (n *ℤ z)) (clamped-inside p l m)))
  where
    under : (m : ℤ) → p ≤ℤ negsuc (2 ^ 63) → clamped (m *ℤ negsuc (2 ^ 63)) ≡ clamped (m *ℤ p)
    under m u =
        by_lt_z m (pos 0)
        (λ s. let t : m ≤ℤ negsuc 0 = omega (arith, ints) in
        clamped-past (m *ℤ negsuc (2 ^ 63)) (turned_up m (negsuc (2 ^ 63)) t (omega (arith, ints))) ∙ sym (clamped-past (m *ℤ p) (turned_up m p t u)))
        (λ s. by_lt_z (pos 0) m
        (λ s'. let t : pos 1 ≤ℤ m = omega (arith, ints) in
        clamped-under (m *ℤ negsuc (2 ^ 63)) (grown_down m (negsuc (2 ^ 63)) t (omega (arith, ints))) ∙ sym (clamped-under (m *ℤ p) (grown_down m p t u)))
        (λ s'. let z : m ≡ pos 0 = omega (arith, ints) in ap (λ x. clamped (x *ℤ negsuc (2 ^ 63))) z ∙ sym (ap (λ x. clamped (x *ℤ p)) z ∙ nothing p ∙ sym (nothing (negsuc (2 ^ 63))))))
      where
        nothing : (q : ℤ) → clamped (pos 0 *ℤ q) ≡ pos 0
        nothing q = let z : pos 0 *ℤ q ≡ pos 0 = omega (arith, ints) in ap clamped z

    past : (m : ℤ) → pos (2 ^ 63 + 1) ≤ℤ p → clamped (m *ℤ pos (2 ^ 63 + 1)) ≡ clamped (m *ℤ p)
    past m u =
        by_lt_z m (pos 0)
        (λ s. let t : m ≤ℤ negsuc 0 = omega (arith, ints) in
        clamped-under (m *ℤ pos (2 ^ 63 + 1)) (turned m (pos (2 ^ 63 + 1)) t (omega (arith, ints))) ∙ sym (clamped-under (m *ℤ p) (turned m p t u)))
        (λ s. by_lt_z (pos 0) m
        (λ s'. let t : pos 1 ≤ℤ m = omega (arith, ints) in
        clamped-past (m *ℤ pos (2 ^ 63 + 1)) (grown m (pos (2 ^ 63 + 1)) t (omega (arith, ints))) ∙ sym (clamped-past (m *ℤ p) (grown m p t u)))
        (λ s'. let z : m ≡ pos 0 = omega (arith, ints) in ap (λ x. clamped (x *ℤ pos (2 ^ 63 + 1))) z ∙ sym (ap (λ x. clamped (x *ℤ p)) z ∙ nothing p ∙ sym (nothing (pos (2 ^ 63 + 1))))))
      where
        nothing : (q : ℤ) → clamped (pos 0 *ℤ q) ≡ pos 0
        nothing q = let z : pos 0 *ℤ q ≡ pos 0 = omega (arith, ints) in ap clamped z

-- the range of no factor
pub range_of_none : (r : Range) → r.low ≡ pos 1 → r.high ≡ pos 1 → IsProductRange [] r
range_of_none r l h = record {
  small = record { low = rw l (omega (arith, ints)); high = rw h (omega (arith, ints)) };
  sound = sound;
  exact = exact;
  low = λ _. record { ns = []; within = tt; is = l };
  high = λ _. record { ns = []; within = tt; is = h };
}
  where
    sound : (ns : List ℤ) → AreIn [] ns → IsBetween r.low r.high (clamped (product ns))
    sound [] a = record { from = omega (arith, ints); to = omega (arith, ints) }
    sound (n ∷ ns) a = absurd a

    exact : (ns : List ℤ) → AreAt [] ns → IsBoth r.low r.high (clamped (product ns))
    exact [] a = record { from = l; to = h }
    exact (n ∷ ns) a = absurd a

-- an end of the range with one more is reached where those before are
reached_more : (e : Ends) (es : List Ends) (r : Range) (x y : ℤ) → IsIn e x → IsReachedBy es y → (w z : ℤ) → w ≡ x *ℤ y → z ≡ clamped w → IsReachedBy (e ∷ es) z
reached_more e es r x y i h w z k c = record {
  ns = x ∷ h.ns;
  within = (i, h.within);
  is = c ∙ ap clamped (k ∙ ap (λ a. x *ℤ a) h.is) ∙ clamped-times x (product h.ns);
}

at_end : (e : Ends) (x : ℤ) → IsOrdered e → (x ≡ e.low) ⊎ (x ≡ e.high) → IsIn e x
at_end e x o (inl p) = record { from = omega (arith, ints); to = omega (arith, ints) }
at_end e x o (inr p) = record { from = omega (arith, ints); to = omega (arith, ints) }

reached_end : (es : List Ends) (r : Range) (y : ℤ) → IsProductRange es r → All IsOrdered es → (y ≡ r.low) ⊎ (y ≡ r.high) → IsReachedBy es y
reached_end es r y h o (inl p) = subst (IsReachedBy es) (sym p) (h.low o)
reached_end es r y h o (inr p) = subst (IsReachedBy es) (sym p) (h.high o)

reached_corner : (e : Ends) (es : List Ends) (r : Range) (w z : ℤ) → IsProductRange es r → IsCorner e r w → z ≡ clamped w → All IsOrdered (e ∷ es) → IsReachedBy (e ∷ es) z
reached_corner e es r w z h k c o =
    reached_more e es r k.x k.y (at_end e k.x (All-head IsOrdered e es o) k.of_factor) (reached_end es r k.y h (All-tail IsOrdered e es o) k.of_range) w z k.is c

-- and with one more
pub range_of_more : (e : Ends) (es : List Ends) (r w s : Range) → IsProductRange es r
    → ((x y : ℤ) → IsIn e x → IsBetween r.low r.high y → IsBetween w.low w.high (x *ℤ y))
    → ((x y : ℤ) → IsAt e x → IsBoth r.low r.high y → IsBoth w.low w.high (x *ℤ y))
    → IsCorner e r w.low → IsCorner e r w.high
    → s.low ≡ clamped w.low → s.high ≡ clamped w.high → IsProductRange (e ∷ es) s
range_of_more e es r w s h sound exact kl kh l g = record {
  small = record { low = rw l (clamped-size w.low); high = rw g (clamped-size w.high) };
  sound = more;
  exact = more_exact;
  low = reached_corner e es r w.low s.low h kl l;
  high = reached_corner e es r w.high s.high h kh g;
}
  where
    more : (ns : List ℤ) → AreIn (e ∷ es) ns → IsBetween s.low s.high (clamped (product ns))
    more [] a = absurd a
    more (n ∷ ns) a =
        let b = sound n (clamped (product ns)) a.0 (h.sound ns a.1) in
        let from = clamped-grows w.low (n *ℤ clamped (product ns)) b.from in
        let to = clamped-grows (n *ℤ clamped (product ns)) w.high b.to in
        let same = clamped-times n (product ns) in
        record { from = rw (l, ← same) from; to = rw (g, ← same) to }

    more_exact : (ns : List ℤ) → AreAt (e ∷ es) ns → IsBoth s.low s.high (clamped (product ns))
    more_exact [] a = absurd a
    more_exact (n ∷ ns) a =
        let b = exact n (clamped (product ns)) a.0 (h.exact ns a.1) in
        let same = clamped-times n (product ns) in
        record { from = l ∙ ap clamped b.from ∙ same; to = g ∙ ap clamped b.to ∙ same }

pub product_step : (es : List Ends) (k : ℕ) (d : Ends) (r w s : Range) → 0 < k → k ≤ length es → IsProductRange (drop k es) r
    → ((x y : ℤ) → IsIn (get_or es (k - 1) d) x → IsBetween r.low r.high y → IsBetween w.low w.high (x *ℤ y))
    → ((x y : ℤ) → IsAt (get_or es (k - 1) d) x → IsBoth r.low r.high y → IsBoth w.low w.high (x *ℤ y))
    → IsCorner (get_or es (k - 1) d) r w.low → IsCorner (get_or es (k - 1) d) r w.high
    → s.low ≡ clamped w.low → s.high ≡ clamped w.high → IsProductRange (drop (k - 1) es) s
product_step es k d r w s p l h sound exact kl kh low high =
    let e : suc (k - 1) ≡ k = omega arith in
    let front : drop (k - 1) es ≡ get_or es (k - 1) d ∷ drop k es = drop-cons es (k - 1) d (omega arith) ∙ ap (λ j. get_or es (k - 1) d ∷ drop j es) e in
    subst (λ xs. IsProductRange xs s) (sym front) (range_of_more (get_or es (k - 1) d) (drop k es) r w s h sound exact kl kh low high)

unclamped : (p v : ℤ) → negsuc (2 ^ 63 - 1) ≤ℤ v → v ≤ℤ pos (2 ^ 63) → clamped p ≡ v → v ≡ p
unclamped p v l h same = omega (arith, ints, clamps)

low : (v : ℤ) → FitsSigned w64 v → negsuc (2 ^ 63 - 1) ≤ℤ v
low (pos n) f = omega (arith, ints)
low (negsuc n) f = let g = f.sfits in omega (arith, ints)

high : (v : ℤ) → FitsSigned w64 v → v ≤ℤ pos (2 ^ 63)
high (pos n) f = let g = f.sfits in omega (arith, ints)
high (negsuc n) f = omega (arith, ints)

-- what a product range says of a value that fits
pub product_off : (es : List Ends) (r : Range) (t : Ends) (v : ℤ) (ns : List ℤ) → FitsSigned w64 v → IsProductRange es r → (r.high <ℤ t.low) ⊎ (t.high <ℤ r.low)
    → IsIn t v → AreIn es ns → v ≡ product ns → ⊥
product_off es r t v ns f h off at within e =
    let b = h.sound ns within in
    let same : clamped (product ns) ≡ v = ap clamped (sym e) ∙ clamped-inside v (let l = low v f in omega (arith, ints)) (let g = high v f in omega (arith, ints)) in
    let from = b.from in
    let to = b.to in
    let tf = at.from in
    let tt' = at.to in
    elim off [ inl o ↦ absurd (omega (arith, ints)) | inr o ↦ absurd (omega (arith, ints)) ]

pub product_at : (es : List Ends) (r : Range) (t : Ends) (v : ℤ) (ns : List ℤ) → FitsSigned w64 v → IsProductRange es r → t.low ≤ℤ r.high → r.low ≤ℤ t.high
    → IsAt t v → AreAt es ns → v ≡ product ns
product_at es r t v ns f h l g at fixed =
    let b = h.exact ns fixed in
    let from = b.from in
    let to = b.to in
    let tf = at.from in
    let tt' = at.to in
    let same : clamped (product ns) ≡ v = omega (arith, ints) in
    unclamped (product ns) v (low v f) (high v f) same

-- a product range that is not apart from a target has products on both its sides
pub may_multiply : (es : List Ends) (r : Range) (t : Ends) → FitsSigned w64 t.low → FitsSigned w64 t.high → IsProductRange es r → t.low ≤ℤ r.high → r.low ≤ℤ t.high
    → IsOrdered t → All IsOrdered es → MayMultiply (AreIn es) (IsIn t)
may_multiply es r t fl fh h l g o all =
    let a = h.low all in
    let b = h.high all in
    record {
      low = (a.ns, t.high, a.within, at_end t t.high o (inr refl), under (product a.ns) t.high (high t.high fh) (let e = a.is in omega (arith, ints)));
      high = (b.ns, t.low, b.within, at_end t t.low o (inl refl), over (product b.ns) t.low (low t.low fl) (let e = b.is in omega (arith, ints)));
    }
  where
    under : (p v : ℤ) → v ≤ℤ pos (2 ^ 63) → clamped p ≤ℤ v → p ≤ℤ v
    under p v f c = omega (arith, ints, clamps)

    over : (p v : ℤ) → negsuc (2 ^ 63 - 1) ≤ℤ v → v ≤ℤ clamped p → v ≤ℤ p
    over p v f c = omega (arith, ints, clamps)
