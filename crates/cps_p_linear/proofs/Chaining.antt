-- Places are chained one after the other.
use Rattle.std.proofs.Common.{◌≡◌, ◌≢◌, ℕ, zero, suc, ◌+◌, ◌<◌, ◌%◌, ◌⊎◌, inl, inr, arith, ap, refl, sym, ◌∙◌, List, [], ◌∷◌, ◌++◌, length, get_or, set}
use Rattle.std.proofs.lemmas.List.{get_or_append_left}
use Rattle.std.proofs.Math.Seq.{get_or-append_seam}
use Rattle.cps_instance.specs.declared.term.Term.{Term}
use Rattle.cps_p_linear.specs.declared.places.Places.{Places}
use Rattle.cps_p_linear.specs.Chains.{AreChained, IsIndexed, IsOnChain, NoneBetween, remainder_at}

pub set_here : {M : Type 0} (ms : List M) (n : ℕ) (m d : M) → n < length ms → get_or (set ms n m) n d ≡ m
set_here [] n m d l = absurd (omega arith)
set_here (x ∷ ms) zero m d l = refl
set_here (x ∷ ms) (suc n) m d l = set_here ms n m d (omega arith)

pub set_other : {M : Type 0} (ms : List M) (n j : ℕ) (m d : M) → j ≢ n → get_or (set ms n m) j d ≡ get_or ms j d
set_other [] n j m d o = refl
set_other (x ∷ ms) zero zero m d o = absurd (o refl)
set_other (x ∷ ms) zero (suc j) m d o = refl
set_other (x ∷ ms) (suc n) zero m d o = refl
set_other (x ∷ ms) (suc n) (suc j) m d o = set_other ms n j m d (λ e. o (ap (λ (i : ℕ). suc i) e))

pub same_or_not : (i j : ℕ) → (i ≡ j) ⊎ (i ≢ j)
same_or_not i j = grind arith

pub chained_none : (ts : List Term) (size : ℕ) (heads nexts : List ℕ) → ((h : ℕ) → get_or heads h 0 ≡ 0) → AreChained ts size heads nexts 0
chained_none ts size heads nexts none = record {
  heads_within = λ h. omega (arith, none h);
  head = λ j d l. absurd (omega (arith, l));
  head_of = λ h c d e. absurd (omega (arith, e, none h));
  links_within = λ p l. absurd (omega (arith, l));
  link = λ p j d l m e. absurd (omega (arith, l));
  link_of = λ p c d l e. absurd (omega (arith, l));
}

module _ (ts : List Term) (size : ℕ) (heads nexts : List ℕ) (place h : ℕ) (count : length nexts ≡ place) (within : h < length heads) (is : (d : Term) → remainder_at ts size place d ≡ h) (c : AreChained ts size heads nexts place) where
  abbrev heads' : List ℕ
  heads' = set heads h (place + 1)

  abbrev nexts' : List ℕ
  nexts' = nexts ++ get_or heads h 0 ∷ []

  before : (p : ℕ) → p < place + 1 → (p < place) ⊎ (p ≡ place)
  before p l = grind arith

  old_link : (p : ℕ) → p < place → get_or nexts' p 0 ≡ get_or nexts p 0
  old_link p l = get_or_append_left nexts (get_or heads h 0 ∷ []) 0 p (omega (arith, l, count))

  new_link : (p : ℕ) → p ≡ place → get_or nexts' p 0 ≡ get_or heads h 0
  new_link p e = ap (λ (k : ℕ). get_or nexts' k 0) (e ∙ sym count) ∙ get_or-append_seam nexts (get_or heads h 0) [] 0

  pub chained_more : AreChained ts size (set heads h (place + 1)) (nexts ++ get_or heads h 0 ∷ []) (place + 1)
  chained_more = record {
    heads_within = λ g. elim (same_or_not g h) [
      | inl e ↦ omega (arith, ap (λ (k : ℕ). get_or heads' k 0) e, set_here heads h (place + 1) 0 within)
      | inr o ↦ omega (arith, set_other heads h g (place + 1) 0 o, c.heads_within g)
    ];
    head = λ j d l. elim (same_or_not (remainder_at ts size j d) h) [
      | inl e ↦ omega (arith, l, ap (λ (k : ℕ). get_or heads' k 0) e, set_here heads h (place + 1) 0 within)
      | inr o ↦ elim (before j l) [
        | inl b ↦ omega (arith, set_other heads h (remainder_at ts size j d) (place + 1) 0 o, c.head j d b)
        | inr e ↦ absurd (o (ap (λ (k : ℕ). remainder_at ts size k d) e ∙ is d))
      ]
    ];
    head_of = λ g k d e. elim (same_or_not g h) [
      | inl same ↦ (let at : k ≡ place = omega (arith, e, ap (λ (i : ℕ). get_or heads' i 0) same, set_here heads h (place + 1) 0 within) in
          ap (λ (i : ℕ). remainder_at ts size i d) at ∙ is d ∙ sym same)
      | inr o ↦ c.head_of g k d (sym (set_other heads h g (place + 1) 0 o) ∙ e)
    ];
    links_within = λ p l. elim (before p l) [
      | inl b ↦ omega (arith, old_link p b, c.links_within p b)
      | inr e ↦ omega (arith, e, new_link p e, c.heads_within h)
    ];
    link = λ p j d l m e. elim (before p l) [
      | inl b ↦ omega (arith, old_link p b, c.link p j d b m e)
      | inr at ↦ (let same : remainder_at ts size j d ≡ h = e ∙ ap (λ (i : ℕ). remainder_at ts size i d) at ∙ is d in
          omega (arith, new_link p at, ap (λ (k : ℕ). get_or heads k 0) same, c.head j d (omega (arith, m, at))))
    ];
    link_of = λ p k d l e. elim (before p l) [
      | inl b ↦ c.link_of p k d b (sym (old_link p b) ∙ e)
      | inr at ↦ c.head_of h k d (sym (new_link p at) ∙ e) ∙ sym (ap (λ (i : ℕ). remainder_at ts size i d) at ∙ is d)
    ];
  }

-- the last place of a chain
module _ (ts : List Term) (places : Places) (x : IsIndexed ts places) (subject above : ℕ) (is : above ≡ get_or places.heads.items (subject % length places.heads.items) 0) where
  pub chain_begins : IsOnChain ts places subject above
  chain_begins = record {
    within = omega (arith, is, x.chained.heads_within (subject % length places.heads.items));
    same = λ c d e. x.chained.head_of (subject % length places.heads.items) c d (sym is ∙ e);
  }

  pub none_behind : NoneBetween ts subject above (length ts)
  none_behind j d low high e =
      let l = x.chained.head j d high in
      let same = ap (λ (i : ℕ). get_or places.heads.items (i % length places.heads.items) 0) e in
      omega (arith, low, is, l, same)

-- and the one before a place of it
module _ (ts : List Term) (places : Places) (x : IsIndexed ts places) (subject place above : ℕ) (on : IsOnChain ts places subject (place + 1)) (is : above ≡ get_or places.nexts.items place 0) where
  here : place < length ts
  here = omega (arith, on.within)

  pub chain_goes : IsOnChain ts places subject above
  chain_goes = record {
    within = omega (arith, is, x.chained.links_within place here, here);
    same = λ c d e. x.chained.link_of place c d here (sym is ∙ e) ∙ on.same place d refl;
  }

  pub none_between : NoneBetween ts subject above place
  none_between j d low high e =
      let rem : remainder_at ts (length places.heads.items) j d ≡ remainder_at ts (length places.heads.items) place d = ap (λ (i : ℕ). i % length places.heads.items) e ∙ sym (on.same place d refl) in
      let b = x.chained.link place j d here high rem in
      omega (arith, low, is, b)
