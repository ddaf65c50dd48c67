-- What rest asks of elements and tables depends on the values of their subjects alone.
use Rattle.std.specs.Prelude.{pos}
use Rattle.std.proofs.Common.{ℕ, ℤ, List, get_or, sym, ◌∙◌, inl, inr}
use Rattle.std.specs.List.{All}
use Rattle.std.proofs.lemmas.List.Elements.{All-get_or}
use Rattle.cps_trail.specs.Trail.{Trail}
use Rattle.cps_propagate.specs.Now.{IsFixedNow, IsEndNow, IsSameAt}
use Rattle.cps_propagate.specs.Lookups.{MayBeSame, IsOpenPlace, MayBeElement, IsValueAtPlace, IsStrongElement, cell, IsOpenRowAt, HasOpenRows, MissesRows, IsSurelyListed}

module _ (s u : Trail) where
  fixed_back : (i : ℕ) → IsSameAt s u i → IsFixedNow u i → IsFixedNow s i
  fixed_back i same f = λ x y p q. f x y (sym (same x) ∙ p) (sym (same y) ∙ q)

  pub end_now : (i : ℕ) (v : ℤ) → IsSameAt s u i → IsEndNow s i v → IsEndNow u i v
  end_now i v same h = record {
    reached = sym (same v) ∙ h.reached;
    last = elim h.last [ inl low ↦ inl (λ x o. low x (same x ∙ o)) | inr high ↦ inr (λ x o. high x (same x ∙ o)) ];
  }

  may_same : (i j : ℕ) → IsSameAt s u i → IsSameAt s u j → MayBeSame s i j → MayBeSame u i j
  may_same i j a b h =
      let up = h.up in
      let down = h.down in
      record {
        up = (up.0, up.1, sym (a up.0) ∙ up.2, sym (b up.1) ∙ up.3, up.4);
        down = (down.0, down.1, sym (a down.0) ∙ down.2, sym (b down.1) ∙ down.3, down.4);
        single = λ fixed.
            (let one = h.single (elim fixed [ inl f ↦ inl (fixed_back i a f) | inr f ↦ inr (fixed_back j b f) ]) in (
              one.0,
              sym (a one.0) ∙ one.1,
              sym (b one.0) ∙ one.2,
            ));
      }

module _ (s u : Trail) (index target : ℕ) (exprs : List ℕ) (at_index : IsSameAt s u index) (at_target : IsSameAt s u target) (same : All (IsSameAt s u) exprs) where
  place_same : (k : ℕ) → IsOpenPlace s index target exprs k → IsOpenPlace u index target exprs k
  place_same k h = record {
    within = h.within;
    place = sym (at_index (pos k)) ∙ h.place;
    same = may_same s u (get_or exprs k 0) target (All-get_or (IsSameAt s u) exprs k 0 h.within same) at_target h.same;
  }

  value_same : (v : ℤ) → IsValueAtPlace s index target exprs v → IsValueAtPlace u index target exprs v
  value_same v h = record {
    k = h.k;
    place = place_same h.k h.place;
    value = sym (All-get_or (IsSameAt s u) exprs h.k 0 h.place.within same v) ∙ h.value;
  }

  pub element_same : MayBeElement s index target exprs → MayBeElement u index target exprs
  element_same h = (h.0, place_same h.0 h.1)

  pub strong_element : IsStrongElement s index target exprs → IsStrongElement u index target exprs
  strong_element h = record {
    places = λ x o. (let p = h.places x (at_index x ∙ o) in (p.0, p.1, place_same p.0 p.2));
    low = λ x o. (let v = h.low x (at_target x ∙ o) in (v.0, value_same v.0 v.1, v.2));
    high = λ x o. (let v = h.high x (at_target x ∙ o) in (v.0, value_same v.0 v.1, v.2));
    last_low = λ k v last.
        (let x = h.last_low k v (record {
          within = last.within;
          alone = λ y o. last.alone y (sym (at_index y) ∙ o);
          value = All-get_or (IsSameAt s u) exprs k 0 last.within same v ∙ last.value;
        }) in (x.0, sym (at_target x.0) ∙ x.1, x.2));
    last_high = λ k v last.
        (let x = h.last_high k v (record {
          within = last.within;
          alone = λ y o. last.alone y (sym (at_index y) ∙ o);
          value = All-get_or (IsSameAt s u) exprs k 0 last.within same v ∙ last.value;
        }) in (x.0, sym (at_target x.0) ∙ x.1, x.2));
  }

module _ (s u : Trail) (exprs : List ℕ) (values : List ℤ) (same : All (IsSameAt s u) exprs) where
  pub misses_same : MissesRows s exprs values → MissesRows u exprs values
  misses_same h = record {
    missed = λ row within c l others o.
        h.missed row within c l (λ k m ne x p. others k m ne x (sym (All-get_or (IsSameAt s u) exprs k 0 m same x) ∙ p))
        (All-get_or (IsSameAt s u) exprs c 0 l same _ ∙ o);
  }

  pub listed_same : IsSurelyListed s exprs values → IsSurelyListed u exprs values
  listed_same h = record {
    some = h.some;
    row = h.row;
    within = h.within;
    sure = λ k l x o. h.sure k l x (All-get_or (IsSameAt s u) exprs k 0 l same x ∙ o);
  }

  pub open_row_at_same : (row : ℕ) → IsOpenRowAt s exprs values row → IsOpenRowAt u exprs values row
  open_row_at_same row h = record {
    within = h.within;
    possible = λ k l. sym (All-get_or (IsSameAt s u) exprs k 0 l same (cell exprs values row k)) ∙ h.possible k l;
  }

  pub open_rows_same : HasOpenRows s exprs values → HasOpenRows u exprs values
  open_rows_same h = record {
    some = (let r = h.some in (r.0, open_row_at_same r.0 r.1));
    ends = λ k v l last.
        (let r = h.ends k v l (end_now u s (get_or exprs k 0) v (λ x. sym (All-get_or (IsSameAt s u) exprs k 0 l same x)) last) in
        (r.0, open_row_at_same r.0 r.1, r.2));
  }
