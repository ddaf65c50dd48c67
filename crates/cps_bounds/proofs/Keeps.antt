-- Each step keeps the rule of the two words.
use Rattle.std.proofs.Common.{◌≡◌, ◌≢◌, ℕ, ◌+◌, ◌/◌, ◌<◌, ◌≤◌, min, max, Some, None, List, [], ◌∷◌, get_or, set, sym, refl, ap, ◌∙◌, subst, ⊎_elim, arith}
use mathlib.Core.Logic.{dite}
use mathlib.Core.Option.{some, none, some-injective}
use native.Mathlib.Decide.{dec_le, ℕ_discrete}
use lib.ListN.{get_elem?}
use Rattle.atomic_table.specs.Table.{State, Me, step, keeps, stepped, Allows, Splits, Joins, opening}
use Rattle.atomic_table.proofs.Lists.{at_set, at_snoc, set_else}
use Rattle.cps_model.specs.declared.bound.Bound.{Bound}
use Rattle.cps_model.specs.declared.bound.Bound.TheVariants.{At, Infinite}
use Rattle.cps_model.specs.declared.model.CpModel.{CpModel}
use Rattle.cps_model.specs.Start.{objective_start}
use Rattle.cps_port.specs.declared.part.BoundsPart.{BoundsPart}
use Rattle.cps_port.specs.Order.{BoundLe, IsNoLower, raised_above}
use Rattle.cps_port.specs.Incumbents.{IsIncumbent, IsLowerBound}
use Rattle.cps_port.specs.Parts.{after_upper, after_lower, after_offer, after_raise}
use Rattle.cps_port.proofs.BoundLaws.{BoundLe-refl, BoundLe-trans, IsNoLower-trans, lesser_is}
use Rattle.cps_port.proofs.Places.{here, one_there, nothing, total_set, total_snoc, total_two}
use Rattle.cps_bounds.specs.declared.view.View.{View}
use Rattle.cps_port.specs.Words.{top, value_word, word_of, raise_word, bound_of, HasWord, HasWords}
use Rattle.cps_bounds.specs.Rule.{all_splits, least, greatest, FitsWords, KeptWords, first_view, spent, kept_half, given_half, joined, with_part, OfModel, upper_seen, lower_seen, value_offered, bound_raised}
use Rattle.cps_port.proofs.InOrder.{word_of-bound_of, word_of-lesser, word_of-raised_above, raise_word-raised_to, raise_word-greater_of, raise_fits, has_word_infinite, has_word_of, has_words-raised_to, has_words-greater_of, has_word-raised_above, no_lower-greater_of, bound_of-grows}
use Rattle.cps_bounds.proofs.Folds.{least_top, least_at, below_least, least_set, least_snoc, least_spent, greatest_base, greatest_at, greatest_below, greatest_set, greatest_snoc, greatest_spent}

abbrev offer_of : View → ℕ
offer_of v = word_of v.part.offered

abbrev raise_of : View → ℕ
raise_of v = raise_word v.part.raised

abbrev splits_of : View → ℕ
splits_of v = v.splits

one_of_min : (P : ℕ → Type 0) (a b : ℕ) → P a → P b → P (min a b)
one_of_min P a b x y = dite (dec_le a b) (λ h. let e : a ≡ min a b = omega arith in subst P e x) (λ h. let e : b ≡ min a b = omega arith in subst P e y)

one_of_max : (P : ℕ → Type 0) (a b : ℕ) → P a → P b → P (max a b)
one_of_max P a b x y = dite (dec_le a b) (λ h. let e : b ≡ max a b = omega arith in subst P e y) (λ h. let e : a ≡ max a b = omega arith in subst P e x)

module _ (m : CpModel) where
  -- the words only come closer
  wider : (v : View) (u l u' l' : ℕ) → u' ≤ u → u ≤ top → l ≤ l' → l' ≤ top → FitsWords m u l v → FitsWords m u' l' v
  wider v u l u' l' down high up low f = record {
    model = f.model;
    idle = f.idle;
    offered = f.offered;
    raised = f.raised;
    upper = BoundLe-trans (bound_of u') (bound_of u) v.part.saw_upper (bound_of-grows u' u down high) f.upper;
    lower = IsNoLower-trans v.part.saw_lower (bound_of l) (bound_of l') f.lower (bound_of-grows l l' up low);
  }

  fits_set : (vs : List View) (id : ℕ) (w : View) (u l u' l' : ℕ) → u' ≤ u → u ≤ top → l ≤ l' → l' ≤ top → FitsWords m u' l' w → ((i : ℕ) (v : View) → get_elem? vs i ≡ some v → FitsWords m u l v)
      → (i : ℕ) (v : View) → get_elem? (set vs id w) i ≡ some v → FitsWords m u' l' v
  fits_set vs id w u l u' l' down high up low mine others i v e = ⊎_elim (λ (t : (i ≡ id) × (w ≡ v)). subst (λ (z : View). FitsWords m u' l' z) t.1 mine)
      (λ (t : (i ≢ id) × (get_elem? vs i ≡ some v)). wider v u l u' l' down high up low (others i v t.1)) (at_set vs id i w v e)

  of_model : (v : View) → v.model ≡ Some m → (P : CpModel → Type 0) → P m → OfModel v P
  of_model v e P h q d = let same : m ≡ q = cc in subst P same h

infinite_last : (b : Bound) → BoundLe b Infinite
infinite_last (At x) = tt
infinite_last Infinite = tt

module _ (m : CpModel) where
  abbrev start_word : ℕ
  start_word = value_word (objective_start m)

  shown_infinite : IsIncumbent m Infinite
  unfolding IsIncumbent
  shown_infinite = tt

  -- what the last state tells of its words
  pub record Closes (v : View) (a b : ℕ) : Type 0 where
    pub shown : IsIncumbent m (bound_of a)
    pub floor : IsLowerBound m (bound_of b)
    pub no_higher : BoundLe (bound_of a) v.part.saw_upper
    pub no_lower : IsNoLower v.part.saw_lower (bound_of b)
    pub upper : v.splits ≡ all_splits → bound_of a ≡ v.part.offered
    pub lower : v.splits ≡ all_splits → bound_of b ≡ raised_above v.part.raised (At (objective_start m))

module _ {S : Type 0} (m : CpModel) where
  abbrev Rule : State S View → Type 0
  Rule = KeptWords m

  -- a step of one seat, after which the upper word is the lesser of itself and k, and the lower word the greater of itself and j
  moved : (s : State S View) (r : Rule s) (id i n : ℕ) (cs : List (ℕ × S)) (v w : View) (u l k j : ℕ) → set s.words i n ≡ u ∷ l ∷ [] → get_elem? s.views id ≡ some v → w.model ≡ v.model → w.splits ≡ v.splits
      → 0 < v.splits → HasWord w.part.offered → HasWords w.part.raised → offer_of w ≡ min (offer_of v) k → u ≡ min r.upper k → raise_of w ≡ max (raise_of v) j → l ≡ max r.lower j → l ≤ top
      → BoundLe (bound_of u) w.part.saw_upper → IsNoLower w.part.saw_lower (bound_of l) → IsIncumbent m (bound_of u) → IsLowerBound m (bound_of l) → Rule (stepped s i n id cs w keeps)
  moved s r id i n cs v w u l k j words at model splits part has_offered has_raised offered down raised up fits saw_u saw_l shown floor = let f = r.each id v at in let q = f.model part in let high = r.upper_fits in record {
    upper = u;
    lower = l;
    words = words;
    upper_fits = omega arith;
    lower_fits = fits;
    start = r.start;
    splits = let t = total_set splits_of s.views id v w at in let e = r.splits in omega arith;
    least_is = let t = least_set offer_of top s.views id v w k at offered in down ∙ (ap (λ (z : ℕ). min z k) r.least_is ∙ sym t);
    greatest_is = let t = greatest_set raise_of (start_word m) s.views id v w j at raised in up ∙ (ap (λ (z : ℕ). max z j) r.greatest_is ∙ sym t);
    each = fits_set m s.views id w r.upper r.lower u l (omega arith) high (omega arith) fits (record { model = λ _. model ∙ q; idle = λ none. absurd (omega arith); offered = has_offered; raised = has_raised; upper = saw_u; lower = saw_l }) r.each;
    shown = shown;
    floor = floor;
  }

  module _ (slots id : ℕ) (me : Me S View) (part : 0 < me.0.splits) where
    pub sees_upper : Allows Rule slots id me 0 (λ n. n) (upper_seen (step slots 0 0 0 none) me)
    sees_upper s r len at small = let v : View = me.0 in let n : ℕ = get_or s.words 0 0 in let is : n ≡ r.upper = ap (λ (ws : List ℕ). get_or ws 0 0) r.words in
        let f = r.each id v at in let p : BoundsPart = after_upper v.part (bound_of n) (v.part.upper_loads + 1) in let low = r.lower_fits in
        let lo = least_at offer_of top s.views id v at in let hi = greatest_at raise_of (start_word m) s.views id v at in let li = r.least_is in let gi = r.greatest_is in
        let shown = subst (λ (z : ℕ). IsIncumbent m (bound_of z)) (sym is) r.shown in (
          with_part v p,
          keeps,
          tt,
          moved s r id 0 n me.1 v (with_part v p) n r.lower (offer_of v) (raise_of v) (ap (λ (ws : List ℕ). set ws 0 n) r.words) at refl refl part f.offered f.raised (omega arith) (omega arith) (omega arith) (omega arith) low (BoundLe-refl (bound_of n)) f.lower shown r.floor,
          (refl, subst (λ (z : ℕ). BoundLe (bound_of z) v.part.saw_upper) (sym is) f.upper, of_model m v (f.model part) (λ q. IsIncumbent q (bound_of n)) shown),
        )

    pub sees_lower : Allows Rule slots id me 1 (λ n. n) (lower_seen (step slots 1 0 0 none) me)
    sees_lower s r len at small = let v : View = me.0 in let n : ℕ = get_or s.words 1 0 in let is : n ≡ r.lower = ap (λ (ws : List ℕ). get_or ws 1 0) r.words in
        let f = r.each id v at in let p : BoundsPart = after_lower v.part (bound_of n) (v.part.lower_loads + 1) in
        let lo = least_at offer_of top s.views id v at in let hi = greatest_at raise_of (start_word m) s.views id v at in let li = r.least_is in let gi = r.greatest_is in
        let floor = subst (λ (z : ℕ). IsLowerBound m (bound_of z)) (sym is) r.floor in (
          with_part v p,
          keeps,
          tt,
          moved s r id 1 n me.1 v (with_part v p) r.upper n (offer_of v) (raise_of v) (ap (λ (ws : List ℕ). set ws 1 n) r.words) at refl refl part f.offered f.raised (omega arith) (omega arith) (omega arith) (omega arith) (omega arith) f.upper (BoundLe-refl (bound_of n)) r.shown floor,
          (refl, subst (λ (z : ℕ). IsNoLower v.part.saw_lower (bound_of z)) (sym is) f.lower, of_model m v (f.model part) (λ q. IsLowerBound q (bound_of n)) floor),
        )

    pub offers : (k : ℕ) → k ≤ top → IsIncumbent m (bound_of k) → Allows Rule slots id me 0 (λ n. min n k) (value_offered (step slots 0 k 0 none) me)
    offers k fits good s r len at small = let v : View = me.0 in let n : ℕ = get_or s.words 0 0 in let is : n ≡ r.upper = ap (λ (ws : List ℕ). get_or ws 0 0) r.words in
        let f = r.each id v at in let p : BoundsPart = after_offer v.part (bound_of k) (bound_of (min n k)) in let low = r.lower_fits in let of = f.offered.fits in
        let hi = greatest_at raise_of (start_word m) s.views id v at in let gi = r.greatest_is in
        let word = word_of-bound_of k fits in let less = word_of-lesser v.part.offered (bound_of k) of (omega arith) in
        let shown = subst (λ (z : ℕ). IsIncumbent m (bound_of z)) (sym is) r.shown in (
          with_part v p,
          keeps,
          tt,
          moved s r id 0 (min n k) me.1 v (with_part v p) (min n k) r.lower k (raise_of v) (ap (λ (ws : List ℕ). set ws 0 (min n k)) r.words) at refl refl part (lesser_is HasWord v.part.offered (bound_of k) f.offered (has_word_of k fits)) f.raised (omega arith) (omega arith) (omega arith) (omega arith) low
              (BoundLe-refl (bound_of (min n k))) f.lower (one_of_min (λ (z : ℕ). IsIncumbent m (bound_of z)) n k shown good) r.floor,
          (refl, subst (λ (z : ℕ). BoundLe (bound_of z) v.part.saw_upper) (sym is) f.upper, of_model m v (f.model part) (λ q. IsIncumbent q (bound_of n)) shown),
        )

    pub raises : (k : ℕ) → k ≤ top → IsLowerBound m (bound_of k) → Allows Rule slots id me 1 (λ n. max n k) (bound_raised (step slots 1 k 0 none) me)
    raises k fits good s r len at small = let v : View = me.0 in let n : ℕ = get_or s.words 1 0 in let is : n ≡ r.lower = ap (λ (ws : List ℕ). get_or ws 1 0) r.words in
        let f = r.each id v at in let p : BoundsPart = after_raise v.part (bound_of k) (bound_of (max n k)) in
        let lo = least_at offer_of top s.views id v at in let li = r.least_is in
        let word = word_of-bound_of k fits in let more = raise_word-raised_to v.part.raised (bound_of k) (raise_fits v.part.raised f.raised) (omega arith) in
        let floor = subst (λ (z : ℕ). IsLowerBound m (bound_of z)) (sym is) r.floor in (
          with_part v p,
          keeps,
          tt,
          moved s r id 1 (max n k) me.1 v (with_part v p) r.upper (max n k) (offer_of v) k (ap (λ (ws : List ℕ). set ws 1 (max n k)) r.words) at refl refl part f.offered (has_words-raised_to v.part.raised (bound_of k) f.raised (has_word_of k fits)) (omega arith) (omega arith) (omega arith) (omega arith) (omega arith)
              f.upper (BoundLe-refl (bound_of (max n k))) r.shown (one_of_max (λ (z : ℕ). IsLowerBound m (bound_of z)) n k floor good),
          (refl, subst (λ (z : ℕ). IsNoLower v.part.saw_lower (bound_of z)) (sym is) f.lower, of_model m v (f.model part) (λ q. IsLowerBound q (bound_of n)) floor),
        )

  pub splits : (id : ℕ) (v : View) → 2 ≤ v.splits → Splits Rule id v (kept_half v) (given_half v)
  splits id v room s r at = let a : View = kept_half v in let b : View = given_half v in let f = r.each id v at in let q = f.model (omega arith) in
      let half : (0 < v.splits / 2) × (v.splits / 2 < v.splits) = omega arith in let high = r.upper_fits in let low = r.lower_fits in record {
        upper = r.upper;
        lower = r.lower;
        words = r.words;
        upper_fits = high;
        lower_fits = low;
        start = r.start;
        splits = let t = total_set splits_of s.views id v a at in let n = total_snoc splits_of (set s.views id a) b in let e = r.splits in omega arith;
        least_is = let t = least_set offer_of top s.views id v a (offer_of v) at (omega arith) in let n = least_snoc offer_of top (set s.views id a) b in let h = least_top offer_of top s.views in let lo = least_at offer_of top s.views id v at in let e = r.least_is in omega arith;
        greatest_is = let t = greatest_set raise_of (start_word m) s.views id v a (raise_of v) at (omega arith) in let n = greatest_snoc raise_of (start_word m) (set s.views id a) b in let hi = greatest_at raise_of (start_word m) s.views id v at in let e = r.greatest_is in omega arith;
        each = λ j d e. ⊎_elim (fits_set m s.views id a r.upper r.lower r.upper r.lower (omega arith) high (omega arith) low (record { model = λ _. q; idle = λ none. absurd (omega arith); offered = f.offered; raised = f.raised; upper = f.upper; lower = f.lower }) r.each j d)
            (λ (t : b ≡ d). subst (λ (z : View). FitsWords m r.upper r.lower z) t (record { model = λ _. q; idle = λ none. absurd (omega arith); offered = has_word_infinite; raised = tt; upper = f.upper; lower = f.lower })) (at_snoc (set s.views id a) b d j e);
        shown = r.shown;
        floor = r.floor;
      }

  pub joins : (id : ℕ) (v : View) (other : ℕ) (w : View) → 0 < v.splits → Joins Rule id v other w (joined v w) spent
  joins id v other w part s r at apart there = let a : View = joined v w in let vs : List View = set s.views id a in
      let at' : get_elem? s.views other ≡ some w = sym (set_else s.views id other a apart) ∙ there in
      let in_ : get_elem? vs id ≡ some a = here s.views id v a at in
      let f = r.each id v at in let g = r.each other w at' in let q = f.model part in let high = r.upper_fits in let low = r.lower_fits in
      let jo = word_of-lesser v.part.offered w.part.offered f.offered.fits g.offered.fits in let jr = raise_word-greater_of v.part.raised w.part.raised (raise_fits v.part.raised f.raised) (raise_fits w.part.raised g.raised) in
      let lo = least_at offer_of top s.views other w at' in let hi = greatest_at raise_of (start_word m) s.views other w at' in record {
        upper = r.upper;
        lower = r.lower;
        words = r.words;
        upper_fits = high;
        lower_fits = low;
        start = r.start;
        splits = let two = total_two splits_of s.views id other v w at at' apart in let t = total_set splits_of s.views id v a at in let n = total_set splits_of vs other w spent there in let e = r.splits in omega arith;
        least_is = let t = least_set offer_of top s.views id v a (offer_of w) at jo in let n = least_spent offer_of top vs id other a w spent in_ there apart (omega arith) refl in let e = r.least_is in omega arith;
        greatest_is = let t = greatest_set raise_of (start_word m) s.views id v a (raise_of w) at jr in let n = greatest_spent raise_of (start_word m) vs id other a w spent in_ there apart (omega arith) refl in let e = r.greatest_is in omega arith;
        each = fits_set m vs other spent r.upper r.lower r.upper r.lower (omega arith) high (omega arith) low
            (record { model = λ none. absurd (omega arith); idle = λ _. (refl, refl); offered = has_word_infinite; raised = tt; upper = infinite_last (bound_of r.upper); lower = tt })
            (fits_set m s.views id a r.upper r.lower r.upper r.lower (omega arith) high (omega arith) low (record {
              model = λ _. q;
              idle = λ none. absurd (omega arith);
              offered = lesser_is HasWord v.part.offered w.part.offered f.offered g.offered;
              raised = has_words-greater_of v.part.raised w.part.raised f.raised g.raised;
              upper = lesser_is (BoundLe (bound_of r.upper)) v.part.saw_upper w.part.saw_upper f.upper g.upper;
              lower = no_lower-greater_of v.part.saw_lower w.part.saw_lower (bound_of r.lower) f.lower g.lower;
            }) r.each);
        shown = r.shown;
        floor = r.floor;
      }

  pub opens : (hs : List S) → IsLowerBound m (At (objective_start m)) → HasWord (At (objective_start m)) → Rule (opening (top ∷ (start_word m) ∷ []) hs (first_view m))
  opens hs good word = record {
    upper = top;
    lower = (start_word m);
    words = refl;
    upper_fits = omega arith;
    lower_fits = word.fits;
    start = word;
    splits = refl;
    least_is = omega arith;
    greatest_is = omega arith;
    each = λ i v e. ⊎_elim (λ t. absurd (nothing i v t)) (λ (t : first_view m ≡ v). subst (λ (z : View). FitsWords m top (start_word m) z) t
        (record { model = λ _. refl; idle = λ none. absurd (omega arith); offered = has_word_infinite; raised = tt; upper = tt; lower = tt })) (at_snoc [] (first_view m) v i e);
    shown = shown_infinite m;
    floor = subst (IsLowerBound m) (sym word.back) good;
  }

  idles : (s : State S View) (r : Rule s) (id : ℕ) (v : View) → get_elem? s.views id ≡ some v → v.splits ≡ all_splits → (i : ℕ) (u : View) → get_elem? s.views i ≡ some u → i ≢ id → (u.part.offered ≡ Infinite) × (u.part.raised ≡ None)
  idles s r id v at all i u e other = let t = total_two splits_of s.views id i v u at e other in let n = r.splits in (r.each i u e).idle (omega arith)

  -- the seat with all splits knows both words
  whole : (s : State S View) (r : Rule s) (id : ℕ) (v : View) → get_elem? s.views id ≡ some v → v.splits ≡ all_splits → (r.upper ≡ offer_of v) × (r.lower ≡ max (start_word m) (raise_of v))
  whole s r id v at all = let o = (r.each id v at).offered.fits in
      let lo : offer_of v ≤ least top offer_of s.views = below_least offer_of top s.views (offer_of v) o (λ i u e. dite (ℕ_discrete i id) (λ same. let q : v ≡ u = one_there s.views i id v u same at e in let z : offer_of v ≡ offer_of u = ap offer_of q in omega arith)
      (λ other. let z : offer_of u ≡ top = ap word_of (idles s r id v at all i u e other).0 in omega arith)) in
      let hi : greatest (start_word m) raise_of s.views ≤ max (start_word m) (raise_of v) = greatest_below raise_of (start_word m) s.views (max (start_word m) (raise_of v)) (omega arith)
      (λ i u e. dite (ℕ_discrete i id) (λ same. let q : v ≡ u = one_there s.views i id v u same at e in let z : raise_of v ≡ raise_of u = ap raise_of q in omega arith) (λ other. let z : raise_of u ≡ 0 = ap raise_word (idles s r id v at all i u e other).1 in omega arith)) in
      let a = least_at offer_of top s.views id v at in let b = greatest_at raise_of (start_word m) s.views id v at in let c = greatest_base raise_of (start_word m) s.views in
      let x = r.least_is in let y = r.greatest_is in (omega arith, omega arith)

  pub closes : (s : State S View) (id : ℕ) (v : View) (ws : List ℕ) (a b : ℕ) → Rule s → get_elem? s.views id ≡ some v → s.words ≡ ws → get_elem? ws 0 ≡ some a → get_elem? ws 1 ≡ some b → Closes m v a b
  closes s id v ws a b r at is e d = let w : ws ≡ r.upper ∷ r.lower ∷ [] = sym is ∙ r.words in let f = r.each id v at in
      let x : r.upper ≡ a = some-injective r.upper a (sym (ap (λ (l : List ℕ). get_elem? l 0) w) ∙ e) in
      let y : r.lower ≡ b = some-injective r.lower b (sym (ap (λ (l : List ℕ). get_elem? l 1) w) ∙ d) in
      let start : Bound = At (objective_start m) in
      let both = has_word-raised_above v.part.raised start f.raised r.start in
      let word : word_of (raised_above v.part.raised start) ≡ max (start_word m) (raise_of v) = word_of-raised_above v.part.raised start (raise_fits v.part.raised f.raised) r.start.fits in record {
        shown = subst (λ (z : ℕ). IsIncumbent m (bound_of z)) x r.shown;
        floor = subst (λ (z : ℕ). IsLowerBound m (bound_of z)) y r.floor;
        no_higher = subst (λ (z : ℕ). BoundLe (bound_of z) v.part.saw_upper) x f.upper;
        no_lower = subst (λ (z : ℕ). IsNoLower v.part.saw_lower (bound_of z)) y f.lower;
        upper = λ all. ap bound_of (sym x ∙ (whole s r id v at all).0) ∙ f.offered.back;
        lower = λ all. ap bound_of (sym y ∙ ((whole s r id v at all).1 ∙ sym word)) ∙ both.back;
      }
