-- A string ends at the first quote that closes it.
use Rattle.std.proofs.Common.{◌≡◌, ℕ, zero, suc, ◌+◌, ◌≤◌, Bool, true, false, cond, List, [], ◌∷◌, length, take, Option, Some, None, refl, sym, ◌∙◌, ap, subst, arith}
use Rattle.std.specs.Option.{option_map_or}
use Rattle.cps_lex.specs.declared.escapes.Place.{Place}
use Rattle.cps_lex.specs.declared.escapes.Place.TheVariants.{Inside, Backslash, OctalOne, OctalTwo, HexMark, HexOne, Unicode, Closed}
use Rattle.cps_lex.specs.declared.escapes.Denoted.{Denoted}
use Rattle.cps_lex.specs.Escapes.{step, is_closed}
use Rattle.cps_lex.specs.Texts.{closes}
use Rattle.cps_lex.specs.Scan.{closing, closing_by}

-- what goes on has a next place
some_step : (o : Option (Place × Denoted)) (go : Place × Denoted → Bool) → option_map_or go o false ≡ true → (s : Place × Denoted) × (o ≡ Some s) × (go s ≡ true)
some_step None go e = cc
some_step (Some s) go e = (s, refl, e)

-- nothing follows the closing quote
nothing_behind : (quote : ℕ) (place : Place) (bs : List ℕ) (n : ℕ) → is_closed place ≡ true → n ≤ length bs → closes quote place (take n bs) ≡ true → n ≡ 0
unfolding step
nothing_behind quote Closed bs zero e within c = refl
nothing_behind quote Closed [] (suc n) e within c = absurd (omega (arith, within))
nothing_behind quote Closed (b ∷ bs) (suc n) e within c = cc
nothing_behind quote Inside bs n e within c = cc
nothing_behind quote Backslash bs n e within c = cc
nothing_behind quote (OctalOne v) bs n e within c = cc
nothing_behind quote (OctalTwo v) bs n e within c = cc
nothing_behind quote HexMark bs n e within c = cc
nothing_behind quote (HexOne v) bs n e within c = cc
nothing_behind quote (Unicode left v) bs n e within c = cc

-- what closes a string is found
pub closing_found : (quote : ℕ) (place : Place) (count : ℕ) (bs : List ℕ) (n : ℕ) → is_closed place ≡ false → n ≤ length bs → closes quote place (take n bs) ≡ true → closing quote place count bs ≡ Some (count + n)
closing_found quote place count bs zero inside within c = let no : true ≡ false = sym c ∙ inside in cc
closing_found quote place count [] (suc n) inside within c = absurd (omega (arith, within))
closing_found quote place count (b ∷ bs) (suc n) inside within c =
    let s = some_step (step quote place b) _ c in
    let less : n ≤ length bs = omega (arith, within) in
    let here = by quote count n s.0.0 bs (is_closed s.0.0) refl less s.2 (λ still. closing_found quote s.0.0 (count + 1) bs n still less s.2) in
    subst (λ (o : Option (Place × Denoted)). closing_by o (count + 1) (λ next. closing quote next (count + 1) bs) ≡ Some (count + suc n)) (sym s.1) here
  where
    by : (quote count n : ℕ) (next : Place) (bs : List ℕ) (v : Bool) → is_closed next ≡ v → n ≤ length bs → closes quote next (take n bs) ≡ true → (is_closed next ≡ false → closing quote next (count + 1) bs ≡ Some (count + 1 + n)) → cond v (Some (count + 1)) (closing quote next (count + 1) bs) ≡ Some (count + suc n)
    by quote count n next bs true e within c rest =
        let last = nothing_behind quote next bs n e within c in
        let same : count + 1 ≡ count + suc n = omega (arith, last) in
        ap (λ (m : ℕ). Some m) same
    by quote count n next bs false e within c rest =
        let same : count + 1 + n ≡ count + suc n = omega arith in
        rest e ∙ ap (λ (m : ℕ). Some m) same

-- what is found closes a string
pub record IsClosing (quote : ℕ) (place : Place) (count : ℕ) (bs : List ℕ) (m : ℕ) : Type 0 where
  pub n : ℕ
  pub count_is : m ≡ count + n
  pub within : n ≤ length bs
  pub closes_it : closes quote place (take n bs) ≡ true

pub closing_closes : (quote : ℕ) (place : Place) (count : ℕ) (bs : List ℕ) (m : ℕ) → closing quote place count bs ≡ Some m → IsClosing quote place count bs m
closing_closes quote place count [] m e = cc
closing_closes quote place count (b ∷ bs) m e =
    by quote place count b bs m (step quote place b) refl e (λ next found. closing_closes quote next (count + 1) bs m found)
  where
    last : (quote : ℕ) (place : Place) (count b : ℕ) (bs : List ℕ) (m : ℕ) (s : Place × Denoted) (v : Bool) → is_closed s.0 ≡ v → step quote place b ≡ Some s → cond v (Some (count + 1)) (closing quote s.0 (count + 1) bs) ≡ Some m → ((next : Place) → closing quote next (count + 1) bs ≡ Some m → IsClosing quote next (count + 1) bs m) → IsClosing quote place count (b ∷ bs) m
    last quote place count b bs m s true ev es e rest =
        let is : count + 1 ≡ m = cc in
        record {
          n = suc zero;
          count_is = omega (arith, is);
          within = omega arith;
          closes_it = subst (λ (o : Option (Place × Denoted)). option_map_or (λ t. closes quote t.0 []) o false ≡ true) (sym es) ev;
        }
    last quote place count b bs m s false ev es e rest =
        let more = rest s.0 e in
        record {
          n = suc more.n;
          count_is = omega (arith, more.count_is);
          within = omega (arith, more.within);
          closes_it = subst (λ (o : Option (Place × Denoted)). option_map_or (λ t. closes quote t.0 (take more.n bs)) o false ≡ true) (sym es) more.closes_it;
        }

    by : (quote : ℕ) (place : Place) (count b : ℕ) (bs : List ℕ) (m : ℕ) (o : Option (Place × Denoted)) → step quote place b ≡ o → closing_by o (count + 1) (λ next. closing quote next (count + 1) bs) ≡ Some m → ((next : Place) → closing quote next (count + 1) bs ≡ Some m → IsClosing quote next (count + 1) bs m) → IsClosing quote place count (b ∷ bs) m
    by quote place count b bs m None es e rest = cc
    by quote place count b bs m (Some s) es e rest = last quote place count b bs m s (is_closed s.0) refl es e rest
