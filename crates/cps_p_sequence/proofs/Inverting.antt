-- What it says of each position that two lists of subjects are each other's inverse.
use Rattle.std.specs.Prelude.{All, Contains}
use Rattle.std.proofs.Common.{ℕ, ◌<◌, ℤ, pos, ◌-ℤ◌, ◌≤ℤ◌, ◌<ℤ◌, ◌≡◌, List, ◌++◌, length, get_or, sym, ◌∙◌, ap, subst, arith}
use Rattle.std.proofs.lemmas.Int.{ints}
use Rattle.std.proofs.lemmas.List.{get_or-map, length-map}
use Rattle.std.proofs.lemmas.List.Elements.{at_from_Contains}
use Rattle.cps_model.specs.Sequences.{AreInverse}
use Rattle.cps_literal.specs.Truth.{value_at}
use Rattle.cps_instance.specs.declared.task.Body.{Body}
use Rattle.cps_instance.specs.declared.task.Body.TheVariants.{Inverse}
use Rattle.cps_instance.specs.Parts.{values_at}
use Rattle.cps_instance.specs.Terms.{Domains}
use Rattle.cps_instance.proofs.Agreeing.{All-append_left, All-append_right}
use Rattle.cps_trail.specs.Trail.{Trail}
use Rattle.cps_propagate.specs.Now.{IsOpenTo, IsFixedNow, AreOpen}
use Rattle.cps_propagate.specs.Strength.{IsHeld, HasRoom, IsMirrored, IsStrongInverse}
use Rattle.cps_rule.specs.Rules.{IsAtRest, IsFittingRule}
use Rattle.cps_p_sequence.specs.Inverses.{HasPlace, AllPaired, IsWithinPlaces, AreMirrored}
use Rattle.cps_p_sequence.proofs.Growing.{among_left, among_right}

at_place : (xs : List ℤ) (is : List ℕ) (k d : ℕ) (e : ℤ) → k < length is → get_or (values_at xs is) k e ≡ value_at xs (get_or is k d)
at_place xs is k d e l = get_or-map (value_at xs) is k d e l

count_of : (xs : List ℤ) (is : List ℕ) → length (values_at xs is) ≡ length is
count_of xs is = length-map is (value_at xs)

-- the lists have one length, where the body fits
pub even_of : (b : Body) (ds js : List ℕ) → b ≡ Inverse ds js → (first : Domains) → IsFittingRule first b → length ds ≡ length js
even_of b ds js is first h = (subst (λ (x : Body). IsFittingRule first x) is h).body

-- values below a count are at most the last place
all_held : (s : Trail) (count : ℕ) (is : List ℕ) → All (λ i. IsWithinPlaces s i (pos count)) is → All (IsHeld s (pos 0) (pos count -ℤ pos 1)) is
all_held s count is within k d l x o = let w = within k d l in (w.least x o, last x (w.below x o))
  where
    last : (v : ℤ) → v <ℤ pos count → v ≤ℤ (pos count -ℤ pos 1)
    last v h = omega (arith, ints)

module _ (direct inverse : List ℕ) (same : length direct ≡ length inverse) where
  pub direct_places : All (λ i. HasPlace (Inverse direct inverse) i (pos (length direct))) direct
  direct_places k d l = record {
    least = λ xs h.
        let m = count_of xs direct in
        subst (λ (v : ℤ). pos 0 ≤ℤ v) (at_place xs direct k d (pos 0) l) (h.direct k (pos 0) (omega arith)).0;
    below = λ xs h.
        let m = count_of xs direct in
        subst (λ (n : ℕ). value_at xs (get_or direct k d) <ℤ pos n) m (subst (λ (v : ℤ). v <ℤ pos (length (values_at xs direct))) (at_place xs direct k d (pos 0) l) (h.direct k (pos 0) (omega arith)).1);
  }

  pub inverse_places : All (λ i. HasPlace (Inverse direct inverse) i (pos (length direct))) inverse
  inverse_places k d l = record {
    least = λ xs h.
        let m = count_of xs inverse in
        subst (λ (v : ℤ). pos 0 ≤ℤ v) (at_place xs inverse k d (pos 0) l) (h.inverse k (pos 0) (omega arith)).0;
    below = λ xs h.
        let m = count_of xs inverse in
        let n = count_of xs direct in
        subst (λ (n : ℕ). value_at xs (get_or inverse k d) <ℤ pos n) n (subst (λ (v : ℤ). v <ℤ pos (length (values_at xs direct))) (at_place xs inverse k d (pos 0) l) (h.inverse k (pos 0) (omega arith)).1);
  }

  forth : (i j : ℕ) → i < length direct → j < length inverse → (xs : List ℤ) → AreInverse (values_at xs direct) (values_at xs inverse) → value_at xs (get_or direct i 0) ≡ pos j → value_at xs (get_or inverse j 0) ≡ pos i
  forth i j l m xs h e =
      let n = count_of xs direct in
      sym (at_place xs inverse j 0 (pos 0) m) ∙ (h.same i j (omega arith) (omega arith)).0 (at_place xs direct i 0 (pos 0) l ∙ e)

  back : (i j : ℕ) → i < length direct → j < length inverse → (xs : List ℤ) → AreInverse (values_at xs direct) (values_at xs inverse) → value_at xs (get_or inverse j 0) ≡ pos i → value_at xs (get_or direct i 0) ≡ pos j
  back i j l m xs h e =
      let n = count_of xs direct in
      sym (at_place xs direct i 0 (pos 0) l) ∙ (h.same i j (omega arith) (omega arith)).1 (at_place xs inverse j 0 (pos 0) m ∙ e)

  pub paired : AllPaired (Inverse direct inverse) direct inverse
  paired = record { at = λ i l. record { forth = λ j m. record { at = forth i j l m }; read = among_right direct inverse; back = λ j m. record { at = back i j l m } } }

  pub paired_back : AllPaired (Inverse direct inverse) inverse direct
  paired_back = record { at = λ j m. record { forth = λ i l. record { at = back i j l m }; read = among_left direct inverse; back = λ i l. record { at = forth i j l m } } }

  -- what mirrors each other, within the places, is at rest
  module _ (s : Trail) (mirrored : AreMirrored s direct inverse) (direct_within : All (λ i. IsWithinPlaces s i (pos (length direct))) direct) (inverse_within : All (λ i. IsWithinPlaces s i (pos (length direct))) inverse) where
    mirror : IsMirrored s direct inverse
    mirror = record { same = λ i j l m. (mirrored.at i l).at j m }

    strong : HasRoom s direct × HasRoom s inverse → IsStrongInverse s direct inverse
    strong room = record {
      mirrored = mirror;
      direct_places = all_held s (length direct) direct direct_within;
      inverse_places = all_held s (length direct) inverse inverse_within;
      direct_room = room.0;
      inverse_room = room.1;
    }

    fixed_inverse : All (IsFixedNow s) (direct ++ inverse) → (xs : List ℤ) → AreOpen s xs (direct ++ inverse) → AreInverse (values_at xs direct) (values_at xs inverse)
    fixed_inverse fixed xs opens =
        let df = All-append_left (IsFixedNow s) direct inverse fixed in
        let jf = All-append_right (IsFixedNow s) direct inverse fixed in
        let do' = All-append_left (λ i. IsOpenTo s i (value_at xs i)) direct inverse opens in
        let jo = All-append_right (λ i. IsOpenTo s i (value_at xs i)) direct inverse opens in
        let n = count_of xs direct in
        let m = count_of xs inverse in
        record {
          direct = λ k e l.
              let w = direct_within k 0 (omega arith) in
              let o = do' k 0 (omega arith) in
              let at = at_place xs direct k 0 e (omega arith) in (
                subst (λ (v : ℤ). pos 0 ≤ℤ v) (sym at) (w.least (value_at xs (get_or direct k 0)) o),
                subst (λ (v : ℤ). v <ℤ pos (length (values_at xs direct))) (sym at) (subst (λ (c : ℕ). value_at xs (get_or direct k 0) <ℤ pos c) (sym n) (w.below (value_at xs (get_or direct k 0)) o)),
              );
          inverse = λ k e l.
              let w = inverse_within k 0 (omega arith) in
              let o = jo k 0 (omega arith) in
              let at = at_place xs inverse k 0 e (omega arith) in (
                subst (λ (v : ℤ). pos 0 ≤ℤ v) (sym at) (w.least (value_at xs (get_or inverse k 0)) o),
                subst (λ (v : ℤ). v <ℤ pos (length (values_at xs direct))) (sym at) (subst (λ (c : ℕ). value_at xs (get_or inverse k 0) <ℤ pos c) (sym n) (w.below (value_at xs (get_or inverse k 0)) o)),
              );
          same = λ i j l k.
              let a : i < length direct = omega arith in
              let b : j < length inverse = omega arith in
              let both = (mirrored.at i a).at j b in
              let p = at_place xs direct i 0 (pos 0) a in
              let q = at_place xs inverse j 0 (pos 0) b in (
                λ e. q ∙ jf j 0 b (value_at xs (get_or inverse j 0)) (pos i) (jo j 0 b) (both.0 (subst (λ (v : ℤ). IsOpenTo s (get_or direct i 0) v) (sym p ∙ e) (do' i 0 a))),
                λ e. p ∙ df i 0 a (value_at xs (get_or direct i 0)) (pos j) (do' i 0 a) (both.1 (subst (λ (v : ℤ). IsOpenTo s (get_or inverse j 0) v) (sym q ∙ e) (jo j 0 b))),
              );
        }

    pub mirrored_rests : HasRoom s direct × HasRoom s inverse → IsAtRest (Inverse direct inverse) s
    mirrored_rests room = record { decided = fixed_inverse; strong = strong room }

-- the same of a body, which is seen through its lists
module _ (b : Body) (ds js ds' js' : List ℕ) (view : Inverse ds js ≡ b) (d : ds' ≡ ds) (j : js' ≡ js) (same : length ds ≡ length js) where
  is_body : Inverse ds' js' ≡ b
  is_body = ap (λ (xs : List ℕ). Inverse xs js') d ∙ ap (λ (ys : List ℕ). Inverse ds ys) j ∙ view

  same_length : length ds' ≡ length js'
  same_length = ap (λ (xs : List ℕ). length xs) d ∙ same ∙ ap (λ (xs : List ℕ). length xs) (sym j)

  pub seen_direct_places : All (λ i. HasPlace b i (pos (length ds'))) ds'
  seen_direct_places = subst (λ (x : Body). All (λ i. HasPlace x i (pos (length ds'))) ds') is_body (direct_places ds' js' same_length)

  pub seen_inverse_places : All (λ i. HasPlace b i (pos (length ds'))) js'
  seen_inverse_places = subst (λ (x : Body). All (λ i. HasPlace x i (pos (length ds'))) js') is_body (inverse_places ds' js' same_length)

  pub seen_paired : AllPaired b ds' js'
  seen_paired = subst (λ (x : Body). AllPaired x ds' js') is_body (paired ds' js' same_length)

  pub seen_paired_back : AllPaired b js' ds'
  seen_paired_back = subst (λ (x : Body). AllPaired x js' ds') is_body (paired_back ds' js' same_length)

  pub seen_rests : (s : Trail) → AreMirrored s ds' js' → All (λ i. IsWithinPlaces s i (pos (length ds'))) ds' → All (λ i. IsWithinPlaces s i (pos (length ds'))) js' → HasRoom s ds × HasRoom s js → IsAtRest b s
  seen_rests s m p q room =
      let here : HasRoom s ds' × HasRoom s js' = (subst (λ (is : List ℕ). HasRoom s is) (sym d) room.0, subst (λ (is : List ℕ). HasRoom s is) (sym j) room.1) in
      subst (λ (x : Body). IsAtRest x s) is_body (mirrored_rests ds' js' same_length s m p q here)

  pub seen_direct : (first : Domains) → IsFittingRule first b → All (λ i. i < length first) ds'
  seen_direct first h = All-append_left (λ i. i < length first) ds' js' (subst (λ (x : Body). IsFittingRule first x) (sym is_body) h).subjects

  pub seen_inverse : (first : Domains) → IsFittingRule first b → All (λ i. i < length first) js'
  seen_inverse first h = All-append_right (λ i. i < length first) ds' js' (subst (λ (x : Body). IsFittingRule first x) (sym is_body) h).subjects

-- a subject of a list
pub placed : (b : Body) (count : ℤ) (is : List ℕ) (i : ℕ) → Contains is i → All (λ j. HasPlace b j count) is → HasPlace b i count
placed b count is i has all = let at = at_from_Contains is i has in subst (λ (u : ℕ). HasPlace b u count) (at.2 0) (all at.0 0 at.1)
