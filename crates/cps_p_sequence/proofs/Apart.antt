-- The values of each list of an inverse differ, so what the all-different of a list gives, the inverse gives.
use Rattle.std.specs.Prelude.{Result, Ok, Err}
use Rattle.std.specs.declared.alloc.AllocError.{AllocError}
use Rattle.std.proofs.Common.{◌≡◌, Bool, true, ℕ, ◌<◌, ℤ, pos, negsuc, ◌≤ℤ◌, ◌<ℤ◌, List, ◌++◌, length, get_or, sym, ◌∙◌, ap, subst, inl, inr, arith}
use Rattle.std.proofs.lemmas.Int.{ints}
use Rattle.std.proofs.lemmas.List.{get_or_default, length-map}
use Rattle.std.proofs.lemmas.List.Elements.{All-append}
use Rattle.cps_model.specs.Lookups.{IsAllDifferent}
use Rattle.cps_model.specs.Sequences.{AreInverse}
use Rattle.cps_literal.specs.declared.atom.Atom.{Atom}
use Rattle.cps_literal.specs.Truth.{value_at}
use Rattle.cps_instance.specs.declared.task.Body.{Body}
use Rattle.cps_instance.specs.declared.task.Body.TheVariants.{AllDiff, Inverse}
use Rattle.cps_instance.specs.Parts.{values_at}
use Rattle.cps_instance.specs.Tasks.{subjects_of_body}
use Rattle.cps_propagate.proofs.Speaking.{speaks_among}
use Rattle.cps_p_sequence.proofs.Growing.{among_left, among_right}
use Rattle.cps_instance.specs.Terms.{Domains, AreIntervals, domain_at}
use Rattle.cps_instance.proofs.Agreeing.{All-append_left, All-append_right}
use Rattle.cps_trail.specs.Trail.{Trail, IsTrueNow}
use Rattle.cps_propagate.specs.Strength.{HasRoom, IsStrongBody}
use Rattle.cps_rule.specs.declared.rule.Look.{Look}
use Rattle.cps_rule.specs.declared.rule.Look.TheVariants.{Possible, Impossible}
use Rattle.cps_rule.specs.declared.rule.Narrowing.{Narrowing}
use Rattle.cps_rule.specs.Rules.{IsFittingRule, IsGiven, IsImpossible, IsSeen, IsExplained, IsRefuted}
use Rattle.cps_p_sequence.specs.Inverses.{AreGivenPlaces, AreTrue}
use Rattle.cps_p_sequence.specs.Sides.{AreSides, ImpliesBody, IsSeenImpossible}

places : (v : ℤ) (n : ℕ) → pos 0 ≤ℤ v → v <ℤ pos n → (k : ℕ) × (k < n) × (v ≡ pos k)
places (pos k) n a b = (k, omega (arith, ints), refl_of (pos k))
  where
    refl_of : (v : ℤ) → v ≡ v
    refl_of v = cc
places (negsuc k) n a b = absurd (omega (arith, ints))

one_place : (i j : ℕ) → i < j → pos i ≡ pos j → ⊥
one_place i j l e = let same : i ≡ j = cc in omega arith

direct_differ : (f g : List ℤ) → length f ≡ length g → AreInverse f g → IsAllDifferent f
direct_differ f g size h i j e l m same =
    let a = h.direct i e (omega arith) in
    let at = places (get_or f i e) (length f) a.0 a.1 in
    let here : get_or f i (pos 0) ≡ pos at.0 = get_or_default f i (pos 0) e (omega arith) ∙ at.2 in
    let there : get_or f j (pos 0) ≡ pos at.0 = get_or_default f j (pos 0) e m ∙ sym same ∙ at.2 in
    one_place i j l (sym ((h.same i at.0 (omega arith) at.1).0 here) ∙ (h.same j at.0 m at.1).0 there)

inverse_differ : (f g : List ℤ) → length f ≡ length g → AreInverse f g → IsAllDifferent g
inverse_differ f g size h i j e l m same =
    let a = h.inverse i e (omega arith) in
    let at = places (get_or g i e) (length f) a.0 a.1 in
    let here : get_or g i (pos 0) ≡ pos at.0 = get_or_default g i (pos 0) e (omega arith) ∙ at.2 in
    let there : get_or g j (pos 0) ≡ pos at.0 = get_or_default g j (pos 0) e m ∙ sym same ∙ at.2 in
    one_place i j l (sym ((h.same at.0 i at.1 (omega arith)).1 here) ∙ (h.same at.0 j at.1 (omega arith)).1 there)

even_values : (xs : List ℤ) (ds js : List ℕ) → length ds ≡ length js → length (values_at xs ds) ≡ length (values_at xs js)
even_values xs ds js same = length-map ds (value_at xs) ∙ same ∙ sym (length-map js (value_at xs))

module _ (ds js : List ℕ) (same : length ds ≡ length js) where
  pub implies_direct : ImpliesBody (Inverse ds js) (AllDiff ds)
  implies_direct = record { subjects = among_left ds js; at = λ xs h. direct_differ (values_at xs ds) (values_at xs js) (even_values xs ds js same) h }

  pub implies_inverse : ImpliesBody (Inverse ds js) (AllDiff js)
  implies_inverse = record { subjects = among_right ds js; at = λ xs h. inverse_differ (values_at xs ds) (values_at xs js) (even_values xs ds js same) h }

-- what one body gives, a body gives that implies it
module _ (b p : Body) (implies : ImpliesBody b p) (s : Trail) where
  pub implied_given : (found : List Narrowing) → AreGivenPlaces p s found → AreGivenPlaces b s found
  implied_given found gs k d l = let g : IsGiven p s (get_or found k d).target = gs k d l in record { subject = g.subject; at = λ xs admitted h. g.at xs admitted (implies.at xs h) }

  pub implied_impossible : IsImpossible p s → IsImpossible b s
  implied_impossible no' = record { at = λ xs admitted h. no'.at xs admitted (implies.at xs h) }

  pub implied_explained : (t : Atom) (facts : List Atom) → IsExplained p s t facts → IsExplained b s t facts
  implied_explained t facts e = record { facts = e.facts; speaks = speaks_among (subjects_of_body p) (subjects_of_body b) facts implies.subjects e.speaks; gives = λ xs within all h. e.gives xs within all (implies.at xs h) }

  pub implied_refuted : (facts : List Atom) → IsRefuted p s facts → IsRefuted b s facts
  implied_refuted facts e = record { facts = e.facts; speaks = speaks_among (subjects_of_body p) (subjects_of_body b) facts implies.subjects e.speaks; excludes = λ xs within all h. e.excludes xs within all (implies.at xs h) }

  pub implied_denied : (l : Look) → IsSeen p s l → IsSeenImpossible b s l
  implied_denied Possible h = tt
  implied_denied (Impossible hint) h = implied_impossible h

-- lists of atoms one after the other
module _ (s : Trail) (found more all : List Narrowing) (e : all ≡ found ++ more) where
  pub both_given : (b : Body) → AreGivenPlaces b s found → AreGivenPlaces b s more → AreGivenPlaces b s all
  both_given b gs hs = subst (λ (ns : List Narrowing). AreGivenPlaces b s ns) (sym e) (All-append (λ n. IsGiven b s n.target) found more gs hs)

  pub first_true : AreTrue s all → AreTrue s found
  first_true h = All-append_left (λ n. IsTrueNow s n.target) found more (subst (λ (ns : List Narrowing). AreTrue s ns) e h)

  pub second_true : AreTrue s all → AreTrue s more
  second_true h = All-append_right (λ n. IsTrueNow s n.target) found more (subst (λ (ns : List Narrowing). AreTrue s ns) e h)

-- the same of the rule of an inverse, whose parts are the all-differents of its lists
module _ (b : Body) (ds js : List ℕ) (p q : Body) (view : Inverse ds js ≡ b) (sides : AreSides ds js p q) (first : Domains) (fits : IsFittingRule first b) where
  inner : IsFittingRule first (Inverse ds js)
  inner = subst (λ (x : Body). IsFittingRule first x) (sym view) fits

  pub side_direct : ImpliesBody b p
  side_direct = subst (λ (x : Body). ImpliesBody x p) view (subst (λ (x : Body). ImpliesBody (Inverse ds js) x) (sym sides.direct) (implies_direct ds js inner.body))

  pub side_inverse : ImpliesBody b q
  side_inverse = subst (λ (x : Body). ImpliesBody x q) view (subst (λ (x : Body). ImpliesBody (Inverse ds js) x) (sym sides.inverse) (implies_inverse ds js inner.body))

  pub fits_direct : IsFittingRule first p
  fits_direct = subst (λ (x : Body). IsFittingRule first x) (sym sides.direct) (record {
    subjects = All-append_left (λ i. i < length first) ds js inner.subjects;
    sound = All-append_left (λ i. AreIntervals (domain_at first i)) ds js inner.sound;
    body = tt;
  })

  pub fits_inverse : IsFittingRule first q
  fits_inverse = subst (λ (x : Body). IsFittingRule first x) (sym sides.inverse) (record {
    subjects = All-append_right (λ i. i < length first) ds js inner.subjects;
    sound = All-append_right (λ i. AreIntervals (domain_at first i)) ds js inner.sound;
    body = tt;
  })

pub sides_kept : (ds js : List ℕ) (p q p' q' : Body) → AreSides ds js p q → p' ≡ p → q' ≡ q → AreSides ds js p' q'
sides_kept ds js p q p' q' sides d j = record { direct = d ∙ sides.direct; inverse = j ∙ sides.inverse }

pub sides_room : (ds js : List ℕ) (p q : Body) → AreSides ds js p q → (s : Trail) → IsStrongBody p s × IsStrongBody q s → HasRoom s ds × HasRoom s js
sides_room ds js p q sides s both = (subst (λ (x : Body). IsStrongBody x s) sides.direct both.0, subst (λ (x : Body). IsStrongBody x s) sides.inverse both.1)

-- an inverse may hold, as far as rest tells, where the all-differents of its lists may
pub sides_seen : (b : Body) (ds js : List ℕ) (p q : Body) → Inverse ds js ≡ b → AreSides ds js p q → (s : Trail) → IsSeen p s Possible × IsSeen q s Possible → IsSeen b s Possible
sides_seen b ds js p q view sides s both = subst (λ (x : Body). IsSeen x s Possible) view (λ none. elim none [ inl h ↦ one h | inr h ↦ two h ])
  where
    one : (HasRoom s ds → ⊥) → ⊥
    one = subst (λ (x : Body). IsSeen x s Possible) sides.direct both.0

    two : (HasRoom s js → ⊥) → ⊥
    two = subst (λ (x : Body). IsSeen x s Possible) sides.inverse both.1

pub denied_seen : (b : Body) (s : Trail) (l : Look) → (l ≡ Possible → ⊥) → IsSeenImpossible b s l → IsSeen b s l
denied_seen b s Possible no' h = absurd (no' cc)
denied_seen b s (Impossible hint) no' h = h

pub ok_possible : (l : Look) → l ≡ Possible → ◌≡◌ {A = Result Look AllocError} (Ok l) (Ok Possible)
ok_possible l e = ap (λ (x : Look). Ok x) e

look_of : Result Look AllocError → Look
look_of (Ok l) = l
look_of (Err e) = Possible

pub possible_of : (l : Look) → ◌≡◌ {A = Result Look AllocError} (Ok l) (Ok Possible) → l ≡ Possible
unfolding look_of
possible_of l e = ap look_of e

pub ok_yes : (b : Bool) → b ≡ true → ◌≡◌ {A = Result Bool AllocError} (Ok b) (Ok true)
ok_yes b e = ap (λ (x : Bool). Ok x) e
