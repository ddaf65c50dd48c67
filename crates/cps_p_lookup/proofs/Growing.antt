-- How facts grow, and what they give.
use Rattle.std.proofs.Common.{◌≡◌, ℕ, ◌<◌, length, get_or, arith, ℤ, Bool, true, false, List, [], ◌∷◌, refl, sym, subst, Some, None}
use Rattle.std.specs.List.{All, Contains}
use Rattle.std.proofs.lemmas.List.Elements.{All-nil, All-weaker, All-push, All-contains, All-contains_itself, Contains-push, Contains-append_left}
use Rattle.cps_literal.specs.declared.atom.Atom.{Atom}
use Rattle.cps_literal.specs.Truth.{atom_holds}
use Rattle.cps_trail.specs.Trail.{Trail}
use Rattle.cps_propagate.specs.Reasons.{SpeaksOf}
use Rattle.cps_propagate.proofs.Speaking.{speaks_none, speaks_push}
use Rattle.cps_instance.specs.declared.task.Body.{Body}
use Rattle.cps_rule.specs.Rules.{IsFact, AreFacts, AllTrueAt, IsExplained, IsRefuted}
use Rattle.cps_p_lookup.specs.Facts.{AddsBoth, AddsWhere}
use Rattle.cps_rule.specs.Facts.{Adds, Grows, GivesGoal}

pub adds_grows : (s : Trail) (u : Atom) (among : List ℕ) (old new : List Atom) → Contains among u.subject → Adds s u old new → Grows s among old new
adds_grows s u among old new mine h = record {
  facts = λ f. subst (λ us. AreFacts s us) (sym h.is) (All-push (IsFact s) old u f h.fact);
  kept = λ xs all. All-weaker (Contains old) (λ v. atom_holds xs v ≡ true) (λ v has. All-contains (λ w. atom_holds xs w ≡ true) new v all (subst (λ (us : List Atom). Contains us v) (sym h.is) (Contains-append_left old (u ∷ []) v has))) old (All-contains_itself old);
  about = λ is all before. subst (λ (us : List Atom). SpeaksOf is us) (sym h.is) (speaks_push is old u before (All-contains (Contains is) among u.subject all mine));
}

pub adds_holds : (s : Trail) (u : Atom) (old new : List Atom) → Adds s u old new → (xs : List ℤ) → AllTrueAt xs new → atom_holds xs u ≡ true
adds_holds s u old new h xs all = All-contains (λ w. atom_holds xs w ≡ true) new u all (subst (λ (us : List Atom). Contains us u) (sym h.is) (Contains-push old u))

pub grows_trans : (s : Trail) (among : List ℕ) (a b c : List Atom) → Grows s among a b → Grows s among b c → Grows s among a c
grows_trans s among a b c h k = record {
  facts = λ f. k.facts (h.facts f);
  kept = λ xs all. h.kept xs (k.kept xs all);
  about = λ is all before. k.about is all (h.about is all before);
}

-- among more subjects
pub grows_among : (s : Trail) (few among : List ℕ) (a b : List Atom) → All (Contains among) few → Grows s few a b → Grows s among a b
grows_among s few among a b more h = record {
  facts = h.facts;
  kept = h.kept;
  about = λ is all before. h.about is (λ k d l. All-contains (Contains is) among (get_or few k d) all (more k d l)) before;
}

pub grows_same : (s : Trail) (among : List ℕ) (a b : List Atom) → b ≡ a → Grows s among a b
grows_same s among a b e = record {
  facts = λ f. subst (λ us. AreFacts s us) (sym e) f;
  kept = λ xs all. subst (λ us. AllTrueAt xs us) e all;
  about = λ is all before. subst (λ us. SpeaksOf is us) (sym e) before;
}

-- the first of a list of subjects, and others
pub alone : (i j : ℕ) → j ≡ i → Contains (i ∷ []) j
alone i j e = (0, omega arith, sym e)

pub second : (i j : ℕ) → Contains (i ∷ j ∷ []) j
second i j = (1, omega arith, refl)

pub adds_both : (s : Trail) (u v : Atom) (a b c : List Atom) → Adds s u a b → Adds s v b c → AddsBoth s u v a c
adds_both s u v a b c h k = record {
  grows = grows_trans s (u.subject ∷ v.subject ∷ []) a b c (adds_grows s u (u.subject ∷ v.subject ∷ []) a b (0, omega arith, refl) h) (adds_grows s v (u.subject ∷ v.subject ∷ []) b c (second u.subject v.subject) k);
  first = λ xs all. adds_holds s u a b h xs ((adds_grows s v (v.subject ∷ []) b c (alone v.subject v.subject refl) k).kept xs all);
  second = adds_holds s v b c k;
}

pub adds_needed : (s : Trail) (needed : Bool) (u : Atom) (old new : List Atom) → Adds s u old new → AddsWhere s needed u old new
adds_needed s needed u old new h = record { grows = adds_grows s u (u.subject ∷ []) old new (alone u.subject u.subject refl) h; holds = λ n. adds_holds s u old new h }

pub none_speaks : (is : List ℕ) (us : List Atom) → us ≡ [] → SpeaksOf is us
none_speaks is us e = subst (λ vs. SpeaksOf is vs) (sym e) (speaks_none is)

bool_cases : (b : Bool) → (b ≡ false → ⊥) → b ≡ true
bool_cases true h = refl
bool_cases false h = absurd (h refl)

pub explained_by : (body : Body) (s : Trail) (u : Atom) (facts : List Atom) → GivesGoal body s (Some u) facts → IsExplained body s u facts
explained_by body s u facts g = record { facts = g.facts; speaks = g.speaks; gives = λ xs within all holds. bool_cases (atom_holds xs u) (λ deny. g.excludes xs within all holds deny) }

pub refuted_by : (body : Body) (s : Trail) (facts : List Atom) → GivesGoal body s None facts → IsRefuted body s facts
refuted_by body s facts g = record { facts = g.facts; speaks = g.speaks; excludes = λ xs within all holds. g.excludes xs within all holds tt }

pub no_facts : (s : Trail) (us : List Atom) → us ≡ [] → AreFacts s us
no_facts s us e = subst (λ vs. AreFacts s vs) (sym e) (All-nil (IsFact s))

-- what follows in both cases
pub either_way : (P : Type 0) (b : Bool) → (b ≡ true → P) → (b ≡ false → P) → P
either_way P true f g = f refl
either_way P false f g = g refl
