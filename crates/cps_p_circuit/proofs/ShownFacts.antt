-- Facts that show what a body gives.
use Rattle.std.specs.Prelude.{All, Contains, IfSome, Option, Some, None, not}
use Rattle.std.proofs.Common.{◌≡◌, ℕ, ◌+◌, ◌<◌, ℤ, Bool, true, false, List, [], ◌∷◌, ◌++◌, length, get_or, take, refl, sym, ◌∙◌, ap, subst, arith, length-append}
use Rattle.std.proofs.lemmas.List.{get_or-map, get_or_append_left}
use Rattle.std.proofs.lemmas.List.Elements.{All-nil, All-contains, All-contains_itself, All-more, All-push, Contains-push}
use Rattle.cps_literal.specs.declared.atom.Atom.{Atom}
use Rattle.cps_literal.specs.Truth.{value_at, atom_holds, meets, Implies}
use Rattle.cps_instance.specs.declared.task.Body.{Body}
use Rattle.cps_instance.specs.Tasks.{atom_subjects}
use Rattle.cps_trail.specs.Trail.{Trail, IsTrueNow, IsAdmitted, IsWithin}
use Rattle.cps_rule.specs.Rules.{IsFact, AreFacts, AllTrueAt, IsExplained, IsRefuted, IsGiven, IsImpossible, IsAtRest}
use Rattle.cps_propagate.specs.Now.{AreOpen}
use Rattle.cps_propagate.specs.Strength.{IsStrongBody}
use Rattle.cps_propagate.proofs.Speaking.{speaks_none, speaks_push}
use Rattle.cps_p_circuit.specs.declared.clash.Sign.{Sign}
use Rattle.cps_p_circuit.specs.Graphs.{IsRound}
use Rattle.cps_p_circuit.specs.Clashes.{IsSignMet, IsClash}
use Rattle.cps_p_circuit.specs.Showing.{body_by, taken_at, IsAtomOf, MakeSignsTrue, IsShown, AreTaken, IsOpenStill}
use Rattle.cps_p_circuit.proofs.TakenArcs.{round_from_body, body_from_round, subject_holds}

-- what a sign's atom says of the literal
pub met_by : (literals : List Atom) (p : Sign) (d u : Atom) → p.arc < length literals → ((xs : List ℤ) → atom_holds xs u ≡ true → atom_holds xs (get_or literals p.arc d) ≡ p.holds) → (xs : List ℤ) → atom_holds xs u ≡ true → IsSignMet (taken_at xs literals) p
met_by literals p d u l h xs t = get_or-map (atom_holds xs) literals p.arc d false l ∙ h xs t

pub opposite_met : (a u : Atom) (h : Bool) → h ≡ false → u.subject ≡ a.subject → ((x : ℤ) → meets u.op u.value x ≡ not (meets a.op a.value x)) → (xs : List ℤ) → atom_holds xs u ≡ true → atom_holds xs a ≡ h
opposite_met a u h is e n xs t = by (atom_holds xs a) refl
  where
    by : (b : Bool) → atom_holds xs a ≡ b → atom_holds xs a ≡ h
    by false f = f ∙ sym is
    by true f =
        let at : meets u.op u.value (value_at xs u.subject) ≡ not (meets a.op a.value (value_at xs a.subject)) = subst (λ (i : ℕ). meets u.op u.value (value_at xs u.subject) ≡ not (meets a.op a.value (value_at xs i))) e (n (value_at xs u.subject)) in
        let no : not (meets a.op a.value (value_at xs a.subject)) ≡ false = ap not f in
        absurd (cc)

-- an atom that another implies
pub implied_holds : (s t : Atom) → Implies s t → (xs : List ℤ) → atom_holds xs s ≡ true → atom_holds xs t ≡ true
implied_holds s t h xs e = h.follows (value_at xs t.subject) (subst (λ (i : ℕ). meets s.op s.value (value_at xs i) ≡ true) h.subject e)

all_front : {X : Type 0} (P : X → Type 0) (xs : List X) (x : X) → All P (xs ++ x ∷ []) → All P xs
all_front P xs x h k d l = subst P (get_or_append_left xs (x ∷ []) d k l) (h k d (omega (arith, length-append xs (x ∷ []))))

-- one sign more
pub kept_more : (s : Trail) (literals : List Atom) (denied : Option Atom) (used : List Sign) (i : ℕ) (d : Sign) (us new : List Atom) (u : Atom) → i < length used → IsAtomOf literals (get_or used i d) u → u.subject < length s.first → IsTrueNow s u → new ≡ us ++ u ∷ []
    → MakeSignsTrue s literals denied (take i used) us → MakeSignsTrue s literals denied (take (i + 1) used) new
kept_more s literals denied used i d us new u l at inside now e h = record {
  facts = rw e (All-push (IsFact s) us u h.facts (record { subject = inside; inside = at.inside; true_now = now }));
  speaks = rw e (speaks_push (atom_subjects literals) us u h.speaks (subst (λ (j : ℕ). Contains (atom_subjects literals) j) (sym (at.subject u)) (subject_holds (Contains (atom_subjects literals)) literals (get_or used i d).arc u at.within (All-contains_itself (atom_subjects literals)))));
  gives = λ xs t o.
      (let all : AllTrueAt xs (us ++ u ∷ []) = subst (AllTrueAt xs) e t in
      All-more (IsSignMet (taken_at xs literals)) used i d l (h.gives xs (all_front (λ (v : Atom). atom_holds xs v ≡ true) us u all) o)
      (at.gives xs (All-contains (λ (v : Atom). atom_holds xs v ≡ true) (us ++ u ∷ []) u all (Contains-push us u))));
}

pub kept_denied : (s : Trail) (literals : List Atom) (denied : Option Atom) (used : List Sign) (i : ℕ) (d : Sign) (us : List Atom) (u : Atom) → i < length used → IsAtomOf literals (get_or used i d) u
    → ((xs : List ℤ) → IfSome denied (λ v. atom_holds xs v ≡ true) → atom_holds xs u ≡ true)
    → MakeSignsTrue s literals denied (take i used) us → MakeSignsTrue s literals denied (take (i + 1) used) us
kept_denied s literals denied used i d us u l at follows h = record {
  facts = h.facts;
  speaks = h.speaks;
  gives = λ xs t o. All-more (IsSignMet (taken_at xs literals)) used i d l (h.gives xs t o) (at.gives xs (follows xs o));
}

-- no sign
pub kept_none : (s : Trail) (literals : List Atom) (denied : Option Atom) (us : List Atom) → us ≡ [] → MakeSignsTrue s literals denied [] us
kept_none s literals denied us e = record {
  facts = rw e (All-nil (IsFact s));
  speaks = rw e (speaks_none (atom_subjects literals));
  gives = λ xs t o. All-nil (IsSignMet (taken_at xs literals));
}

-- an atom's subject is among those of the literals
pub atom_inside : (s : Trail) (literals : List Atom) (p : Sign) (u d : Atom) → IsAtomOf literals p u → All (λ i. i < length s.first) (atom_subjects literals) → u.subject < length s.first
atom_inside s literals p u d at h =
    let there : (get_or literals p.arc d).subject < length s.first = subject_holds (λ i. i < length s.first) literals p.arc d at.within h in
    let same = at.subject d in
    omega arith

-- a clash and facts that make its signs true
pub shown : (s : Trail) (nodes : List ℤ) (from to : List ℕ) (literals : List Atom) (denied : Option Atom) (used : List Sign) (us : List Atom) → IsClash nodes from to used → MakeSignsTrue s literals denied used us → IsShown (body_by nodes from to literals) s denied us
shown s nodes from to literals denied used us clash kept = record {
  facts = kept.facts;
  speaks = kept.speaks;
  excludes = λ xs t o h. clash.none (taken_at xs literals) (kept.gives xs t o) (round_from_body xs nodes from to literals h);
}

pub explained : (b : Body) (s : Trail) (target u : Atom) (us : List Atom) → u.subject ≡ target.subject → ((x : ℤ) → meets u.op u.value x ≡ not (meets target.op target.value x)) → IsShown b s (Some u) us → IsExplained b s target us
explained b s target u us e n h = record {
  facts = h.facts;
  speaks = h.speaks;
  gives = λ xs w t body. by xs (atom_holds xs target) refl (λ f. h.excludes xs t (denied xs f) body);
}
  where
    denied : (xs : List ℤ) → atom_holds xs target ≡ false → atom_holds xs u ≡ true
    denied xs f =
        let at : meets u.op u.value (value_at xs u.subject) ≡ not (meets target.op target.value (value_at xs target.subject)) = subst (λ (i : ℕ). meets u.op u.value (value_at xs u.subject) ≡ not (meets target.op target.value (value_at xs i))) e (n (value_at xs u.subject)) in
        at ∙ ap not f

    by : (xs : List ℤ) (v : Bool) → atom_holds xs target ≡ v → (atom_holds xs target ≡ false → ⊥) → atom_holds xs target ≡ true
    by xs true f other = f
    by xs false f other = absurd (other f)

pub refuted : (b : Body) (s : Trail) (us : List Atom) → IsShown b s None us → IsRefuted b s us
refuted b s us h = record { facts = h.facts; speaks = h.speaks; excludes = λ xs w t body. h.excludes xs t tt body }

-- facts are true wherever the store leaves values
pub facts_hold : (s : Trail) (us : List Atom) (xs : List ℤ) → AreFacts s us → IsAdmitted s.first s.entries xs → AllTrueAt xs us
facts_hold s us xs facts w k d l = let f = facts k d l in f.true_now (value_at xs (get_or us k d).subject) (w (get_or us k d).subject f.subject)

pub impossible : (b : Body) (s : Trail) (us : List Atom) → IsShown b s None us → IsImpossible b s
impossible b s us h = record { at = λ xs w body. h.excludes xs (facts_hold s us xs h.facts w) tt body }

pub given : (b : Body) (s : Trail) (target : Atom) (us : List Atom) → target.subject < length s.first → IsExplained b s target us → ((xs : List ℤ) → IsAdmitted s.first s.entries xs → IsWithin s.first xs) → IsGiven b s target
given b s target us inside h within = record {
  subject = inside;
  at = λ xs w body. h.gives xs (within xs w) (facts_hold s us xs h.facts w) body;
}

-- where each literal is known
open_at : (s : Trail) (xs : List ℤ) (literals : List Atom) → All (λ i. i < length s.first) (atom_subjects literals) → IsAdmitted s.first s.entries xs → AreOpen s xs (atom_subjects literals)
open_at s xs literals h w k d l = w (get_or (atom_subjects literals) k d) (h k d l)

pub not_round : (s : Trail) (nodes : List ℤ) (from to : List ℕ) (literals : List Atom) (taken : List Bool) → All (λ i. i < length s.first) (atom_subjects literals) → AreTaken s literals taken → (IsRound nodes from to taken → ⊥) → IsImpossible (body_by nodes from to literals) s
not_round s nodes from to literals taken inside is other = record { at = λ xs w body. other (subst (IsRound nodes from to) (is.is xs (open_at s xs literals inside w)) (round_from_body xs nodes from to literals body)) }

pub rest_round : (s : Trail) (nodes : List ℤ) (from to : List ℕ) (literals : List Atom) (taken : List Bool) → IsStrongBody (body_by nodes from to literals) s → AreTaken s literals taken → IsRound nodes from to taken → IsAtRest (body_by nodes from to literals) s
rest_round s nodes from to literals taken strong is h = record {
  decided = λ fixed xs o. body_from_round xs nodes from to literals (subst (IsRound nodes from to) (sym (is.is xs o)) h);
  strong = strong;
}

pub rest_open : (s : Trail) (nodes : List ℤ) (from to : List ℕ) (literals : List Atom) → IsStrongBody (body_by nodes from to literals) s → IsOpenStill s literals → IsAtRest (body_by nodes from to literals) s
rest_open s nodes from to literals strong h = record { decided = λ fixed xs o. absurd (h fixed); strong = strong }
