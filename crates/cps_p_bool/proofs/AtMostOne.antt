-- At most one atom of a list is to be true.
use Rattle.std.proofs.Common.{Result, Ok, ◌≡◌, ◌≢◌, ℕ, ◌+◌, ◌<◌, ◌≤◌, ℤ, Bool, true, not, List, [], ◌∷◌, length, get_or, refl, sym, ◌∙◌, ap, subst, inl, inr, arith}
use Rattle.std.specs.Prelude.{IfOk, OnOk}
use Rattle.std.specs.List.{list_all, count_by, All, Contains}
use Rattle.std.proofs.Math.Nat.{eq-or-lt_of_le}
use Rattle.std.proofs.lemmas.List.{get_or_default}
use Rattle.std.proofs.lemmas.List.Sums.{list_all-from_AllPass}
use Rattle.cps_literal.specs.declared.atom.Atom.{Atom}
use Rattle.cps_literal.specs.Truth.{atom_holds}
use Rattle.cps_instance.specs.declared.task.Body.{Body}
use Rattle.cps_instance.specs.declared.task.Body.TheVariants.{AtMostOne, ExactlyOne}
use Rattle.cps_instance.specs.Tasks.{HoldsBody, HoldsTask, subjects_of, subjects_of_body, true_atoms}
use Rattle.cps_trail.specs.Trail.{Trail, IsTrueNow, IsFalseNow}
use Rattle.cps_trail.specs.Adds.{Grounds, Infers}
use Rattle.cps_trail.specs.Notes.{ByTask}
use Rattle.cps_trail.proofs.Inferring.{stays_false}
use Rattle.cps_propagate.specs.Conflicts.{AnswersBy, as_step}
use Rattle.cps_propagate.specs.declared.propagator.Answer.{Answer}
use Rattle.cps_propagate.specs.declared.propagator.Answer.TheVariants.{NoConflict}
use Rattle.cps_propagate.specs.Strength.{OthersAre}
use Rattle.cps_p_bool.specs.Seeking.{IsInForce}
use Rattle.cps_p_bool.specs.Denying.{Agrees, GivesAtom, Excludes, AreLiterals, task_of}
use Rattle.cps_p_bool.specs.Taking.{CanHold, IsConsistent, IsPlain}
use Rattle.cps_p_bool.specs.Rules.{Runs, IsAlone, LimitsToOne}
use Rattle.cps_p_bool.proofs.AtomCounts.{count_none, count_one, count_two}
use Rattle.cps_p_bool.proofs.Denials.{IsOpposite, opposite_holds}
use Rattle.cps_p_bool.proofs.ReadSubjects.{atoms_read, list_read}
use Rattle.cps_p_bool.proofs.AtomPlaces.{apart, one_of, two_of}
use Rattle.cps_p_bool.proofs.ReasonConsequences.{by_not_true}
use Rattle.cps_p_bool.proofs.KindSteps.{pinned_true, IsDecided-pinned, IsDecided-alone, Runs-settled, Runs-waiting, settled_infers, same_store}
use Rattle.cps_p_bool.proofs.Consistent.{IsConsistent-anywhere, CanHold-anywhere, IsConsistent-none, CanHold-none, CanHold-chosen}
use Rattle.cps_p_bool.proofs.Results.{IfOk-map}

pub all_true : (s : Trail) (e : List Atom) (last : ℕ) → IsInForce s e last → (last < length e → ⊥) → All (IsTrueNow s) e
all_true s e last force all k d l = force.others k d l (λ same. all (omega (arith, l, same)))

pub enforced_all : (s : Trail) (e : List Atom) (xs : List ℤ) → All (IsTrueNow s) e → All (Agrees s xs) e → list_all (atom_holds xs) e ≡ true
enforced_all s e xs trues agrees = list_all-from_AllPass (atom_holds xs) e (λ k d l. (agrees k d l).if_true (trues k d l))

-- two places whose atoms hold
two_hold : (p : Atom → Bool) (us : List Atom) (c i : ℕ) → c < length us → i < length us → i ≢ c → ((d : Atom) → p (get_or us c d) ≡ true) → ((d : Atom) → p (get_or us i d) ≡ true) → 2 ≤ count_by p us
two_hold p us c i l m ne h k = elim (apart i c ne) [ inl a ↦ count_two p us i c a l k h | inr a ↦ count_two p us c i a m h k ]

module _ (b : Body) (us : List Atom) (n : LimitsToOne b us) where
  -- another than the true atom is false
  pub Gives-not : (s : Trail) (e : List Atom) (c i : ℕ) (z o : Atom) → All (IsTrueNow s) e → c < length us → i < length us → i ≢ c → ((d : Atom) → IsTrueNow s (get_or us c d)) → IsOpposite (get_or us i z) o
      → GivesAtom s (task_of e b) (get_or us c z ∷ []) o
  Gives-not s e c i z o trues l m ne chosen opposite = record {
    at = λ xs within holds agrees-e agrees.
        opposite_holds (get_or us i z) o opposite xs ∙ ap not (by_not_true (atom_holds xs (get_or us i z)) (λ yes.
        let here : atom_holds xs (get_or us c z) ≡ true = (agrees 0 z (omega arith)).if_true (chosen z) in
        let two = two_hold (atom_holds xs) us c i l m ne (λ d. subst (λ (u : Atom). atom_holds xs u ≡ true) (get_or_default us c z d l) here) (λ d. subst (λ (u : Atom). atom_holds xs u ≡ true) (get_or_default us i z d m) yes) in
        omega (arith, two, n.most xs (holds (enforced_all s e xs trues agrees-e)))));
    used_read = one_of (λ u. Contains (subjects_of (task_of e b)) u.subject) us c z (atoms_read e b us n.reads) l;
    target_read = subst (λ (k : ℕ). Contains (subjects_of (task_of e b)) k) (sym opposite.subject) (atoms_read e b us n.reads i z m);
  }

  -- two true atoms are too many
  pub Excludes-two : (s : Trail) (c i : ℕ) (z : Atom) → c < i → i < length us → IsTrueNow s (get_or us c z) → IsTrueNow s (get_or us i z) → Excludes s b (get_or us c z ∷ get_or us i z ∷ [])
  Excludes-two s c i z a l h k = record {
    at = λ xs within holds agrees.
        let first : atom_holds xs (get_or us c z) ≡ true = (agrees 0 z (omega arith)).if_true h in
        let second : atom_holds xs (get_or us i z) ≡ true = (agrees 1 z (omega arith)).if_true k in
        let two = count_two (atom_holds xs) us c i a l (λ d. subst (λ (u : Atom). atom_holds xs u ≡ true) (get_or_default us c z d (omega (arith, a, l))) first)
        (λ d. subst (λ (u : Atom). atom_holds xs u ≡ true) (get_or_default us i z d l) second) in
        omega (arith, two, n.most xs holds);
    used_read = two_of (λ u. Contains (subjects_of_body b) u.subject) us c i z (list_read b us n.reads) (omega (arith, a, l)) l;
  }

  alone_holds : (s : Trail) (c : ℕ) → c < length us → IsAlone s us c → (xs : List ℤ) → All (Agrees s xs) us → HoldsBody b xs
  alone_holds s c l h xs agrees = n.one xs (count_one (atom_holds xs) us c l (λ d. (agrees c d l).if_true (h.chosen d)) (λ k d m ne. (agrees k d m).if_false (h.others k d m ne)))

  -- what `close` does
  pub Runs-closed : {number : ℕ} {E : Type 0} {clause : List Atom} (s u : Trail) (e : List Atom) (c : ℕ) (a : Result Answer E) → AreLiterals s.first us → IsPlain s us → All (IsTrueNow s) e → c < length us
      → OnOk a ((d : Body) → LimitsToOne d us → Infers (ByTask number (HoldsTask (task_of e d))) s u) → IfOk a (λ q. (d : Body) → LimitsToOne d us → AnswersBy (task_of e d) u (as_step q clause))
      → (a ≡ Ok NoConflict → IsAlone u us c) → Runs number (task_of e b) s u a clause
  Runs-closed {number} {E} {clause} s u e c a fits plain trues l i r alone =
      let infers = IfOk-map a {P = λ _. (d : Body) → LimitsToOne d us → Infers (ByTask number (HoldsTask (task_of e d))) s u} {Q = λ _. Infers (ByTask number (HoldsTask (task_of e b))) s u} (λ step h. h b n) i in
      record {
        infers = infers;
        answers = IfOk-map a {P = λ q. (d : Body) → LimitsToOne d us → AnswersBy (task_of e d) u (as_step q clause)} {Q = λ q. AnswersBy (task_of e b) u (as_step q clause)} (λ step h. h b n) r;
        decided = λ is. IsDecided-alone u e b us c n.reads n.one l (alone is);
        possible = λ is same.
            let store = same_store (ByTask number (HoldsTask (task_of e b))) s u (settled_infers {E = E} s e b u a is infers) same in
            subst (λ (v : Trail). CanHold v b) (sym store) (CanHold-anywhere s us fits plain b (alone_holds s c l (subst (λ (v : Trail). IsAlone v us c) store (alone is))));
        consistent = λ is same _.
            let store = same_store (ByTask number (HoldsTask (task_of e b))) s u (settled_infers {E = E} s e b u a is infers) same in
            subst (λ (v : Trail). IsConsistent v b) (sym store) (IsConsistent-anywhere s us fits plain b (alone_holds s c l (subst (λ (v : Trail). IsAlone v us c) store (alone is))));
        waiting = λ _ no. absurd (no trues);
      }

  -- one atom is true, no other is, and the last enforcement atom is open
  pub Runs-chosen : {number : ℕ} {E : Type 0} {clause : List Atom} (s : Trail) (e : List Atom) (place c : ℕ) → AreLiterals s.first us → IsPlain s us → place < length e → ((d : Atom) → IsTrueNow s (get_or e place d) → ⊥)
      → c < length us → ((d : Atom) → IsTrueNow s (get_or us c d)) → OthersAre (λ v. IsTrueNow s v → ⊥) us c → Runs {E = E} number (task_of e b) s s (Ok NoConflict) clause
  Runs-chosen {number} s e place c fits plain l not_true m chosen others = Runs-waiting s e b (CanHold-chosen s us fits plain b n.one c m chosen others) place l not_true

pub LimitsToOne-most : (us : List Atom) → LimitsToOne (AtMostOne us) us
LimitsToOne-most us = record {
  reads = refl;
  most = λ xs h. h;
  one = λ xs e. omega (arith, e);
}

pub LimitsToOne-exactly : (us : List Atom) → LimitsToOne (ExactlyOne us) us
LimitsToOne-exactly us = record {
  reads = refl;
  most = λ xs h. omega (arith, h);
  one = λ xs e. e;
}

-- no atom is true
pub Runs-none : {number : ℕ} {E : Type 0} {clause : List Atom} (s : Trail) (e us : List Atom) → AreLiterals s.first us → IsPlain s us → All (λ v. IsTrueNow s v → ⊥) us → Runs {E = E} number (task_of e (AtMostOne us)) s s (Ok NoConflict) clause
Runs-none {number} s e us fits plain none = Runs-settled s e (AtMostOne us)
    (IsDecided-pinned s e (AtMostOne us) us refl (λ xs pins.
    let zero_true : true_atoms xs us ≡ 0 = count_none (atom_holds xs) us (λ k d l. by_not_true (atom_holds xs (get_or us k d)) (λ yes. none k d l (pinned_true s xs (get_or us k d) (pins k d l) yes))) in
    omega (arith, zero_true)))
    (CanHold-none s us fits plain none) (λ _. IsConsistent-none s us fits plain none)

-- the atoms made false so far, and one more
pub closed_more : (C : Grounds) (s u : Trail) (us : List Atom) (c i : ℕ) → Infers C s u → ((k : ℕ) (d : Atom) → k < i → k < length us → k ≢ c → IsFalseNow s (get_or us k d)) → (i ≢ c → (d : Atom) → IsFalseNow u (get_or us i d))
    → (k : ℕ) (d : Atom) → k < i + 1 → k < length us → k ≢ c → IsFalseNow u (get_or us k d)
closed_more C s u us c i h before here k d b l ne = elim (eq-or-lt_of_le {n = k} {m = i} (omega (arith, b))) [
  | inl e ↦ subst (λ (j : ℕ). IsFalseNow u (get_or us j d)) (sym e) (here (λ f. ne (e ∙ f)) d)
  | inr j ↦ stays_false C s u h (get_or us k d) (before k d j l ne)
]
