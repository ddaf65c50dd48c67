-- What the steps of a kind give of its law.
use Rattle.std.proofs.Common.{Result, Ok, ◌≡◌, ℕ, zero, suc, ◌<◌, ℤ, true, false, List, [], ◌∷◌, length, get_or, refl, sym, subst, inl, inr, arith}
use Rattle.std.specs.Prelude.{IfOk, OnOk}
use Rattle.std.specs.List.{All}
use Rattle.std.proofs.lemmas.List.Sums.{AllPass-from_list_all}
use Rattle.cps_literal.specs.declared.atom.Atom.{Atom}
use Rattle.cps_literal.specs.Truth.{meets, value_at, atom_holds}
use Rattle.cps_instance.specs.declared.task.Body.{Body}
use Rattle.cps_instance.specs.Tasks.{HoldsBody, HoldsTask, atom_subjects, subjects_of_body, true_atoms}
use Rattle.cps_instance.proofs.Agreeing.{All-append_left, All-append_right}
use Rattle.cps_trail.specs.Trail.{Trail, IsTrueNow, IsFalseNow}
use Rattle.cps_trail.specs.Adds.{Grounds, Infers}
use Rattle.cps_trail.specs.Notes.{ByTask}
use Rattle.cps_propagate.specs.Conflicts.{AnswersBy, as_step}
use Rattle.cps_propagate.specs.declared.propagator.Answer.{Answer}
use Rattle.cps_propagate.specs.declared.propagator.Answer.TheVariants.{NoConflict}
use Rattle.cps_trail.proofs.Inferring.{Infers-refl, same_midway}
use Rattle.cps_propagate.specs.Now.{IsFixedNow, IsOpenTo, AreOpen}
use Rattle.cps_propagate.specs.Laws.{IsDecided}
use Rattle.cps_p_bool.specs.Seeking.{IsInForce, IsOff}
use Rattle.cps_p_bool.specs.Denying.{Agrees, GivesAtom, Excludes, task_of}
use Rattle.cps_p_bool.specs.Rules.{Runs, IsPinned, IsAlone}
use Rattle.cps_p_bool.specs.Taking.{CanHold, IsConsistent}
use Rattle.cps_p_bool.proofs.ReasonConsequences.{not_both}
use Rattle.cps_p_bool.proofs.AtomCounts.{count_one}
use Rattle.cps_p_bool.proofs.Results.{IfOk-map}

pub All-unmap : (P : ℕ → Type 0) (us : List Atom) → All P (atom_subjects us) → All (λ u. P u.subject) us
All-unmap P [] h k d l = absurd (omega (arith, l))
All-unmap P (u ∷ us) h zero d l = h 0 0 (omega arith)
All-unmap P (u ∷ us) h (suc k) d l = All-unmap P us (λ j n b. h (suc j) n (omega (arith, b))) k d (omega (arith, l))

pinned : (s : Trail) (xs : List ℤ) (us : List Atom) → All (IsFixedNow s) (atom_subjects us) → AreOpen s xs (atom_subjects us) → All (IsPinned s xs) us
pinned s xs us fixed opens k d l = record {
  fixed = All-unmap (IsFixedNow s) us fixed k d l;
  here = All-unmap (λ i. IsOpenTo s i (value_at xs i)) us opens k d l;
}

pub open_agrees : (s : Trail) (xs : List ℤ) (u : Atom) → IsOpenTo s u.subject (value_at xs u.subject) → Agrees s xs u
open_agrees s xs u here = record { if_true = λ h. h (value_at xs u.subject) here; if_false = λ h. h (value_at xs u.subject) here }

pub pinned_agrees : (s : Trail) (xs : List ℤ) (us : List Atom) → All (IsPinned s xs) us → All (Agrees s xs) us
pinned_agrees s xs us h k d l = open_agrees s xs (get_or us k d) (h k d l).here

pub pinned_true : (s : Trail) (xs : List ℤ) (u : Atom) → IsPinned s xs u → atom_holds xs u ≡ true → IsTrueNow s u
pinned_true s xs u p h x a = subst (λ (z : ℤ). meets u.op u.value z ≡ true) (p.fixed (value_at xs u.subject) x p.here a) h

pub pinned_false : (s : Trail) (xs : List ℤ) (u : Atom) → IsPinned s xs u → atom_holds xs u ≡ false → IsFalseNow s u
pinned_false s xs u p h x a = subst (λ (z : ℤ). meets u.op u.value z ≡ false) (p.fixed (value_at xs u.subject) x p.here a) h

-- decided, where the body holds at what is left of its atoms
pub IsDecided-pinned : (s : Trail) (e : List Atom) (b : Body) (us : List Atom) → subjects_of_body b ≡ atom_subjects us
    → ((xs : List ℤ) → All (IsPinned s xs) us → HoldsBody b xs) → IsDecided (task_of e b) s
IsDecided-pinned s e b us reads h = record {
  holds = λ fixed xs opens _. h xs (pinned s xs us
      (subst (λ (is : List ℕ). All (IsFixedNow s) is) reads (All-append_right (IsFixedNow s) (atom_subjects e) (subjects_of_body b) fixed))
      (subst (λ (is : List ℕ). AreOpen s xs is) reads (All-append_right (λ i. IsOpenTo s i (value_at xs i)) (atom_subjects e) (subjects_of_body b) opens)));
}

-- decided, where an enforcement atom is not true
pub IsDecided-idle : (s : Trail) (e : List Atom) (b : Body) (place : ℕ) → place < length e → ((d : Atom) → IsTrueNow s (get_or e place d) → ⊥) → IsDecided (task_of e b) s
IsDecided-idle s e b place l not_true = record {
  holds = λ fixed xs opens all.
      let z = some_atom e place l in
      let p = pinned s xs e (All-append_left (IsFixedNow s) (atom_subjects e) (subjects_of_body b) fixed) (All-append_left (λ i. IsOpenTo s i (value_at xs i)) (atom_subjects e) (subjects_of_body b) opens) place z l in
      absurd (not_true z (pinned_true s xs (get_or e place z) p (AllPass-from_list_all (atom_holds xs) e all place z l)));
}
  where
    some_atom : (us : List Atom) (k : ℕ) → k < length us → Atom
    some_atom [] k b = absurd (omega (arith, b))
    some_atom (u ∷ us) k b = u

-- decided, where one is false
pub IsDecided-off : (s : Trail) (e : List Atom) (b : Body) (place : ℕ) → IsOff s e place → IsDecided (task_of e b) s
IsDecided-off s e b place off = record {
  holds = λ fixed xs opens all.
      let z = some_atom e place off.within in
      let here : IsOpenTo s (get_or e place z).subject (value_at xs (get_or e place z).subject) = All-unmap (λ i. IsOpenTo s i (value_at xs i)) e (All-append_left (λ i. IsOpenTo s i (value_at xs i)) (atom_subjects e) (subjects_of_body b) opens) place z off.within in
      absurd (not_both (atom_holds xs (get_or e place z)) (AllPass-from_list_all (atom_holds xs) e all place z off.within) (off.false_now z (value_at xs (get_or e place z).subject) here));
}
  where
    some_atom : (us : List Atom) (k : ℕ) → k < length us → Atom
    some_atom [] k b = absurd (omega (arith, b))
    some_atom (u ∷ us) k b = u

pub not_enforced : (s : Trail) (e : List Atom) (place : ℕ) → place < length e → ((d : Atom) → IsTrueNow s (get_or e place d) → ⊥) → All (IsTrueNow s) e → ⊥
not_enforced s e place l not_true trues = not_true (some_atom e place l) (trues place (some_atom e place l) l)
  where
    some_atom : (us : List Atom) (k : ℕ) → k < length us → Atom
    some_atom [] k below = absurd (omega (arith, below))
    some_atom (u ∷ us) k below = u

-- nothing added
pub same_store : (C : Grounds) (s u : Trail) → Infers C s u → u.entries ≡ s.entries → u ≡ s
same_store C s u h e = (same_midway C C s s u (Infers-refl C s) h e).1

module _ {E : Type 0} (s : Trail) (e : List Atom) (b : Body) where
  -- nothing to do
  pub Runs-settled : {number : ℕ} {clause : List Atom} → IsDecided (task_of e b) s → CanHold s b → (All (IsTrueNow s) e → IsConsistent s b) → Runs {E = E} number (task_of e b) s s (Ok NoConflict) clause
  Runs-settled {number} d can h = record {
    infers = Infers-refl (ByTask number (HoldsTask (task_of e b))) s;
    answers = tt;
    decided = λ _. d;
    possible = λ _ _. can;
    consistent = λ _ _. h;
    waiting = λ _ _. inl refl;
  }

  -- the last enforcement atom is open, and the body can hold
  pub Runs-waiting : {number : ℕ} {clause : List Atom} → CanHold s b → (place : ℕ) → place < length e → ((d : Atom) → IsTrueNow s (get_or e place d) → ⊥) → Runs {E = E} number (task_of e b) s s (Ok NoConflict) clause
  Runs-waiting {number} can place l not_true = Runs-settled (IsDecided-idle s e b place l not_true) can (λ trues. absurd (not_enforced s e place l not_true trues))

  pub settled_infers : {number : ℕ} (u : Trail) (a : Result Answer E) → a ≡ Ok NoConflict → OnOk a (Infers (ByTask number (HoldsTask (task_of e b))) s u) → Infers (ByTask number (HoldsTask (task_of e b))) s u
  settled_infers {number} u a is h = subst (λ (q : Result Answer E). OnOk q (Infers (ByTask number (HoldsTask (task_of e b))) s u)) is h

  -- what `reject` does
  pub Runs-refused : {number : ℕ} {clause : List Atom} (u : Trail) (last : ℕ) (used : List Atom) (a : Result Answer E) → IsInForce s e last → Excludes s b used → OnOk a ((c : Body) → Excludes s c used → Infers (ByTask number (HoldsTask (task_of e c))) s u)
      → IfOk a (λ q. (c : Body) → Excludes s c used → AnswersBy (task_of e c) u (as_step q clause)) → (a ≡ Ok NoConflict → IsOff u e last) → Runs number (task_of e b) s u a clause
  Runs-refused {number} {clause} u last used a force x i r off =
      let infers = IfOk-map a {P = λ _. (c : Body) → Excludes s c used → Infers (ByTask number (HoldsTask (task_of e c))) s u} {Q = λ _. Infers (ByTask number (HoldsTask (task_of e b))) s u} (λ step h. h b x) i in
      record {
        infers = infers;
        answers = IfOk-map a {P = λ q. (c : Body) → Excludes s c used → AnswersBy (task_of e c) u (as_step q clause)} {Q = λ q. AnswersBy (task_of e b) u (as_step q clause)} (λ step h. h b x) r;
        decided = λ is. IsDecided-off u e b last (off is);
        possible = λ is same. absurd (still_open infers is same);
        consistent = λ is same _. absurd (still_open infers is same);
        waiting = λ is _. inr (last, off is);
      }
    where
      some_atom : (us : List Atom) (k : ℕ) → k < length us → Atom
      some_atom [] k below = absurd (omega (arith, below))
      some_atom (v ∷ us) k below = v

      still_open : OnOk a (Infers (ByTask number (HoldsTask (task_of e b))) s u) → a ≡ Ok NoConflict → u.entries ≡ s.entries → ⊥
      still_open infers is same =
          let store = same_store (ByTask number (HoldsTask (task_of e b))) s u (settled_infers u a is infers) same in
          let z = some_atom e last (off is).within in
          (force.undecided z (off is).within).1 (subst (λ (v : Trail). IsFalseNow v (get_or e last z)) store ((off is).false_now z))

  -- what `infer` does
  pub Runs-inferred : {number : ℕ} {clause : List Atom} (u : Trail) (used : List Atom) (t : Atom) (a : Result Answer E) → All (IsTrueNow s) e → GivesAtom s (task_of e b) used t → OnOk a ((c : Body) → GivesAtom s (task_of e c) used t → Infers (ByTask number (HoldsTask (task_of e c))) s u)
      → IfOk a (λ q. (c : Body) → GivesAtom s (task_of e c) used t → AnswersBy (task_of e c) u (as_step q clause)) → (a ≡ Ok NoConflict → IsTrueNow u t)
      → (Infers (ByTask number (HoldsTask (task_of e b))) s u → IsTrueNow u t → IsDecided (task_of e b) u) → (IsTrueNow s t → CanHold s b × IsConsistent s b) → Runs number (task_of e b) s u a clause
  Runs-inferred {number} {clause} u used t a trues g i r made decided strong =
      let infers = IfOk-map a {P = λ _. (c : Body) → GivesAtom s (task_of e c) used t → Infers (ByTask number (HoldsTask (task_of e c))) s u} {Q = λ _. Infers (ByTask number (HoldsTask (task_of e b))) s u} (λ step h. h b g) i in
      record {
        infers = infers;
        answers = IfOk-map a {P = λ q. (c : Body) → GivesAtom s (task_of e c) used t → AnswersBy (task_of e c) u (as_step q clause)} {Q = λ q. AnswersBy (task_of e b) u (as_step q clause)} (λ step h. h b g) r;
        decided = λ is. decided (settled_infers u a is infers) (made is);
        possible = λ is same.
            let store = same_store (ByTask number (HoldsTask (task_of e b))) s u (settled_infers u a is infers) same in
            subst (λ (v : Trail). CanHold v b) (sym store) (strong (subst (λ (v : Trail). IsTrueNow v t) store (made is))).0;
        consistent = λ is same _.
            let store = same_store (ByTask number (HoldsTask (task_of e b))) s u (settled_infers u a is infers) same in
            subst (λ (v : Trail). IsConsistent v b) (sym store) (strong (subst (λ (v : Trail). IsTrueNow v t) store (made is))).1;
        waiting = λ _ no. absurd (no trues);
      }

-- decided, where one atom is true and the others are false
pub IsDecided-alone : (s : Trail) (e : List Atom) (b : Body) (us : List Atom) (c : ℕ) → subjects_of_body b ≡ atom_subjects us → ((xs : List ℤ) → true_atoms xs us ≡ 1 → HoldsBody b xs) → c < length us → IsAlone s us c
    → IsDecided (task_of e b) s
IsDecided-alone s e b us c reads one l h = IsDecided-pinned s e b us reads (λ xs pins. one xs (count_one (atom_holds xs) us c l
    (λ d. (pinned_agrees s xs us pins c d l).if_true (h.chosen d))
    (λ k d m ne. (pinned_agrees s xs us pins k d m).if_false (h.others k d m ne))))

pub some_atom : (us : List Atom) (k : ℕ) → k < length us → Atom
some_atom [] k b = absurd (omega (arith, b))
some_atom (u ∷ us) k b = u
