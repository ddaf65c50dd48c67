-- All atoms of a list are to be true.
use Rattle.std.proofs.Common.{Result, Ok, ◌≡◌, ℕ, ◌<◌, ℤ, List, [], ◌∷◌, length, get_or, refl, sym, subst, arith}
use Rattle.std.specs.Prelude.{IfOk, OnOk}
use Rattle.std.specs.List.{All, Contains}
use Rattle.std.proofs.lemmas.List.Elements.{All-weaker}
use Rattle.std.proofs.lemmas.List.Sums.{list_all-from_AllPass, AllPass-from_list_all}
use Rattle.cps_literal.specs.declared.atom.Atom.{Atom}
use Rattle.cps_literal.specs.Truth.{atom_holds}
use Rattle.cps_instance.specs.declared.task.Body.TheVariants.{BoolAnd}
use Rattle.cps_instance.specs.Tasks.{HoldsBody, HoldsTask, atom_subjects, subjects_of}
use Rattle.cps_trail.specs.Trail.{Trail, IsTrueNow, IsFalseNow}
use Rattle.cps_trail.specs.Adds.{Infers}
use Rattle.cps_trail.specs.Notes.{ByTask}
use Rattle.cps_trail.proofs.Inferring.{stays_true}
use Rattle.cps_propagate.specs.Conflicts.{AnswersBy, as_step}
use Rattle.cps_propagate.proofs.Speaking.{about_itself, speaks_none}
use Rattle.cps_propagate.specs.declared.propagator.Answer.{Answer}
use Rattle.cps_propagate.specs.declared.propagator.Answer.TheVariants.{NoConflict}
use Rattle.cps_p_bool.specs.Denying.{Agrees, GivesAtom, Excludes, AreLiterals, task_of}
use Rattle.cps_p_bool.specs.Taking.{CanHold, IsConsistent, IsPlain}
use Rattle.cps_p_bool.specs.Rules.{Runs}
use Rattle.cps_p_bool.proofs.ReasonConsequences.{not_both}
use Rattle.cps_p_bool.proofs.AtomPlaces.{one_of}
use Rattle.cps_p_bool.proofs.ReadSubjects.{atoms_read}
use Rattle.cps_p_bool.proofs.AtMostOne.{enforced_all}
use Rattle.cps_p_bool.proofs.KindSteps.{pinned_agrees, IsDecided-pinned, Runs-waiting, settled_infers, same_store}
use Rattle.cps_p_bool.proofs.Consistent.{IsConsistent-anywhere, CanHold-anywhere, CanHold-and}

-- each atom is given, also when others were made true before
pub GivesAtom-and : {number : ℕ} (s v : Trail) (e us : List Atom) (i : ℕ) (z : Atom) → Infers (ByTask number (HoldsTask (task_of e (BoolAnd us)))) s v → All (IsTrueNow s) e → i < length us → GivesAtom v (task_of e (BoolAnd us)) [] (get_or us i z)
GivesAtom-and {number} s v e us i z h trues l = record {
  at = λ xs within holds agrees-e agrees.
      AllPass-from_list_all (atom_holds xs) us (holds (enforced_all v e xs (All-weaker (IsTrueNow s) (IsTrueNow v) (stays_true (ByTask number (HoldsTask (task_of e (BoolAnd us)))) s v h) e trues) agrees-e)) i z l;
  used_read = speaks_none (subjects_of (task_of e (BoolAnd us)));
  target_read = atoms_read e (BoolAnd us) us refl i z l;
}

pub Excludes-and : (s : Trail) (us : List Atom) (i : ℕ) (z : Atom) → i < length us → IsFalseNow s (get_or us i z) → Excludes s (BoolAnd us) (get_or us i z ∷ [])
Excludes-and s us i z l f = record {
  at = λ xs within holds agrees. not_both (atom_holds xs (get_or us i z)) (AllPass-from_list_all (atom_holds xs) us holds i z l) ((agrees 0 z (omega arith)).if_false f);
  used_read = one_of (λ u. Contains (atom_subjects us) u.subject) us i z (about_itself us) l;
}

pub Runs-and : {number : ℕ} {E : Type 0} {clause : List Atom} (s u : Trail) (e us : List Atom) (a : Result Answer E) → AreLiterals s.first us → IsPlain s us → All (IsTrueNow s) e → OnOk a (Infers (ByTask number (HoldsTask (task_of e (BoolAnd us)))) s u)
    → IfOk a (λ q. AnswersBy (task_of e (BoolAnd us)) u (as_step q clause)) → (a ≡ Ok NoConflict → All (IsTrueNow u) us) → Runs number (task_of e (BoolAnd us)) s u a clause
Runs-and {number} {E} s u e us a fits plain trues i r made = record {
  infers = i;
  answers = r;
  decided = λ is. IsDecided-pinned u e (BoolAnd us) us refl (λ xs pins. all_hold u (made is) xs (pinned_agrees u xs us pins));
  possible = λ is same.
      let store = same_store (ByTask number (HoldsTask (task_of e (BoolAnd us)))) s u (settled_infers {E = E} s e (BoolAnd us) u a is i) same in
      subst (λ (v : Trail). CanHold v (BoolAnd us)) (sym store) (CanHold-anywhere s us fits plain (BoolAnd us) (all_hold s (subst (λ (v : Trail). All (IsTrueNow v) us) store (made is))));
  consistent = λ is same _.
      let store = same_store (ByTask number (HoldsTask (task_of e (BoolAnd us)))) s u (settled_infers {E = E} s e (BoolAnd us) u a is i) same in
      subst (λ (v : Trail). IsConsistent v (BoolAnd us)) (sym store) (IsConsistent-anywhere s us fits plain (BoolAnd us) (all_hold s (subst (λ (v : Trail). All (IsTrueNow v) us) store (made is))));
  waiting = λ _ no. absurd (no trues);
}
  where
    all_hold : (v : Trail) → All (IsTrueNow v) us → (xs : List ℤ) → All (Agrees v xs) us → HoldsBody (BoolAnd us) xs
    all_hold v trues xs agrees = list_all-from_AllPass (atom_holds xs) us (λ k d l. (agrees k d l).if_true (trues k d l))

-- no atom is false, and the last enforcement atom is open
pub Runs-possible : {number : ℕ} {E : Type 0} {clause : List Atom} (s : Trail) (e us : List Atom) (place : ℕ) → AreLiterals s.first us → IsPlain s us → place < length e → ((d : Atom) → IsTrueNow s (get_or e place d) → ⊥) → All (λ u. IsFalseNow s u → ⊥) us
    → Runs {E = E} number (task_of e (BoolAnd us)) s s (Ok NoConflict) clause
Runs-possible {number} s e us place fits plain l not_true none = Runs-waiting s e (BoolAnd us) (CanHold-and s us fits plain none) place l not_true
