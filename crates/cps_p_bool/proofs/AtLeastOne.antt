-- Some atom of a list is to be true.
use Rattle.std.proofs.Common.{Ok, ◌≡◌, ◌≢◌, ℕ, ◌<◌, ℤ, false, List, length, get_or, refl, sym, subst, inl, inr, arith}
use Rattle.std.specs.List.{list_any, All}
use Rattle.std.proofs.lemmas.List.{get_or_default}
use Rattle.std.proofs.lemmas.List.Folds.{list_any_none}
use Rattle.cps_literal.specs.declared.atom.Atom.{Atom}
use Rattle.cps_literal.specs.Truth.{atom_holds}
use Rattle.cps_instance.specs.declared.task.Body.{Body}
use Rattle.cps_instance.specs.declared.task.Body.TheVariants.{BoolOr, ExactlyOne}
use Rattle.cps_instance.specs.Tasks.{HoldsBody, HoldsTask}
use Rattle.cps_trail.specs.Trail.{Trail, IsTrueNow, IsFalseNow}
use Rattle.cps_trail.specs.Adds.{Infers}
use Rattle.cps_trail.specs.Notes.{ByTask}
use Rattle.cps_trail.proofs.Inferring.{stays_false}
use Rattle.cps_propagate.specs.declared.propagator.Answer.TheVariants.{NoConflict}
use Rattle.cps_propagate.specs.Strength.{OthersAre}
use Rattle.cps_propagate.specs.Laws.{IsDecided}
use Rattle.cps_p_bool.specs.Seeking.{IsInForce}
use Rattle.cps_p_bool.specs.Denying.{Agrees, GivesAtom, Excludes, AreLiterals, task_of}
use Rattle.cps_p_bool.specs.Taking.{CanHold, IsConsistent, IsPlain}
use Rattle.cps_p_bool.specs.Rules.{Runs, IsAlone, NeedsOne}
use Rattle.cps_p_bool.proofs.AtomCounts.{count_one, any_of_count, any_at}
use Rattle.cps_p_bool.proofs.AtomPlaces.{same_or_not}
use Rattle.cps_p_bool.proofs.ReadSubjects.{atoms_read, list_read}
use Rattle.cps_p_bool.proofs.ReasonConsequences.{by_bool, by_not_true, not_both, enforced}
use Rattle.cps_p_bool.proofs.Consistent.{IsConsistent-anywhere, CanHold-anywhere, IsConsistent-or, IsConsistent-live, CanHold-or, CanHold-live}
use Rattle.cps_p_bool.proofs.KindSteps.{pinned_true, pinned_false, IsDecided-pinned, IsDecided-alone, Runs-settled, some_atom}

module _ (s : Trail) (b : Body) (us : List Atom) (n : NeedsOne s b us) where
  pub Excludes-false : All (IsFalseNow s) us → Excludes s b us
  Excludes-false h = record {
    at = λ xs within holds agrees.
        not_both (list_any (atom_holds xs) us) (n.some xs holds) (list_any_none (atom_holds xs) us (λ k d l. (agrees k d l).if_false (h k d l)));
    used_read = list_read b us n.reads;
  }

  module _ (p : ℕ) (l : p < length us) (others : OthersAre (IsFalseNow s) us p) where
    pub Gives-live : (e : List Atom) (last : ℕ) (z : Atom) → IsInForce s e last → (last < length e → ⊥) → GivesAtom s (task_of e b) us (get_or us p z)
    Gives-live e last z force all = record {
      at = λ xs within holds agrees-e agrees. by_bool (atom_holds xs (get_or us p z)) (λ no.
          not_both (list_any (atom_holds xs) us) (n.some xs (holds (enforced s e last xs force agrees-e (λ d below. absurd (all below)))))
          (list_any_none (atom_holds xs) us (λ k d m. elim (same_or_not k p) [
            | inl same ↦ subst (λ (i : ℕ). atom_holds xs (get_or us i d) ≡ false) (sym same) (subst (λ (u : Atom). atom_holds xs u ≡ false) (get_or_default us p z d l) no)
            | inr ne ↦ (agrees k d m).if_false (others k d m ne)
          ])));
      used_read = atoms_read e b us n.reads;
      target_read = atoms_read e b us n.reads p z l;
    }

    alone : (u : Trail) (z : Atom) → ((k : ℕ) (d : Atom) → k < length us → k ≢ p → IsFalseNow u (get_or us k d)) → IsTrueNow u (get_or us p z) → IsAlone u us p
    alone u z others-u h = record { chosen = λ d. subst (λ (v : Atom). IsTrueNow u v) (get_or_default us p z d l) h; others = others-u }

    pub IsDecided-live : {number : ℕ} (e : List Atom) (z : Atom) (u : Trail) → Infers (ByTask number (HoldsTask (task_of e b))) s u → IsTrueNow u (get_or us p z) → IsDecided (task_of e b) u
    IsDecided-live {number} e z u h t = IsDecided-alone u e b us p n.reads n.one l (alone u z (λ k d m ne. stays_false (ByTask number (HoldsTask (task_of e b))) s u h (get_or us k d) (others k d m ne)) t)

    pub holds-live : (z : Atom) → AreLiterals s.first us → IsPlain s us → IsTrueNow s (get_or us p z) → CanHold s b × IsConsistent s b
    holds-live z fits plain t =
        let h = alone s z others t in
        let holds : (xs : List ℤ) → All (Agrees s xs) us → HoldsBody b xs = λ xs agrees.
        n.one xs (count_one (atom_holds xs) us p l (λ d. (agrees p d l).if_true (h.chosen d)) (λ k d m ne. (agrees k d m).if_false (h.others k d m ne))) in
        (CanHold-anywhere s us fits plain b holds, IsConsistent-anywhere s us fits plain b holds)

  pub Runs-two : {number : ℕ} {E : Type 0} {clause : List Atom} (e : List Atom) (i j : ℕ) → i < j → j < length us → ((d : Atom) → IsFalseNow s (get_or us i d) → ⊥) → ((d : Atom) → IsFalseNow s (get_or us j d) → ⊥) → Runs {E = E} number (task_of e b) s s (Ok NoConflict) clause
  Runs-two {number} e i j a l f g =
      Runs-settled s e b (IsDecided-pinned s e b us n.reads (λ xs pins. n.fixed xs pins i (omega (arith, a, l)) f)) (n.live i (omega (arith, a, l)) f) (λ _. n.two i j a l f g)

pub NeedsOne-or : (s : Trail) (us : List Atom) → AreLiterals s.first us → IsPlain s us → NeedsOne s (BoolOr us) us
NeedsOne-or s us fits plain = record {
  reads = refl;
  some = λ xs h. h;
  one = λ xs e. any_of_count (atom_holds xs) us e;
  live = λ c l f. CanHold-or s us fits plain c l f;
  two = λ i j a l f g. IsConsistent-or s us fits plain i j a l f g;
  fixed = λ xs pins i l f. any_at (atom_holds xs) us i l (λ d. by_bool (atom_holds xs (get_or us i d)) (λ no. f d (pinned_false s xs (get_or us i d) (pins i d l) no)));
}

pub NeedsOne-exactly : (s : Trail) (us : List Atom) → AreLiterals s.first us → IsPlain s us → All (λ u. IsTrueNow s u → ⊥) us → NeedsOne s (ExactlyOne us) us
NeedsOne-exactly s us fits plain none = record {
  reads = refl;
  some = λ xs h. any_of_count (atom_holds xs) us h;
  one = λ xs e. e;
  live = λ c l f. CanHold-live s us fits plain none c l f;
  two = λ i j a l f g. IsConsistent-live s us fits plain none i j a l f g;
  fixed = λ xs pins i l f.
      let z = some_atom us i l in
      absurd (f z (pinned_false s xs (get_or us i z) (pins i z l) (by_not_true (atom_holds xs (get_or us i z)) (λ yes. none i z l (pinned_true s xs (get_or us i z) (pins i z l) yes)))));
}
