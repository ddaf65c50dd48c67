-- What the passes over a normal form do for a task.
use Rattle.std.proofs.Common.{Result, Ok, Err, ◌≡◌, ℕ, ◌<◌, ◌≤◌, ℤ, List, [], ◌∷◌, length, get_or, refl, sym, ◌∙◌, ap, subst, inl, inr, arith}
use Rattle.std.specs.Prelude.{IfOk, OnOk}
use Rattle.std.specs.List.{All}
use Rattle.std.proofs.lemmas.List.Elements.{All-map, All-append, All-contains}
use Rattle.std.proofs.lemmas.List.Sums.{list_all-from_AllPass}
use Rattle.cps_literal.specs.declared.atom.Atom.{Atom}
use Rattle.cps_literal.specs.Truth.{value_at, atom_holds}
use Rattle.cps_instance.specs.declared.task.Body.{Body}
use Rattle.cps_instance.specs.declared.task.Body.TheVariants.{BoolAnd}
use Rattle.cps_instance.specs.Tasks.{HoldsBody, HoldsTask, atom_subjects, subjects_of, subjects_of_body}
use Rattle.cps_instance.proofs.Agreeing.{All-append_left, All-append_right}
use Rattle.cps_trail.specs.Trail.{Trail, IsTrueNow, IsFalseNow, IsWithin}
use Rattle.cps_trail.specs.Adds.{Grounds, Infers}
use Rattle.cps_trail.specs.Notes.{ByTask}
use Rattle.cps_trail.proofs.Inferring.{Infers-refl, Infers-trans, same_midway, stays_true}
use Rattle.cps_propagate.specs.Conflicts.{AnswersBy, as_step}
use Rattle.cps_propagate.proofs.Speaking.{speaks_among}
use Rattle.cps_propagate.specs.declared.propagator.Answer.{Answer}
use Rattle.cps_trail.specs.declared.step.Step.{Step}
use Rattle.cps_propagate.specs.declared.propagator.Answer.TheVariants.{NoConflict, Conflict}
use Rattle.cps_propagate.specs.Now.{IsFixedNow, IsOpenTo, AreOpen}
use Rattle.cps_propagate.specs.Laws.{IsDecided}
use Rattle.cps_propagate.specs.Strength.{IsStrong}
use Rattle.cps_p_bool.specs.Denying.{IsFit, Excludes, AreLiterals, task_of}
use Rattle.cps_p_bool.specs.Seeking.{IsInForce, IsIdle}
use Rattle.cps_p_bool.specs.Taking.{CanHold, IsConsistent}
use Rattle.cps_p_bool.specs.Normal.{IsAbout, IsNormalForm}
use Rattle.cps_p_bool.specs.Rules.{IsBoolean, Runs, Propagates}
use Rattle.cps_p_bool.proofs.Results.{IfOk-map}
use Rattle.cps_p_bool.proofs.NormalBodies.{Infers-within, AnswersBy-within, within_bits, IsConsistent-normal, CanHold-normal, CanHold-sure}
use Rattle.cps_p_bool.proofs.LiteralValues.{bits}
use Rattle.cps_p_bool.proofs.KindSteps.{All-unmap, not_enforced, settled_infers, same_store, IsDecided-idle, IsDecided-off}
use Rattle.cps_p_bool.proofs.Conjunctions.{Excludes-and}
use Rattle.cps_p_bool.proofs.KindStrength.{IsStrong-consistent, IsStrong-idle}

-- where a kind's pass is all there is to do
pub Propagates-runs : {number : ℕ} {E : Type 0} {clause : List Atom} (s u : Trail) (e us : List Atom) (b : Body) (a : Result Answer E) → IsBoolean b us → AreLiterals s.first us → Runs number (task_of e b) s u a clause → Propagates number (task_of e b) s u a clause
Propagates-runs {number} {E} s u e us b a boolean fits r = record {
  infers = r.infers;
  answers = r.answers;
  decided = r.decided;
  strong = λ is same.
      let store = same_store (ByTask number (HoldsTask (task_of e b))) s u (settled_infers {E = E} s e b u a is r.infers) same in
      let can : CanHold s b = subst (λ (v : Trail). CanHold v b) store (r.possible is same) in
      let h : All (IsTrueNow s) e → IsConsistent s b = subst (λ (v : Trail). All (IsTrueNow v) e → IsConsistent v b) store (λ on. r.consistent is same on) in
      subst (λ (v : Trail). IsStrong (task_of e b) v) (sym store) (IsStrong-consistent s e b us boolean fits can h);
}

-- the enforcement atoms stay true
pub still_in_force : (C : Grounds) (s u : Trail) (e : List Atom) (last : ℕ) → Infers C s u → IsInForce s e last → length e ≤ last → IsInForce u e last
still_in_force C s u e last h force all = record {
  within = force.within;
  others = λ k d l ne. stays_true C s u h (get_or e k d) (force.others k d l ne);
  undecided = λ d l. absurd (omega (arith, l, all));
}

-- a task that is not in force, and whose enforcement gives nothing
pub Propagates-idle : {number : ℕ} {E : Type 0} {clause : List Atom} (s : Trail) (e : List Atom) (b : Body) → IsIdle s e → Propagates {E = E} number (task_of e b) s s (Ok NoConflict) clause
Propagates-idle {number} s e b idle = record {
  infers = Infers-refl (ByTask number (HoldsTask (task_of e b))) s;
  answers = tt;
  decided = λ _. IsDecided-idle s e b idle.place idle.within idle.not_true;
  strong = λ _ _. IsStrong-idle s e b idle;
}

-- what holds of the subjects of a list holds of those of atoms about it
about : (P : ℕ → Type 0) (us vs : List Atom) → All (IsAbout us) vs → All P (atom_subjects us) → All P (atom_subjects vs)
about P us vs h k = All-map P (λ (u : Atom). u.subject) vs (λ j d l. All-contains P (atom_subjects us) (get_or vs j d).subject k (h j d l).subject)

module _ (s : Trail) (e us : List Atom) (b : Body) (sure : List Atom) (rest : Body) (live : List Atom) (n : IsNormalForm us b sure rest live) (fits : AreLiterals s.first us) where
  -- in the first domains the task gives what its parts give
  pub gives_rest : (xs : List ℤ) → IsWithin s.first xs → HoldsTask (task_of e b) xs → HoldsTask (task_of e rest) xs
  gives_rest xs within holds on = ((n.holds xs (within_bits s.first us fits xs within)).0 (holds on)).1

  pub gives_sure : (xs : List ℤ) → IsWithin s.first xs → HoldsTask (task_of e b) xs → HoldsTask (task_of e (BoolAnd sure)) xs
  gives_sure xs within holds on = ((n.holds xs (within_bits s.first us fits xs within)).0 (holds on)).0

  pub Infers-rest : {number : ℕ} (m u : Trail) → m.first ≡ s.first → Infers (ByTask number (HoldsTask (task_of e rest))) m u → Infers (ByTask number (HoldsTask (task_of e b))) m u
  Infers-rest {number} m u same h = Infers-within number (HoldsTask (task_of e rest)) (HoldsTask (task_of e b)) m u (λ xs within. gives_rest xs (subst (λ f. IsWithin f xs) same within)) h

  pub Infers-sure : {number : ℕ} (u : Trail) → Infers (ByTask number (HoldsTask (task_of e (BoolAnd sure)))) s u → Infers (ByTask number (HoldsTask (task_of e b))) s u
  Infers-sure {number} u h = Infers-within number (HoldsTask (task_of e (BoolAnd sure))) (HoldsTask (task_of e b)) s u gives_sure h

  pub AnswersBy-rest : (u : Trail) → u.first ≡ s.first → (step : Step) → AnswersBy (task_of e rest) u step → AnswersBy (task_of e b) u step
  AnswersBy-rest u same step h = AnswersBy-within e rest b u (λ xs within. gives_rest xs (subst (λ f. IsWithin f xs) same within)) n.rest_read step h

  pub AnswersBy-sure : (u : Trail) → u.first ≡ s.first → (step : Step) → AnswersBy (task_of e (BoolAnd sure)) u step → AnswersBy (task_of e b) u step
  AnswersBy-sure u same step h = AnswersBy-within e (BoolAnd sure) b u (λ xs within. gives_sure xs (subst (λ f. IsWithin f xs) same within)) n.sure_read step h

  -- a sure atom is false, so the body can not hold
  pub Excludes-sure : (i : ℕ) (z : Atom) → i < length sure → IsFalseNow s (get_or sure i z) → Excludes s b (get_or sure i z ∷ [])
  Excludes-sure i z l f = record {
    at = λ xs within holds agrees. (Excludes-and s sure i z l f).at xs within ((n.holds xs (within_bits s.first us fits xs within)).0 holds).0 agrees;
    used_read = speaks_among (atom_subjects sure) (subjects_of_body b) (get_or sure i z ∷ []) n.sure_read (Excludes-and s sure i z l f).used_read;
  }

  -- a conflict among the sure atoms
  pub Propagates-conflict : {number : ℕ} {E : Type 0} (u : Trail) (clause : List Atom) → Infers (ByTask number (HoldsTask (task_of e (BoolAnd sure)))) s u → AnswersBy (task_of e (BoolAnd sure)) u (as_step Conflict clause) → Propagates {E = E} number (task_of e b) s u (Ok Conflict) clause
  Propagates-conflict {number} {E} u clause i r = record {
    infers = Infers-sure u i;
    answers = AnswersBy-sure u i.first (as_step Conflict clause) r;
    decided = λ is. absurd (not_settled is);
    strong = λ is. absurd (not_settled is);
  }
    where
      not_settled : ◌≡◌ {A = Result Answer E} (Ok Conflict) (Ok NoConflict) → ⊥
      not_settled is = cc

  -- of a store in which the sure atoms hold and the rest is decided
  module _ (u : Trail) (same : u.first ≡ s.first) (boolean : IsBoolean b us) (reads : subjects_of_body rest ≡ atom_subjects live) where
    of_us : (P : ℕ → Type 0) → All P (subjects_of (task_of e b)) → All P (atom_subjects us)
    of_us P h = subst (λ (is : List ℕ). All P is) boolean.reads (All-append_right P (atom_subjects e) (subjects_of_body b) h)

    of_rest : (P : ℕ → Type 0) → All P (subjects_of (task_of e b)) → All P (subjects_of (task_of e rest))
    of_rest P h = All-append P (atom_subjects e) (subjects_of_body rest) (All-append_left P (atom_subjects e) (subjects_of_body b) h)
        (subst (λ (is : List ℕ). All P is) (sym reads) (about P us live n.live_about (of_us P h)))

    pub IsDecided-normal : ((xs : List ℤ) → AreOpen u xs (atom_subjects sure) → HoldsBody (BoolAnd sure) xs) → IsDecided (task_of e rest) u → IsDecided (task_of e b) u
    IsDecided-normal hold d = record {
      holds = λ fixed xs opens on.
          let open_us = of_us (λ i. IsOpenTo u i (value_at xs i)) opens in
          (n.holds xs (λ k z l. bits u (get_or us k z) (subst (λ f. IsFit f (get_or us k z)) (sym same) (fits k z l)) (value_at xs (get_or us k z).subject) (All-unmap (λ i. IsOpenTo u i (value_at xs i)) us open_us k z l))).1 (
            hold xs (about (λ i. IsOpenTo u i (value_at xs i)) us sure n.sure_about open_us),
            d.holds (of_rest (IsFixedNow u) fixed) xs (of_rest (λ i. IsOpenTo u i (value_at xs i)) opens) on,
          );
    }

  module _ {E : Type 0} (boolean : IsBoolean b us) (reads : subjects_of_body rest ≡ atom_subjects live) (sure_fits : AreLiterals s.first sure) (live_fits : AreLiterals s.first live) where
    -- The sure atoms are true, and the rest is at rest.
    pub Propagates-quiet : {number : ℕ} {clause : List Atom} → All (IsTrueNow s) sure → Runs {E = E} number (task_of e rest) s s (Ok NoConflict) clause → Propagates {E = E} number (task_of e b) s s (Ok NoConflict) clause
    Propagates-quiet {number} trues r = record {
      infers = Infers-refl (ByTask number (HoldsTask (task_of e b))) s;
      answers = tt;
      decided = λ _. IsDecided-normal s refl boolean reads
          (λ xs opens. list_all-from_AllPass (atom_holds xs) sure (λ k z l. trues k z l (value_at xs (get_or sure k z).subject) (All-unmap (λ j. IsOpenTo s j (value_at xs j)) sure opens k z l))) (r.decided refl);
      strong = λ _ _. IsStrong-consistent s e b us boolean fits (CanHold-sure s us b sure rest live n fits sure_fits trues (r.possible refl refl)) (λ on. IsConsistent-normal s us b sure rest live n fits sure_fits trues (r.consistent refl refl on));
    }

    -- All enforcement atoms are true: the sure atoms were made true, and then the rest ran.
    module _ {number : ℕ} {clause : List Atom} (m u : Trail) (a : Result Answer E) (trues : All (IsTrueNow s) e) (f : Infers (ByTask number (HoldsTask (task_of e (BoolAnd sure)))) s m) (made : All (IsTrueNow m) sure) (r : Runs number (task_of e rest) m u a clause) where
      on_answers : (q : Result Answer E) → OnOk q (Infers (ByTask number (HoldsTask (task_of e rest))) m u) → IfOk q (λ k. AnswersBy (task_of e rest) u (as_step k clause)) → IfOk q (λ k. AnswersBy (task_of e b) u (as_step k clause))
      on_answers (Ok k) i h = AnswersBy-rest u (i.first ∙ f.first) (as_step k clause) h
      on_answers (Err x) i h = tt

      on_decided : Infers (ByTask number (HoldsTask (task_of e rest))) m u → IsDecided (task_of e rest) u → IsDecided (task_of e b) u
      on_decided i d = IsDecided-normal u (i.first ∙ f.first) boolean reads
          (λ xs opens. list_all-from_AllPass (atom_holds xs) sure (λ k z l.
          stays_true (ByTask number (HoldsTask (task_of e rest))) m u i (get_or sure k z) (made k z l) (value_at xs (get_or sure k z).subject) (All-unmap (λ j. IsOpenTo u j (value_at xs j)) sure opens k z l))) d

      on_strong : u ≡ s → m ≡ s → CanHold u rest → (All (IsTrueNow u) e → IsConsistent u rest) → IsStrong (task_of e b) u
      on_strong us_same m_same can h =
          let sure_true : All (IsTrueNow s) sure = subst (λ (v : Trail). All (IsTrueNow v) sure) m_same made in
          let can_s : CanHold s rest = subst (λ (v : Trail). CanHold v rest) us_same can in
          let h_s : All (IsTrueNow s) e → IsConsistent s rest = subst (λ (v : Trail). All (IsTrueNow v) e → IsConsistent v rest) us_same h in
          subst (λ (v : Trail). IsStrong (task_of e b) v) (sym us_same)
          (IsStrong-consistent s e b us boolean fits (CanHold-sure s us b sure rest live n fits sure_fits sure_true can_s) (λ on. IsConsistent-normal s us b sure rest live n fits sure_fits sure_true (h_s on)))

      pub Propagates-on : Propagates number (task_of e b) s u a clause
      Propagates-on = record {
        infers = IfOk-map a {P = λ _. Infers (ByTask number (HoldsTask (task_of e rest))) m u} {Q = λ _. Infers (ByTask number (HoldsTask (task_of e b))) s u}
            (λ _ h. Infers-trans (ByTask number (HoldsTask (task_of e b))) s m u (Infers-sure m f) (Infers-rest m u f.first h)) r.infers;
        answers = on_answers a r.infers r.answers;
        decided = λ is. on_decided (settled_infers {E = E} m e rest u a is r.infers) (r.decided is);
        strong = λ is same.
            let i = settled_infers {E = E} m e rest u a is r.infers in
            let both = same_midway (ByTask number (HoldsTask (task_of e (BoolAnd sure)))) (ByTask number (HoldsTask (task_of e rest))) s m u f i same in
            let entries = ap (λ (v : Trail). v.entries) both.1 in
            on_strong (both.1 ∙ both.0) both.0 (r.possible is entries) (λ on. r.consistent is entries on);
      }

    -- All enforcement atoms but one are true, which is open, and no sure atom is false: the rest ran.
    module _ {number : ℕ} {clause : List Atom} (u : Trail) (a : Result Answer E) (place : ℕ) (l : place < length e) (not_true : (d : Atom) → IsTrueNow s (get_or e place d) → ⊥) (none : All (λ v. IsFalseNow s v → ⊥) sure) (r : Runs number (task_of e rest) s u a clause) where
      off : All (IsTrueNow s) e → ⊥
      off = not_enforced s e place l not_true

      waiting_answers : (q : Result Answer E) → OnOk q (Infers (ByTask number (HoldsTask (task_of e rest))) s u) → IfOk q (λ k. AnswersBy (task_of e rest) u (as_step k clause)) → IfOk q (λ k. AnswersBy (task_of e b) u (as_step k clause))
      waiting_answers (Ok k) i h = AnswersBy-rest u i.first (as_step k clause) h
      waiting_answers (Err x) i h = tt

      pub Propagates-waiting : Propagates number (task_of e b) s u a clause
      Propagates-waiting = record {
        infers = IfOk-map a {P = λ _. Infers (ByTask number (HoldsTask (task_of e rest))) s u} {Q = λ _. Infers (ByTask number (HoldsTask (task_of e b))) s u} (λ _ h. Infers-rest s u refl h) r.infers;
        answers = waiting_answers a r.infers r.answers;
        decided = λ is. elim (r.waiting is off) [
          | inl same ↦ subst (λ (v : Trail). IsDecided (task_of e b) v) (sym same) (IsDecided-idle s e b place l not_true)
          | inr gone ↦ IsDecided-off u e b gone.0 gone.1
        ];
        strong = λ is same.
            let store = same_store (ByTask number (HoldsTask (task_of e rest))) s u (settled_infers {E = E} s e rest u a is r.infers) same in
            let can : CanHold s rest = subst (λ (v : Trail). CanHold v rest) store (r.possible is same) in
            subst (λ (v : Trail). IsStrong (task_of e b) v) (sym store)
            (IsStrong-consistent s e b us boolean fits (CanHold-normal s us b sure rest live n fits sure_fits reads live_fits none can) (λ on. absurd (off on)));
      }
