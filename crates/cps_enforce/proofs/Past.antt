-- The conflict that names all that was narrowed of what a task reads.
use Rattle.std.specs.Prelude.{All}
use Rattle.std.proofs.Common.{ℕ, zero, suc, ◌<◌, ℤ, ◌≡◌, true, false, List, [], ◌∷◌, length, take, get_or, refl, sym, ◌∙◌, ap, subst, inl, inr, arith, true≢false, le_refl, take_all}
use Rattle.std.specs.List.{Contains}
use Rattle.std.proofs.lemmas.List.Elements.{All-nil, All-weaker, All-contains_itself}
use Rattle.cps_literal.specs.declared.atom.Atom.{Atom}
use Rattle.cps_literal.specs.Truth.{value_at, clause_holds}
use Rattle.cps_instance.specs.declared.task.Body.{Body}
use Rattle.cps_instance.specs.Tasks.{HoldsTask, subjects_of}
use Rattle.cps_instance.proofs.Agreeing.{AgreeAt, HoldsTask-agree}
use Rattle.cps_trail.specs.Trail.{Entry, Trail, admits, IsFalseNow, IsWithin, IsAdmitted, IsSoundTrail}
use Rattle.cps_propagate.specs.Conflicts.{IsConflictBy}
use Rattle.cps_propagate.proofs.Speaking.{speaks_each}
use Rattle.cps_trail.proofs.Falls.{bool_cases}
use Rattle.cps_trail.proofs.Times.{IsFalseAfter-all}
use Rattle.cps_propagate.specs.Notes.{DeniesPast}
use Rattle.cps_rule.specs.Rules.{IsImpossible}
use Rattle.cps_enforce.specs.Reasons.{task_of}
use Rattle.cps_enforce.specs.Settling.{IsTaskInForce}
use Rattle.cps_enforce.proofs.Tasks.{body_admitted}

-- a list of values, each with what is asked of it
choose : (n : ℕ) (P : ℕ → ℤ → Type 0) → ((i : ℕ) → i < n → (x : ℤ) × P i x) → (ys : List ℤ) × ((i : ℕ) → i < n → P i (value_at ys i))
choose zero P f = ([], λ i l. absurd (omega (arith, l)))
choose (suc n) P f =
    let head = f 0 (omega arith) in
    let rest = choose n (λ i x. P (suc i) x) (λ i l. f (suc i) (omega (arith, l))) in
    (head.0 ∷ rest.0, λ i l. at head.0 rest.0 head.1 rest.1 i l)
  where
    at : (x : ℤ) (ys : List ℤ) → P 0 x → ((i : ℕ) → i < n → P (suc i) (value_at ys i)) → (i : ℕ) → i < suc n → P i (value_at (x ∷ ys) i)
    at x ys p ps zero l = p
    at x ys p ps (suc i) l = ps i (omega (arith, l))

nothing_in : (u : Atom) → Contains [] u → ⊥
nothing_in u h = omega (arith, h.1)

abbrev Fills : Trail → List ℤ → ℕ → ℤ → Type 0
Fills s xs i x = (admits s.first s.entries i x ≡ true) × (admits s.first s.entries i (value_at xs i) ≡ true → value_at xs i ≡ x)

pub past_conflict : (s : Trail) (us : List Atom) (b : Body) (n : ℕ) (c : List Atom) → IsSoundTrail s → n ≡ length s.entries → DeniesPast s n (subjects_of (task_of us b)) [] c → IsTaskInForce s us b → IsImpossible b s → IsConflictBy (task_of us b) s c
past_conflict s us b n c sound whole denies force none = record {
  given = record {
    follows = record { at = λ xs w holds. elim (bool_cases (clause_holds c xs)) [ inl y ↦ y | inr f ↦ absurd (fails xs w holds f) ] };
    false_now = All-weaker (Contains c) (IsFalseNow s)
        (λ u has. elim (denies.false_then u has) [ inl old ↦ absurd (nothing_in u old) | inr f ↦ IsFalseAfter-all s.first s.entries n u f ]) c (All-contains_itself c);
    subjects = denies.known (All-nil (λ u. u.subject < length s.first));
  };
  speaks = speaks_each (subjects_of (task_of us b)) c (λ u has. elim (denies.about u has) [ inl old ↦ absurd (nothing_in u old) | inr own ↦ own ]);
}
  where
    fill : (xs : List ℤ) (i : ℕ) → i < length s.first → (x : ℤ) × Fills s xs i x
    fill xs i l = elim (bool_cases (admits s.first s.entries i (value_at xs i))) [
      | inl y ↦ (value_at xs i, (y, λ h. refl))
      | inr f ↦ (let v = sound.some_value i l in (v.0, (v.1, λ h. absurd (true≢false (sym h ∙ f)))))
    ]

    fails : (xs : List ℤ) → IsWithin s.first xs → HoldsTask (task_of us b) xs → clause_holds c xs ≡ false → ⊥
    fails xs w holds f =
        let ys = choose (length s.first) (Fills s xs) (fill xs) in
        let all : take n s.entries ≡ s.entries = ap (λ k. take k s.entries) whole ∙ take_all (length s.entries) s.entries (le_refl (length s.entries)) in
        let past : All (λ i. admits s.first s.entries i (value_at xs i) ≡ true) (subjects_of (task_of us b)) = subst (λ (es : List Entry). All (λ i. admits s.first es i (value_at xs i) ≡ true) (subjects_of (task_of us b))) all (denies.past xs w f) in
        let agree : All (AgreeAt xs ys.0) (subjects_of (task_of us b)) = λ j i l. (ys.1 (get_or (subjects_of (task_of us b)) j i) (force.fits.subjects j i l)).1 (past j i l) in
        let adm : IsAdmitted s.first s.entries ys.0 = λ i l. (ys.1 i l).0 in
        none.at ys.0 adm (body_admitted s us b ys.0 force adm (HoldsTask-agree xs ys.0 (task_of us b) agree holds))
