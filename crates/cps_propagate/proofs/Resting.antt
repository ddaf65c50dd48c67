-- Entries that leave a task at rest.
use Rattle.std.proofs.Common.{ℕ, suc, ℤ, ◌≡◌, ◌≢◌, true, List, [], ◌∷◌, ◌++◌, get_or, refl, sym, ◌∙◌, ap, subst, inl, inr, ◌⊎◌, append-nil, append_assoc, arith}
use Rattle.std.specs.List.{All, Contains}
use Rattle.std.proofs.lemmas.List.Elements.{All-nil, All-cons, All-head, All-tail}
use Rattle.cps_instance.specs.declared.task.Task.{Task}
use Rattle.cps_instance.specs.Tasks.{subjects_of}
use Rattle.cps_instance.specs.Fitting.{IsFitting}
use Rattle.cps_trail.specs.Trail.{Entry, Trail, admits}
use Rattle.cps_trail.proofs.Laws.{admits-push_other, admits-append}
use Rattle.cps_propagate.specs.Now.{IsOpenTo}
use Rattle.cps_propagate.specs.Laws.{IsTaskAtRest, StaysAtRest, with_entry}
use Rattle.cps_propagate.proofs.Framing.{IsTaskAtRest-same}

-- an entry about a subject that a task does not read, or one that leaves the task at rest
abbrev pub IsHarmless : Task → Entry → Type 0
IsHarmless t e = All (λ i. e.atom.subject ≢ i) (subjects_of t) ⊎ (Contains (subjects_of t) e.atom.subject × StaysAtRest t e.atom.subject e.atom.op)

number_cases : (i j : ℕ) → (i ≡ j) ⊎ (i ≢ j)
number_cases i j = grind arith

pub here_or_not : (i : ℕ) (numbers : List ℕ) → Contains numbers i ⊎ All (λ j. i ≢ j) numbers
here_or_not i [] = inr (All-nil (λ j. i ≢ j))
here_or_not i (j ∷ js) = elim (number_cases i j) [
  | inl same ↦ inl (0, omega arith, sym same)
  | inr other ↦ elim (here_or_not i js) [
    | inl has ↦ inl (suc has.0, omega (arith, has.1), has.2)
    | inr none ↦ inr (All-cons (λ k. i ≢ k) j js other none)
  ]
]

module _ (t : Task) where
  Rest-one : (s : Trail) (e : Entry) → IsFitting s.first t → IsHarmless t e → ((i : ℕ) → Contains (subjects_of t) i → (x : ℤ) × IsOpenTo (with_entry s e) i x) → IsTaskAtRest t s → IsTaskAtRest t (with_entry s e)
  Rest-one s e fit (inl none) values rest = IsTaskAtRest-same s (with_entry s e) t (λ j i b x. sym (admits-push_other s.first s.entries e (get_or (subjects_of t) j i) x (λ same. none j i b (sym same)))) rest
  Rest-one s e fit (inr h) values rest = let v = values e.atom.subject h.0 in h.1.stays s e v.0 fit rest refl refl v.1

  -- one after the other, where each subject of the task has a value left at their end
  pub Rest-along : (s : Trail) (es : List Entry) → IsFitting s.first t → All (IsHarmless t) es → ((i : ℕ) → Contains (subjects_of t) i → (x : ℤ) × (admits s.first (s.entries ++ es) i x ≡ true))
      → IsTaskAtRest t s → IsTaskAtRest t (record s { entries = s.entries ++ es })
  Rest-along s [] fit h values rest = subst (λ (l : List Entry). IsTaskAtRest t (record s { entries = l })) (sym (append-nil s.entries)) rest
  Rest-along s (e ∷ es) fit h values rest =
      let here : (i : ℕ) → Contains (subjects_of t) i → (x : ℤ) × (admits s.first ((s.entries ++ e ∷ []) ++ es) i x ≡ true) =
      λ i has. (let v = values i has in (v.0, ap (λ (l : List Entry). admits s.first l i v.0) (append_assoc s.entries (e ∷ []) es) ∙ v.1)) in
      subst (λ (l : List Entry). IsTaskAtRest t (record s { entries = l })) (append_assoc s.entries (e ∷ []) es)
      (Rest-along (with_entry s e) es fit (All-tail (IsHarmless t) e es h) here
      (Rest-one s e fit (All-head (IsHarmless t) e es h) (λ i has. (let v = here i has in (v.0, admits-append s.first (s.entries ++ e ∷ []) es i v.0 v.1))) rest))
