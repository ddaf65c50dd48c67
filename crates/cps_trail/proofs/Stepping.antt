-- What a step of a store's history makes of the store.
use Rattle.std.proofs.Common.{ℕ, ◌+◌, ◌≡◌, Bool, List, [], ◌∷◌, ◌++◌, length, ◌∙◌, ap}
use Rattle.cps_literal.specs.declared.atom.Atom.{Atom}
use Rattle.cps_trail.specs.Trail.{Entry, Reason, Decision, Trail}
use Rattle.cps_trail.specs.Changes.{Past}
use Rattle.cps_trail.proofs.Inferring.{mk}

abbrev entry : Atom → ℕ → Reason → Entry
entry t n r = record { atom = t; level = n; reason = r }

module _ (old new : Past) (marks : List ℕ) (refused : Bool) (s : Trail) (view : mk old.first old.entries (length marks) refused ≡ s) where
  -- a history that stays leaves the store as it was
  pub kept_after : {N : Type 0} → (N → new ≡ old) → N → mk new.first new.entries (length marks) refused ≡ s
  kept_after kept h = ap (λ (p : Past). mk p.first p.entries (length marks) refused) (kept h) ∙ view

  -- one more entry, at the present level
  pub pushed_after : {N : Type 0} (t : Atom) (n : ℕ) (r : Reason) → n ≡ length marks → (N → new ≡ record old { entries = old.entries ++ record { atom = t; level = n; reason = r } ∷ [] }) → N
      → mk new.first new.entries (length marks) refused ≡ record s { entries = s.entries ++ record { atom = t; level = s.level; reason = r } ∷ [] }
  pushed_after t n r level pushed h =
      ap (λ (p : Past). mk p.first p.entries (length marks) refused) (pushed h)
      ∙ ap (λ (l : ℕ). mk old.first (old.entries ++ entry t l r ∷ []) (length marks) refused) level
      ∙ ap (λ (x : Trail). mk x.first (x.entries ++ entry t x.level r ∷ []) x.level x.refused) view

  -- a decision, at a level of its own
  pub decided_after : (marks' : List ℕ) (t : Atom) (n : ℕ) → length marks' ≡ length marks + 1 → n ≡ length marks + 1 → new ≡ record old { entries = old.entries ++ record { atom = t; level = n; reason = Decision } ∷ [] }
      → mk new.first new.entries (length marks') refused ≡ record s { entries = s.entries ++ record { atom = t; level = s.level + 1; reason = Decision } ∷ []; level = s.level + 1 }
  decided_after marks' t n more level pushed =
      ap (λ (p : Past). mk p.first p.entries (length marks') refused) pushed
      ∙ ap (λ (l : ℕ). mk old.first (old.entries ++ entry t l Decision ∷ []) (length marks') refused) level
      ∙ ap (λ (l : ℕ). mk old.first (old.entries ++ entry t (length marks + 1) Decision ∷ []) l refused) more
      ∙ ap (λ (x : Trail). mk x.first (x.entries ++ entry t (x.level + 1) Decision ∷ []) (x.level + 1) x.refused) view
