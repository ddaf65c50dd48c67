-- What a core-guided worker keeps, and why it decided, where it decided an assumption.
use Rattle.std.proofs.Common.{◌≡◌, ◌⊎◌, ℕ, ◌<◌, false, List, Option, ap, inl, inr, refl, subst, sym}
use Rattle.cps_literal.specs.declared.atom.Atom.{Atom}
use Rattle.cps_trail.specs.Trail.{Trail}
use Rattle.cps_branch.specs.Choice.{IsUndecided}
use Rattle.cps_branch.specs.Scope.{AreSameUpTo, Scope}
use Rattle.cps_port.specs.declared.part.Part.{Part}
use Rattle.cps_search.specs.Assumptions.{IsAssumedNext, NoneIsOpen}
use Rattle.cps_search.specs.Moves.{moved, decided}
use Rattle.cps_search.specs.Searches.{Search, IsSoundSearch}
use Rattle.cps_search.proofs.WorkerInvariants.{decided_onward}
use Rattle.cps_reform.specs.declared.held.Held.{Held}
use Rattle.cps_reform.specs.Forms.{term_at}
use Rattle.cps_reform.specs.Marks.{assumed}
use Rattle.cps_core_guided.specs.Assuming.{AreAssumed, IsFirstOpenTerm, IsSomeAssumption, NoTermFails}
use Rattle.cps_core_guided.specs.Reforming.{CoreSearch, most_sums}
use Rattle.cps_core_guided.specs.CoreTurns.{DecidesFrom, DecidesOf, IsCoreWorking, of_a_term, of_the_model}
use Rattle.cps_core_guided.proofs.CoreInvariants.{works-decided}

-- what was decided is undecided before, and chosen so
pub decides-from : (chooses : Trail → Option Atom → Type 0) (s : CoreSearch) (t : Search) (a : Atom) → IsUndecided s.search.store a → DecidesOf chooses s s.search.store a
    → t ≡ moved s.search (decided s.search.store a) s.search.rested → (part : Part) → DecidesFrom chooses s (record s { search = t }) part part
decides-from chooses s t a undecided chosen is part = record {
  atom = a;
  undecided = undecided;
  chosen = chosen;
  is = ap (λ (x : Search). record s { search = x }) is;
  part = refl;
}

-- the first assumption of the model that is undecided
pub decides-assumed : (chooses : Trail → Option Atom → Type 0) (s : CoreSearch) (t : Search) (a : Atom) → (s.sums < most_sums → NoTermFails s.search.store s.form.terms) → IsAssumedNext s.search.instance.model.assumptions s.search.store a
    → t ≡ moved s.search (decided s.search.store a) s.search.rested → (part : Part) → DecidesFrom chooses s (record s { search = t }) part part
decides-assumed chooses s t a none_fails next =
    decides-from chooses s t a (subst (λ (u : Atom). IsUndecided s.search.store u) (sym next.is) next.is_open.left_open) (of_the_model none_fails next)

-- the first of a term that is undecided
pub decides-term : (chooses : Trail → Option Atom → Type 0) (s : CoreSearch) (t : Search) (a : Atom) (place : ℕ) → NoneIsOpen s.search.instance.model.assumptions s.search.store → s.sums < most_sums → NoTermFails s.search.store s.form.terms
    → IsFirstOpenTerm s.search.store s.form.terms place → a ≡ assumed (term_at s.form.terms place) → t ≡ moved s.search (decided s.search.store a) s.search.rested → (part : Part) → DecidesFrom chooses s (record s { search = t }) part part
decides-term chooses s t a place none_open few none_fails open_now is =
    decides-from chooses s t a (subst (λ (u : Atom). IsUndecided s.search.store u) (sym is) open_now.left_open) (of_a_term none_open few none_fails place open_now is)

module _ (s : CoreSearch) (t : Search) (a : Atom) (scope : Scope) (agrees : Trail → ℕ → Type 0) (kept : ℕ) (w : IsCoreWorking s scope (agrees s.search.store) kept) (running : s.ended ≡ false) (on : AreSameUpTo scope.subjects kept s.search.store t.store → agrees s.search.store kept → agrees t.store kept) where
  -- it works on where what it decided is an assumption
  works-on : (s.sums < most_sums → IsSomeAssumption s.search.instance.model.assumptions s.form.terms a ⊎ AreAssumed s.search.store.first s.search.store.entries s.form.terms)
      → t ≡ moved s.search (decided s.search.store a) s.search.rested → IsSoundSearch t → IsCoreWorking (record s { search = t }) scope (agrees t.store) kept
  works-on assumption moves sound =
      works-decided s t a scope scope (agrees s.search.store) (agrees t.store) kept kept w sound moves running assumption refl w.within
      (on (subst (λ (x : Trail). AreSameUpTo scope.subjects kept s.search.store x) (sym (ap (λ (x : Search). x.store) moves)) (decided_onward scope.subjects kept s.search.store a w.within)) w.agreed)

  pub works-assumed : IsAssumedNext s.search.instance.model.assumptions s.search.store a → t ≡ moved s.search (decided s.search.store a) s.search.rested → IsSoundSearch t → IsCoreWorking (record s { search = t }) scope (agrees t.store) kept
  works-assumed next = works-on (λ few. inl (inl (record { number = next.number; within = next.is_open.within; is = next.is })))

  pub works-term : (place : ℕ) → IsFirstOpenTerm s.search.store s.form.terms place → a ≡ assumed (term_at s.form.terms place) → t ≡ moved s.search (decided s.search.store a) s.search.rested → IsSoundSearch t → IsCoreWorking (record s { search = t }) scope (agrees t.store) kept
  works-term place open_now is = works-on (λ few. inl (inr (record { place = place; within = open_now.within; weighs = open_now.weighs; is = is })))

-- what is read of a store and of terms is so of them
pub read-both : (P : Trail → List Held → Type 0) (x y : Trail) (ts us : List Held) → x ≡ y → ts ≡ us → P x ts → P y us
read-both P x y ts us store terms h = subst (λ (z : Trail). P z us) store (subst (λ (vs : List Held). P x vs) terms h)
