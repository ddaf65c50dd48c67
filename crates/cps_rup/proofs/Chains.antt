-- Chains of forced atoms with more subjects, and in the box of a clause.
use Rattle.std.specs.Prelude.{All, Any, ◌&&◌, ◌||◌, ◌==◌, not}
use Rattle.std.proofs.Common.{◌≡◌, ℕ, zero, suc, ◌-◌, ◌<◌, ◌≤◌, List, [], ◌∷◌, ◌++◌, length, get_or, Bool, false, ◌⊎◌, inl, inr, refl, sym, ◌∙◌, ap, arith, ℤ}
use Rattle.std.proofs.lemmas.Bool.Decides.{nat_tests}
use Rattle.std.proofs.lemmas.List.{get_or_append_left}
use Rattle.std.proofs.lemmas.Bool.{cases_lt}
use Rattle.std.proofs.Math.Seq.{get_or-append_right}
use Rattle.cps_domain.specs.Window.{Window, contains}
use Rattle.cps_literal.specs.declared.atom.Atom.{Atom}
use Rattle.cps_literal.specs.Truth.{meets}
use Rattle.cps_unit.specs.Boxes.{Box, with_atom, IsFalseIn, AreOn}
use Rattle.cps_unit.specs.Propagation.{IsUnit}
use Rattle.cps_rup.specs.Domains.{no_values, box_in}
use Rattle.cps_unit.specs.Chains.{with_atoms, AreForced, Propagates}
use Rattle.cps_rup.proofs.ClauseStates.{and_always}

-- ---- boxes that are the same on the first subjects

false_to : (count : ℕ) (box other : Box) (t : Atom) → ((s : ℕ) (x : ℤ) → s < count → box s x ≡ other s x) → t.subject < count → IsFalseIn box t → IsFalseIn other t
false_to count box other t e l f x h = f x (e t.subject x l ∙ h)

other_to : (count : ℕ) (box other : Box) (t u : Atom) → ((s : ℕ) (x : ℤ) → s < count → box s x ≡ other s x) → u.subject < count → (u ≡ t) ⊎ IsFalseIn box u → (u ≡ t) ⊎ IsFalseIn other u
other_to count box other t u e l (inl same) = inl same
other_to count box other t u e l (inr f) = inr (false_to count box other u e l f)

unit_to : (count : ℕ) (clauses : List (List Atom)) (box other : Box) (t : Atom) → ((s : ℕ) (x : ℤ) → s < count → box s x ≡ other s x) → AreOn count clauses → Any (IsUnit box t) clauses → Any (IsUnit other t) clauses
unit_to count clauses box other t e on u = (
  u.0,
  u.1,
  u.2,
  u.3,
  record {
    listed = u.4.listed;
    others = λ k d l. other_to count box other t (get_or u.1 k d) e (let here : All (λ (v : Atom). v.subject < count) u.1 = rw u.3 at (on u.0 u.1 u.2) in here k d l) (u.4.others k d l);
  },
)

atom_on : (count : ℕ) (clauses : List (List Atom)) (box : Box) (t : Atom) → AreOn count clauses → Any (IsUnit box t) clauses → t.subject < count
atom_on count clauses box t on u =
    let here : All (λ (v : Atom). v.subject < count) u.1 = rw u.3 at (on u.0 u.1 u.2) in
    let listed = u.4.listed in
    rw listed.2 at (here listed.0 t listed.1)

to_with_atom : (count : ℕ) (box other : Box) (t : Atom) → ((s : ℕ) (x : ℤ) → s < count → box s x ≡ other s x) → (s : ℕ) (x : ℤ) → s < count → with_atom box t s x ≡ with_atom other t s x
to_with_atom count box other t e s x l = ap (λ (b : Bool). b && (not (t.subject == s) || meets t.op t.value x)) (e s x l)

pub forced_to : (count : ℕ) (clauses : List (List Atom)) (box other : Box) (ts : List Atom) → ((s : ℕ) (x : ℤ) → s < count → box s x ≡ other s x) → AreOn count clauses → AreForced clauses box ts → AreForced clauses other ts
forced_to count clauses box other [] e on f = tt
forced_to count clauses box other (t ∷ ts) e on f = (unit_to count clauses box other t e on f.0, forced_to count clauses (with_atom box t) (with_atom other t) ts (to_with_atom count box other t e) on f.1)

pub to_with_atoms : (count : ℕ) (box other : Box) (ts : List Atom) → ((s : ℕ) (x : ℤ) → s < count → box s x ≡ other s x) → (s : ℕ) (x : ℤ) → s < count → with_atoms box ts s x ≡ with_atoms other ts s x
to_with_atoms count box other [] e s x l = e s x l
to_with_atoms count box other (t ∷ ts) e s x l = to_with_atoms count (with_atom box t) (with_atom other t) ts (to_with_atom count box other t e) s x l

apart_from : (box : Box) (t : Atom) (count s : ℕ) (x : ℤ) → t.subject < count → count ≤ s → with_atom box t s x ≡ box s x
apart_from box t count s x l m =
    let apart : (t.subject == s) ≡ false = grind (arith, nat_tests) in
    rw apart (and_always (box s x))

pub beyond : (count : ℕ) (clauses : List (List Atom)) (box : Box) (ts : List Atom) → AreOn count clauses → AreForced clauses box ts → (s : ℕ) (x : ℤ) → count ≤ s → with_atoms box ts s x ≡ box s x
beyond count clauses box [] on f s x m = refl
beyond count clauses box (t ∷ ts) on f s x m = beyond count clauses (with_atom box t) ts on f.1 s x m ∙ apart_from box t count s x (atom_on count clauses box t on f.0) m

-- ---- a subject more

same_end : (d e : Window) (k : ℕ) (x : ℤ) → contains e x ≡ contains d x → contains (get_or (e ∷ []) k no_values) x ≡ contains (get_or (d ∷ []) k no_values) x
same_end d e zero x h = h
same_end d e (suc k) x h = refl

at_end : (ds : List Window) (d : Window) (s : ℕ) (x : ℤ) → length ds ≤ s → box_in (ds ++ d ∷ []) s x ≡ contains (get_or (d ∷ []) (s - length ds) no_values) x
at_end ds d s x l = ap (λ (w : Window). contains w x) (get_or-append_right ds (d ∷ []) s no_values l)

before_end : (ds : List Window) (d : Window) (s : ℕ) (x : ℤ) → s < length ds → box_in ds s x ≡ box_in (ds ++ d ∷ []) s x
before_end ds d s x l = ap (λ (w : Window). contains w x) (sym (get_or_append_left ds (d ∷ []) no_values s l))

pushed_same : (clauses : List (List Atom)) (given root : List Window) (d e : Window) (p : Propagates clauses (box_in given) (box_in root)) → length root ≡ length given → AreOn (length given) clauses → ((x : ℤ) → contains e x ≡ contains d x) → (s : ℕ) (x : ℤ) → box_in (root ++ e ∷ []) s x ≡ with_atoms (box_in (given ++ d ∷ [])) p.forced s x
pushed_same clauses given root d e p count on same s x =
    elim (cases_lt s (length given)) [
      | inl below ↦
          sym (before_end root e s x (let c = count in omega arith)) ∙ p.same s x
          ∙ to_with_atoms (length given) (box_in given) (box_in (given ++ d ∷ [])) p.forced (before_end given d) s x below
      | inr from ↦
          at_end root e s x (let c = count in omega arith)
          ∙ ap (λ (n : ℕ). contains (get_or (e ∷ []) (s - n) no_values) x) count
          ∙ same_end d e (s - length given) x (same x)
          ∙ sym (at_end given d s x from)
          ∙ sym (beyond (length given) clauses (box_in (given ++ d ∷ [])) p.forced on (forced_to (length given) clauses (box_in given) (box_in (given ++ d ∷ [])) p.forced (before_end given d) on p.are_forced) s x from)
    ]

pub propagates_pushed : (clauses : List (List Atom)) (given root : List Window) (d e : Window) → Propagates clauses (box_in given) (box_in root) → length root ≡ length given → AreOn (length given) clauses → ((x : ℤ) → contains e x ≡ contains d x) → Propagates clauses (box_in (given ++ d ∷ [])) (box_in (root ++ e ∷ []))
propagates_pushed clauses given root d e p count on same = record {
  forced = p.forced;
  are_forced = forced_to (length given) clauses (box_in given) (box_in (given ++ d ∷ [])) p.forced (before_end given d) on p.are_forced;
  same = pushed_same clauses given root d e p count on same;
}
