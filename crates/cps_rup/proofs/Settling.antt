-- What the checker keeps: as subjects and clauses come, as its domains are narrowed for good, and what it answers.
use Rattle.std.specs.Prelude.{◌↔◌, IsTrue, Any, Result, Ok, Err, OnOk, OnErr}
use Rattle.std.specs.List.{All}
use Rattle.std.proofs.Common.{◌≡◌, ℕ, ◌+◌, ◌<◌, List, [], ◌∷◌, ◌++◌, length, length-append, Bool, ◌⊎◌, inl, inr, refl, sym, ◌∙◌, ap, subst, arith, ℤ}
use Rattle.std.proofs.lemmas.List.Elements.{All-push, All-weaker}
use Rattle.cps_domain.specs.Window.{Window, contains, intervals, is_among}
use Rattle.cps_literal.specs.declared.atom.Atom.{Atom}
use Rattle.cps_log.specs.Subjects.{IsAtomOver, IsClauseOver}
use Rattle.cps_unit.specs.Boxes.{Box, IsEmpty, denied, AreOn, HasValues}
use Rattle.cps_unit.specs.Propagation.{IsFalseClause, LeadsToConflict}
use Rattle.cps_rup.specs.Trailed.{Trailed}
use Rattle.cps_rup.specs.Domains.{box_in}
use Rattle.cps_unit.specs.Chains.{Propagates}
use Rattle.cps_rup.specs.Chains.{IsPropagated}
use Rattle.cps_rup.specs.Checkers.{IsSettledIn}
use Rattle.cps_rup.proofs.Propagating.{not_empty_box}
use Rattle.cps_unit.proofs.Chains.{propagates_on, propagates_more, leads_after, leads_at_once, leads_below, propagates_below, above_if_same, below_if_same}
use Rattle.cps_rup.proofs.Chains.{propagates_pushed}
use Rattle.cps_rup.proofs.Assuming.{propagates_denied, implied_in, implied_out}

-- an atom over the subjects is on one of them
on_of_over : (count : ℕ) (clause : List Atom) → IsClauseOver count clause → All (λ (t : Atom). t.subject < count) clause
on_of_over count clause over = All-weaker (IsAtomOver count) (λ (t : Atom). t.subject < count) (λ t o. (let l = o.subject in omega arith)) clause over

on_next : (count : ℕ) (clauses : List (List Atom)) → AreOn count clauses → AreOn (count + 1) clauses
on_next count clauses on = λ k d l j e m. (let b = on k d l j e m in omega arith)

same_values : (d e : Window) → intervals e ≡ intervals d → (x : ℤ) → contains e x ≡ contains d x
unfolding contains
same_values d e h x = ap (λ (ps : List (ℤ × ℤ)). is_among ps x) h

pushed_both : (given : List Window) (domains : Trailed) (clauses : List (List Atom)) (d e : Window) → intervals e ≡ intervals d → IsSettledIn given domains clauses → IsSettledIn (given ++ d ∷ []) (record { first = domains.first ++ e ∷ []; now = domains.first ++ e ∷ [] }) clauses
pushed_both given domains clauses d e same before =
    let now : domains.now ≡ domains.first = before.restored in
    let count : length domains.first ≡ length given = ap (λ (ws : List Window). length ws) (sym now) ∙ before.count in
    let narrowed : Propagates clauses (box_in given) (box_in domains.first) = subst (λ (ws : List Window). Propagates clauses (box_in given) (box_in ws)) now before.narrowed in
    record {
      restored = refl;
      count = omega (arith, count, length-append domains.first (e ∷ []), length-append given (d ∷ []));
      on = subst (λ (n : ℕ). AreOn n clauses) (sym (length-append given (d ∷ []))) (on_next (length given) clauses before.on);
      narrowed = propagates_pushed clauses given domains.first d e narrowed count before.on (same_values d e same);
    }

pub settled_subject : (given given' : List Window) (domains domains' : Trailed) (clauses : List (List Atom)) (d e : Window) → given' ≡ given ++ d ∷ [] → domains' ≡ record { first = domains.first ++ e ∷ []; now = domains.first ++ e ∷ [] } → intervals e ≡ intervals d → IsSettledIn given domains clauses → IsSettledIn given' domains' clauses
settled_subject given given' domains domains' clauses d e g h same before =
    subst (λ (ws : List Window). IsSettledIn ws domains' clauses) (sym g) (subst (λ (v : Trailed). IsSettledIn (given ++ d ∷ []) v clauses) (sym h) (pushed_both given domains clauses d e same before))

pub settled_clause : (given : List Window) (domains : Trailed) (clauses clauses' : List (List Atom)) (c : List Atom) → clauses' ≡ clauses ++ c ∷ [] → IsClauseOver (length given) c → IsSettledIn given domains clauses → IsSettledIn given domains clauses'
settled_clause given domains clauses clauses' c e over before =
    subst (λ (cs : List (List Atom)). IsSettledIn given domains cs) (sym e) (record {
      restored = before.restored;
      count = before.count;
      on = All-push (λ (cl : List Atom). All (λ (t : Atom). t.subject < length given) cl) clauses c before.on (on_of_over (length given) c over);
      narrowed = propagates_more clauses c (box_in given) (box_in domains.now) before.narrowed;
    })

-- a clause more, or none where memory ran out
pub pushed_clause : {E : Type 0} (result : Result (Unit {0}) E) (given : List Window) (domains : Trailed) (clauses clauses' : List (List Atom)) (c : List Atom) → OnOk result (clauses' ≡ clauses ++ c ∷ []) → OnErr result (clauses' ≡ clauses) → IsClauseOver (length given) c → IsSettledIn given domains clauses → IsSettledIn given domains clauses'
pushed_clause (Ok u) given domains clauses clauses' c ok err over before = settled_clause given domains clauses clauses' c ok over before
pushed_clause (Err e) given domains clauses clauses' c ok err over before = subst (λ (cs : List (List Atom)). IsSettledIn given domains cs) (sym err) before

-- the same domains once more
pub settled_back : (given : List Window) (domains domains' : Trailed) (first : List Window) (clauses : List (List Atom)) → domains' ≡ record { first = first; now = first } → first ≡ domains.first → IsSettledIn given domains clauses → IsSettledIn given domains' clauses
settled_back given domains domains' first clauses e f before =
    let now : domains.now ≡ first = before.restored ∙ sym f in
    subst (λ (v : Trailed). IsSettledIn given v clauses) (sym e) (record {
      restored = refl;
      count = ap (λ (ws : List Window). length ws) (sym now) ∙ before.count;
      on = before.on;
      narrowed = subst (λ (ws : List Window). Propagates clauses (box_in given) (box_in ws)) now before.narrowed;
    })

-- domains that propagation narrowed
pub settled_on : (given : List Window) (domains mid domains' : Trailed) (clauses : List (List Atom)) → IsPropagated clauses domains mid → domains' ≡ record { first = mid.now; now = mid.now } → IsSettledIn given domains clauses → IsSettledIn given domains' clauses
settled_on given domains mid domains' clauses p e before =
    subst (λ (v : Trailed). IsSettledIn given v clauses) (sym e) (record {
      restored = refl;
      count = p.count ∙ before.count;
      on = before.on;
      narrowed = propagates_on clauses (box_in given) (box_in domains.now) (box_in mid.now) before.narrowed p.narrowed;
    })

pub settled_conflict : (given : List Window) (domains mid : Trailed) (clauses : List (List Atom)) → IsPropagated clauses domains mid → Any (IsFalseClause (box_in mid.now)) clauses → IsSettledIn given domains clauses → LeadsToConflict clauses (box_in given)
settled_conflict given domains mid clauses p f before =
    leads_after clauses (box_in given) (box_in mid.now) (propagates_on clauses (box_in given) (box_in domains.now) (box_in mid.now) before.narrowed p.narrowed) (leads_at_once clauses (box_in mid.now) f)

-- what is needed to ask the narrowed domains
pub over_settled : (given : List Window) (domains : Trailed) (clauses : List (List Atom)) (clause : List Atom) → IsSettledIn given domains clauses → IsClauseOver (length given) clause → IsClauseOver (length domains.now) clause
over_settled given domains clauses clause before over = subst (λ (n : ℕ). IsClauseOver n clause) (sym before.count) over

pub on_settled : (given : List Window) (domains : Trailed) (clauses : List (List Atom)) → IsSettledIn given domains clauses → AreOn (length domains.now) clauses
on_settled given domains clauses before = subst (λ (n : ℕ). AreOn n clauses) (sym before.count) before.on

-- whether clauses imply a clause in the one list of domains
abbrev pub IsImplied : List Window → List (List Atom) → List Atom → Type 0
IsImplied domains clauses clause = IsEmpty (length domains) (denied (box_in domains) clause) ⊎ LeadsToConflict clauses (denied (box_in domains) clause)

counted : (m n : ℕ) (clauses : List (List Atom)) (box : Box) → m ≡ n → IsEmpty m box ⊎ LeadsToConflict clauses box → IsEmpty n box ⊎ LeadsToConflict clauses box
counted m n clauses box e h = subst (λ (k : ℕ). IsEmpty k box ⊎ LeadsToConflict clauses box) e h

pub implied_by_settled : (given : List Window) (domains : Trailed) (clauses : List (List Atom)) (clause : List Atom) → IsSettledIn given domains clauses → IsImplied domains.now clauses clause → IsImplied given clauses clause
implied_by_settled given domains clauses clause before h =
    let box = denied (box_in given) clause in
    let next = denied (box_in domains.now) clause in
    let p : Propagates clauses box next = propagates_denied clauses (box_in given) (box_in domains.now) clause before.narrowed in
    implied_in (length given) clauses box next p (counted (length domains.now) (length given) clauses next before.count h)

pub implied_settled : (given : List Window) (domains : Trailed) (clauses : List (List Atom)) (clause : List Atom) (answer : Bool) → IsSettledIn given domains clauses → IsTrue answer ↔ IsImplied domains.now clauses clause → IsTrue answer ↔ IsImplied given clauses clause
implied_settled given domains clauses clause answer before h =
    let box = denied (box_in given) clause in
    let next = denied (box_in domains.now) clause in
    let p : Propagates clauses box next = propagates_denied clauses (box_in given) (box_in domains.now) clause before.narrowed in
    let count : length domains.now ≡ length given = before.count in (
      λ t. implied_in (length given) clauses box next p (counted (length domains.now) (length given) clauses next count (h.0 t)),
      λ shown. h.1 (counted (length given) (length domains.now) clauses next (sym count) (implied_out (length given) clauses box next p shown)),
    )

-- ---- domains that are the box of a clause

pub leads_in_box : (clauses : List (List Atom)) (domains mid new : Trailed) (clause : List Atom) → ((s : ℕ) (x : ℤ) → box_in mid.now s x ≡ denied (box_in domains.now) clause s x) → IsPropagated clauses mid new → LeadsToConflict clauses (box_in new.now) → LeadsToConflict clauses (denied (box_in domains.now) clause)
leads_in_box clauses domains mid new clause kept p l =
    leads_below clauses (denied (box_in domains.now) clause) (box_in mid.now) (above_if_same (box_in mid.now) (denied (box_in domains.now) clause) kept) (leads_after clauses (box_in mid.now) (box_in new.now) p.narrowed l)

no_longer_empty : (count : ℕ) (domains mid : Trailed) (clause : List Atom) → ((s : ℕ) (x : ℤ) → box_in mid.now s x ≡ denied (box_in domains.now) clause s x) → HasValues count (box_in mid.now) → IsEmpty count (denied (box_in domains.now) clause) → ⊥
no_longer_empty count domains mid clause kept values empty = not_empty_box count (box_in mid.now) (denied (box_in domains.now) clause) values (below_if_same (box_in mid.now) (denied (box_in domains.now) clause) kept) empty

leads_to_new : (clauses : List (List Atom)) (domains mid new : Trailed) (clause : List Atom) → ((s : ℕ) (x : ℤ) → box_in mid.now s x ≡ denied (box_in domains.now) clause s x) → IsPropagated clauses mid new → LeadsToConflict clauses (denied (box_in domains.now) clause) → LeadsToConflict clauses (box_in new.now)
leads_to_new clauses domains mid new clause kept p l =
    leads_below clauses (box_in new.now) (box_in mid.now) (propagates_below clauses (box_in mid.now) (box_in new.now) p.narrowed)
    (leads_below clauses (box_in mid.now) (denied (box_in domains.now) clause) (below_if_same (box_in mid.now) (denied (box_in domains.now) clause) kept) l)

pub scanned : (clauses : List (List Atom)) (domains mid new : Trailed) (clause : List Atom) (answer : Bool) → ((s : ℕ) (x : ℤ) → box_in mid.now s x ≡ denied (box_in domains.now) clause s x) → length mid.now ≡ length domains.now → HasValues (length mid.now) (box_in mid.now) → IsPropagated clauses mid new → IsTrue answer ↔ LeadsToConflict clauses (box_in new.now) → IsTrue answer ↔ IsImplied domains.now clauses clause
scanned clauses domains mid new clause answer kept count values p h = (
  λ t. inr (leads_in_box clauses domains mid new clause kept p (h.0 t)),
  λ shown. elim shown [
    | inl empty ↦ absurd (no_longer_empty (length domains.now) domains mid clause kept (subst (λ (n : ℕ). HasValues n (box_in mid.now)) count values) empty)
    | inr leads ↦ h.1 (leads_to_new clauses domains mid new clause kept p leads)
  ],
)
