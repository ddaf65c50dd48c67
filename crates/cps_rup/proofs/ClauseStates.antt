-- How far a look at one clause has come, and what a whole look says.
use Rattle.std.specs.Prelude.{All, Contains, Option, Some, None, ◌&&◌, ◌||◌, ◌==◌, not}
use Rattle.std.proofs.Common.{◌≡◌, ℕ, ◌+◌, ◌<◌, ◌≤◌, List, length, get_or, set, take, ◌≢◌, Bool, true, false, ◌⊎◌, inl, inr, refl, sym, ◌∙◌, subst, below_more, arith, ℤ}
use Rattle.std.proofs.lemmas.Bool.Decides.{nat_tests}
use Rattle.std.proofs.lemmas.List.{get_or_read, take_all, get_or-set_same, get_or-set_other}
use Rattle.std.proofs.lemmas.List.Elements.{All-more, All-weaker, Contains-get_or}
use Rattle.cps_domain.specs.Window.{Window, contains}
use Rattle.cps_domain.specs.declared.cut.Cut.{Cut}
use Rattle.cps_domain.specs.declared.cut.Cut.TheVariants as cuts
use Rattle.cps_domain.specs.Cuts.{CutsTo}
use Rattle.cps_literal.specs.declared.atom.Atom.{Atom}
use Rattle.cps_literal.specs.declared.atom.Op.{Op}
use Rattle.cps_literal.specs.Truth.{meets, IsTrueOn, IsFalseOn}
use Rattle.cps_unit.specs.Boxes.{Box, with_atom, IsFalseIn, IsTrueIn}
use Rattle.cps_unit.specs.Propagation.{IsFalseClause}
use Rattle.cps_rup.specs.Domains.{box_in, no_values, IsOpenIn, ForcesOpen, IsIdle}

abbrev pub IsThisOrFalse : Box → Atom → Atom → Type 0
IsThisOrFalse box t u = (u ≡ t) ⊎ IsFalseIn box u

-- an atom of the clause is open, and those so far are that one or false
pub record HasOpen (box : Box) (clause : List Atom) (i : ℕ) (t : Atom) : Type 0 where
  pub is_open : IsOpenIn box t
  pub listed : Contains clause t
  pub others : All (IsThisOrFalse box t) (take i clause)

abbrev pub Seen : Box → List Atom → ℕ → Option Atom → Type 0
Seen box clause i None = All (IsFalseIn box) (take i clause)
Seen box clause i (Some t) = HasOpen box clause i t

pub seen_false : (box : Box) (clause : List Atom) (i : ℕ) (d : Atom) (o : Option Atom) → i < length clause → Seen box clause i o → IsFalseIn box (get_or clause i d) → Seen box clause (i + 1) o
seen_false box clause i d None l s f = All-more (IsFalseIn box) clause i d l s f
seen_false box clause i d (Some t) l s f = record { is_open = s.is_open; listed = s.listed; others = All-more (IsThisOrFalse box t) clause i d l s.others (inr f) }

pub seen_open : (box : Box) (clause : List Atom) (i : ℕ) (d : Atom) → i < length clause → Seen box clause i None → IsOpenIn box (get_or clause i d) → Seen box clause (i + 1) (Some (get_or clause i d))
seen_open box clause i d l s o = record {
  is_open = o;
  listed = Contains-get_or clause i d l;
  others = All-more (IsThisOrFalse box (get_or clause i d)) clause i d l (All-weaker (IsFalseIn box) (IsThisOrFalse box (get_or clause i d)) (λ u f. inr f) (take i clause) s) (inl refl);
}

pub seen_same : (box : Box) (clause : List Atom) (i : ℕ) (d t : Atom) → i < length clause → Seen box clause i (Some t) → get_or clause i d ≡ t → Seen box clause (i + 1) (Some t)
seen_same box clause i d t l s e = record { is_open = s.is_open; listed = s.listed; others = All-more (IsThisOrFalse box t) clause i d l s.others (inl e) }

-- ---- what a domain says of an atom is what the box says

pub false_in_left : (domains : List Window) (s : ℕ) (d : Window) (op : Op) (v : ℤ) → s < length domains → d ≡ get_or domains s d → IsFalseOn (contains d) op v → IsFalseOn (box_in domains s) op v
false_in_left domains s d op v l e f = subst (λ (w : Window). IsFalseOn (contains w) op v) (get_or_read domains s d l e no_values) f

pub true_in_left : (domains : List Window) (s : ℕ) (d : Window) (op : Op) (v : ℤ) → s < length domains → d ≡ get_or domains s d → IsTrueOn (contains d) op v → IsTrueOn (box_in domains s) op v
true_in_left domains s d op v l e f = subst (λ (w : Window). IsTrueOn (contains w) op v) (get_or_read domains s d l e no_values) f

pub back_false : (domains : List Window) (s : ℕ) (d : Window) (op : Op) (v : ℤ) → s < length domains → d ≡ get_or domains s d → IsFalseOn (box_in domains s) op v → IsFalseOn (contains d) op v
back_false domains s d op v l e f = subst (λ (w : Window). IsFalseOn (contains w) op v) (sym (get_or_read domains s d l e no_values)) f

pub back_true : (domains : List Window) (s : ℕ) (d : Window) (op : Op) (v : ℤ) → s < length domains → d ≡ get_or domains s d → IsTrueOn (box_in domains s) op v → IsTrueOn (contains d) op v
back_true domains s d op v l e f = subst (λ (w : Window). IsTrueOn (contains w) op v) (sym (get_or_read domains s d l e no_values)) f

-- ---- what a whole look says

pub unit_of : (box : Box) (clause : List Atom) (n : ℕ) (t : Atom) → length clause ≤ n → HasOpen box clause n t → ForcesOpen box clause t
unit_of box clause n t l h = record {
  unit = record { listed = h.listed; others = subst (All (IsThisOrFalse box t)) (take_all n clause l) h.others };
  is_open = h.is_open;
}

pub false_of : (box : Box) (clause : List Atom) (n : ℕ) → length clause ≤ n → All (IsFalseIn box) (take n clause) → IsFalseClause box clause
false_of box clause n l h = subst (All (IsFalseIn box)) (take_all n clause l) h

-- what a clause forces that has an atom that is not false
forced_one : (box : Box) (t u : Atom) → (t ≡ u) ⊎ IsFalseIn box t → (IsFalseIn box t → ⊥) → t ≡ u
forced_one box t u (inl same) f = same
forced_one box t u (inr g) f = absurd (f g)

-- a clause with an atom that is true, and not false, is idle
pub idle_by_true : (box : Box) (clause : List Atom) (i : ℕ) (d : Atom) → i < length clause → IsTrueIn box (get_or clause i d) → (IsFalseIn box (get_or clause i d) → ⊥) → IsIdle box clause
idle_by_true box clause i d l h f = record {
  not_false = λ all. f (all i d l);
  forced = λ u unit. subst (λ (w : Atom). IsTrueIn box w) (forced_one box (get_or clause i d) u (unit.others i d l) f) h;
}

-- a clause with two different atoms that are not false is idle
pub idle_by_two : (box : Box) (clause : List Atom) (i : ℕ) (d t : Atom) → i < length clause → Contains clause t → (IsFalseIn box t → ⊥) → (IsFalseIn box (get_or clause i d) → ⊥) → (t ≡ get_or clause i d → ⊥) → IsIdle box clause
idle_by_two box clause i d t l listed f g apart = record {
  not_false = λ all. g (all i d l);
  forced = λ u unit. absurd (apart (forced_one box t u (subst (λ (w : Atom). (w ≡ u) ⊎ IsFalseIn box w) listed.2 (unit.others listed.0 t listed.1)) f ∙ sym (forced_one box (get_or clause i d) u (unit.others i d l) g)));
}

-- one clause more that is idle
pub idle_more : (box : Box) (clauses : List (List Atom)) (done : List Bool) (i : ℕ) (c : List Atom) → i < length clauses → c ≡ get_or clauses i c → IsIdle box c → ((k : ℕ) (d : List Atom) → k < i → get_or done k true ≡ false → IsIdle box (get_or clauses k d)) → (k : ℕ) (d : List Atom) → k < i + 1 → get_or done k true ≡ false → IsIdle box (get_or clauses k d)
idle_more box clauses done i c l e idle before k d m f =
    below_more (λ (j : ℕ). (d : List Atom) → get_or done j true ≡ false → IsIdle box (get_or clauses j d)) i
    (λ j below d g. before j d below g)
    (λ d g. subst (λ (x : List Atom). IsIdle box x) (get_or_read clauses i c l e d) idle)
    k m d f

-- ---- a domain that was narrowed by an open atom

pub and_always : (b : Bool) → (b && true) ≡ b
and_always true = refl
and_always false = refl

narrowed_to : (box : Box) (t : Atom) (old new : Window) (cut : Cut) → IsOpenIn box t → (IsFalseOn (contains old) t.op t.value → IsFalseIn box t) → (IsTrueOn (contains old) t.op t.value → IsTrueIn box t) → CutsTo (meets t.op t.value) old new cut → (x : ℤ) → contains new x ≡ (contains old x && meets t.op t.value x)
narrowed_to box t old new cuts.Narrowed o f g h x = h.narrowed refl x
narrowed_to box t old new cuts.NoChange o f g h x = absurd (o.not_true (g (h.unchanged.0 refl)))
narrowed_to box t old new cuts.Wiped o f g h x = absurd (o.not_false (f (h.wiped.0 refl)))

kept_at : (domains : List Window) (t : Atom) (old new : Window) (s : ℕ) (x : ℤ) (same : Bool) → (t.subject == s) ≡ same → t.subject < length domains → old ≡ get_or domains t.subject old → contains new x ≡ (contains old x && meets t.op t.value x) → box_in (set domains t.subject new) s x ≡ (box_in domains s x && (not same || meets t.op t.value x))
kept_at domains t old new s x true e l is n =
    let here : t.subject ≡ s = grind (arith, nat_tests) in
    let put : get_or (set domains t.subject new) t.subject no_values ≡ new = get_or-set_same domains t.subject new no_values l in
    let read : old ≡ get_or domains t.subject no_values = get_or_read domains t.subject old l is no_values in
    let at_subject : box_in (set domains t.subject new) t.subject x ≡ (box_in domains t.subject x && meets t.op t.value x) = rw (put, ← read) n in
    subst (λ (r : ℕ). box_in (set domains t.subject new) r x ≡ (box_in domains r x && meets t.op t.value x)) here at_subject
kept_at domains t old new s x false e l is n =
    let apart : s ≢ t.subject = grind (arith, nat_tests) in
    rw (get_or-set_other domains t.subject s new no_values apart) (sym (and_always (box_in domains s x)))

pub force_kept : (domains : List Window) (t : Atom) (old new : Window) (cut : Cut) → t.subject < length domains → old ≡ get_or domains t.subject old → IsOpenIn (box_in domains) t → CutsTo (meets t.op t.value) old new cut → (s : ℕ) (x : ℤ) → box_in (set domains t.subject new) s x ≡ with_atom (box_in domains) t s x
force_kept domains t old new cut l is o h s x =
    kept_at domains t old new s x (t.subject == s) refl l is
    (narrowed_to (box_in domains) t old new cut o (false_in_left domains t.subject old t.op t.value l is) (true_in_left domains t.subject old t.op t.value l is) h x)
