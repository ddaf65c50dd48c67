-- How facts rule the rows of a table out.
use Rattle.std.proofs.Common.{◌≡◌, ℕ, ℤ, pos, ◌+◌, ◌*◌, ◌<◌, ◌≤◌, true, true≢false, List, [], ◌∷◌, length, get_or, refl, sym, ap, subst, ◌∙◌, Option, Some, arith, inl, inr}
use Rattle.std.proofs.lemmas.Int.{ints}
use Rattle.std.proofs.lemmas.Bool.{cases_lt}
use Rattle.std.specs.List.{Contains}
use Rattle.std.proofs.lemmas.List.Elements.{All-contains_itself, Contains-get_or}
use Rattle.cps_domain.specs.Window.{equals}
use Rattle.cps_literal.specs.declared.atom.Atom.{Atom}
use Rattle.cps_literal.specs.declared.atom.Op.TheVariants.{Eq}
use Rattle.cps_literal.specs.Truth.{value_at, atom_holds, meets}
use Rattle.cps_model.specs.Lookups.{row_at}
use Rattle.cps_instance.specs.declared.task.Body.TheVariants.{Table}
use Rattle.cps_trail.specs.Trail.{Trail}
use Rattle.cps_rule.specs.Facts.{Adds, Grows, GivesGoal}
use Rattle.cps_p_lookup.specs.Tabling.{ClosesRow, IsMetAt, IsRowBarred, IsOffBy, IsSure, AddsNeededFact, AreSure}
use Rattle.cps_p_lookup.proofs.Growing.{adds_grows, adds_holds, grows_same, grows_trans, alone, no_facts, none_speaks}
use Rattle.cps_p_lookup.proofs.Tables.{row_value, same_row, not_in}

pub off_closes : (s : Trail) (es : List ℕ) (row : List ℤ) (k : ℕ) (goal : Option Atom) (u : Atom) (old mid new : List Atom) → k < length es → IsOffBy (get_or es k 0) (get_or row k (pos 0)) u → mid ≡ old → Adds s u mid new → ClosesRow s es row goal old new
off_closes s es row k goal u old mid new l o same a = record {
  grows = grows_trans s es old mid new (grows_same s es old mid same) (adds_grows s u es mid new (subst (λ (j : ℕ). Contains es j) (sym o.subject) (Contains-get_or es k 0 l)) a);
  closed = λ xs all e deny. o.other (value_at xs (get_or es k 0)) (ap (λ j. meets u.op u.value (value_at xs j)) (sym o.subject) ∙ adds_holds s u mid new a xs all) (row_value xs es row k l e);
}

equals_is : (a b : ℤ) → equals a b ≡ true → a ≡ b
equals_is a b e = grind (arith, ints)

pub holds_off : (s : Trail) (i : ℕ) (v : ℤ) (goal : Option Atom) (u : Atom) (old : List Atom) → goal ≡ Some u → IsSure i v (Some u) old → AddsNeededFact s i v goal old old
holds_off s i v goal u old is h = record { grows = grows_same s (i ∷ []) old old refl; sure = subst (λ g. IsSure i v g old) (sym is) h }

pub holds_fact : (s : Trail) (i : ℕ) (v : ℤ) (goal : Option Atom) (u : Atom) (old new : List Atom) → u ≡ record { subject = i; op = Eq; value = v } → Adds s u old new → AddsNeededFact s i v goal old new
holds_fact s i v goal u old new is a = record {
  grows = adds_grows s u (i ∷ []) old new (alone i u.subject (ap (λ (w : Atom). w.subject) is)) a;
  sure = record { at = λ xs all deny. equals_is (value_at xs i) v (subst (λ (w : Atom). atom_holds xs w ≡ true) is (adds_holds s u old new a xs all)) };
}

pub sure_more : (s : Trail) (es : List ℕ) (row : List ℤ) (n : ℕ) (goal : Option Atom) (old new : List Atom) → ((k : ℕ) → k < n → IsSure (get_or es k 0) (get_or row k (pos 0)) goal old) → AddsNeededFact s (get_or es n 0) (get_or row n (pos 0)) goal old new
    → (k : ℕ) → k < n + 1 → IsSure (get_or es k 0) (get_or row k (pos 0)) goal new
sure_more s es row n goal old new h a k l = elim (cases_lt k n) [
  | inl before ↦ record { at = λ xs all deny. (h k before).at xs (a.grows.kept xs all) deny }
  | inr after ↦ (let is : k ≡ n = omega arith in subst (λ m. IsSure (get_or es m 0) (get_or row m (pos 0)) goal new) (sym is) a.sure)
]

pub sure_gives : (s : Trail) (es : List ℕ) (values : List ℤ) (r : ℕ) (row : List ℤ) (goal : Option Atom) (none new : List Atom) → 0 < length es → (r + 1) * length es ≤ length values → row ≡ row_at (length es) values r → length row ≡ length es → none ≡ [] → AreSure s es row goal none new
    → GivesGoal (Table es values true) s goal new
sure_gives s es values r row goal none new p within is long empty h = record {
  facts = h.grows.facts (no_facts s none empty);
  speaks = h.grows.about es (All-contains_itself es) (none_speaks es none empty);
  excludes = λ xs in' all holds deny. not_in xs es values r p holds within (same_row xs es row long (λ k l. (h.at k l).at xs all deny) ∙ is);
}

-- all columns
pub sure_all : (s : Trail) (es : List ℕ) (row : List ℤ) (n : ℕ) (goal : Option Atom) (old new : List Atom) → length es ≤ n → Grows s es old new → ((k : ℕ) → k < n → IsSure (get_or es k 0) (get_or row k (pos 0)) goal new) → AreSure s es row goal old new
sure_all s es row n goal old new past grows h = record { grows = grows; at = λ k l. h k (omega arith) }

-- the row gives the atom, or is ruled out already
pub met_closes : (s : Trail) (es : List ℕ) (row : List ℤ) (u : Atom) (us : List Atom) → IsMetAt es row u → ClosesRow s es row (Some u) us us
met_closes s es row u us m = record {
  grows = grows_same s es us us refl;
  closed = λ xs all e deny. true≢false (sym (ap (λ j. meets u.op u.value (value_at xs j)) (sym m.subject) ∙ ap (λ v. meets u.op u.value v) (row_value xs es row m.column m.within e) ∙ m.met) ∙ deny);
}

pub barred_closes : (s : Trail) (es : List ℕ) (row : List ℤ) (goal : Option Atom) (us : List Atom) → IsRowBarred es row us → ClosesRow s es row goal us us
barred_closes s es row goal us h = record { grows = grows_same s es us us refl; closed = λ xs all e deny. h.at xs all e }
