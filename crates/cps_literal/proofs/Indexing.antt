-- How a table finds and adds an atom.
use Rattle.std.proofs.Common.{ℕ, ◌<◌, ◌≡◌, Bool, true, false, cond, inl, inr, ◌⊎◌, List, [], ◌∷◌, ◌++◌, length, get_or, Some, None, Option, refl, sym, ◌∙◌, ap, subst, arith}
use Rattle.std.specs.Prelude.{slice_get}
use Rattle.std.specs.HashMap.{HashMap, get}
use Rattle.std.specs.Bool.{Decides}
use Rattle.std.proofs.lemmas.Bool.{cases_lt}
use Rattle.std.proofs.lemmas.Option.{slice_get_within, get_or_from_slice_get, slice_get-get_or}
use Rattle.std.proofs.Math.ListN.{get_or-append}
use Rattle.std.proofs.lemmas.List.{length-append}
use Rattle.cps_literal.specs.declared.atom.Atom.{Atom}
use Rattle.cps_literal.specs.Index.{same_atom}
use Rattle.cps_literal.specs.Table.{Numbers}

-- the map and the list agree
pub record Agree {S : Type 0} (atoms : List Atom) (m : HashMap Atom ℕ S) : Type 0 where
  pub number : (k : ℕ) (d : Atom) → k < length atoms → get same_atom m (get_or atoms k d) ≡ Some k
  pub listed : (t : Atom) (k : ℕ) → get same_atom m t ≡ Some k → slice_get atoms k ≡ Some t

some_same : (a b : ℕ) → (let x : Option ℕ = Some a in x) ≡ Some b → a ≡ b
some_same a b e = cc

none_some : {C : Type 0} (o : Option ℕ) (k : ℕ) → o ≡ None → o ≡ Some k → C
none_some o k e f = absurd (let g : (let x : Option ℕ = None in x) ≡ Some k = sym e ∙ f in cc)

-- a listed atom has one place alone
place_of : {S : Type 0} (atoms : List Atom) (m : HashMap Atom ℕ S) (t : Atom) (k : ℕ) → Agree atoms m → slice_get atoms k ≡ Some t → get same_atom m t ≡ Some k
place_of atoms m t k h e =
    subst (λ u. get same_atom m u ≡ Some k) (get_or_from_slice_get atoms k t t e) (h.number k t (slice_get_within atoms k t e))

pub found : {S : Type 0} (atoms : List Atom) (m : HashMap Atom ℕ S) (t : Atom) (n : ℕ) → Agree atoms m → get same_atom m t ≡ Some n → Numbers atoms atoms t n
found atoms m t n h e = record {
  stands = h.listed t n e;
  first = λ k l g. absurd (let same = some_same k n (sym (place_of atoms m t k h g) ∙ e) in omega (arith, same, l));
  table = inl refl;
}

-- an atom is in the list where the map has it, and not where the map lacks it
not_some : (o : Option ℕ) → ((k : ℕ) → o ≡ Some k → ⊥) → o ≡ None
not_some None h = refl
not_some (Some k) h = absurd (h k refl)

pub absent : {S : Type 0} (atoms : List Atom) (m : HashMap Atom ℕ S) (t : Atom) → Agree atoms m → ((k : ℕ) → slice_get atoms k ≡ Some t → ⊥) → get same_atom m t ≡ None
absent atoms m t h new = not_some (get same_atom m t) (λ k e. new k (h.listed t k e))

pub unlisted : {S : Type 0} (atoms : List Atom) (m : HashMap Atom ℕ S) (t : Atom) (k : ℕ) → Agree atoms m → get same_atom m t ≡ None → slice_get atoms k ≡ Some t → ⊥
unlisted atoms m t k h n e = none_some (get same_atom m t) k n (place_of atoms m t k h e)

append_get : (atoms : List Atom) (t d : Atom) → get_or (atoms ++ (t ∷ [])) (length atoms) d ≡ t
append_get [] t d = refl
append_get (u ∷ atoms) t d = append_get atoms t d

front_get : (atoms : List Atom) (t u : Atom) (k : ℕ) → slice_get atoms k ≡ Some u → slice_get (atoms ++ (t ∷ [])) k ≡ Some u
front_get atoms t u k e =
    let l = slice_get_within atoms k u e in
    let a = length-append atoms (t ∷ []) in
    slice_get-get_or (atoms ++ (t ∷ [])) k u (omega (arith, l, a)) ∙ ap (λ v. Some v) (get_or-append atoms (t ∷ []) u k l ∙ get_or_from_slice_get atoms k u u e)

last_get : (atoms : List Atom) (t : Atom) → slice_get (atoms ++ (t ∷ [])) (length atoms) ≡ Some t
last_get atoms t =
    let a = length-append atoms (t ∷ []) in
    slice_get-get_or (atoms ++ (t ∷ [])) (length atoms) t (omega (arith, a)) ∙ ap (λ v. Some v) (append_get atoms t t)

-- a new atom, with the next number
pub record IsAdded {S : Type 0} (m n : HashMap Atom ℕ S) (t : Atom) (k : ℕ) : Type 0 where
  pub updates : (q : Atom) → get same_atom n q ≡ cond (same_atom t q) (Some k) (get same_atom m q)
  pub new : get same_atom m t ≡ None

either : (b : Bool) → (b ≡ true) ⊎ (b ≡ false)
either true = inl refl
either false = inr refl

pub added_agree : {S : Type 0} (atoms : List Atom) (m n : HashMap Atom ℕ S) (t : Atom) → ((u w : Atom) → Decides (same_atom u w) (u ≡ w)) → Agree atoms m → IsAdded m n t (length atoms) → Agree (atoms ++ (t ∷ [])) n
added_agree atoms m n t decides h a = record {
  number = λ k d l. elim (cases_lt k (length atoms)) [
    | inl b ↦ (
        let e = get_or-append atoms (t ∷ []) d k b in
        let old = h.number k d b in
        subst (λ u. get same_atom n u ≡ Some k) (sym e) (a.updates (get_or atoms k d) ∙ elim (either (same_atom t (get_or atoms k d))) [
          | inl y ↦ none_some (get same_atom m t) k a.new (ap (λ u. get same_atom m u) ((decides t (get_or atoms k d)).0 y) ∙ old)
          | inr y ↦ ap (λ b'. cond b' (Some (length atoms)) (get same_atom m (get_or atoms k d))) y ∙ old
        ]))
    | inr b ↦ (
        let len = length-append atoms (t ∷ []) in
        let same : k ≡ length atoms = omega (arith, b, l, len) in
        let e = ap (λ j. get_or (atoms ++ (t ∷ [])) j d) same ∙ append_get atoms t d in
        subst (λ u. get same_atom n u ≡ Some k) (sym e) (a.updates t ∙ ap (λ b'. cond b' (Some (length atoms)) (get same_atom m t)) ((decides t t).1 refl) ∙ ap (λ j. Some j) (sym same)))
  ];
  listed = λ q k e. elim (either (same_atom t q)) [
    | inl y ↦ (
        let f = some_same (length atoms) k (sym (a.updates q ∙ ap (λ b'. cond b' (Some (length atoms)) (get same_atom m q)) y) ∙ e) in
        ap (λ j. slice_get (atoms ++ (t ∷ [])) j) (sym f) ∙ last_get atoms t ∙ ap (λ u. Some u) ((decides t q).0 y))
    | inr y ↦ front_get atoms t q k (h.listed q k (sym (a.updates q ∙ ap (λ b'. cond b' (Some (length atoms)) (get same_atom m q)) y) ∙ e))
  ];
}

pub added : {S : Type 0} (atoms new : List Atom) (m : HashMap Atom ℕ S) (t : Atom) (k : ℕ) → k ≡ length atoms → new ≡ atoms ++ (t ∷ []) → Agree atoms m → get same_atom m t ≡ None → Numbers atoms new t k
added atoms new m t k e f h n =
    subst (λ j. Numbers atoms new t j) (sym e) (subst (λ l. Numbers atoms l t (length atoms)) (sym f) (record {
      stands = last_get atoms t;
      first = λ j l g.
          let i = get_or_from_slice_get (atoms ++ (t ∷ [])) j t t g in
          let here = slice_get-get_or atoms j t l ∙ ap (λ u. Some u) (sym (get_or-append atoms (t ∷ []) t j l) ∙ i) in
          none_some (get same_atom m t) j n (place_of atoms m t j h here);
      table = inr (refl, refl);
    }))
