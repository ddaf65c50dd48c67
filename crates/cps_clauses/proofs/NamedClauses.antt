-- Which clauses the notes of a store name, and which may go.
use Rattle.std.proofs.Common.{ℕ, ◌+◌, ◌≤◌, ◌<◌, ◌≡◌, ◌≢◌, ◌⊎◌, ◌↔◌, Bool, true, false, List, length, replicate, get_or, set, map, sym, true≢false, ◌∙◌, subst, inl, inr, arith}
use Rattle.std.specs.Prelude.{AllPairs}
use Rattle.std.specs.List.{All, Contains}
use Rattle.std.proofs.lemmas.List.{get_or-replicate, get_or-set_same, get_or-set_other, length-replicate, length-set}
use Rattle.cps_literal.specs.declared.atom.Atom.{Atom}
use Rattle.cps_trail.specs.Trail.{Trail}
use Rattle.cps_trail.specs.Notes.{NamesClause}
use Rattle.cps_clauses.specs.declared.forget.Candidate.{Candidate}
use Rattle.cps_clauses.specs.Forgets.{IsNamed, MayGo}
use Rattle.cps_clauses.specs.Candidates.{IsCandidate}
use Rattle.cps_clauses.specs.InForce.{is_dropped}
use Rattle.cps_clauses.specs.Bases.{number_at}

-- one of the first n entries names a clause
pub record IsNamedBy (s : Trail) (n number : ℕ) : Type 0 where
  pub entry : ℕ
  pub within : entry < n
  pub names : NamesClause s entry number

-- the marks so far
pub record AreNamed (s : Trail) (n count : ℕ) (named : List Bool) : Type 0 where
  pub size : length named ≡ count
  pub marks : (i : ℕ) → i < count → get_or named i false ≡ true → IsNamed s i
  pub all : (i : ℕ) → i < count → IsNamedBy s n i → get_or named i false ≡ true

-- the candidates among the first n learnt clauses
pub record AreCandidatesTo (clauses : List (List Atom)) (dropped : List Bool) (learnt : List ℕ) (s : Trail) (n : ℕ) (found : List Candidate) : Type 0 where
  pub sound : All (IsCandidate clauses dropped learnt s) found
  pub all : (m : ℕ) → m < n → MayGo clauses dropped learnt s m → Contains (map (λ c. c.place) found) m
  pub rising : AllPairs (λ c d. c.place < d.place) found
  pub within : All (λ c. c.place < n) found

mark_or : (i j : ℕ) → (i ≡ j) ⊎ (i ≢ j)
mark_or i j = grind arith

-- no mark before the first entry
pub named_first : (s : Trail) (count : ℕ) → AreNamed s 0 count (replicate count false)
named_first s count = record {
  size = length-replicate count false;
  marks = λ i l on. absurd (true≢false (sym on ∙ get_or-replicate count i false false l));
  all = λ i l by. absurd (let w = by.within in omega (arith, w));
}

-- after the last entry the marks are those of the clauses that a note names
pub named_all : (s : Trail) (n count : ℕ) (named : List Bool) → length s.entries ≤ n → AreNamed s n count named → (i : ℕ) → i < count → (get_or named i false ≡ true) ↔ IsNamed s i
named_all s n count named past h i l = (
  λ on. h.marks i l on,
  λ by. h.all i l (record { entry = by.entry; within = (let w = by.within in omega (arith, w, past)); names = by.names }),
)

-- an entry that names a clause marks it
pub named_more : (s : Trail) (n count number : ℕ) (named : List Bool) → n < length s.entries → NamesClause s n number → ((k : ℕ) → NamesClause s n k → k ≡ number) → AreNamed s n count named → AreNamed s (n + 1) count (set named number true)
named_more s n count number named here names only h = record {
  size = length-set named number true ∙ h.size;
  marks = λ i l on. elim (mark_or i number) [
    | inl e ↦ record { entry = n; within = here; names = subst (λ (k : ℕ). NamesClause s n k) (sym e) names }
    | inr ne ↦ h.marks i l (sym (get_or-set_other named number i true false ne) ∙ on)
  ];
  all = λ i l by. elim (mark_or i number) [
    | inl e ↦ subst (λ (k : ℕ). get_or (set named k true) i false ≡ true) e (get_or-set_same named i true false (omega (arith, l, h.size)))
    | inr ne ↦ get_or-set_other named number i true false ne ∙ h.all i l (record { entry = by.entry; within = earlier i by ne; names = by.names })
  ];
}
  where
    earlier : (i : ℕ) (by : IsNamedBy s (n + 1) i) → i ≢ number → by.entry < n
    earlier i by ne = elim (mark_or by.entry n) [
      | inl e ↦ absurd (ne (only i (subst (λ (k : ℕ). NamesClause s k i) e by.names)))
      | inr other ↦ (let w = by.within in omega (arith, w, other))
    ]

-- one that names none marks nothing
pub named_none : (s : Trail) (n count : ℕ) (named : List Bool) → ((k : ℕ) → NamesClause s n k → ⊥) → AreNamed s n count named → AreNamed s (n + 1) count named
named_none s n count named none h = record {
  size = h.size;
  marks = h.marks;
  all = λ i l by. h.all i l (record { entry = by.entry; within = earlier i by; names = by.names });
}
  where
    earlier : (i : ℕ) (by : IsNamedBy s (n + 1) i) → by.entry < n
    earlier i by = elim (mark_or by.entry n) [
      | inl e ↦ absurd (none i (subst (λ (k : ℕ). NamesClause s k i) e by.names))
      | inr other ↦ (let w = by.within in omega (arith, w, other))
    ]

-- a learnt clause may go where it is neither dropped nor named
module _ (clauses : List (List Atom)) (dropped named : List Bool) (learnt : List ℕ) (s : Trail) (n : ℕ) (marks : (i : ℕ) → i < length clauses → (get_or named i false ≡ true) ↔ IsNamed s i) (within : All (λ i. i < length clauses) learnt) (here : n < length learnt) where
  pub may_go : is_dropped dropped (number_at learnt n) ≡ false → get_or named (number_at learnt n) false ≡ false → MayGo clauses dropped learnt s n
  may_go stays free = record {
    within = here;
    held = record { within = within n 0 here; stays = stays };
    unnamed = λ by. true≢false (sym ((marks (number_at learnt n) (within n 0 here)).1 by) ∙ free);
  }

  pub may_not_go : (is_dropped dropped (number_at learnt n) ≡ true) ⊎ (get_or named (number_at learnt n) false ≡ true) → MayGo clauses dropped learnt s n → ⊥
  may_not_go (inl gone) may = true≢false (sym gone ∙ may.held.stays)
  may_not_go (inr on) may = may.unnamed ((marks (number_at learnt n) (within n 0 here)).0 on)
