-- The candidates that may go: found one after another, and in the order in which they go.
use Rattle.std.proofs.Common.{ℕ, ◌+◌, ◌≤◌, ◌<◌, ◌≡◌, ◌⊎◌, Bool, List, [], ◌∷◌, ◌++◌, length, get_or, map, sym, ◌∙◌, ap, subst, inl, inr, arith}
use Rattle.std.specs.List.{Contains}
use Rattle.std.proofs.lemmas.List.{get_or_default, get_or-map, length-map, map-append}
use Rattle.std.proofs.lemmas.List.Elements.{All-map, All-push, All-weaker, Contains-append_left, Contains-push}
use Rattle.std.proofs.lemmas.List.Quantifiers.{all_pairs_push}
use Rattle.std.proofs.lemmas.List.Sorted.{All-permutation, Contains-permutation}
use Rattle.cps_literal.specs.declared.atom.Atom.{Atom}
use Rattle.cps_trail.specs.Trail.{Trail}
use Rattle.cps_clauses.specs.declared.forget.Candidate.{Candidate}
use Rattle.cps_clauses.specs.Forgets.{MayGo, GoesFirst, GoInOrder}
use Rattle.cps_clauses.specs.Candidates.{IsCandidate, AreCandidates, AreSortedCandidates, GoesBefore}
use Rattle.cps_clauses.proofs.NamedClauses.{AreCandidatesTo}

pub no_candidate : Candidate
no_candidate = record { rank = 0; place = 0 }

abbrev places : List Candidate → List ℕ
places cs = map (λ c. c.place) cs

before_or : (m n : ℕ) → m < n + 1 → (m < n) ⊎ (m ≡ n)
before_or m n l = grind arith

pub candidates_none : (clauses : List (List Atom)) (dropped : List Bool) (learnt : List ℕ) (s : Trail) → AreCandidatesTo clauses dropped learnt s 0 []
candidates_none clauses dropped learnt s = record {
  sound = λ k d l. absurd (omega (arith, l));
  all = λ m l. absurd (omega (arith, l));
  rising = λ i j d l m. absurd (omega (arith, m));
  within = λ k d l. absurd (omega (arith, l));
}

-- a learnt clause that may go is one more
pub candidates_more : (clauses : List (List Atom)) (dropped : List Bool) (learnt : List ℕ) (s : Trail) (n : ℕ) (found : List Candidate) (c : Candidate) → c.place ≡ n → IsCandidate clauses dropped learnt s c → AreCandidatesTo clauses dropped learnt s n found
    → AreCandidatesTo clauses dropped learnt s (n + 1) (found ++ c ∷ [])
candidates_more clauses dropped learnt s n found c at is h = record {
  sound = All-push (IsCandidate clauses dropped learnt s) found c h.sound is;
  all = λ m l may. subst (λ (ns : List ℕ). Contains ns m) (sym (map-append (λ d. d.place) found (c ∷ []))) (elim (before_or m n l) [
    | inl before ↦ Contains-append_left (places found) (c.place ∷ []) m (h.all m before may)
    | inr last ↦ subst (λ (k : ℕ). Contains (places found ++ c.place ∷ []) k) (at ∙ sym last) (Contains-push (places found) c.place)
  ]);
  rising = all_pairs_push (λ d e. d.place < e.place) found c h.rising (λ k d l. (let b = h.within k d l in omega (arith, b, at)));
  within = All-push (λ d. d.place < n + 1) found c (All-weaker (λ d. d.place < n) (λ d. d.place < n + 1) (λ d l. omega (arith, l)) found h.within) (omega (arith, at));
}

-- one that may not go is none
pub candidates_skip : (clauses : List (List Atom)) (dropped : List Bool) (learnt : List ℕ) (s : Trail) (n : ℕ) (found : List Candidate) → (MayGo clauses dropped learnt s n → ⊥) → AreCandidatesTo clauses dropped learnt s n found → AreCandidatesTo clauses dropped learnt s (n + 1) found
candidates_skip clauses dropped learnt s n found not h = record {
  sound = h.sound;
  all = λ m l may. elim (before_or m n l) [ inl before ↦ h.all m before may | inr last ↦ absurd (not (subst (MayGo clauses dropped learnt s) last may)) ];
  rising = h.rising;
  within = All-weaker (λ d. d.place < n) (λ d. d.place < n + 1) (λ d l. omega (arith, l)) found h.within;
}

pub candidates_all : (clauses : List (List Atom)) (dropped : List Bool) (learnt : List ℕ) (s : Trail) (n : ℕ) (found : List Candidate) → length learnt ≤ n → AreCandidatesTo clauses dropped learnt s n found → AreCandidates clauses dropped learnt s found
candidates_all clauses dropped learnt s n found past h = record {
  sound = h.sound;
  all = λ m may. h.all m (let l = may.within in omega (arith, l, past)) may;
  rising = h.rising;
}

-- a place among candidates is that of one of them
place_of : (cs : List Candidate) (n : ℕ) → Contains (places cs) n → (c : Candidate) × Contains cs c × (c.place ≡ n)
place_of cs n has =
    let l : has.0 < length cs = (let e = length-map cs (λ (c : Candidate). c.place) in let b = has.1 in omega (arith, e, b)) in
    (get_or cs has.0 no_candidate, (has.0, l, get_or_default cs has.0 (get_or cs has.0 no_candidate) no_candidate l), sym (get_or-map (λ (c : Candidate). c.place) cs has.0 no_candidate n l) ∙ has.2)

place_in : (cs : List Candidate) (c : Candidate) → Contains cs c → Contains (places cs) c.place
place_in cs c has = (has.0, (let e = length-map cs (λ (d : Candidate). d.place) in let b = has.1 in omega (arith, e, b)), get_or-map (λ (d : Candidate). d.place) cs has.0 c c.place has.1 ∙ ap (λ (d : Candidate). d.place) has.2)

-- sorted candidates are the clauses that may go, in turn
pub in_turn_of : (clauses : List (List Atom)) (dropped : List Bool) (learnt : List ℕ) (s : Trail) (found sorted : List Candidate) → AreCandidates clauses dropped learnt s found → AreSortedCandidates found sorted → GoInOrder clauses dropped learnt s (map (λ c. c.place) sorted)
in_turn_of clauses dropped learnt s found sorted h order =
    let sound = All-permutation (IsCandidate clauses dropped learnt s) found sorted order.moved h.sound in
    record {
      may_go = All-map (MayGo clauses dropped learnt s) (λ c. c.place) sorted (All-weaker (IsCandidate clauses dropped learnt s) (λ c. MayGo clauses dropped learnt s c.place) (λ c is. is.may_go) sorted sound);
      all = λ n may.
          let one = place_of found n (h.all n may) in
          subst (λ (k : ℕ). Contains (places sorted) k) one.2 (place_in sorted one.0 (Contains-permutation found sorted one.0 order.moved one.1));
      in_turn = λ i j d l m.
          let e = length-map sorted (λ (c : Candidate). c.place) in
          let b : j < length sorted = omega (arith, m, e) in
          let a : i < length sorted = omega (arith, l, m, e) in
          subst (λ (x : ℕ). GoesFirst clauses learnt x (get_or (places sorted) j d)) (sym (get_or-map (λ (c : Candidate). c.place) sorted i no_candidate d a))
          (subst (λ (y : ℕ). GoesFirst clauses learnt (get_or sorted i no_candidate).place y) (sym (get_or-map (λ (c : Candidate). c.place) sorted j no_candidate d b))
          (goes (get_or sorted i no_candidate) (get_or sorted j no_candidate) (sound i no_candidate a) (sound j no_candidate b) (order.in_turn i j no_candidate l b)));
    }
  where
    goes : (c d : Candidate) → IsCandidate clauses dropped learnt s c → IsCandidate clauses dropped learnt s d → GoesBefore c d → GoesFirst clauses learnt c.place d.place
    goes c d p q first = elim first [
      | inl longer ↦ inl (omega (arith, longer, p.rank_is, q.rank_is))
      | inr older ↦ (let same = older.0 in inr (omega (arith, same, p.rank_is, q.rank_is), older.1))
    ]
