-- What comes of a conflict still does where the store has more entries.
use Rattle.std.proofs.Common.{ℕ, zero, suc, ◌+◌, ◌≤◌, ◌<◌, ◌≡◌, List, [], ◌∷◌, length, take, take-take, get_or, sym, ◌∙◌, ap, subst, arith, inl, inr, ◌⊎◌}
use Rattle.std.proofs.lemmas.List.{get_or-take}
use Rattle.std.proofs.lemmas.List.Elements.{All-weaker}
use Rattle.cps_literal.specs.declared.atom.Atom.{Atom}
use Rattle.cps_trail.specs.Trail.{Domains, Trail, Entry, IsFalseAfter, IsFalseFrom}
use Rattle.cps_conflict.specs.Conflicts.{Reasons}
use Rattle.cps_conflict.specs.Behind.{RulesOut, IsBehind, IsResolvedTo, at_once, by_reason, FellBy, ComesOfConflict}

-- t is what s was after its first entries, and its reasons are reasons of s
module _ (R Q : Reasons) (s t : Trail) (first : t.first ≡ s.first) (front : t.entries ≡ take (length t.entries) s.entries) (same : (k : ℕ) (c : List Atom) → k < length t.entries → R k c → Q k c) (level : ℕ) (conflict : List Atom) where
  entry_same : (k : ℕ) (d : Entry) → k < length t.entries → get_or t.entries k d ≡ get_or s.entries k d
  entry_same k d l = ap (λ (es : List Entry). get_or es k d) front ∙ get_or-take (length t.entries) s.entries k d l

  front_same : (n : ℕ) → n ≤ length t.entries → take n t.entries ≡ take n s.entries
  front_same n l = ap (λ (es : List Entry). take n es) front ∙ take-take n (length t.entries) s.entries l

  fewer : length t.entries ≤ length s.entries
  fewer = shorter (length t.entries) s.entries (ap (λ (es : List Entry). length es) front)
    where
      order : (m n : ℕ) → (m < n) ⊎ (n ≤ m)
      order m n = grind arith

      most : (n : ℕ) (es : List Entry) → length (take n es) ≤ length es
      most zero es = omega arith
      most (suc n) [] = omega arith
      most (suc n) (e ∷ es) = (let rest = most n es in omega (arith, rest))

      shorter : (n : ℕ) (es : List Entry) → n ≡ length (take n es) → n ≤ length es
      shorter n es e = elim (order (length es) n) [
        | inl less ↦ absurd (let m : length (take n es) ≤ length es = most n es in omega (arith, less, e, m))
        | inr fits ↦ fits
      ]

  false_same : (u : Atom) (n : ℕ) → n ≤ length t.entries → IsFalseAfter t.first (take n t.entries) u → IsFalseAfter s.first (take n s.entries) u
  false_same u n l f = subst (λ (es : List Entry). IsFalseAfter s.first es u) (front_same n l) (subst (λ (ds : Domains). IsFalseAfter ds (take n t.entries) u) first f)

  false_back : (u : Atom) (n : ℕ) → n ≤ length t.entries → IsFalseAfter s.first (take n s.entries) u → IsFalseAfter t.first (take n t.entries) u
  false_back u n l f = subst (λ (ds : Domains). IsFalseAfter ds (take n t.entries) u) (sym first) (subst (λ (es : List Entry). IsFalseAfter s.first es u) (sym (front_same n l)) f)

  falls_same : (u : Atom) (n : ℕ) → IsFalseFrom t u n → IsFalseFrom s u n
  falls_same u n f = record {
    within = omega (arith, f.within, fewer);
    after = false_same u n f.within f.after;
    not_before = λ m less g. f.not_before m less (false_back u m (omega (arith, less, f.within)) g);
  }

  behind_same : (u : Atom) (k : ℕ) → IsBehind t u k → IsBehind s u k
  behind_same u k b = record {
    count = b.count;
    falls = falls_same u b.count b.falls;
    before = b.before;
    about = λ d. ap (λ (e : Entry). e.atom.subject) (sym (entry_same k d (omega (arith, b.before, b.falls.within)))) ∙ b.about d;
    alone = λ last d is out. b.alone last d is (subst (λ (e : Entry). RulesOut e.atom u) (sym (entry_same last d (omega (arith, is, b.falls.within)))) out);
  }

  within : (k : ℕ) → IsResolvedTo R t level conflict k → k < length t.entries
  within k (at_once u n has b) = omega (arith, b.before, b.falls.within)
  within k (by_reason j n reason u to at given has other b) = omega (arith, b.before, b.falls.within)

  resolved_same : (k : ℕ) → IsResolvedTo R t level conflict k → IsResolvedTo Q s level conflict k
  resolved_same k (at_once u n has b) = at_once u n has (behind_same u n b)
  resolved_same k (by_reason j n reason u to at given has other b) =
      let l = within j to in
      by_reason j n reason u (resolved_same j to) (λ d. ap (λ (e : Entry). e.level) (sym (entry_same j d l)) ∙ at d) (same j reason l given) has
      (λ d e. other d (e ∙ ap (λ (x : Entry). x.atom) (sym (entry_same j d l)))) (behind_same u n b)

  pub comes_same : (clause : List Atom) → ComesOfConflict R t level conflict clause → ComesOfConflict Q s level conflict clause
  comes_same clause h = record {
    each = All-weaker (FellBy R t level conflict) (FellBy Q s level conflict)
        (λ u f. record { place = f.place; fell = falls_same u (f.place + 1) f.fell; resolved = resolved_same f.place f.resolved }) clause h.each;
  }
