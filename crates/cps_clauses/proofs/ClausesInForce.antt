-- What is in force, seen by number: the clauses that were dropped have no atoms.
use Rattle.std.proofs.Common.{ℕ, ◌≤◌, ◌<◌, ◌≡◌, ◌⊎◌, Bool, true, false, List, [], length, refl, sym, ◌∙◌, ap, subst, inl, inr, arith}
use Rattle.std.specs.List.{All}
use Rattle.std.proofs.lemmas.List.{get_or_default}
use Rattle.cps_literal.specs.declared.atom.Atom.{Atom}
use Rattle.cps_trail.specs.Trail.{Domains, Entry, Trail, IsFalseNow, IsSoundTrail, up_to}
use Rattle.cps_trail.proofs.Marks.{up_to-all}
use Rattle.cps_clauses.specs.declared.watch.Watch.{Watch}
use Rattle.cps_clauses.specs.InForce.{is_dropped, in_force, IsNumberInForce}
use Rattle.cps_clauses.specs.Conflicts.{IsConflictInForce}
use Rattle.cps_clauses.specs.Quiet.{IsQuiet, IsQuietAfter, Fits}
use Rattle.cps_clauses.specs.Watches.{clause_of, watch_of, IsGuarded, IsWatchPair}
use Rattle.cps_clauses.specs.Bases.{Base, IsBaseInStep}
use Rattle.cps_clauses.specs.Settles.{AreGuarded, AreQuiet}
use Rattle.cps_clauses.proofs.Guards.{quiet_by_guard}
use Rattle.cps_clauses.proofs.DroppedClauses.{at_held, all_held, held_in}

some_or_none : (n : ℕ) → (1 ≤ n) ⊎ (n ≡ 0)
some_or_none n = grind arith

-- a clause that has atoms was not dropped
pub some_held : (cs : List (List Atom)) (ds : List Bool) (i : ℕ) → ((j : ℕ) → is_dropped ds j ≡ true → clause_of cs j ≡ []) → i < length cs → 1 ≤ length (clause_of cs i) → IsNumberInForce cs ds i
some_held cs ds i blank l some = record { within = l; stays = go (is_dropped ds i) refl }
  where
    go : (b : Bool) → is_dropped ds i ≡ b → is_dropped ds i ≡ false
    go true e = absurd (let none : length (clause_of cs i) ≡ 0 = ap (λ (c : List Atom). length c) (blank i e) in omega (arith, some, none))
    go false e = e

-- the clauses that have atoms are quiet where those in force are
pub quiet_by_number : (cs : List (List Atom)) (ds : List Bool) (s : Trail) (below : ℕ) → ((j : ℕ) → is_dropped ds j ≡ true → clause_of cs j ≡ []) → IsQuiet (in_force cs ds) s below → AreQuiet cs s below
quiet_by_number cs ds s below blank quiet = record {
  at = λ level i less l some. at_held (IsQuietAfter s.first (up_to level s.entries)) cs ds i (quiet.at level less) (some_held cs ds i blank l some);
}

-- and guarded where the base is in step
pub guarded_by_step : (b : Base) (first : Domains) (es : List Entry) → ((j : ℕ) → is_dropped b.dropped j ≡ true → clause_of b.clauses j ≡ []) → IsBaseInStep b first es → AreGuarded first es b.clauses b.watched.watches b.watched.settled
guarded_by_step b first es blank h level i l some = h.at level i l (some_held b.clauses b.dropped i blank (let w = h.within in omega (arith, l, w)) some)

-- a guarded clause has an atom
pub guarded_some : (first : Domains) (es : List Entry) (c : List Atom) (w : Watch) → IsGuarded first es c w → 1 ≤ length c
guarded_some first es c w g = elim (some_or_none (length c)) [
  | inl some ↦ some
  | inr none ↦
      let one = (g.each w.one (inl refl)).holds (λ d l. absurd (omega (arith, l, none))) in
      absurd (let l = one.within in omega (arith, l, none))
]

below_or : (m n : ℕ) → (m < n) ⊎ (n ≤ m)
below_or m n = grind arith

-- each clause in force has an atom, where the base was in step and no clause added since is without
pub all_some : (b : Base) (first : Domains) (es : List Entry) → IsBaseInStep b first es → ((i : ℕ) → b.watched.settled ≤ i → IsNumberInForce b.clauses b.dropped i → 1 ≤ length (clause_of b.clauses i)) → (i : ℕ) → IsNumberInForce b.clauses b.dropped i → 1 ≤ length (clause_of b.clauses i)
all_some b first es h later i held = elim (below_or i b.watched.settled) [
  | inl before ↦ guarded_some first (up_to 0 es) (clause_of b.clauses i) (watch_of b.watched.watches i) (h.at 0 i before held)
  | inr after ↦ later i after held
]

-- once all clauses with atoms are guarded, those in force are quiet now
pub quiet_now : (cs : List (List Atom)) (ds : List Bool) (ws : List Watch) (s : Trail) → IsSoundTrail s → All (Fits s.first) cs → ((i : ℕ) → i < length cs → IsWatchPair (length (clause_of cs i)) (watch_of ws i)) → AreGuarded s.first s.entries cs ws (length cs)
    → ((i : ℕ) → IsNumberInForce cs ds i → 1 ≤ length (clause_of cs i)) → All (IsQuietAfter s.first s.entries) (in_force cs ds)
quiet_now cs ds ws s sound fits pairs guarded some = all_held (IsQuietAfter s.first s.entries) cs ds (λ i held.
    quiet_by_guard s (clause_of cs i) (watch_of ws i) sound (fits i [] held.within) (pairs i held.within)
    (subst (λ (es : List Entry). IsGuarded s.first es (clause_of cs i) (watch_of ws i)) (up_to-all s.level s.entries sound.levels) (guarded s.level i held.within (some i held))))

-- a clause in force that is false is a conflict
pub conflict_held : (cs : List (List Atom)) (ds : List Bool) (s : Trail) (i : ℕ) → IsNumberInForce cs ds i → All (IsFalseNow s) (clause_of cs i) → Fits s.first (clause_of cs i) → IsConflictInForce (in_force cs ds) s (clause_of cs i)
conflict_held cs ds s i held all fits =
    let has = held_in cs ds i held in record {
      number = has.0;
      within = has.1;
      is = sym (get_or_default (in_force cs ds) has.0 [] (clause_of cs i) has.1 ∙ has.2);
      false_now = all;
      subjects = fits.subjects;
    }
