-- Which journals are honest: the empty one, and an honest one with one more clause that says something new.
use Rattle.std.proofs.Common.{ℕ, ◌+◌, ◌-◌, ◌≤◌, ◌≡◌, pos, Some, None, List, [], ◌∷◌, ◌++◌, length, refl, ap, arith}
use Rattle.cps_model.specs.declared.bound.Bound.{Bound}
use Rattle.cps_literal.specs.declared.atom.Atom.{Atom}
use Rattle.cps_literal.specs.declared.atom.Op.TheVariants.{Le}
use Rattle.cps_instance.specs.Problem.{Problem}
use Rattle.cps_clauses.specs.declared.journal.JournalItem.{JournalItem}
use Rattle.cps_clauses.specs.declared.journal.JournalItem.TheVariants.{Learnt, Drop}
use Rattle.cps_trail.specs.Trail.{Domains}
use Rattle.cps_clauses.specs.Journals.{AreInForce}
use Rattle.cps_clauses.proofs.Honesty.{IsHonest-learnt}
use Rattle.cps_search.specs.Forgetting.{DropsWhenDueFrom}
use Rattle.cps_search.specs.Searches.{IsHonestJournal, IsNewClause, IsWorthy, learnt_count}

drops_pushed : (learnt stood stand : ℕ) (items : List JournalItem) (clause : List Atom) (below : Bound) → DropsWhenDueFrom learnt stood stand items → DropsWhenDueFrom learnt stood stand (items ++ Learnt clause below ∷ [])
drops_pushed learnt stood stand [] clause below h = tt
drops_pushed learnt stood stand (Learnt c z ∷ items) clause below h = drops_pushed (learnt + 1) (stand + 1) (stand + 1) items clause below h
drops_pushed learnt stood stand (Drop i ∷ items) clause below h = (h.0, drops_pushed learnt stood (stand - 1) items clause below h.1)

-- with a clause that says something new
pub honest_learnt : (p : Problem) (clauses : List (List Atom)) (journal : List JournalItem) (clause : List Atom) (below : Bound) → AreInForce clauses journal → IsNewClause p clauses clause below → IsHonestJournal p journal
    → IsHonestJournal p (journal ++ Learnt clause below ∷ [])
honest_learnt p clauses journal clause below in_force new h = record {
  news = IsHonest-learnt (IsWorthy p) clauses journal clause below in_force new.worthy new.new h.news;
  drops = drops_pushed 0 0 0 journal clause below h.drops;
}

pub honest_none : (p : Problem) → IsHonestJournal p []
honest_none p = record { news = tt; drops = tt }

-- without subjects no clause is worth a line
pub none_without_subjects : (p : Problem) (journal : List JournalItem) → p.domains ≡ [] → IsHonestJournal p journal → journal ≡ []
none_without_subjects p [] none h = refl
none_without_subjects p (Learnt clause below ∷ items) none h =
    let worthy = h.news.0.meets in
    let first = worthy.atoms 0 (record { subject = 0; op = Le; value = pos 0 }) (omega (arith, worthy.some_atom)) in
    absurd (omega (arith, first.subject, ap (λ (ds : Domains). length ds) none))
none_without_subjects p (Drop i ∷ items) none h = let stands : None ≡ Some h.news.0.0 = h.news.0.1 in absurd (cc stands)

-- how many clauses were learnt before one was dropped
pub learnt_before : (learnt stood stand : ℕ) (earlier later : List JournalItem) (i : ℕ) → DropsWhenDueFrom learnt stood stand (earlier ++ Drop i ∷ later) → 2000 ≤ learnt + learnt_count earlier
learnt_before learnt stood stand [] later i h = omega (arith, h.0.some_learnt, h.0.interval)
learnt_before learnt stood stand (Learnt c z ∷ earlier) later i h = omega (arith, learnt_before (learnt + 1) (stand + 1) (stand + 1) earlier later i h)
learnt_before learnt stood stand (Drop j ∷ earlier) later i h = learnt_before learnt stood (stand - 1) earlier later i h.1
