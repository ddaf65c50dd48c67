-- What a search is after it dropped learnt clauses, where that was due.
use Rattle.std.proofs.Common.{ℕ, ◌+◌, ◌-◌, ◌/◌, ◌%◌, ◌≤◌, ◌<◌, ◌≡◌, Option, Some, None, List, [], ◌∷◌, ◌++◌, length, take, get_or, set, refl, sym, ◌∙◌, ap, subst, arith, length-append}
use Rattle.std.proofs.lemmas.List.{get_or_default, length-set}
use Rattle.cps_model.specs.declared.bound.Bound.{Bound}
use Rattle.cps_literal.specs.declared.atom.Atom.{Atom}
use Rattle.cps_instance.specs.declared.task.Task.{Task}
use Rattle.cps_trail.specs.declared.note.Note.TheVariants as notes
use Rattle.cps_trail.specs.Trail.{Trail, Entry, Domains, Reason, Decision, Because, Later, Explains}
use Rattle.cps_clauses.specs.declared.journal.JournalItem.{JournalItem}
use Rattle.cps_clauses.specs.declared.journal.JournalItem.TheVariants.{Learnt, Drop}
use Rattle.cps_clauses.specs.Journals.{IsHonest, AreHonest, count_standing, drops, standing_after, standing_in}
use Rattle.cps_clauses.specs.Watches.{clause_of}
use Rattle.cps_clauses.specs.Forgets.{IsNamed}
use Rattle.cps_clauses.proofs.LearntNumbers.{count_push, count_set}
use Rattle.cps_search.specs.Forgetting.{DropsWhenDueFrom, DropsWhenDue, DroppedNoneSince, stand_after, stood_after}
use Rattle.cps_search.specs.Searches.{learnt_count}
use Rattle.cps_search.specs.Giving.{ByAll, OrDecided, AreGiven}

-- drops that are due, at the end of a journal
drops_only : (learnt stood stand : ℕ) (ns : List ℕ) → 0 < learnt → learnt % 2000 ≡ 0 → stood / 2 + length ns ≤ stand → DropsWhenDueFrom learnt stood stand (drops ns)
drops_only learnt stood stand [] some interval room = tt
drops_only learnt stood stand (n ∷ ns) some interval room = (
  record { some_learnt = some; interval = interval; half_stays = omega (arith, room) },
  drops_only learnt stood (stand - 1) ns some interval (omega (arith, room)),
)

drops_after : (learnt stood stand : ℕ) (items : List JournalItem) (ns : List ℕ) → DropsWhenDueFrom learnt stood stand items → 0 < learnt + learnt_count items → (learnt + learnt_count items) % 2000 ≡ 0
    → stood_after stood stand items / 2 + length ns ≤ stand_after stand items → DropsWhenDueFrom learnt stood stand (items ++ drops ns)
drops_after learnt stood stand [] ns h some interval room = drops_only learnt stood stand ns (omega (arith, some)) (subst (λ (n : ℕ). n % 2000 ≡ 0) (plus_zero learnt) interval) room
  where
    plus_zero : (n : ℕ) → n + 0 ≡ n
    plus_zero n = omega arith
drops_after learnt stood stand (Learnt c z ∷ items) ns h some interval room =
    drops_after (learnt + 1) (stand + 1) (stand + 1) items ns h (omega (arith, some)) (subst (λ (n : ℕ). n % 2000 ≡ 0) (shift learnt (learnt_count items)) interval) room
  where
    shift : (a b : ℕ) → a + (b + 1) ≡ (a + 1) + b
    shift a b = omega arith
drops_after learnt stood stand (Drop i ∷ items) ns h some interval room = (h.0, drops_after learnt stood (stand - 1) items ns h.1 some interval room)

-- the count of an honest journal is that of the clauses that stand
stand_counted : (holds : List Atom → Bound → Type 0) (standing : List (Option (List Atom))) (items : List JournalItem) → AreHonest holds standing items → stand_after (count_standing standing) items ≡ count_standing (standing_after standing items)
stand_counted holds standing [] h = refl
stand_counted holds standing (Learnt c z ∷ items) h =
    ap (λ (n : ℕ). stand_after n items) (sym (count_push standing c)) ∙ stand_counted holds (standing ++ Some c ∷ []) items h.1
stand_counted holds standing (Drop i ∷ items) h =
    let one = count_set standing i h.0.0 h.0.1 in
    ap (λ (n : ℕ). stand_after n items) (less (count_standing (set standing i None)) (count_standing standing) one) ∙ stand_counted holds (set standing i None) items h.1
  where
    less : (m n : ℕ) → m + 1 ≡ n → n - 1 ≡ m
    less m n e = omega (arith, e)

-- what was learnt stays so, and what was dropped is above each bound
pub learnt_count-drops : (items : List JournalItem) (ns : List ℕ) → learnt_count (items ++ drops ns) ≡ learnt_count items
learnt_count-drops [] [] = refl
learnt_count-drops [] (n ∷ ns) = learnt_count-drops [] ns
learnt_count-drops (Learnt c z ∷ items) ns = ap (λ (n : ℕ). n + 1) (learnt_count-drops items ns)
learnt_count-drops (Drop i ∷ items) ns = learnt_count-drops items ns

pub learnt_count-standing : (standing : List (Option (List Atom))) (items : List JournalItem) → length (standing_after standing items) ≡ length standing + learnt_count items
learnt_count-standing standing [] = omega arith
learnt_count-standing standing (Learnt c z ∷ items) = (let e = learnt_count-standing (standing ++ Some c ∷ []) items in omega (arith, e, length-append standing (Some c ∷ [])))
learnt_count-standing standing (Drop i ∷ items) = learnt_count-standing (set standing i None) items ∙ ap (λ (n : ℕ). n + learnt_count items) (length-set standing i None)

-- an entry that a clause gave is given by the same clause, where the clauses that notes name have kept their atoms
pub given_left : (tasks : List Task) (clauses left : List (List Atom)) (s : Trail) → length left ≡ length clauses → ((i : ℕ) → IsNamed s i → clause_of left i ≡ clause_of clauses i) → AreGiven (ByAll tasks clauses) s → AreGiven (ByAll tasks left) s
given_left tasks clauses left s long same h k l = record { given = λ d. go s.first (take k s.entries) (get_or s.entries k d).atom (get_or s.entries k d).reason (λ i e. same i (record { entry = k; within = l; names = record { is = λ x. reason_at d x ∙ e } })) ((h k l).given d) }
  where
    -- the reason at a place does not depend on what a read past the end gives
    reason_at : (d x : Entry) → (get_or s.entries k x).reason ≡ (get_or s.entries k d).reason
    reason_at d x = ap (λ (e : Entry). e.reason) (get_or_default s.entries k x d l)

    go : (first : Domains) (before : List Entry) (t : Atom) (r : Reason) → ((i : ℕ) → r ≡ Later (notes.InForce i) → clause_of left i ≡ clause_of clauses i) → OrDecided (ByAll tasks clauses) first before t r → OrDecided (ByAll tasks left) first before t r
    go first before t Decision same g = tt
    go first before t (Because c) same g = absurd g
    go first before t (Later (notes.Task n a b)) same g = g
    go first before t (Later (notes.InForce n)) same g = record { within = omega (arith, g.within, long); explains = subst (λ (c : List Atom). Explains first before c t) (sym (same n refl)) g.explains }

-- a clause that is learnt comes after all that was dropped
none_since_from : (stood stand : ℕ) (items : List JournalItem) (c : List Atom) (z : Bound) → stood_after stood stand (items ++ Learnt c z ∷ []) ≡ stand_after stand (items ++ Learnt c z ∷ [])
none_since_from stood stand [] c z = refl
none_since_from stood stand (Learnt d y ∷ items) c z = none_since_from (stand + 1) (stand + 1) items c z
none_since_from stood stand (Drop i ∷ items) c z = none_since_from stood (stand - 1) items c z

pub none_since_learnt : (items : List JournalItem) (c : List Atom) (z : Bound) → DroppedNoneSince (items ++ Learnt c z ∷ [])
none_since_learnt items c z = none_since_from 0 0 items c z

-- drops that leave half of what stands, where they are due and nothing was dropped since the last clause was learnt
pub drops_due : (holds : List Atom → Bound → Type 0) (journal : List JournalItem) (ns : List ℕ) → IsHonest holds journal → DropsWhenDue journal → DroppedNoneSince journal → 0 < learnt_count journal → learnt_count journal % 2000 ≡ 0
    → count_standing (standing_in journal) / 2 + length ns ≤ count_standing (standing_in journal) → DropsWhenDue (journal ++ drops ns)
drops_due holds journal ns honest due none some interval room =
    let stand : stand_after 0 journal ≡ count_standing (standing_in journal) = stand_counted holds [] journal honest in
    drops_after 0 0 0 journal ns due (omega (arith, some)) (subst (λ (n : ℕ). n % 2000 ≡ 0) (zero_plus (learnt_count journal)) interval) (subst (λ (n : ℕ). n / 2 + length ns ≤ stand_after 0 journal) (sym (none ∙ stand)) (omega (arith, stand, room)))
  where
    zero_plus : (n : ℕ) → n ≡ 0 + n
    zero_plus n = omega arith
