-- What the lines of a journal say, as atoms and lines are added.
use Rattle.std.proofs.Common.{ℕ, ◌≤◌, ◌≡◌, List, [], ◌∷◌, ◌++◌, length, get_or, map, refl, sym, ◌∙◌, ap, subst, arith, length-append}
use Rattle.std.specs.List.{All}
use Rattle.std.proofs.lemmas.List.{append_assoc, append-nil, get_or_push, map-append}
use Rattle.std.proofs.lemmas.List.Elements.{All-head, All-tail, All-push, All-nil, All-cons, All-append}
use Rattle.cps_model.specs.declared.bound.Bound.{Bound}
use Rattle.cps_literal.specs.declared.atom.Atom.{Atom}
use Rattle.cps_trail.proofs.Noting.{slice_grown}
use Rattle.cps_clauses.specs.declared.journal.JournalItem.{JournalItem}
use Rattle.cps_clauses.specs.declared.journal.JournalItem.TheVariants as items
use Rattle.cps_clauses.specs.declared.journal.Line.{Line}
use Rattle.cps_clauses.specs.declared.journal.Line.TheVariants as lines
use Rattle.cps_clauses.specs.declared.atom_range.AtomRange.{AtomRange}
use Rattle.cps_clauses.specs.Journals.{drops}
use Rattle.cps_clauses.specs.Lines.{item_of, drop_lines, IsJournalKept, IsLatest, IsLine}
use Rattle.cps_clauses.specs.AtomRanges.{IsAppended}

-- each of the lines lies within so many atoms
abbrev pub AreLines : ℕ → List Line → Type 0
AreLines len ls = All (IsLine len) ls

pub line_wider : (m n : ℕ) → m ≤ n → (l : Line) → IsLine m l → IsLine n l
line_wider m n le (lines.Learnt atom_range below) h = record { ordered = h.ordered; within = omega (arith, h.within, le) }
line_wider m n le (lines.Drop i) h = tt

pub lines_wider : (m n : ℕ) → m ≤ n → (ls : List Line) → AreLines m ls → AreLines n ls
lines_wider m n le ls h = λ k d l. line_wider m n le _ (h k d l)

item_grown : (atoms more : List Atom) (l : Line) → IsLine (length atoms) l → item_of (atoms ++ more) l ≡ item_of atoms l
item_grown atoms more (lines.Learnt atom_range below) h = ap (λ (c : List Atom). items.Learnt c below) (slice_grown atoms more atom_range.from atom_range.to h.within)
item_grown atoms more (lines.Drop i) h = refl

items_grown : (atoms more : List Atom) (ls : List Line) → AreLines (length atoms) ls → map (item_of (atoms ++ more)) ls ≡ map (item_of atoms) ls
items_grown atoms more [] h = refl
items_grown atoms more (l ∷ ls) h =
    ap (λ (e : JournalItem). e ∷ map (item_of (atoms ++ more)) ls) (item_grown atoms more l (All-head (IsLine (length atoms)) l ls h))
    ∙ ap (λ (es : List JournalItem). item_of atoms l ∷ es) (items_grown atoms more ls (All-tail (IsLine (length atoms)) l ls h))

-- one more clause was learnt
pub items_learnt : (old new clause : List Atom) (ls : List Line) (atom_range : AtomRange) (below : Bound) → IsAppended old new clause atom_range → AreLines (length old) ls → map (item_of new) (ls ++ lines.Learnt atom_range below ∷ []) ≡ map (item_of old) ls ++ items.Learnt clause below ∷ []
items_learnt old new clause ls atom_range below h within =
    map-append (item_of new) ls (lines.Learnt atom_range below ∷ [])
    ∙ ap (λ (c : List Atom). map (item_of new) ls ++ items.Learnt c below ∷ []) h.is
    ∙ ap (λ (ts : List Atom). map (item_of ts) ls ++ items.Learnt clause below ∷ []) h.grows
    ∙ ap (λ (es : List JournalItem). es ++ items.Learnt clause below ∷ []) (items_grown old clause ls within)

lines_learnt : (old new clause : List Atom) (ls : List Line) (atom_range : AtomRange) (below : Bound) → IsAppended old new clause atom_range → AreLines (length old) ls → AreLines (length new) (ls ++ lines.Learnt atom_range below ∷ [])
lines_learnt old new clause ls atom_range below h within =
    let grows = ap (λ (ts : List Atom). length ts) h.grows in
    All-push (IsLine (length new)) ls (lines.Learnt atom_range below) (lines_wider (length old) (length new) (omega (arith, grows, length-append old clause)) ls within) h.fits

-- learnt clauses were dropped
drop_items : (atoms : List Atom) (which : List ℕ) → map (item_of atoms) (drop_lines which) ≡ drops which
drop_items atoms [] = refl
drop_items atoms (n ∷ ns) = ap (λ (es : List JournalItem). items.Drop n ∷ es) (drop_items atoms ns)

pub items_dropped : (atoms : List Atom) (ls : List Line) (which : List ℕ) → map (item_of atoms) (ls ++ drop_lines which) ≡ map (item_of atoms) ls ++ drops which
items_dropped atoms ls which = map-append (item_of atoms) ls (drop_lines which) ∙ ap (λ (es : List JournalItem). map (item_of atoms) ls ++ es) (drop_items atoms which)

drops_within : (len : ℕ) (which : List ℕ) → AreLines len (drop_lines which)
drops_within len [] = All-nil (IsLine len)
drops_within len (n ∷ ns) = All-cons (IsLine len) (lines.Drop n) (drop_lines ns) tt (drops_within len ns)

lines_dropped : (len : ℕ) (ls : List Line) (which : List ℕ) → AreLines len ls → AreLines len (ls ++ drop_lines which)
lines_dropped len ls which h = All-append (IsLine len) ls (drop_lines which) h (drops_within len which)

-- two lists that are the same have the same last item
last_item : (xs ys : List JournalItem) (e f : JournalItem) → xs ++ e ∷ [] ≡ ys ++ f ∷ [] → e ≡ f
last_item xs ys e f is =
    let many = ap (λ (es : List JournalItem). length es) is in
    let same : length ys ≡ length xs = omega (arith, many, length-append xs (e ∷ []), length-append ys (f ∷ [])) in
    sym (get_or_push xs e e (length xs) refl) ∙ ap (λ (es : List JournalItem). get_or es (length xs) e) is ∙ get_or_push ys f e (length xs) same

abbrev clause_in : JournalItem → List Atom
clause_in (items.Learnt clause below) = clause
clause_in (items.Drop i) = []

-- what was learnt last, after one more clause, and after drops
IsLatest-learnt : (journal : List JournalItem) (clause : List Atom) (below : Bound) → IsLatest (journal ++ items.Learnt clause below ∷ []) clause
IsLatest-learnt journal clause below = λ earlier c b is. ap clause_in (last_item journal earlier (items.Learnt clause below) (items.Learnt c b) is)

no_drop : (n : ℕ) (clause : List Atom) (below : Bound) → items.Drop n ≡ items.Learnt clause below → ⊥
no_drop n clause below e = cc e

IsLatest-drops : (journal : List JournalItem) (which : List ℕ) (latest : List Atom) → IsLatest journal latest → IsLatest (journal ++ drops which) latest
IsLatest-drops journal [] latest h = subst (λ (es : List JournalItem). IsLatest es latest) (sym (append-nil journal)) h
IsLatest-drops journal (n ∷ ns) latest h =
    subst (λ (es : List JournalItem). IsLatest es latest) (append_assoc journal (items.Drop n ∷ []) (drops ns))
    (IsLatest-drops (journal ++ items.Drop n ∷ []) ns latest (λ earlier c b is. absurd (no_drop n c b (last_item journal earlier (items.Drop n) (items.Learnt c b) is))))

-- what is kept, after one more clause, and after drops
pub IsJournalKept-learnt : (old new clause latest : List Atom) (ls : List Line) (atom_range : AtomRange) (below : Bound) → IsAppended old new clause atom_range → IsJournalKept old ls latest → IsJournalKept new (ls ++ lines.Learnt atom_range below ∷ []) clause
IsJournalKept-learnt old new clause latest ls atom_range below h kept = record {
  within = lines_learnt old new clause ls atom_range below h kept.within;
  last = subst (λ (es : List JournalItem). IsLatest es clause) (sym (items_learnt old new clause ls atom_range below h kept.within)) (IsLatest-learnt (map (item_of old) ls) clause below);
}

pub IsJournalKept-dropped : (atoms latest : List Atom) (ls : List Line) (which : List ℕ) → IsJournalKept atoms ls latest → IsJournalKept atoms (ls ++ drop_lines which) latest
IsJournalKept-dropped atoms latest ls which kept = record {
  within = lines_dropped (length atoms) ls which kept.within;
  last = subst (λ (es : List JournalItem). IsLatest es latest) (sym (items_dropped atoms ls which)) (IsLatest-drops (map (item_of atoms) ls) which latest kept.last);
}
