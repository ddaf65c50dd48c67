-- The items of a log with one more.
use Rattle.std.specs.Prelude.{IsSomeAnd, Option, Some, None, slice_get, slice_index_or}
use Rattle.std.proofs.Common.{◌≡◌, ℕ, List, [], ◌∷◌, ◌++◌, refl, sym, ◌∙◌, ap, subst, ℤ, pos}
use Rattle.std.proofs.lemmas.List.{append_assoc, append-nil}
use Rattle.cps_model.specs.declared.model.CpModel.{CpModel}
use Rattle.cps_literal.specs.declared.atom.Atom.{Atom}
use Rattle.cps_log.specs.declared.item.LogItem.{LogItem}
use Rattle.cps_log.specs.declared.item.LogItem.TheVariants as items
use Rattle.cps_model.specs.declared.model.LinearExpr.{LinearExpr}
use Rattle.cps_log.specs.Deriving.{Derivation, empty_derivation, after_item, literal_clause, defined_sum}
use Rattle.cps_log.specs.Runs.{IsTrueItem, AreTrueItems, derived_by, with_learnt, learnt_in, IsClosedLog}
use Rattle.cps_tracer.specs.Traced.{Traced, IsAbout, with_item, derivation_of, before, sums_in, added_clause, clauses_in, HasLearnt}

-- ---- what items derive

pub derived-append : (m : CpModel) (g : Derivation) (log : List LogItem) (item : LogItem) → derived_by m g (log ++ item ∷ []) ≡ after_item m (derived_by m g log) item
derived-append m g [] item = refl
derived-append m g (i ∷ log) item = derived-append m (after_item m g i) log item

abbrev pub derivation : List LinearExpr → List (List Atom) → Derivation
derivation sums clauses = record { sums = sums; clauses = clauses }

same_derivation : (sums sums' : List LinearExpr) (clauses clauses' : List (List Atom)) → sums ≡ sums' → clauses ≡ clauses' → derivation sums clauses ≡ derivation sums' clauses'
same_derivation sums sums' clauses clauses' e f = rw (e, f) refl

one_clause : (m : CpModel) (g : Derivation) (log : List LogItem) (clause : List Atom) → derivation (g.sums ++ sums_in log) ((g.clauses ++ clause ∷ []) ++ clauses_in m.assumptions log) ≡ derivation (g.sums ++ sums_in log) (g.clauses ++ clause ∷ clauses_in m.assumptions log)
one_clause m g log clause = same_derivation (g.sums ++ sums_in log) (g.sums ++ sums_in log) ((g.clauses ++ clause ∷ []) ++ clauses_in m.assumptions log) (g.clauses ++ clause ∷ clauses_in m.assumptions log) refl (append_assoc g.clauses (clause ∷ []) (clauses_in m.assumptions log))

-- the sums and the clauses of the items, behind those that were there
derived_behind : (m : CpModel) (g : Derivation) (log : List LogItem) → derived_by m g log ≡ derivation (g.sums ++ sums_in log) (g.clauses ++ clauses_in m.assumptions log)
derived_behind m g [] = same_derivation g.sums (g.sums ++ []) g.clauses (g.clauses ++ []) (sym (append-nil g.sums)) (sym (append-nil g.clauses))
derived_behind m g (items.Sum e ∷ log) = derived_behind m (after_item m g (items.Sum e)) log ∙ same_derivation ((g.sums ++ e ∷ []) ++ sums_in log) (g.sums ++ e ∷ sums_in log) (g.clauses ++ clauses_in m.assumptions log) (g.clauses ++ clauses_in m.assumptions log) (append_assoc g.sums (e ∷ []) (sums_in log)) refl
derived_behind m g (items.Reason constraint clause ∷ log) = derived_behind m (after_item m g (items.Reason constraint clause)) log ∙ one_clause m g log clause
derived_behind m g (items.Objective clause ∷ log) = derived_behind m (after_item m g (items.Objective clause)) log ∙ one_clause m g log clause
derived_behind m g (items.Ends subject clause ∷ log) = derived_behind m (after_item m g (items.Ends subject clause)) log ∙ one_clause m g log clause
derived_behind m g (items.Assumed number ∷ log) = derived_behind m (after_item m g (items.Assumed number)) log ∙ one_clause m g log (literal_clause (slice_index_or m.assumptions number (pos 0)))
derived_behind m g (items.Learnt clause ∷ log) = derived_behind m (after_item m g (items.Learnt clause)) log ∙ one_clause m g log clause

pub derived_is : (m : CpModel) (log : List LogItem) → derived_by m empty_derivation log ≡ record { sums = sums_in log; clauses = clauses_in m.assumptions log }
derived_is m log = derived_behind m empty_derivation log

before_all : {X : Type 0} (o : Option X) (xs ys : List X) → before o (xs ++ ys) ≡ before o xs ++ ys
before_all None xs ys = refl
before_all (Some x) xs ys = refl

pub sums-append : (log : List LogItem) (item : LogItem) → sums_in (log ++ item ∷ []) ≡ sums_in log ++ before (defined_sum item) []
sums-append [] item = refl
sums-append (i ∷ log) item = ap (before (defined_sum i)) (sums-append log item) ∙ before_all (defined_sum i) (sums_in log) (before (defined_sum item) [])

pub clauses-append : (assumptions : List ℤ) (log : List LogItem) (item : LogItem) → clauses_in assumptions (log ++ item ∷ []) ≡ clauses_in assumptions log ++ before (added_clause assumptions item) []
clauses-append assumptions [] item = refl
clauses-append assumptions (i ∷ log) item = ap (before (added_clause assumptions i)) (clauses-append assumptions log item) ∙ before_all (added_clause assumptions i) (clauses_in assumptions log) (before (added_clause assumptions item) [])

-- ---- items that say what is so

-- one more, after what the others derived
pub true_items-append : (m : CpModel) (rests sought : ℤ → Type 0) (g : Derivation) (log : List LogItem) (item : LogItem) → AreTrueItems m rests sought g log → IsTrueItem m rests sought (derived_by m g log) item → AreTrueItems m rests sought g (log ++ item ∷ [])
true_items-append m rests sought g [] item are is = (is, are)
true_items-append m rests sought g (i ∷ log) item are is = (are.0, true_items-append m rests sought (after_item m g i) log item are.1 is)

some_weaker : {X : Type 0} (o : Option X) (P Q : X → Type 0) → ((x : X) → P x → Q x) → IsSomeAnd o P → IsSomeAnd o Q
some_weaker None P Q f h = h
some_weaker (Some x) P Q f h = f x h

true_item-weaker : (m : CpModel) (rests rests' sought sought' : ℤ → Type 0) (g : Derivation) (item : LogItem) → ((r : ℤ) → rests r → rests' r) → ((z : ℤ) → sought' z → sought z) → IsTrueItem m rests sought g item → IsTrueItem m rests' sought' g item
true_item-weaker m rests rests' sought sought' g (items.Sum e) more less is = is
true_item-weaker m rests rests' sought sought' g (items.Reason constraint clause) more less is = is
true_item-weaker m rests rests' sought sought' g (items.Objective clause) more less is = λ a within at. is a within (record { in_domain = at.in_domain; below = less _ at.below })
true_item-weaker m rests rests' sought sought' g (items.Ends subject clause) more less is = is
true_item-weaker m rests rests' sought sought' g (items.Assumed number) more less is = some_weaker (slice_get m.assumptions number) rests rests' more is
true_item-weaker m rests rests' sought sought' g (items.Learnt clause) more less is = is

-- where fewer objectives are sought, or the log may rest on more, the items still say what is so
pub true_items-weaker : (m : CpModel) (rests rests' sought sought' : ℤ → Type 0) (g : Derivation) (log : List LogItem) → ((r : ℤ) → rests r → rests' r) → ((z : ℤ) → sought' z → sought z) → AreTrueItems m rests sought g log → AreTrueItems m rests' sought' g log
true_items-weaker m rests rests' sought sought' g [] more less are = are
true_items-weaker m rests rests' sought sought' g (i ∷ log) more less are = (true_item-weaker m rests rests' sought sought' g i more less are.0, true_items-weaker m rests rests' sought sought' (after_item m g i) log more less are.1)

-- ---- what was learnt

with_learnt-append : (item : LogItem) (cs ds : List (List Atom)) → with_learnt item (cs ++ ds) ≡ with_learnt item cs ++ ds
with_learnt-append (items.Learnt []) cs ds = refl
with_learnt-append (items.Learnt (t ∷ ts)) cs ds = refl
with_learnt-append (items.Sum e) cs ds = refl
with_learnt-append (items.Reason constraint clause) cs ds = refl
with_learnt-append (items.Objective clause) cs ds = refl
with_learnt-append (items.Ends subject clause) cs ds = refl
with_learnt-append (items.Assumed number) cs ds = refl

-- the learnt clauses of a log with one more item
pub learnt-append : (log : List LogItem) (item : LogItem) → learnt_in (log ++ item ∷ []) ≡ learnt_in log ++ with_learnt item []
learnt-append [] item = refl
learnt-append (i ∷ log) item = ap (with_learnt i) (learnt-append log item) ∙ with_learnt-append i (learnt_in log) (with_learnt item [])

-- a log whose last item is the empty clause
pub closed-append : (log : List LogItem) → IsClosedLog (log ++ items.Learnt [] ∷ [])
closed-append log = record { before = log; is = refl }

-- ---- what the calls of a tracer append

pub about_kept : (m : CpModel) (t : Traced) (item : LogItem) → IsAbout m t → IsAbout m (with_item t item)
about_kept m t item about = record { variables = about.variables; assumptions = about.assumptions }

-- an item that says what is so, behind others
pub true_with_item : (m : CpModel) (rests sought : ℤ → Type 0) (old new : Traced) (item : LogItem) → AreTrueItems m rests sought empty_derivation old.items → IsTrueItem m rests sought (derivation_of m old) item → new ≡ with_item old item → AreTrueItems m rests sought empty_derivation new.items
true_with_item m rests sought old new item are is added = subst (λ (t : Traced). AreTrueItems m rests sought empty_derivation t.items) (sym added) (true_items-append m rests sought empty_derivation old.items item are is)

-- a learnt clause behind items that say what is so
pub true_with_learnt : (m : CpModel) (rests sought : ℤ → Type 0) (old new : Traced) (clause : List Atom) (n : ℕ) → IsAbout m old → AreTrueItems m rests sought empty_derivation old.items → HasLearnt old new clause n → AreTrueItems m rests sought empty_derivation new.items
true_with_learnt m rests sought old new clause n about are learnt = true_with_item m rests sought old new (items.Learnt clause) are (learnt.row m about) learnt.added
