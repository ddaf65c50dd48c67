-- What a task says depends on the values of its subjects alone.
use Rattle.std.specs.Prelude.{All, ◌%◌, cond, if◌then◌else◌, Option, Some, None}
use Rattle.std.specs.List.{list_any, list_all, count_by, cons_option}
use Rattle.std.proofs.Common.{◌≡◌, ℕ, ◌+◌, List, [], ◌∷◌, ◌++◌, Bool, refl, sym, ◌∙◌, ap, subst, arith, ℤ, ◌+ℤ◌}
use Rattle.std.proofs.lemmas.List.Elements.{All-nil, All-cons, All-head, All-tail}
use Rattle.std.proofs.lemmas.List.Sums.{sum_by-cons}
use Rattle.cps_model.specs.Within.{is_within, is_allowed}
use Rattle.cps_model.specs.declared.parts.Arc.{Arc}
use Rattle.cps_model.specs.declared.parts.Event.{Event}
use Rattle.cps_model.specs.declared.parts.Run.{Run}
use Rattle.cps_model.specs.Arithmetic.{IsQuotient, IsRemainder, IsProduct, IsGreatest}
use Rattle.cps_model.specs.Lookups.{IsElement, IsInTable, IsAllDifferent}
use Rattle.cps_model.specs.Circuits.{IsCircuit}
use Rattle.cps_model.specs.Scheduling.{IsInterval, IsNoOverlap, use_of, IsCumulative, area_of, IsNoOverlap2d}
use Rattle.cps_model.specs.Sequences.{AreInverse, transitions, Accepts}
use Rattle.cps_model.specs.Reservoirs.{IsReservoir}
use Rattle.cps_literal.specs.declared.atom.Atom.{Atom}
use Rattle.cps_literal.specs.Truth.{value_at, atom_holds, meets}
use Rattle.cps_instance.specs.declared.term.Term.{Term}
use Rattle.cps_instance.specs.declared.task.Task.{Task}
use Rattle.cps_instance.specs.declared.task.Body.{Body}
use Rattle.cps_instance.specs.declared.task.Body.TheVariants.{Empty, BoolOr, BoolAnd, AtMostOne, ExactlyOne, BoolXor, Linear, IntDiv, IntMod, IntProd, LinMax, Element, Table, AllDiff, Circuit, Interval, NoOverlap, Cumulative, Inverse, Automaton, Reservoir, NoOverlap2d, Sum, ObjectiveList, Cut}
use Rattle.cps_instance.specs.Terms.{terms_value, term_subjects}
use Rattle.cps_instance.specs.declared.task.Span.{Span}
use Rattle.cps_instance.specs.Parts.{values_at, true_arcs, span_end, span_run, span_runs, span_uses, span_areas, all_changes, true_changes, changes_at}
use Rattle.cps_instance.specs.Tasks.{HoldsBody, HoldsTask, IsSumUpTo, true_atoms, atom_subjects, subjects_of_span, span_subjects, subjects_of, subjects_of_body}

pub All-append_left : {X : Type 0} (P : X → Type 0) (xs ys : List X) → All P (xs ++ ys) → All P xs
All-append_left P [] ys h = All-nil P
All-append_left P (x ∷ xs) ys h = All-cons P x xs (All-head P x (xs ++ ys) h) (All-append_left P xs ys (All-tail P x (xs ++ ys) h))

pub All-append_right : {X : Type 0} (P : X → Type 0) (xs ys : List X) → All P (xs ++ ys) → All P ys
All-append_right P [] ys h = h
All-append_right P (x ∷ xs) ys h = All-append_right P xs ys (All-tail P x (xs ++ ys) h)

pub count_by-cons : {X : Type 0} (p : X → Bool) (x : X) (xs : List X) → count_by p (x ∷ xs) ≡ cond (p x) 1 0 + count_by p xs
count_by-cons p x xs = sum_by-cons (λ y. cond (p y) 1 0) x xs

-- two lists of values have the same value for a subject
abbrev pub AgreeAt : List ℤ → List ℤ → ℕ → Type 0
AgreeAt xs ys s = value_at xs s ≡ value_at ys s

pub terms_value-agree : (xs ys : List ℤ) (ts : List Term) → All (AgreeAt xs ys) (term_subjects ts) → terms_value xs ts ≡ terms_value ys ts
terms_value-agree xs ys [] h = refl
terms_value-agree xs ys (t ∷ ts) h =
    let first : value_at xs t.subject ≡ value_at ys t.subject = All-head (AgreeAt xs ys) t.subject (term_subjects ts) h in
    let rest = terms_value-agree xs ys ts (All-tail (AgreeAt xs ys) t.subject (term_subjects ts) h) in
    cc

list_any-agree : (xs ys : List ℤ) (us : List Atom) → All (AgreeAt xs ys) (atom_subjects us) → list_any (atom_holds xs) us ≡ list_any (atom_holds ys) us
list_any-agree xs ys [] h = refl
list_any-agree xs ys (u ∷ us) h =
    let first : atom_holds xs u ≡ atom_holds ys u = ap (λ (v : ℤ). meets u.op u.value v) (All-head (AgreeAt xs ys) u.subject (atom_subjects us) h) in
    let rest = list_any-agree xs ys us (All-tail (AgreeAt xs ys) u.subject (atom_subjects us) h) in
    cc

pub list_all-agree : (xs ys : List ℤ) (us : List Atom) → All (AgreeAt xs ys) (atom_subjects us) → list_all (atom_holds xs) us ≡ list_all (atom_holds ys) us
list_all-agree xs ys [] h = refl
list_all-agree xs ys (u ∷ us) h =
    let first : atom_holds xs u ≡ atom_holds ys u = ap (λ (v : ℤ). meets u.op u.value v) (All-head (AgreeAt xs ys) u.subject (atom_subjects us) h) in
    let rest = list_all-agree xs ys us (All-tail (AgreeAt xs ys) u.subject (atom_subjects us) h) in
    cc

pub true_atoms-cons : (xs : List ℤ) (u : Atom) (us : List Atom) → true_atoms xs (u ∷ us) ≡ cond (atom_holds xs u) 1 0 + true_atoms xs us
true_atoms-cons xs u us = count_by-cons (atom_holds xs) u us

pub more : (p q : Bool) (m n : ℕ) → p ≡ q → m ≡ n → cond p 1 0 + m ≡ cond q 1 0 + n
more p q m n e f = cc

true_atoms-agree : (xs ys : List ℤ) (us : List Atom) → All (AgreeAt xs ys) (atom_subjects us) → true_atoms xs us ≡ true_atoms ys us
true_atoms-agree xs ys [] h = refl
true_atoms-agree xs ys (u ∷ us) h =
    let first : atom_holds xs u ≡ atom_holds ys u = ap (λ (v : ℤ). meets u.op u.value v) (All-head (AgreeAt xs ys) u.subject (atom_subjects us) h) in
    let rest = true_atoms-agree xs ys us (All-tail (AgreeAt xs ys) u.subject (atom_subjects us) h) in
    true_atoms-cons xs u us ∙ more (atom_holds xs u) (atom_holds ys u) (true_atoms xs us) (true_atoms ys us) first rest ∙ sym (true_atoms-cons ys u us)

atom_holds-agree : (xs ys : List ℤ) (u : Atom) → AgreeAt xs ys u.subject → atom_holds xs u ≡ atom_holds ys u
atom_holds-agree xs ys u h = ap (λ (v : ℤ). meets u.op u.value v) h

pub values_at-agree : (xs ys : List ℤ) (is : List ℕ) → All (AgreeAt xs ys) is → values_at xs is ≡ values_at ys is
values_at-agree xs ys [] h = refl
values_at-agree xs ys (i ∷ is) h =
    let first : value_at xs i ≡ value_at ys i = All-head (AgreeAt xs ys) i is h in
    let rest = values_at-agree xs ys is (All-tail (AgreeAt xs ys) i is h) in
    cc

-- with one more arc, event, run, use or area, where a test or an option is the same
pub more_arcs : (p q : Bool) (x : Arc) (ms ns : List Arc) → p ≡ q → ms ≡ ns → (if p then x ∷ ms else ms) ≡ (if q then x ∷ ns else ns)
more_arcs p q x ms ns e f = cc

pub more_events : (p q : Bool) (x y : Event) (ms ns : List Event) → p ≡ q → x ≡ y → ms ≡ ns → (if p then x ∷ ms else ms) ≡ (if q then y ∷ ns else ns)
more_events p q x y ms ns e f g = cc

pub one_event : (x y : Event) (ms ns : List Event) → x ≡ y → ms ≡ ns → x ∷ ms ≡ y ∷ ns
one_event x y ms ns e f = cc

pub same_event : (t u c d : ℤ) → t ≡ u → c ≡ d → (let x : Event = record { time = t; change = c } in x) ≡ (let y : Event = record { time = u; change = d } in y)
same_event t u c d e f = cc

pub same_run : (p q : Bool) (s t e f : ℤ) → p ≡ q → s ≡ t → e ≡ f → (if p then (let x : Run = record { start = s; end = e } in Some x) else None) ≡ (if q then (let y : Run = record { start = t; end = f } in Some y) else None)
same_run p q s t e f a b c = cc

pub more_items : {X : Type 0} (o o' : Option X) (xs xs' : List X) → o ≡ o' → xs ≡ xs' → cons_option o xs ≡ cons_option o' xs'
more_items o o' xs xs' e f = cc

pub same_use : (o o' : Option Run) (d d' : ℤ) → o ≡ o' → d ≡ d' → use_of o d ≡ use_of o' d'
same_use o o' d d' e f = cc

pub same_area : (o o' q q' : Option Run) → o ≡ o' → q ≡ q' → area_of o q ≡ area_of o' q'
same_area o o' q q' e f = cc

true_arcs-agree : (xs ys ts hs : List ℤ) (us : List Atom) → All (AgreeAt xs ys) (atom_subjects us) → true_arcs xs ts hs us ≡ true_arcs ys ts hs us
true_arcs-agree xs ys [] hs us h = refl
true_arcs-agree xs ys (t ∷ ts) [] us h = refl
true_arcs-agree xs ys (t ∷ ts) (k ∷ hs) [] h = refl
true_arcs-agree xs ys (t ∷ ts) (k ∷ hs) (u ∷ us) h =
    more_arcs (atom_holds xs u) (atom_holds ys u) (record { tail = t; head = k }) (true_arcs xs ts hs us) (true_arcs ys ts hs us)
    (atom_holds-agree xs ys u (All-head (AgreeAt xs ys) u.subject (atom_subjects us) h))
    (true_arcs-agree xs ys ts hs us (All-tail (AgreeAt xs ys) u.subject (atom_subjects us) h))

span_end-agree : (xs ys : List ℤ) (i j : ℕ) (far : Option ℤ) → AgreeAt xs ys i → AgreeAt xs ys j → span_end xs i j far ≡ span_end ys i j far
span_end-agree xs ys i j (Some far) h k = ap (λ (v : ℤ). v +ℤ far) h
span_end-agree xs ys i j None h k = k

pub span_run-agree : (xs ys : List ℤ) (s : Span) → All (AgreeAt xs ys) (subjects_of_span s) → span_run xs s ≡ span_run ys s
span_run-agree xs ys s h =
    let rest = All-tail (AgreeAt xs ys) s.start (s.end ∷ atom_subjects s.presence) h in
    let start = All-head (AgreeAt xs ys) s.start (s.end ∷ atom_subjects s.presence) h in
    let end' = All-head (AgreeAt xs ys) s.end (atom_subjects s.presence) rest in
    same_run (list_all (atom_holds xs) s.presence) (list_all (atom_holds ys) s.presence) (value_at xs s.start) (value_at ys s.start) (span_end xs s.start s.end s.length) (span_end ys s.start s.end s.length)
    (list_all-agree xs ys s.presence (All-tail (AgreeAt xs ys) s.end (atom_subjects s.presence) rest))
    start
    (span_end-agree xs ys s.start s.end s.length start end')

span_runs-agree : (xs ys : List ℤ) (ss : List Span) → All (AgreeAt xs ys) (span_subjects ss) → span_runs xs ss ≡ span_runs ys ss
span_runs-agree xs ys [] h = refl
span_runs-agree xs ys (s ∷ ss) h =
    more_items (span_run xs s) (span_run ys s) (span_runs xs ss) (span_runs ys ss)
    (span_run-agree xs ys s (All-append_left (AgreeAt xs ys) (subjects_of_span s) (span_subjects ss) h))
    (span_runs-agree xs ys ss (All-append_right (AgreeAt xs ys) (subjects_of_span s) (span_subjects ss) h))

span_uses-agree : (xs ys : List ℤ) (ss : List Span) (ds : List ℕ) → All (AgreeAt xs ys) (span_subjects ss) → All (AgreeAt xs ys) ds → span_uses xs ss ds ≡ span_uses ys ss ds
span_uses-agree xs ys [] ds h k = refl
span_uses-agree xs ys (s ∷ ss) [] h k = refl
span_uses-agree xs ys (s ∷ ss) (d ∷ ds) h k =
    more_items (use_of (span_run xs s) (value_at xs d)) (use_of (span_run ys s) (value_at ys d)) (span_uses xs ss ds) (span_uses ys ss ds)
    (same_use (span_run xs s) (span_run ys s) (value_at xs d) (value_at ys d)
    (span_run-agree xs ys s (All-append_left (AgreeAt xs ys) (subjects_of_span s) (span_subjects ss) h))
    (All-head (AgreeAt xs ys) d ds k))
    (span_uses-agree xs ys ss ds (All-append_right (AgreeAt xs ys) (subjects_of_span s) (span_subjects ss) h) (All-tail (AgreeAt xs ys) d ds k))

span_areas-agree : (xs ys : List ℤ) (ss ts : List Span) → All (AgreeAt xs ys) (span_subjects ss) → All (AgreeAt xs ys) (span_subjects ts) → span_areas xs ss ts ≡ span_areas ys ss ts
span_areas-agree xs ys [] ts h k = refl
span_areas-agree xs ys (s ∷ ss) [] h k = refl
span_areas-agree xs ys (s ∷ ss) (t ∷ ts) h k =
    more_items (area_of (span_run xs s) (span_run xs t)) (area_of (span_run ys s) (span_run ys t)) (span_areas xs ss ts) (span_areas ys ss ts)
    (same_area (span_run xs s) (span_run ys s) (span_run xs t) (span_run ys t)
    (span_run-agree xs ys s (All-append_left (AgreeAt xs ys) (subjects_of_span s) (span_subjects ss) h))
    (span_run-agree xs ys t (All-append_left (AgreeAt xs ys) (subjects_of_span t) (span_subjects ts) k)))
    (span_areas-agree xs ys ss ts (All-append_right (AgreeAt xs ys) (subjects_of_span s) (span_subjects ss) h) (All-append_right (AgreeAt xs ys) (subjects_of_span t) (span_subjects ts) k))

all_changes-agree : (xs ys : List ℤ) (ts cs : List ℕ) → All (AgreeAt xs ys) ts → All (AgreeAt xs ys) cs → all_changes xs ts cs ≡ all_changes ys ts cs
all_changes-agree xs ys [] cs h k = refl
all_changes-agree xs ys (t ∷ ts) [] h k = refl
all_changes-agree xs ys (t ∷ ts) (c ∷ cs) h k =
    one_event _ _ (all_changes xs ts cs) (all_changes ys ts cs)
    (same_event (value_at xs t) (value_at ys t) (value_at xs c) (value_at ys c) (All-head (AgreeAt xs ys) t ts h) (All-head (AgreeAt xs ys) c cs k))
    (all_changes-agree xs ys ts cs (All-tail (AgreeAt xs ys) t ts h) (All-tail (AgreeAt xs ys) c cs k))

true_changes-agree : (xs ys : List ℤ) (ts cs : List ℕ) (us : List Atom) → All (AgreeAt xs ys) ts → All (AgreeAt xs ys) cs → All (AgreeAt xs ys) (atom_subjects us) → true_changes xs ts cs us ≡ true_changes ys ts cs us
true_changes-agree xs ys [] cs us h k l = refl
true_changes-agree xs ys (t ∷ ts) [] us h k l = refl
true_changes-agree xs ys (t ∷ ts) (c ∷ cs) [] h k l = refl
true_changes-agree xs ys (t ∷ ts) (c ∷ cs) (u ∷ us) h k l =
    more_events (atom_holds xs u) (atom_holds ys u) _ _ (true_changes xs ts cs us) (true_changes ys ts cs us)
    (atom_holds-agree xs ys u (All-head (AgreeAt xs ys) u.subject (atom_subjects us) l))
    (same_event (value_at xs t) (value_at ys t) (value_at xs c) (value_at ys c) (All-head (AgreeAt xs ys) t ts h) (All-head (AgreeAt xs ys) c cs k))
    (true_changes-agree xs ys ts cs us (All-tail (AgreeAt xs ys) t ts h) (All-tail (AgreeAt xs ys) c cs k) (All-tail (AgreeAt xs ys) u.subject (atom_subjects us) l))

changes_at-agree : (xs ys : List ℤ) (ts cs : List ℕ) (us : List Atom) → All (AgreeAt xs ys) ts → All (AgreeAt xs ys) cs → All (AgreeAt xs ys) (atom_subjects us) → changes_at xs ts cs us ≡ changes_at ys ts cs us
changes_at-agree xs ys ts cs [] h k l = all_changes-agree xs ys ts cs h k
changes_at-agree xs ys ts cs (u ∷ us) h k l = true_changes-agree xs ys ts cs (u ∷ us) h k l

-- what is said of a value and of a list
both : {A B : Type 0} (P : A → B → Type 0) (x y : A) (v w : B) → x ≡ y → v ≡ w → P x v → P y w
both P x y v w e f h = subst (λ a. P a w) e (subst (P x) f h)

pub HoldsBody-agree : (xs ys : List ℤ) (b : Body) → All (AgreeAt xs ys) (subjects_of_body b) → HoldsBody b xs → HoldsBody b ys
HoldsBody-agree xs ys Empty h k = tt
HoldsBody-agree xs ys (BoolOr atoms) h k = sym (list_any-agree xs ys atoms h) ∙ k
HoldsBody-agree xs ys (BoolAnd atoms) h k = sym (list_all-agree xs ys atoms h) ∙ k
HoldsBody-agree xs ys (AtMostOne atoms) h k = let e = true_atoms-agree xs ys atoms h in omega arith
HoldsBody-agree xs ys (ExactlyOne atoms) h k = sym (true_atoms-agree xs ys atoms h) ∙ k
HoldsBody-agree xs ys (BoolXor atoms) h k = ap (λ (n : ℕ). n % 2) (sym (true_atoms-agree xs ys atoms h)) ∙ k
HoldsBody-agree xs ys (Linear terms domain) h k = ap (λ (v : ℤ). is_within domain v) (sym (terms_value-agree xs ys terms h)) ∙ k
HoldsBody-agree xs ys (IntDiv target exprs) h k = both IsQuotient (value_at xs target) (value_at ys target) (values_at xs exprs) (values_at ys exprs) (All-head (AgreeAt xs ys) target exprs h) (values_at-agree xs ys exprs (All-tail (AgreeAt xs ys) target exprs h)) k
HoldsBody-agree xs ys (IntMod target exprs) h k = both IsRemainder (value_at xs target) (value_at ys target) (values_at xs exprs) (values_at ys exprs) (All-head (AgreeAt xs ys) target exprs h) (values_at-agree xs ys exprs (All-tail (AgreeAt xs ys) target exprs h)) k
HoldsBody-agree xs ys (IntProd target exprs) h k = both IsProduct (value_at xs target) (value_at ys target) (values_at xs exprs) (values_at ys exprs) (All-head (AgreeAt xs ys) target exprs h) (values_at-agree xs ys exprs (All-tail (AgreeAt xs ys) target exprs h)) k
HoldsBody-agree xs ys (LinMax target exprs) h k = both IsGreatest (value_at xs target) (value_at ys target) (values_at xs exprs) (values_at ys exprs) (All-head (AgreeAt xs ys) target exprs h) (values_at-agree xs ys exprs (All-tail (AgreeAt xs ys) target exprs h)) k
HoldsBody-agree xs ys (Element index target exprs) h k =
    let rest = All-tail (AgreeAt xs ys) index (target ∷ exprs) h in
    subst (λ (i : ℤ). IsElement i (value_at ys target) (values_at ys exprs)) (All-head (AgreeAt xs ys) index (target ∷ exprs) h)
    (both (IsElement (value_at xs index)) (value_at xs target) (value_at ys target) (values_at xs exprs) (values_at ys exprs) (All-head (AgreeAt xs ys) target exprs rest) (values_at-agree xs ys exprs (All-tail (AgreeAt xs ys) target exprs rest)) k)
HoldsBody-agree xs ys (Table exprs values negated) h k = subst (IsInTable negated values) (values_at-agree xs ys exprs h) k
HoldsBody-agree xs ys (AllDiff exprs) h k = subst IsAllDifferent (values_at-agree xs ys exprs h) k
HoldsBody-agree xs ys (Circuit tails heads literals) h k = subst (IsCircuit (tails ++ heads)) (true_arcs-agree xs ys tails heads literals h) k
HoldsBody-agree xs ys (Interval start end size) h k =
    let rest = All-tail (AgreeAt xs ys) start (end ∷ size ∷ []) h in
    let last = All-tail (AgreeAt xs ys) end (size ∷ []) rest in
    subst (λ (v : ℤ). IsInterval v (value_at ys end) (value_at ys size)) (All-head (AgreeAt xs ys) start (end ∷ size ∷ []) h)
    (both (IsInterval (value_at xs start)) (value_at xs end) (value_at ys end) (value_at xs size) (value_at ys size) (All-head (AgreeAt xs ys) end (size ∷ []) rest) (All-head (AgreeAt xs ys) size [] last) k)
HoldsBody-agree xs ys (NoOverlap spans) h k = subst IsNoOverlap (span_runs-agree xs ys spans h) k
HoldsBody-agree xs ys (Cumulative capacity spans demands) h k =
    let rest = All-tail (AgreeAt xs ys) capacity (span_subjects spans ++ demands) h in
    both IsCumulative (value_at xs capacity) (value_at ys capacity) (span_uses xs spans demands) (span_uses ys spans demands) (All-head (AgreeAt xs ys) capacity (span_subjects spans ++ demands) h)
    (span_uses-agree xs ys spans demands (All-append_left (AgreeAt xs ys) (span_subjects spans) demands rest) (All-append_right (AgreeAt xs ys) (span_subjects spans) demands rest)) k
HoldsBody-agree xs ys (Inverse direct inverse) h k =
    both AreInverse (values_at xs direct) (values_at ys direct) (values_at xs inverse) (values_at ys inverse)
    (values_at-agree xs ys direct (All-append_left (AgreeAt xs ys) direct inverse h)) (values_at-agree xs ys inverse (All-append_right (AgreeAt xs ys) direct inverse h)) k
HoldsBody-agree xs ys (Automaton start finals tails heads labels exprs) h k = subst (Accepts (transitions tails heads labels) finals start) (values_at-agree xs ys exprs h) k
HoldsBody-agree xs ys (Reservoir min max times changes active) h k =
    let rest = All-append_right (AgreeAt xs ys) times (changes ++ atom_subjects active) h in
    subst (IsReservoir min max)
    (changes_at-agree xs ys times changes active (All-append_left (AgreeAt xs ys) times (changes ++ atom_subjects active) h) (All-append_left (AgreeAt xs ys) changes (atom_subjects active) rest) (All-append_right (AgreeAt xs ys) changes (atom_subjects active) rest)) k
HoldsBody-agree xs ys (NoOverlap2d x y) h k =
    subst IsNoOverlap2d (span_areas-agree xs ys x y (All-append_left (AgreeAt xs ys) (span_subjects x) (span_subjects y) h) (All-append_right (AgreeAt xs ys) (span_subjects x) (span_subjects y) h)) k
HoldsBody-agree xs ys (Sum subject terms offset) h k =
    sym (All-head (AgreeAt xs ys) subject (term_subjects terms) h) ∙ k
    ∙ ap (λ (v : ℤ). v +ℤ offset) (terms_value-agree xs ys terms (All-tail (AgreeAt xs ys) subject (term_subjects terms) h))
HoldsBody-agree xs ys (ObjectiveList terms domain) h k = ap (λ (v : ℤ). is_allowed domain v) (sym (terms_value-agree xs ys terms h)) ∙ k
HoldsBody-agree xs ys (Cut terms upper) h k = subst (λ (v : ℤ). IsSumUpTo upper v) (terms_value-agree xs ys terms h) k

-- a task that holds at one list holds at each that has the same values for the task's subjects
pub HoldsTask-agree : (xs ys : List ℤ) (t : Task) → All (AgreeAt xs ys) (subjects_of t) → HoldsTask t xs → HoldsTask t ys
HoldsTask-agree xs ys t h k =
    let enforcement = All-append_left (AgreeAt xs ys) (atom_subjects t.enforcement) (subjects_of_body t.body) h in
    let body = All-append_right (AgreeAt xs ys) (atom_subjects t.enforcement) (subjects_of_body t.body) h in
    λ e. HoldsBody-agree xs ys t.body body (k (list_all-agree xs ys t.enforcement enforcement ∙ e))
