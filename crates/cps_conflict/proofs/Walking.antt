-- The walk back along reasons: what is marked step by step, and why the decisions behind an atom are enough.
use Rattle.std.specs.Prelude.{if◌then◌else◌, not}
use Rattle.std.specs.List.{Contains, refill}
use Rattle.std.proofs.Common.{◌≡◌, ◌≢◌, ◌⊎◌, inl, inr, ℕ, zero, suc, ◌+◌, ◌-◌, ◌<◌, ◌≤◌, ◌&&◌, Bool, true, false, true≢false, List, [], ◌∷◌, ◌++◌, length, take, get_or, refl, sym, ◌∙◌, ap, subst, arith, eqb, ℤ, append-nil, get_or-take, length-take-le, replicate, drop}
use Rattle.std.proofs.Math.Seq.{take-append_seam}
use Rattle.std.proofs.lemmas.List.Elements.{All-nil, All-push, All-contains, All-weaker, Contains-push, Contains-append_left}
use Rattle.std.proofs.lemmas.List.Folds.{Any-from_list_any}
use Rattle.cps_literal.specs.declared.atom.Atom.{Atom}
use Rattle.cps_literal.specs.Truth.{meets, value_at, atom_holds, clause_holds, Implies}
use Rattle.cps_trail.specs.Trail.{Domains, Trail, Entry, Decision, Explains, admits, leaves, IsWithin, IsFalseAfter, IsFalseFrom, IsLastOn}
use Rattle.cps_trail.proofs.Falls.{bool_cases}
use Rattle.cps_trail.proofs.Laws.{admits-push}
use Rattle.cps_trail.proofs.Walks.{step_back, none_between}
use Rattle.cps_conflict.specs.Drafts.{IsBacked, IsReasonOf}
use Rattle.cps_conflict.specs.Conflicts.{Reasons}
use Rattle.cps_conflict.specs.Behind.{RulesOut}
use Rattle.cps_conflict.specs.Leading.{IsRuledOutAt, at_once, by_reason, IsDecisionBehind, AreBehind, chosen, is_marked, AreMore, MarksBehind, MarksUnless, MarksReason, IsMarkedFalse, MarkedSoFar, IsLed, HoldsBacked, AreClosedFrom, FollowedSoFar, IsPicked, ArePicked}
use Rattle.cps_conflict.proofs.Uniting.{entry_at}
use Rattle.cps_conflict.proofs.Choosing.{false-more, false-about, false-single, IsLed-more, more-at, more-take, chosen-push}

nat_cases : (i j : ℕ) → (i ≡ j) ⊎ (i ≢ j)
nat_cases i j = grind arith

-- an atom rules out each one that implies its negation, and no other
pub rules_out_of : (one other n : Atom) → n.subject ≡ one.subject → ((x : ℤ) → meets n.op n.value x ≡ not (meets one.op one.value x)) → Implies other n → RulesOut one other
rules_out_of one other n same negated h = record {
  subject = sym (h.subject ∙ same);
  never = λ x on. elim (bool_cases (meets other.op other.value x)) [
    | inr off ↦ off
    | inl met ↦ absurd (true≢false (sym (h.follows x met) ∙ negated x ∙ ap not on))
  ];
}

pub implies_of : (one other n : Atom) → n.subject ≡ one.subject → ((x : ℤ) → meets n.op n.value x ≡ not (meets one.op one.value x)) → RulesOut one other → Implies other n
implies_of one other n same negated h = record {
  subject = sym (same ∙ h.subject);
  follows = λ x met. elim (bool_cases (meets one.op one.value x)) [
    | inr off ↦ negated x ∙ ap not off
    | inl on ↦ absurd (true≢false (sym met ∙ h.never x on))
  ];
}

-- the walk along a subject's entries
pub Marked-none : (s : Trail) (i count n : ℕ) (marks : List Bool) → count ≤ length s.entries → IsLastOn (take count s.entries) i n → MarkedSoFar s i count n marks marks
Marked-none s i count n marks l last =
    let len : length (take count s.entries) ≡ count = length-take-le count s.entries l in
    record {
      within = omega (arith, last.within, len);
      here = record { here = λ k d e. sym (ap (λ (f : Entry). f.atom.subject) (get_or-take count s.entries k d (omega (arith, e, last.within, len)))) ∙ last.here k d e };
      same_length = refl;
      more = λ k h. h;
      only = λ k h. inl h;
      marked = λ k d a b same. absurd (last.after k d a (omega (arith, len, b)) (ap (λ (f : Entry). f.atom.subject) (get_or-take count s.entries k d b) ∙ same));
    }

three : (found k : ℕ) → 0 < found → (k < found - 1) ⊎ ((k ≡ found - 1) ⊎ (found ≤ k))
three found k p = grind arith

pub Marked-more : (s : Trail) (i count found n : ℕ) (old mid new : List Bool) → count ≤ length s.entries → 0 < found → MarkedSoFar s i count found old mid → ((d : Entry) → IsLastOn (take (found - 1) s.entries) (get_or s.entries (found - 1) d).atom.subject n)
    → length new ≡ length mid → is_marked new (found - 1) ≡ true → ((k : ℕ) → k ≢ found - 1 → is_marked new k ≡ is_marked mid k) → MarkedSoFar s i count n old new
Marked-more s i count found n old mid new l p h last size on others =
    let step = step_back s.entries i found n p (omega (arith, l, h.within)) h.here last in
    let keeps : (k : ℕ) → is_marked mid k ≡ true → is_marked new k ≡ true = λ k m. elim (nat_cases k (found - 1)) [ inl e ↦ subst (λ j. is_marked new j ≡ true) (sym e) on | inr ne ↦ others k ne ∙ m ] in
    record {
      within = omega (arith, step.lower, h.within);
      here = step.here;
      same_length = size ∙ h.same_length;
      more = λ k m. keeps k (h.more k m);
      only = λ k m. elim (nat_cases k (found - 1)) [
        | inl e ↦ inr (omega (arith, e, p, h.within), λ d. subst (λ j. (get_or s.entries j d).atom.subject ≡ i) (sym e) (h.here.here (found - 1) d (omega (arith, p))))
        | inr ne ↦ h.only k (sym (others k ne) ∙ m)
      ];
      marked = λ k d a b same. elim (three found k p) [
        | inl under ↦ absurd (none_between s.entries i found n k d (omega (arith, l, h.within)) step a under same)
        | inr rest ↦ elim rest [
          | inl e ↦ subst (λ j. is_marked new j ≡ true) (sym e) on
          | inr over ↦ keeps k (h.marked k d over b same)
        ]
      ];
    }

-- the entries behind an atom: one that rules it out
pub behind-single : (s : Trail) (t : Atom) (count : ℕ) (old new : List Bool) → IsFalseFrom s t count → (out : IsRuledOutAt s count t) → length new ≡ length old → is_marked new (count - 1) ≡ true → ((k : ℕ) → k ≢ count - 1 → is_marked new k ≡ is_marked old k)
    → MarksBehind s t old new
behind-single s t count old new falls out size on others = record {
  same_length = size;
  more = λ k m. elim (nat_cases k (count - 1)) [ inl e ↦ subst (λ j. is_marked new j ≡ true) (sym e) on | inr ne ↦ others k ne ∙ m ];
  only = λ k m. elim (nat_cases k (count - 1)) [
    | inl e ↦ inr (record {
      count = count;
      falls = falls;
      before = omega (arith, e, out.is);
      about = λ d. subst (λ j. (get_or s.entries j d).atom.subject ≡ t.subject) (let q : out.last ≡ k = omega (arith, e, out.is) in q) (out.rules_out d).subject;
      alone = λ last d c r. omega (arith, e, c);
    })
    | inr ne ↦ inl (sym (others k ne) ∙ m)
  ];
}

pub single-false : (s : Trail) (t : Atom) (count : ℕ) (new : List Bool) → IsFalseFrom s t count → (out : IsRuledOutAt s count t) → count ≤ length new → is_marked new (count - 1) ≡ true → IsMarkedFalse s t new
single-false s t count new falls out within on =
    let l : count - 1 < length s.entries = omega (arith, falls.within, out.is) in
    let d = entry_at s.entries (count - 1) l in
    let q : out.last ≡ count - 1 = omega (arith, out.is) in
    let here : RulesOut (get_or s.entries (count - 1) d).atom t = subst (λ j. RulesOut (get_or s.entries j d).atom t) q (out.rules_out d) in
    record {
      count = count;
      falls = falls;
      after = false-single s.first (take count new) s.entries (count - 1) d t l (get_or-take count new (count - 1) false (omega (arith, out.is)) ∙ on) here.subject here.never;
    }

-- or else all about its subject
pub behind-about : (s : Trail) (t : Atom) (count : ℕ) (old new : List Bool) → IsFalseFrom s t count → (IsRuledOutAt s count t → ⊥) → MarkedSoFar s t.subject count 0 old new → MarksBehind s t old new
behind-about s t count old new falls not_out h = record {
  same_length = h.same_length;
  more = h.more;
  only = λ k m. elim (h.only k m) [
    | inl was ↦ inl was
    | inr new' ↦ inr (record {
      count = count;
      falls = falls;
      before = new'.0;
      about = new'.1;
      alone = λ last d c r. absurd (not_out (record { last = last; is = c; rules_out = λ e. subst (λ (x : Entry). RulesOut x.atom t) (same_entry s.entries last d e (omega (arith, c, falls.within))) r }));
    })
  ];
}
  where
    same_entry : (es : List Entry) (k : ℕ) (d e : Entry) → k < length es → get_or es k d ≡ get_or es k e
    same_entry [] k d e l = absurd (omega (arith, l))
    same_entry (f ∷ fs) zero d e l = refl
    same_entry (f ∷ fs) (suc k) d e l = same_entry fs k d e (omega (arith, l))

pub about-false : (s : Trail) (t : Atom) (count : ℕ) (old new : List Bool) → IsFalseFrom s t count → MarkedSoFar s t.subject count 0 old new → IsMarkedFalse s t new
about-false s t count old new falls h = record {
  count = count;
  falls = falls;
  after = false-about s.first new s.entries count t falls.within (λ k d l same. h.marked k d (omega arith) l same) falls.after;
}

-- marks that grow keep an atom false
pub marked_false-more : (s : Trail) (t : Atom) (old new : List Bool) → length old ≤ length new → ((k : ℕ) → is_marked old k ≡ true → is_marked new k ≡ true) → IsMarkedFalse s t old → IsMarkedFalse s t new
marked_false-more s t old new size more h = record {
  count = h.count;
  falls = h.falls;
  after = false-more s.first (take h.count old) (take h.count new) s.entries t (more-take old new h.count h.count (omega arith) (more-at old new size more)) h.after;
}

-- an atom of a reason
pub Unless-marked : (s : Trail) (t implied : Atom) (old new : List Bool) → t ≢ implied → MarksBehind s t old new → IsMarkedFalse s t new → MarksUnless s t implied old new
Unless-marked s t implied old new ne h falls = record {
  same_length = h.same_length;
  more = h.more;
  only = λ k m. elim (h.only k m) [ inl was ↦ inl was | inr now ↦ inr (ne, now) ];
  falls = λ other. falls;
}

pub Unless-same : (s : Trail) (t implied : Atom) (marks : List Bool) → t ≡ implied → MarksUnless s t implied marks marks
Unless-same s t implied marks same = record { same_length = refl; more = λ k m. m; only = λ k m. inl m; falls = λ ne. absurd (ne same) }

-- the atoms of a reason, one after another
pub Reason-none : (s : Trail) (implied : Atom) (marks : List Bool) → MarksReason s [] implied marks marks
Reason-none s implied marks = record { same_length = refl; more = λ k m. m; only = λ k m. inl m; falls = All-nil (λ u. u ≢ implied → IsMarkedFalse s u marks) }

pub Reason-more : (s : Trail) (reason : List Atom) (t implied : Atom) (old mid new : List Bool) → MarksReason s reason implied old mid → MarksUnless s t implied mid new → MarksReason s (reason ++ t ∷ []) implied old new
Reason-more s reason t implied old mid new h g = record {
  same_length = g.same_length ∙ h.same_length;
  more = λ k m. g.more k (h.more k m);
  only = λ k m. elim (g.only k m) [
    | inr now ↦ inr (t, Contains-push reason t, now.0, now.1)
    | inl mid' ↦ elim (h.only k mid') [
      | inl was ↦ inl was
      | inr one ↦ inr (one.0, Contains-append_left reason (t ∷ []) one.0 one.1, one.2, one.3)
    ]
  ];
  falls = All-push (λ u. u ≢ implied → IsMarkedFalse s u new) reason t
      (All-weaker (λ u. u ≢ implied → IsMarkedFalse s u mid) (λ u. u ≢ implied → IsMarkedFalse s u new) (λ u f ne. marked_false-more s u mid new (omega (arith, g.same_length)) g.more (f ne)) reason h.falls) g.falls;
}

-- an entry that is not marked, and a decision, need no reason
pub closed-unmarked : (C : List ℤ → Type 0) (s : Trail) (marks : List Bool) (place : ℕ) → is_marked marks place ≡ false → AreClosedFrom C s marks (place + 1) → AreClosedFrom C s marks place
closed-unmarked C s marks place off h = record {
  at = λ k d a b m. elim (nat_cases k place) [
    | inl e ↦ absurd (true≢false (sym m ∙ ap (λ j. is_marked marks j) e ∙ off))
    | inr ne ↦ h.at k d (omega (arith, a, ne)) b m
  ];
}

pub closed-decision : (C : List ℤ → Type 0) (s : Trail) (marks : List Bool) (place : ℕ) → ((d : Entry) → (get_or s.entries place d).reason ≡ Decision) → AreClosedFrom C s marks (place + 1) → AreClosedFrom C s marks place
closed-decision C s marks place decided h = record {
  at = λ k d a b m. elim (nat_cases k place) [
    | inl e ↦ inl (subst (λ j. (get_or s.entries j d).reason ≡ Decision) (sym e) (decided d))
    | inr ne ↦ h.at k d (omega (arith, a, ne)) b m
  ];
}

followed-from : (R : Reasons) (C : List ℤ → Type 0) (s : Trail) (t : Atom) (marks : List Bool) (place : ℕ) → FollowedSoFar R C s t (place + 1) marks → AreClosedFrom C s marks place → FollowedSoFar R C s t place marks
followed-from R C s t marks place h closed = record { within = omega (arith, h.within); same_length = h.same_length; closed = closed; led = h.led; falls = h.falls }

pub followed-unmarked : (R : Reasons) (C : List ℤ → Type 0) (s : Trail) (marks : List Bool) (place : ℕ) → is_marked marks place ≡ false → (t : Atom) → FollowedSoFar R C s t (place + 1) marks → FollowedSoFar R C s t place marks
followed-unmarked R C s marks place off t h = followed-from R C s t marks place h (closed-unmarked C s marks place off h.closed)

pub followed-decision : (R : Reasons) (C : List ℤ → Type 0) (s : Trail) (marks : List Bool) (place : ℕ) → ((d : Entry) → (get_or s.entries place d).reason ≡ Decision) → (t : Atom) → FollowedSoFar R C s t (place + 1) marks → FollowedSoFar R C s t place marks
followed-decision R C s marks place decided t h = followed-from R C s t marks place h (closed-decision C s marks place decided h.closed)

-- the reason of a marked entry was followed: what is marked for it came before the entry
module _ (R : Reasons) (C : List ℤ → Type 0) (s : Trail) (place : ℕ) (reason : List Atom) (implied : Atom) (old new : List Bool) (l : place < length s.entries) (is : (d : Entry) → (get_or s.entries place d).atom ≡ implied)
    (of : IsReasonOf C s place reason) (fetched : R place reason) (was : is_marked old place ≡ true) (marks : MarksReason s reason implied old new) where
  -- an atom of the reason fell before the entry
  before : (u : Atom) → Contains reason u → u ≢ implied → (n : ℕ) → IsFalseFrom s u n → n ≤ place
  before u has ne n falls = elim (order n place) [
    | inl le ↦ le
    | inr gt ↦ absurd (falls.not_before place gt (let d = entry_at s.entries place l in (of.explains d).others u has (λ e. ne (e ∙ is d))))
  ]
    where
      order : (n m : ℕ) → (n ≤ m) ⊎ (m < n)
      order n m = grind arith

  -- so nothing is marked from the entry on that was not
  later : (k : ℕ) → place ≤ k → is_marked new k ≡ true → is_marked old k ≡ true
  later k a m = elim (marks.only k m) [
    | inl w ↦ w
    | inr one ↦ absurd (let f = before one.0 one.1 one.2 one.3.count one.3.falls in let b = one.3.before in let c : k < k = omega (arith, a, f, b) in omega (arith, c))
  ]

  grown : (j : ℕ) → AreMore (take j old) (take j new)
  grown j = more-take old new j j (omega arith) (more-at old new (omega (arith, marks.same_length)) marks.more)

  led-here : (d : Entry) → IsLed (HoldsBacked C s) s.first (chosen (take place new) s.entries) (get_or s.entries place d)
  led-here d = inr (
    reason,
    record {
      has = (of.explains d).has;
      others = λ u has ne.
          let f = All-contains (λ u. u ≢ implied → IsMarkedFalse s u new) reason u marks.falls has (λ e. ne (e ∙ sym (is d))) in
          let n = before u has (λ e. ne (e ∙ sym (is d))) f.count f.falls in
          false-more s.first (take f.count new) (take place new) s.entries u (more-take new new f.count place n (more-at new new (omega arith) (λ k m. m))) f.after;
      subjects = (of.explains d).subjects;
    },
    of.holds,
  )

  pub followed-reason : (t : Atom) → FollowedSoFar R C s t (place + 1) old → FollowedSoFar R C s t place new
  followed-reason t h = record {
    within = omega (arith, h.within);
    same_length = marks.same_length ∙ h.same_length;
    closed = record {
      at = λ k d a b m. elim (nat_cases k place) [
        | inl e ↦ subst (λ j. IsLed (HoldsBacked C s) s.first (chosen (take j new) s.entries) (get_or s.entries j d)) (sym e) (led-here d)
        | inr ne ↦ IsLed-more (HoldsBacked C s) s.first (take k old) (take k new) s.entries (get_or s.entries k d) (grown k) (h.closed.at k d (omega (arith, a, ne)) b (later k a m))
      ];
    };
    led = λ k m. elim (marks.only k m) [
      | inl w ↦ h.led k w
      | inr one ↦ by_reason place k reason one.0 (h.led place was) fetched one.1 (λ d e. one.2 (e ∙ is d)) one.3
    ];
    falls = marked_false-more s t old new (omega (arith, marks.same_length)) marks.more h.falls;
  }

-- marks that are written back whole
pub marks_written : (old new : List Bool) (n : ℕ) → length new ≡ n → refill n old new ≡ new
marks_written old new n size = subst (λ k. take k (new ++ drop (length new) old) ≡ new) size (take-append_seam new (drop (length new) old))

-- where the walk begins: nothing is marked yet,
pub none_marked : (n k : ℕ) → is_marked (replicate n false) k ≡ false
none_marked zero k = refl
none_marked (suc n) zero = refl
none_marked (suc n) (suc k) = none_marked n k

-- and then only what is behind the atom
pub followed-begin : (R : Reasons) (C : List ℤ → Type 0) (s : Trail) (t : Atom) (old new : List Bool) → length old ≡ length s.entries → ((k : ℕ) → is_marked old k ≡ false) → MarksBehind s t old new → IsMarkedFalse s t new → FollowedSoFar R C s t (length s.entries) new
followed-begin R C s t old new size none marks falls = record {
  within = omega arith;
  same_length = marks.same_length ∙ size;
  closed = record { at = λ k d a b m. absurd (omega (arith, a, b)) };
  led = λ k m. elim (marks.only k m) [
    | inl w ↦ absurd (true≢false (sym w ∙ none k))
    | inr b ↦ at_once k b
  ];
  falls = falls;
}

-- an entry whose atom is true leaves the values
leaves-true : (i : ℕ) (e : Entry) (a : List ℤ) → atom_holds a e.atom ≡ true → leaves i (value_at a i) e ≡ true
leaves-true i e a on = elim (nat_cases i e.atom.subject) [
  | inl same ↦ (let h : meets e.atom.op e.atom.value (value_at a i) ≡ true = rw same on in grind arith)
  | inr ne ↦ (let h : eqb e.atom.subject i ≡ false = grind arith in rw h refl)
]

-- the entries leave the values
abbrev AreLeft : Domains → List Entry → List ℤ → Type 0
AreLeft first es a = (i : ℕ) → i < length first → admits first es i (value_at a i) ≡ true

left-none : (first : Domains) (a : List ℤ) → IsWithin first a → AreLeft first [] a
unfolding admits
left-none first a w i l = let h = w i l in grind arith

left-push : (first : Domains) (es : List Entry) (e : Entry) (a : List ℤ) → AreLeft first es a → atom_holds a e.atom ≡ true → AreLeft first (es ++ e ∷ []) a
left-push first es e a h on i l =
    admits-push first es e i (value_at a i)
    ∙ ap (λ b. b && leaves i (value_at a i) e) (h i l)
    ∙ leaves-true i e a on

-- an atom that is false after entries is false at values that they leave
false-left : (first : Domains) (es : List Entry) (u : Atom) (a : List ℤ) → u.subject < length first → AreLeft first es a → IsFalseAfter first es u → atom_holds a u ≡ false
false-left first es u a l h f = f (value_at a u.subject) (h u.subject l)

-- an atom that a clause explains is true where the clause is and the entries before leave the values
explained-true : (first : Domains) (before : List Entry) (clause : List Atom) (t : Atom) (a : List ℤ) → Explains first before clause t → AreLeft first before a → clause_holds clause a ≡ true → atom_holds a t ≡ true
explained-true first before clause t a g left h = elim (bool_cases (atom_holds a t)) [
  | inl on ↦ on
  | inr off ↦ absurd (
      let some = Any-from_list_any (atom_holds a) clause h in
      let has : Contains clause some.1 = (some.0, some.2, some.3) in
      let other : some.1 ≢ t = λ e. true≢false (sym some.4 ∙ ap (atom_holds a) e ∙ off) in
      let inside = All-contains (λ u. u.subject < length first) clause some.1 g.subjects has in
      true≢false (sym some.4 ∙ false-left first before some.1 a inside left (g.others some.1 has other)))
]

-- marked entries that are closed under reasons leave values at which their decisions are true
module _ (C : List ℤ → Type 0) (s : Trail) (marks : List Bool) (a : List ℤ) (holds : C a) (backed : IsBacked s a) (size : length marks ≡ length s.entries) (closed : AreClosedFrom C s marks 0)
    (decided : (k : ℕ) (d : Entry) → k < length s.entries → is_marked marks k ≡ true → (get_or s.entries k d).reason ≡ Decision → atom_holds a (get_or s.entries k d).atom ≡ true) where
  true-at : (k : ℕ) (d : Entry) → k < length s.entries → is_marked marks k ≡ true → AreLeft s.first (chosen (take k marks) s.entries) a → atom_holds a (get_or s.entries k d).atom ≡ true
  true-at k d l m left = elim (closed.at k d (omega arith) l m) [
    | inl decision ↦ decided k d l m decision
    | inr c ↦ explained-true s.first (chosen (take k marks) s.entries) c.0 (get_or s.entries k d).atom a c.1 left (c.2 a holds backed)
  ]

  left-up-to : (k : ℕ) → k ≤ length s.entries → AreLeft s.first (chosen (take k marks) s.entries) a
  left-up-to zero l = left-none s.first a backed.within
  left-up-to (suc k) l =
      let rest = left-up-to k (omega (arith, l)) in
      let inside : k < length s.entries = omega (arith, l) in
      let d = entry_at s.entries k inside in
      let e = chosen-push k marks s.entries d (omega (arith, l, size)) inside in
      subst (λ (fs : List Entry). AreLeft s.first fs a) (sym e) (push k d inside rest (is_marked marks k) refl)
    where
      push : (k : ℕ) (d : Entry) → k < length s.entries → AreLeft s.first (chosen (take k marks) s.entries) a → (b : Bool) → is_marked marks k ≡ b → AreLeft s.first (chosen (take k marks) s.entries ++ (if b then get_or s.entries k d ∷ [] else [])) a
      push k d l left true m = left-push s.first (chosen (take k marks) s.entries) (get_or s.entries k d) a left (true-at k d l m left)
      push k d l left false m = subst (λ (fs : List Entry). AreLeft s.first fs a) (sym (append-nil (chosen (take k marks) s.entries))) left

-- so the decisions among them are enough
pub picked-behind : (R : Reasons) (C : List ℤ → Type 0) (s : Trail) (t : Atom) (marks : List Bool) (decisions : List Atom) → t.subject < length s.first → FollowedSoFar R C s t 0 marks → ArePicked s marks (length s.entries) decisions → AreBehind R C s t decisions
picked-behind R C s t marks decisions inside h picked = record {
  each = All-weaker (IsPicked s marks (length s.entries)) (IsDecisionBehind R s t) (λ u p. record { place = p.place; within = p.before; led = h.led p.place p.marked; decided = p.decided; is = p.is }) decisions picked.only;
  enough = λ a holds backed on.
      let left = left-up-to C s marks a holds backed h.same_length h.closed (λ k d l m decision. All-contains (λ u. atom_holds a u ≡ true) decisions (get_or s.entries k d).atom on (picked.all k d l m decision)) h.falls.count h.falls.falls.within in
      false-left s.first (chosen (take h.falls.count marks) s.entries) t a inside left h.falls.after;
}

-- picking, one entry after another
pub Picked-none : (s : Trail) (marks : List Bool) → ArePicked s marks 0 []
Picked-none s marks = record { all = λ k d l m e. absurd (omega (arith, l)); only = All-nil (IsPicked s marks 0) }

wider : (s : Trail) (marks : List Bool) (n : ℕ) (u : Atom) → IsPicked s marks n u → IsPicked s marks (n + 1) u
wider s marks n u p = record { place = p.place; before = omega (arith, p.before); marked = p.marked; decided = p.decided; is = p.is }

pub Picked-skip : (s : Trail) (marks : List Bool) (n : ℕ) (decisions : List Atom) → ArePicked s marks n decisions → (is_marked marks n ≡ true → (d : Entry) → (get_or s.entries n d).reason ≡ Decision → ⊥) → ArePicked s marks (n + 1) decisions
Picked-skip s marks n decisions h none = record {
  all = λ k d l m e. elim (nat_cases k n) [
    | inl q ↦ absurd (none (subst (λ j. is_marked marks j ≡ true) q m) d (subst (λ j. (get_or s.entries j d).reason ≡ Decision) q e))
    | inr ne ↦ h.all k d (omega (arith, l, ne)) m e
  ];
  only = All-weaker (IsPicked s marks n) (IsPicked s marks (n + 1)) (wider s marks n) decisions h.only;
}

pub Picked-more : (s : Trail) (marks : List Bool) (n : ℕ) (decisions : List Atom) (t : Atom) → ArePicked s marks n decisions → is_marked marks n ≡ true → ((d : Entry) → (get_or s.entries n d).reason ≡ Decision) → ((d : Entry) → (get_or s.entries n d).atom ≡ t) → ArePicked s marks (n + 1) (decisions ++ t ∷ [])
Picked-more s marks n decisions t h m decided is = record {
  all = λ k d l on e. elim (nat_cases k n) [
    | inl q ↦ subst (λ (u : Atom). Contains (decisions ++ t ∷ []) u) (sym (ap (λ j. (get_or s.entries j d).atom) q ∙ is d)) (Contains-push decisions t)
    | inr ne ↦ Contains-append_left decisions (t ∷ []) (get_or s.entries k d).atom (h.all k d (omega (arith, l, ne)) on e)
  ];
  only = All-push (IsPicked s marks (n + 1)) decisions t (All-weaker (IsPicked s marks n) (IsPicked s marks (n + 1)) (wider s marks n) decisions h.only)
      (record { place = n; before = omega arith; marked = m; decided = decided; is = is });
}
