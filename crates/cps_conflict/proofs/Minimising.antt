-- What the search for redundant atoms finds.
use Rattle.std.proofs.Common.{ℕ, ◌+◌, ◌≤◌, ◌<◌, ℤ, ◌≡◌, true, false, not, List, [], ◌∷◌, ◌++◌, length, take, get_or, set, refl, sym, ◌∙◌, ap, subst, inl, inr, arith, ◌⊎◌}
use Rattle.std.specs.List.{All, Any, Contains}
use Rattle.std.proofs.lemmas.List.{get_or_append_left, length_push}
use Rattle.std.proofs.Math.Seq.{get_or-append_seam}
use Rattle.std.proofs.lemmas.List.Elements.{Contains-get_or, All-contains, All-push, All-weaker, All-more, All-nil, All-set}
use Rattle.std.proofs.lemmas.List.Folds.{Any-from_list_any}
use Rattle.cps_literal.specs.declared.atom.Atom.{Atom}
use Rattle.cps_literal.specs.Truth.{meets, atom_holds, clause_holds, Implies}
use Rattle.cps_literal.proofs.Normalizing.{Implies-refl, holds_too}
use Rattle.cps_trail.specs.Trail.{Trail, IsFalseFrom}
use Rattle.cps_conflict.specs.declared.resolvent.Fallen.{Fallen}
use Rattle.cps_conflict.specs.declared.minimiser.Node.{Node}
use Rattle.cps_conflict.specs.declared.minimiser.Minimiser.{Minimiser}
use Rattle.cps_conflict.specs.Drafts.{IsBacked, IsDraft, IsImpliedFrom, IsRedundant, Draft}
use Rattle.cps_conflict.specs.Nodes.{IsBack, IsPendingAt, IsNodeAt, AreNodesAt, AreNodes, Carries, PassesAtoms, ExtendsPending, IsTraced, Traces, TraceSoFar}
use Rattle.cps_conflict.proofs.Bottom.{false_at_bottom}
use Rattle.cps_conflict.proofs.Uniting.{none}
use Rattle.cps_conflict.proofs.Drafting.{not_together}

-- what a read past the end gives
abbrev pub none_node : Node
none_node = record { place = 0; denied = none; next = 0; end = 0; latest = 0; failed = false }

nat_order : (m n : ℕ) → (m < n) ⊎ (n ≤ m)
nat_order m n = grind arith

pub IsBack-later : (a : List ℤ) (earlier : List Fallen) (t : Atom) (m n : ℕ) → m ≤ n → IsBack a earlier t m → IsBack a earlier t n
IsBack-later a earlier t m n l h = record {
  some = elim (h.some) [
    | inl x ↦ inl x
    | inr w ↦ inr (w.0, w.1, w.2, w.3, record { holds = w.4.holds; by = omega (arith, l, w.4.by) })
  ];
}

pub IsPendingAt-grows : (a : List ℤ) (old new : List Fallen) (next end end' : ℕ) → ExtendsPending old new → end ≤ end' → IsPendingAt a old next end → IsPendingAt a new next end'
IsPendingAt-grows a old new next end end' g l o = record {
  place = o.place;
  from = o.from;
  below = omega (arith, o.below, l);
  within = omega (arith, o.within, g.longer);
  holds = λ d. ap (λ (f : Fallen). atom_holds a f.atom) (g.same o.place d o.within) ∙ o.holds d;
}

pub ExtendsPending-refl : (old : List Fallen) → ExtendsPending old old
ExtendsPending-refl old = record { longer = omega arith; same = λ k d l. refl }

pub ExtendsPending-push : (old new : List Fallen) (f : Fallen) → ExtendsPending old new → ExtendsPending old (new ++ f ∷ [])
ExtendsPending-push old new f g = record {
  longer = omega (arith, g.longer, length_push new f);
  same = λ k d l. get_or_append_left new (f ∷ []) d k (omega (arith, l, g.longer)) ∙ g.same k d l;
}

-- what a node whose atoms were all passed says of an atom that its entry refutes
pub led_back : (earlier : List Fallen) (a : List ℤ) (m : Minimiser) (n : Node) (u : Atom) → Contains m.nodes.items n → n.failed ≡ false → n.end ≤ n.next → Implies u n.denied → AreNodesAt earlier a m → atom_holds a u ≡ true → IsBack a earlier m.assert n.latest
led_back earlier a m n u has fine done i nodes on = elim (All-contains (IsNodeAt a earlier m.assert m.pending.items) m.nodes.items n nodes has fine (holds_too u n.denied a i on)) [
  | inl o ↦ absurd (omega (arith, o.from, o.below, done))
  | inr h ↦ h
]

-- one more atom of a node
pub PassesAtoms-none : (m : Minimiser) (n : Node) → n.next ≤ n.end → PassesAtoms m n (n.next, n.latest)
PassesAtoms-none m n l = record {
  within = l;
  later = omega arith;
  at = λ earlier a nodes o. absurd (omega (arith, o.from, o.below));
}

pub PassesAtoms-more : (m : Minimiser) (n : Node) (k latest other latest' : ℕ) (f : Fallen) → k < n.end → ((d : Fallen) → get_or m.pending.items k d ≡ f)
    → ((earlier : List Fallen) (a : List ℤ) → AreNodesAt earlier a m → atom_holds a f.atom ≡ true → IsBack a earlier m.assert other) → latest ≤ latest' → other ≤ latest' → PassesAtoms m n (k, latest) → PassesAtoms m n (k + 1, latest')
PassesAtoms-more m n k latest other latest' f l is leads one two h = record {
  within = omega (arith, l);
  later = omega (arith, one, h.later);
  at = λ earlier a nodes o. elim (nat_order o.place k) [
    | inl less ↦ IsBack-later a earlier m.assert latest latest' one (h.at earlier a nodes (record { place = o.place; from = o.from; below = less; within = o.within; holds = o.holds }))
    | inr more ↦ (
        let here : o.place ≡ k = omega (arith, more, o.below) in
        IsBack-later a earlier m.assert other latest' two (leads earlier a nodes (ap (λ (g : Fallen). atom_holds a g.atom) (sym (is f) ∙ ap (λ j. get_or m.pending.items j f) (sym here)) ∙ o.holds f)))
  ];
}

-- one node took the place of another
pub Carries-set : (m new : Minimiser) (top : ℕ) (n : Node) → new.assert ≡ m.assert → new.pending ≡ m.pending → new.nodes.items ≡ set m.nodes.items top n
    → ((earlier : List Fallen) (a : List ℤ) → AreNodesAt earlier a m → IsNodeAt a earlier m.assert m.pending.items n) → Carries m new
Carries-set m new top n assert opens nodes made = record {
  assert = assert;
  at = λ earlier a h.
      subst (λ t. All (IsNodeAt a earlier t new.pending.items) new.nodes.items) (sym assert)
      (subst (λ (o : List Fallen). All (IsNodeAt a earlier m.assert o) new.nodes.items) (sym (ap (λ v. v.items) opens))
      (subst (All (IsNodeAt a earlier m.assert m.pending.items)) (sym nodes) (All-set (IsNodeAt a earlier m.assert m.pending.items) m.nodes.items top n (made earlier a h) h)));
}

-- a node was passed over as far as it was found to lead back
pub node_passed : (m : Minimiser) (n n' : Node) → Contains m.nodes.items n → PassesAtoms m n (n'.next, n'.latest) → n'.failed ≡ n.failed → n'.denied ≡ n.denied → n'.end ≡ n.end
    → (earlier : List Fallen) (a : List ℤ) → AreNodesAt earlier a m → IsNodeAt a earlier m.assert m.pending.items n'
node_passed m n n' has passes failed denied end earlier a nodes fine on =
    elim (All-contains (IsNodeAt a earlier m.assert m.pending.items) m.nodes.items n nodes has (sym failed ∙ fine) (ap (atom_holds a) (sym denied) ∙ on)) [
      | inr h ↦ inr (IsBack-later a earlier m.assert n.latest n'.latest passes.later h)
      | inl o ↦ elim (nat_order o.place n'.next) [
        | inl less ↦ inr (passes.at earlier a nodes (record { place = o.place; from = o.from; below = less; within = o.within; holds = o.holds }))
        | inr more ↦ inl (record { place = o.place; from = more; below = omega (arith, o.below, end); within = o.within; holds = o.holds })
      ]
    ]

-- the same, where the node is what was read
pub Carries-passed : (m new : Minimiser) (nodes : List Node) (top : ℕ) (n' : Node) → nodes ≡ m.nodes.items → top < length nodes → new.assert ≡ m.assert → new.pending ≡ m.pending → new.nodes.items ≡ set m.nodes.items top n' → PassesAtoms m (get_or nodes top none_node) (n'.next, n'.latest)
    → n'.failed ≡ (get_or nodes top none_node).failed → n'.denied ≡ (get_or nodes top none_node).denied → n'.end ≡ (get_or nodes top none_node).end → Carries m new
Carries-passed m new nodes top n' same l assert pending set' passes failed denied end =
    Carries-set m new top n' assert pending set' (node_passed m (get_or nodes top none_node) n' (subst (λ (xs : List Node). Contains xs (get_or nodes top none_node)) same (Contains-get_or nodes top none_node l)) passes failed denied end)

pub Carries-refl : (m : Minimiser) → Carries m m
Carries-refl m = record { assert = refl; at = λ earlier a h. h }

pub Carries-trans : (m n o : Minimiser) → Carries m n → Carries n o → Carries m o
Carries-trans m n o h g = record { assert = g.assert ∙ h.assert; at = λ earlier a x. g.at earlier a (h.at earlier a x) }

pub AreNodes-carried : (C : List ℤ → Type 0) (s : Trail) (earlier : List Fallen) (m n : Minimiser) → Carries m n → AreNodes C s earlier m → AreNodes C s earlier n
AreNodes-carried C s earlier m n carries h = record { at = λ a c b. carries.at earlier a (h.at a c b) }

-- more atoms leave the nodes
IsNodeAt-grows : (a : List ℤ) (earlier : List Fallen) (t : Atom) (old new : List Fallen) (n : Node) → ExtendsPending old new → IsNodeAt a earlier t old n → IsNodeAt a earlier t new n
IsNodeAt-grows a earlier t old new n g h fine on = elim (h fine on) [
  | inl o ↦ inl (IsPendingAt-grows a old new n.next n.end n.end g (omega arith) o)
  | inr x ↦ inr x
]

pub AreNodes-kept : (C : List ℤ → Type 0) (s : Trail) (earlier : List Fallen) (m new : Minimiser) → new.assert ≡ m.assert → new.nodes ≡ m.nodes → ExtendsPending m.pending.items new.pending.items → AreNodes C s earlier m → AreNodes C s earlier new
AreNodes-kept C s earlier m new assert nodes grows h = record {
  at = λ a c b.
      subst (λ t. All (IsNodeAt a earlier t new.pending.items) new.nodes.items) (sym assert)
      (subst (All (IsNodeAt a earlier m.assert new.pending.items)) (sym (ap (λ v. v.items) nodes))
      (All-weaker (IsNodeAt a earlier m.assert m.pending.items) (IsNodeAt a earlier m.assert new.pending.items) (λ n x. IsNodeAt-grows a earlier m.assert m.pending.items new.pending.items n grows x) m.nodes.items (h.at a c b)));
}

pub AreNodes-none : (C : List ℤ → Type 0) (s : Trail) (earlier : List Fallen) (m : Minimiser) → m.nodes.items ≡ [] → AreNodes C s earlier m
AreNodes-none C s earlier m none' = record { at = λ a c b. subst (All (IsNodeAt a earlier m.assert m.pending.items)) (sym none') (All-nil _) }

-- one node more
pub AreNodes-added : (C : List ℤ → Type 0) (s : Trail) (earlier : List Fallen) (m new : Minimiser) (n : Node) → new.assert ≡ m.assert → new.pending ≡ m.pending → new.nodes.items ≡ m.nodes.items ++ n ∷ []
    → ((a : List ℤ) → C a → IsBacked s a → IsNodeAt a earlier m.assert m.pending.items n) → AreNodes C s earlier m → AreNodes C s earlier new
AreNodes-added C s earlier m new n assert opens nodes made h = record {
  at = λ a c b.
      subst (λ t. All (IsNodeAt a earlier t new.pending.items) new.nodes.items) (sym assert)
      (subst (λ (o : List Fallen). All (IsNodeAt a earlier m.assert o) new.nodes.items) (sym (ap (λ v. v.items) opens))
      (subst (All (IsNodeAt a earlier m.assert m.pending.items)) (sym nodes) (All-push (IsNodeAt a earlier m.assert m.pending.items) m.nodes.items n (h.at a c b) (made a c b))));
}

-- a reason whose atoms were traced
pub node_made : (C : List ℤ → Type 0) (s : Trail) (earlier : List Fallen) (m : Minimiser) (entry denied : Atom) (reason : List Atom) (new : List Fallen) (latest : ℕ) → ((a : List ℤ) → C a → IsBacked s a → clause_holds reason a ≡ true)
    → denied.subject ≡ entry.subject → ((x : ℤ) → meets denied.op denied.value x ≡ not (meets entry.op entry.value x)) → Traces s earlier m entry new latest reason
    → (a : List ℤ) → C a → IsBacked s a → atom_holds a denied ≡ true → IsPendingAt a new (length m.pending.items) (length new) ⊎ IsBack a earlier m.assert latest
node_made C s earlier m entry denied reason new latest given same negated traces a c b on =
    let why = Any-from_list_any (atom_holds a) reason (given a c b) in
    elim (All-contains (IsTraced s earlier m entry new latest) reason why.1 traces.each (why.0, why.2, why.3)) [
      | inl q ↦ absurd (not_together a denied entry denied (Implies-refl denied) same negated on (sym (ap (atom_holds a) q) ∙ why.4))
      | inr leads ↦ leads a b why.4
    ]

-- one more atom of a reason
pub IsTraced-more : (s : Trail) (earlier : List Fallen) (m : Minimiser) (entry : Atom) (new new' : List Fallen) (latest latest' : ℕ) → ExtendsPending new new' → latest ≤ latest' → (u : Atom) → IsTraced s earlier m entry new latest u → IsTraced s earlier m entry new' latest' u
IsTraced-more s earlier m entry new new' latest latest' g l u h = elim h [
  | inl q ↦ inl q
  | inr leads ↦ inr (λ a b on. elim (leads a b on) [
    | inl o ↦ inl (IsPendingAt-grows a new new' (length m.pending.items) (length new) (length new') g (g.longer) o)
    | inr x ↦ inr (IsBack-later a earlier m.assert latest latest' l x)
  ])
]

pub Traces-none : (s : Trail) (earlier : List Fallen) (m : Minimiser) (entry : Atom) (new : List Fallen) (latest : ℕ) (reason : List Atom) → Traces s earlier m entry new latest (take 0 reason)
Traces-none s earlier m entry new latest reason = record { each = subst (λ (l : List Atom). All (IsTraced s earlier m entry new latest) l) (sym (take_none reason)) (All-nil _) }
  where
    take_none : {X : Type 0} (xs : List X) → take 0 xs ≡ []
    take_none [] = refl
    take_none (x ∷ xs) = refl

pub Traces-more : (s : Trail) (earlier : List Fallen) (m : Minimiser) (entry : Atom) (new new' : List Fallen) (latest latest' : ℕ) (reason : List Atom) (i : ℕ) (d : Atom) → i < length reason → ExtendsPending new new' → latest ≤ latest'
    → IsTraced s earlier m entry new' latest' (get_or reason i d) → Traces s earlier m entry new latest (take i reason) → Traces s earlier m entry new' latest' (take (i + 1) reason)
Traces-more s earlier m entry new new' latest latest' reason i d l g one here h = record {
  each = All-more (IsTraced s earlier m entry new' latest') reason i d l
      (All-weaker (IsTraced s earlier m entry new latest) (IsTraced s earlier m entry new' latest') (λ u x. IsTraced-more s earlier m entry new new' latest latest' g one u x) (take i reason) h.each) here;
}

-- why an atom leads back: it implies that of the present level,
pub led_assert : (s : Trail) (earlier : List Fallen) (t u : Atom) → Implies u t → (a : List ℤ) → IsBacked s a → atom_holds a u ≡ true → IsBack a earlier t 0
led_assert s earlier t u i a b on = record { some = inl (holds_too u t a i on) }

-- or one of an earlier level,
pub led_earlier : (s : Trail) (earlier : List Fallen) (t u : Atom) (from : ℕ) → Any (IsImpliedFrom u from) earlier → (a : List ℤ) → IsBacked s a → atom_holds a u ≡ true → IsBack a earlier t from
led_earlier s earlier t u from h a b on = record { some = inr (h.0, h.1, h.2, h.3, record { holds = holds_too u h.1.atom a h.4.implied on; by = omega (arith, h.4.at) }) }

-- or is false at level 0
pub led_bottom : (s : Trail) (d : Draft) (t u : Atom) (from : ℕ) → IsDraft s d → u.subject < length s.first → IsFalseFrom s u from → from ≤ d.base → (a : List ℤ) → IsBacked s a → atom_holds a u ≡ true → IsBack a d.earlier t 0
led_bottom s d t u from draft inside f low a b on = absurd (false_at_bottom s d.base draft.sound draft.base a b u from inside low f.after on)

-- such an atom is traced,
pub traced_back : (s : Trail) (earlier : List Fallen) (m : Minimiser) (entry : Atom) (new : List Fallen) (t : Atom) (from latest : ℕ) (u : Atom) → t ≡ m.assert → from ≤ latest → ((a : List ℤ) → IsBacked s a → atom_holds a u ≡ true → IsBack a earlier t from)
    → IsTraced s earlier m entry new latest u
traced_back s earlier m entry new t from latest u same l leads = inr (λ a b on. inr (subst (λ x. IsBack a earlier x latest) same (IsBack-later a earlier t from latest l (leads a b on))))

-- and one that is to be looked at
pub traced_open : (s : Trail) (earlier : List Fallen) (m : Minimiser) (entry : Atom) (old : List Fallen) (latest : ℕ) (f : Fallen) → length m.pending.items ≤ length old → IsTraced s earlier m entry (old ++ f ∷ []) latest f.atom
traced_open s earlier m entry old latest f l = inr (λ a b on. inl (record {
  place = length old;
  from = l;
  below = omega (arith, length_push old f);
  within = omega (arith, length_push old f);
  holds = λ d. ap (λ (g : Fallen). atom_holds a g.atom) (get_or-append_seam old f [] d) ∙ on;
}))

-- one more atom of the reason, which adds none
pub TraceSoFar-back : (s : Trail) (earlier : List Fallen) (entry : Atom) (old m : Minimiser) (latest latest' i : ℕ) (u : Atom) → i < length old.reason.items → u ≡ get_or old.reason.items i u → latest ≤ latest' → IsTraced s earlier old entry m.pending.items latest' u
    → TraceSoFar s earlier entry old m latest i → TraceSoFar s earlier entry old m latest' (i + 1)
TraceSoFar-back s earlier entry old m latest latest' i u l is one traced h = record {
  assert = h.assert;
  nodes = h.nodes;
  reason = h.reason;
  grows = h.grows;
  traces = Traces-more s earlier old entry m.pending.items m.pending.items latest latest' old.reason.items i u l (ExtendsPending-refl m.pending.items) one (subst (λ (v : Atom). IsTraced s earlier old entry m.pending.items latest' v) is traced) h.traces;
}

-- and one that is to be looked at
pub TraceSoFar-on : (s : Trail) (earlier : List Fallen) (entry : Atom) (old m new : Minimiser) (latest i : ℕ) (f : Fallen) → i < length old.reason.items → f.atom ≡ get_or old.reason.items i f.atom → new.assert ≡ m.assert → new.nodes ≡ m.nodes → new.reason ≡ m.reason
    → new.pending.items ≡ m.pending.items ++ f ∷ [] → TraceSoFar s earlier entry old m latest i → TraceSoFar s earlier entry old new latest (i + 1)
TraceSoFar-on s earlier entry old m new latest i f l is assert nodes reason pushed h = record {
  assert = assert ∙ h.assert;
  nodes = nodes ∙ h.nodes;
  reason = reason ∙ h.reason;
  grows = subst (λ (xs : List Fallen). ExtendsPending old.pending.items xs) (sym pushed) (ExtendsPending-push old.pending.items m.pending.items f h.grows);
  traces = subst (λ (xs : List Fallen). Traces s earlier old entry xs latest (take (i + 1) old.reason.items)) (sym pushed)
      (Traces-more s earlier old entry m.pending.items (m.pending.items ++ f ∷ []) latest latest old.reason.items i f.atom l (ExtendsPending-push m.pending.items m.pending.items f (ExtendsPending-refl m.pending.items)) (omega arith)
      (subst (λ (v : Atom). IsTraced s earlier old entry (m.pending.items ++ f ∷ []) latest v) is (traced_open s earlier old entry m.pending.items latest f h.grows.longer)) h.traces);
}

-- a node whose reason was traced
pub node_traced : (C : List ℤ → Type 0) (s : Trail) (earlier : List Fallen) (m : Minimiser) (entry t : Atom) (n : Node) (reason : List Atom) (new : List Fallen) → t ≡ m.assert → n.next ≡ length m.pending.items → n.end ≡ length new → ((a : List ℤ) → C a → IsBacked s a → clause_holds reason a ≡ true)
    → n.denied.subject ≡ entry.subject → ((x : ℤ) → meets n.denied.op n.denied.value x ≡ not (meets entry.op entry.value x)) → Traces s earlier m entry new n.latest reason → (a : List ℤ) → C a → IsBacked s a → IsNodeAt a earlier t new n
node_traced C s earlier m entry t n reason new assert next end given same negated traces a c b fine on = elim (node_made C s earlier m entry n.denied reason new n.latest given same negated traces a c b on) [
  | inl o ↦ inl (record { place = o.place; from = omega (arith, o.from, next); below = omega (arith, o.below, end); within = o.within; holds = o.holds })
  | inr h ↦ inr (subst (λ (x : Atom). IsBack a earlier x n.latest) (sym assert) h)
]

-- an atom that leads back to ones that fell before it is redundant
pub IsRedundant-led : (C : List ℤ → Type 0) (s : Trail) (earlier : List Fallen) (m : Minimiser) (f : Fallen) (latest : ℕ) → AreNodes C s earlier m
    → ((others : List Fallen) (a : List ℤ) → AreNodesAt others a m → atom_holds a f.atom ≡ true → IsBack a others m.assert latest) → latest < f.from → IsRedundant C s earlier m.assert f
IsRedundant-led C s earlier m f latest nodes leads l = record {
  at = λ a c b on. elim ((leads earlier a (nodes.at a c b) on).some) [
    | inl x ↦ inl x
    | inr w ↦ inr (w.0, w.1, w.2, w.3, record { holds = w.4.holds; before = omega (arith, w.4.by, l) })
  ];
}
