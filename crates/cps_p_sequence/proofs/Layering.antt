-- Rows of marks, layer by layer, and what is found at each.
use Rattle.std.specs.Prelude.{Contains, ◌==◌}
use Rattle.std.proofs.Common.{◌≡◌, ◌⊎◌, inl, inr, ℕ, zero, suc, ◌+◌, ◌-◌, ◌<◌, ◌≤◌, ℤ, pos, ◌≤ℤ◌, Bool, true, false, List, [], ◌∷◌, ◌++◌, length, take, drop, get_or, set, refl, sym, ◌∙◌, ap, subst, arith}
use Rattle.std.proofs.lemmas.Int.{ints}
use Rattle.std.proofs.lemmas.List.{drop_more, drop_all, take_all, get_or_default, length-set, length-append, take-append-le, drop-append-le}
use Rattle.std.proofs.lemmas.List.Elements.{All-nil, All-push, All-head, All-contains, Contains-append_left, Contains-push, Contains-push_cases}
use Rattle.cps_domain.proofs.Tests.{true_le, le_true}
use Rattle.cps_literal.specs.declared.atom.Atom.{Atom}
use Rattle.cps_literal.specs.declared.atom.Op.{Op}
use Rattle.cps_literal.specs.declared.atom.Op.TheVariants.{Le, Ge, Ne}
use Rattle.cps_literal.specs.Truth.{value_at}
use Rattle.cps_instance.specs.declared.task.Body.{Body}
use Rattle.cps_instance.proofs.Agreeing.{All-append_left, All-append_right}
use Rattle.cps_trail.specs.Trail.{Trail, IsTrueNow}
use Rattle.cps_propagate.specs.Now.{IsOpenTo, IsEndNow}
use Rattle.cps_propagate.specs.Strength.{IsNarrowAt}
use Rattle.cps_rule.specs.declared.rule.Narrowing.{Narrowing}
use Rattle.cps_rule.specs.Rules.{IsGiven}
use Rattle.cps_p_sequence.specs.declared.states.Step.{Step}
use Rattle.cps_p_sequence.specs.Networks.{IsMarked}
use Rattle.cps_model.specs.Rising.{IsRising}
use Rattle.cps_p_sequence.specs.Runs.{CanEnd, AreEnding, AreReached, AreRows, AreTails, AreHeads, AreLabels, IsAlive, HasLabels, HasLabelsOf, AreClosed, IsFollowed, AllGiven, AllTargetsTrue, AreFound, IsFrom, IsSubjectUpTo, IsDead, IsNarrowed, IsRunLooked}
use Rattle.cps_p_sequence.proofs.Finding.{unequal, off_true}
use Rattle.cps_p_sequence.proofs.Numbering.{unmarked, marked_here, marked_still, marked_before}

pub last_or : (k n : ℕ) → k < n + 1 → (k < n) ⊎ (k ≡ n)
last_or k n l = grind arith

pub item_at : (steps : List Step) (k n : ℕ) (d t : Step) → n < length steps → t ≡ get_or steps n t → k ≡ n → t ≡ get_or steps k d
item_at steps k n d t l is e = is ∙ get_or_default steps n t d l ∙ ap (λ (j : ℕ). get_or steps j d) (sym e)

-- the tails of steps to marked states
module _ (s : Trail) (i : ℕ) (steps : List Step) (heads : List Bool) where
  pub tails_begun : (row : List Bool) → length row ≡ length heads → ((q : ℕ) → q < length row → get_or row q false ≡ false) → AreTails s i steps 0 heads row
  tails_begun row size blank = record { size = size; all = λ k d l m o h. absurd (omega arith); from = λ q h. absurd (unmarked row blank q h) }

  pub tails_passed : (n : ℕ) (row : List Bool) (t : Step) → n < length steps → t ≡ get_or steps n t → (IsOpenTo s i t.label → IsMarked heads t.head → ⊥) → AreTails s i steps n heads row → AreTails s i steps (n + 1) heads row
  tails_passed n row t l is none p = record {
    size = p.size;
    all = λ k d m o. elim (last_or k n m) [
      | inl q ↦ p.all k d q o
      | inr q ↦ subst (λ (x : Step). IsOpenTo s i x.label → IsMarked heads x.head → IsMarked row x.tail) (item_at steps k n d t l is q) (λ a b. absurd (none a b))
    ];
    from = p.from;
  }

  pub tails_marked : (n : ℕ) (old new : List Bool) (t : Step) → n < length steps → t ≡ get_or steps n t → t.tail < length old → new ≡ set old t.tail true → IsOpenTo s i t.label → IsMarked heads t.head → AreTails s i steps n heads old → AreTails s i steps (n + 1) heads new
  tails_marked n old new t l is room e o h p = record {
    size = ap length e ∙ length-set old t.tail true ∙ p.size;
    all = λ k d m r. elim (last_or k n m) [
      | inl q ↦ (λ a b. subst (λ (row : List Bool). IsMarked row (get_or steps k d).tail) (sym e) (marked_still old t.tail (get_or steps k d).tail room (p.all k d q r a b)))
      | inr q ↦ subst (λ (x : Step). IsOpenTo s i x.label → IsMarked heads x.head → IsMarked new x.tail) (item_at steps k n d t l is q) (λ a b. subst (λ (row : List Bool). IsMarked row t.tail) (sym e) (marked_here old t.tail room))
    ];
    from = λ q h'. elim (marked_before old t.tail q (subst (λ (row : List Bool). IsMarked row q) e h')) [
      | inl same ↦ (t, (n, l, sym is), sym same, o, h)
      | inr before ↦ p.from q before
    ];
  }

-- the heads of steps from marked states
module _ (s : Trail) (i : ℕ) (steps : List Step) (tails : List Bool) where
  pub heads_begun : (row : List Bool) → length row ≡ length tails → ((q : ℕ) → q < length row → get_or row q false ≡ false) → AreHeads s i steps 0 tails row
  heads_begun row size blank = record { size = size; all = λ k d l m o h. absurd (omega arith); from = λ q h. absurd (unmarked row blank q h) }

  pub heads_passed : (n : ℕ) (row : List Bool) (t : Step) → n < length steps → t ≡ get_or steps n t → (IsOpenTo s i t.label → IsMarked tails t.tail → ⊥) → AreHeads s i steps n tails row → AreHeads s i steps (n + 1) tails row
  heads_passed n row t l is none p = record {
    size = p.size;
    all = λ k d m o. elim (last_or k n m) [
      | inl q ↦ p.all k d q o
      | inr q ↦ subst (λ (x : Step). IsOpenTo s i x.label → IsMarked tails x.tail → IsMarked row x.head) (item_at steps k n d t l is q) (λ a b. absurd (none a b))
    ];
    from = p.from;
  }

  pub heads_marked : (n : ℕ) (old new : List Bool) (t : Step) → n < length steps → t ≡ get_or steps n t → t.head < length old → new ≡ set old t.head true → IsOpenTo s i t.label → IsMarked tails t.tail → AreHeads s i steps n tails old → AreHeads s i steps (n + 1) tails new
  heads_marked n old new t l is room e o h p = record {
    size = ap length e ∙ length-set old t.head true ∙ p.size;
    all = λ k d m r. elim (last_or k n m) [
      | inl q ↦ (λ a b. subst (λ (row : List Bool). IsMarked row (get_or steps k d).head) (sym e) (marked_still old t.head (get_or steps k d).head room (p.all k d q r a b)))
      | inr q ↦ subst (λ (x : Step). IsOpenTo s i x.label → IsMarked tails x.tail → IsMarked new x.head) (item_at steps k n d t l is q) (λ a b. subst (λ (row : List Bool). IsMarked row t.head) (sym e) (marked_here old t.head room))
    ];
    from = λ q h'. elim (marked_before old t.head q (subst (λ (row : List Bool). IsMarked row q) e h')) [
      | inl same ↦ (t, (n, l, sym is), sym same, o, h)
      | inr before ↦ p.from q before
    ];
  }

-- the labels of steps between marked states
module _ (s : Trail) (i : ℕ) (steps : List Step) (tails heads : List Bool) where
  pub labels_begun : (labels : List ℤ) → labels ≡ [] → AreLabels s i steps 0 tails heads labels
  labels_begun labels e = record { all = λ k d l m o a b. absurd (omega arith); led = λ v c. absurd (none v (subst (λ (vs : List ℤ). Contains vs v) e c)) }
    where
      none : (v : ℤ) → Contains [] v → ⊥
      none v c = let l = c.1 in omega arith

  pub labels_passed : (n : ℕ) (labels : List ℤ) (t : Step) → n < length steps → t ≡ get_or steps n t → (IsOpenTo s i t.label → IsMarked tails t.tail → IsMarked heads t.head → ⊥) → AreLabels s i steps n tails heads labels → AreLabels s i steps (n + 1) tails heads labels
  labels_passed n labels t l is none p = record {
    all = λ k d m o. elim (last_or k n m) [
      | inl q ↦ p.all k d q o
      | inr q ↦ subst (λ (x : Step). IsOpenTo s i x.label → IsMarked tails x.tail → IsMarked heads x.head → Contains labels x.label) (item_at steps k n d t l is q) (λ a b e. absurd (none a b e))
    ];
    led = p.led;
  }

  pub labels_more : (n : ℕ) (old new : List ℤ) (t : Step) → n < length steps → t ≡ get_or steps n t → new ≡ old ++ t.label ∷ [] → IsOpenTo s i t.label → IsMarked tails t.tail → IsMarked heads t.head → AreLabels s i steps n tails heads old → AreLabels s i steps (n + 1) tails heads new
  labels_more n old new t l is e o a b p = record {
    all = λ k d m r. elim (last_or k n m) [
      | inl q ↦ (λ x y z. subst (λ (vs : List ℤ). Contains vs (get_or steps k d).label) (sym e) (Contains-append_left old (t.label ∷ []) (get_or steps k d).label (p.all k d q r x y z)))
      | inr q ↦ subst (λ (x : Step). IsOpenTo s i x.label → IsMarked tails x.tail → IsMarked heads x.head → Contains new x.label) (item_at steps k n d t l is q) (λ x y z. subst (λ (vs : List ℤ). Contains vs t.label) (sym e) (Contains-push old t.label))
    ];
    led = λ v c. elim (Contains-push_cases old t.label v (subst (λ (vs : List ℤ). Contains vs v) e c)) [
      | inl before ↦ p.led v before
      | inr same ↦ (t, (n, l, sym is), same, subst (λ (x : ℤ). IsOpenTo s i x) same o, a, b)
    ];
  }

  pub labels_listed : (n : ℕ) (labels : List ℤ) (t : Step) → n < length steps → t ≡ get_or steps n t → Contains labels t.label → AreLabels s i steps n tails heads labels → AreLabels s i steps (n + 1) tails heads labels
  labels_listed n labels t l is has p = record {
    all = λ k d m o. elim (last_or k n m) [
      | inl q ↦ p.all k d q o
      | inr q ↦ subst (λ (x : Step). IsOpenTo s i x.label → IsMarked tails x.tail → IsMarked heads x.head → Contains labels x.label) (item_at steps k n d t l is q) (λ x y z. has)
    ];
    led = p.led;
  }

  pub labels_sorted : (n : ℕ) (old new : List ℤ) → ((v : ℤ) → Contains old v → Contains new v) → ((v : ℤ) → Contains new v → Contains old v) → AreLabels s i steps n tails heads old → AreLabels s i steps n tails heads new
  labels_sorted n old new kept none p = record { all = λ k d l m o a b. kept (get_or steps k d).label (p.all k d l m o a b); led = λ v c. p.led v (none v c) }

-- rows, one position more
module _ (s : Trail) (steps : List Step) (last : List Bool) where
  pub ending_begun : (row : List Bool) → row ≡ last → AreEnding s steps last [] row
  ending_begun row e = subst (λ (r : List Bool). AreEnding s steps last [] r) (sym e) (record { size = refl; ends = λ q h. h; all = λ q h. h })

  pub ending_more : (i : ℕ) (is : List ℕ) (heads tails : List Bool) → AreEnding s steps last is heads → AreTails s i steps (length steps) heads tails → AreEnding s steps last (i ∷ is) tails
  ending_more i is heads tails p t = record {
    size = t.size ∙ p.size;
    ends = λ q h. (let f = t.from q h in (f.0, f.1, f.2, f.3, p.ends f.0.head f.4));
    all = λ q h.
        let at : get_or steps h.1.0 h.0 ≡ h.0 = h.1.2 in
        let mark : IsMarked tails h.0.tail = subst (λ (x : Step). IsOpenTo s i x.label → IsMarked heads x.head → IsMarked tails x.tail) at (t.all h.1.0 h.0 h.1.1 h.1.1) h.3 (p.all h.0.head h.4) in
        subst (λ (p : ℕ). IsMarked tails p) h.2 mark;
  }

  pub reached_begun : (first count : ℕ) (is : List ℕ) (row : List Bool) → length row ≡ count → ((q : ℕ) → (IsMarked row q → q ≡ first) × (q ≡ first → IsMarked row q)) → AreReached s steps first count is 0 row
  reached_begun first count is row size marked = record { size = size; reached = λ q h. (marked q).0 h; all = λ q h. (marked q).1 h }

  pub reached_more : (first count : ℕ) (is : List ℕ) (n i : ℕ) (tails heads : List Bool) → i ≡ get_or is n 0 → AreReached s steps first count is n tails → AreHeads s i steps (length steps) tails heads → AreReached s steps first count is (n + 1) heads
  reached_more first count is n i tails heads is-i p t =
      let e : suc n ≡ n + 1 = omega arith in
      subst (λ (m : ℕ). AreReached s steps first count is m heads) e (record {
        size = t.size ∙ p.size;
        reached = λ q h. (let f = t.from q h in (f.0, f.1, f.2, subst (λ (j : ℕ). IsOpenTo s j f.0.label) is-i f.3, p.reached f.0.tail f.4));
        all = λ q h.
            let at : get_or steps h.1.0 h.0 ≡ h.0 = h.1.2 in
            let mark : IsMarked heads h.0.head = subst (λ (x : Step). IsOpenTo s i x.label → IsMarked tails x.tail → IsMarked heads x.head) at (t.all h.1.0 h.0 h.1.1 h.1.1) (subst (λ (j : ℕ). IsOpenTo s j h.0.label) (sym is-i) h.3) (p.all h.0.tail h.4) in
            subst (λ (p : ℕ). IsMarked heads p) h.2 mark;
      })

  -- the rows so far at the walk back, and the one that comes next
  pub record AreBack (is : List ℕ) (n : ℕ) (below row : List Bool) : Type 0 where
    pub rows : AreRows s steps last (drop (length is - n) is) below
    pub ends : AreEnding s steps last (drop (length is - n) is) row

  pub back_begun : (is : List ℕ) (rows ends : List Bool) → rows ≡ [] → ends ≡ last → AreBack is 0 rows ends
  back_begun is rows ends e f =
      let none : drop (length is - 0) is ≡ [] = drop_all (length is - 0) is (omega arith) in
      record {
        rows = subst (λ (js : List ℕ). AreRows s steps last js rows) (sym none) e;
        ends = subst (λ (js : List ℕ). AreEnding s steps last js ends) (sym none) (ending_begun ends f);
      }

  pub back_more : (is : List ℕ) (n i : ℕ) (old new ends tails : List Bool) → n < length is → i ≡ get_or is (length is - 1 - n) 0 → new ≡ old ++ ends → AreTails s i steps (length steps) ends tails → AreBack is n old ends → AreBack is (n + 1) new tails
  back_more is n i old new ends tails l is-i e t p =
      let k = length is - 1 - n in
      let a : k + 1 ≡ length is - n = omega arith in
      let b : k ≡ length is - (n + 1) = omega arith in
      let m : k < length is = omega arith in
      let split : i ∷ drop (length is - n) is ≡ drop (length is - (n + 1)) is = ap (λ (j : ℕ). j ∷ drop (length is - n) is) is-i ∙ ap (λ (j : ℕ). get_or is k 0 ∷ drop j is) (sym a) ∙ sym (drop_more is k 0 m) ∙ ap (λ (j : ℕ). drop j is) b in
      record {
        rows = subst (λ (js : List ℕ). AreRows s steps last js new) split (old, ends, e, p.ends, p.rows);
        ends = subst (λ (js : List ℕ). AreEnding s steps last js tails) split (ending_more i (drop (length is - n) is) ends tails p.ends t);
      }

  pub back_whole : (is : List ℕ) (n : ℕ) (rows ends : List Bool) → length is ≤ n → AreBack is n rows ends → AreRows s steps last is rows × AreEnding s steps last is ends
  back_whole is n rows ends l p =
      let e : length is - n ≡ 0 = omega arith in
      let rows' : AreRows s steps last (drop 0 is) rows = subst (λ (j : ℕ). AreRows s steps last (drop j is) rows) e p.rows in
      let ends' : AreEnding s steps last (drop 0 is) ends = subst (λ (j : ℕ). AreEnding s steps last (drop j is) ends) e p.ends in
      (rows', ends')

  -- the row on top, and those below it
  pub record HasTop (i : ℕ) (is : List ℕ) (rows : List Bool) : Type 0 where
    pub room : length last ≤ length rows
    pub top : AreEnding s steps last is (drop (length rows - length last) rows)
    pub below : AreRows s steps last is (take (length rows - length last) rows)

  pub top_of : (is : List ℕ) (n : ℕ) (rows : List Bool) → n < length is → AreRows s steps last (drop n is) rows → HasTop (get_or is n 0) (drop (n + 1) is) rows
  top_of is n rows l p =
      let q : AreRows s steps last (get_or is n 0 ∷ drop (n + 1) is) rows = subst (λ (js : List ℕ). AreRows s steps last js rows) (drop_more is n 0 l) p in
      parted q.0 q.1 q.2 q.3 q.4
    where
      parted : (below row : List Bool) → rows ≡ below ++ row → AreEnding s steps last (drop (n + 1) is) row → AreRows s steps last (drop (n + 1) is) below → HasTop (get_or is n 0) (drop (n + 1) is) rows
      parted below row e ending rest =
          let long : length rows ≡ length below + length row = ap length e ∙ length-append below row in
          let size : length row ≡ length last = ending.size in
          let at : length rows - length last ≡ length below = omega arith in
          let top : drop (length rows - length last) rows ≡ row =
          ap (λ (j : ℕ). drop j rows) at ∙ ap (λ (xs : List Bool). drop (length below) xs) e ∙ drop-append-le (length below) below row (omega arith) ∙ ap (λ (xs : List Bool). xs ++ row) (drop_all (length below) below (omega arith)) in
          let under : take (length rows - length last) rows ≡ below =
          ap (λ (j : ℕ). take j rows) at ∙ ap (λ (xs : List Bool). take (length below) xs) e ∙ take-append-le (length below) below row (omega arith) ∙ take_all (length below) below (omega arith) in
          record {
            room = omega arith;
            top = subst (λ (r : List Bool). AreEnding s steps last (drop (n + 1) is) r) (sym top) ending;
            below = subst (λ (r : List Bool). AreRows s steps last (drop (n + 1) is) r) (sym under) rest;
          }

  -- what is found, one position more
  module _ (first count : ℕ) (is : List ℕ) (n i : ℕ) (tails heads : List Bool) (labels : List ℤ) (l : n < length is) (is-i : i ≡ get_or is n 0)
      (reached : AreReached s steps first count is n tails) (ending : AreEnding s steps last (drop (n + 1) is) heads) (alive : AreLabels s i steps (length steps) tails heads labels) where
    labels_alive : (v : ℤ) → Contains labels v → IsAlive s steps first last is n v
    labels_alive v c =
        let h = alive.led v c in
        (h.0, h.1, h.2, subst (λ (j : ℕ). IsOpenTo s j v) is-i h.3, reached.reached h.0.tail h.4, ending.ends h.0.head h.5)

    alive_labels : (v : ℤ) → IsAlive s steps first last is n v → Contains labels v
    alive_labels v h =
        let at : get_or steps h.1.0 h.0 ≡ h.0 = h.1.2 in
        let here : IsOpenTo s i h.0.label = subst (λ (j : ℕ). IsOpenTo s j h.0.label) (sym is-i) (subst (λ (x : ℤ). IsOpenTo s (get_or is n 0) x) (sym h.2) h.3) in
        let listed : Contains labels h.0.label = subst (λ (x : Step). IsOpenTo s i x.label → IsMarked tails x.tail → IsMarked heads x.head → Contains labels x.label) at (alive.all h.1.0 h.0 h.1.1 h.1.1) here (reached.all h.0.tail h.4) (ending.all h.0.head h.5) in
        subst (λ (x : ℤ). Contains labels x) h.2 listed

    pub labels_open : (v : ℤ) → Contains labels v → IsOpenTo s i v
    labels_open v c = let h = alive.led v c in h.3

    pub has_labels : (b : Body) → IsFollowed b s steps first last is → HasLabels b s i labels
    has_labels b f = record { at = λ xs admitted body. subst (λ (j : ℕ). Contains labels (value_at xs j)) (sym is-i) (alive_labels (value_at xs (get_or is n 0)) (f.at n l xs admitted body)) }

    pub found_more : (alphabet : List ℤ) → HasLabelsOf steps alphabet → (old new : List Narrowing)
        → ((b : Body) → HasLabels b s i labels → AllGiven b s old → AllGiven b s new) → (AllTargetsTrue s new → AllTargetsTrue s old) → (AllTargetsTrue s new → ((v : ℤ) → Contains labels v → IsOpenTo s i v) → (v : ℤ) → IsEndNow s i v → Contains labels v) → (AllTargetsTrue s new → AreClosed s i alphabet labels)
        → (AllTargetsTrue s new → ((v : ℤ) → Contains labels v → IsOpenTo s i v) → IsNarrowAt s i → (x : ℤ) → IsOpenTo s i x → Contains labels x)
        → AreFound s steps first last is n old → AreFound s steps first last is (n + 1) new
    found_more alphabet covers old new given kept ends closed whole p = record {
      given = λ b f. given b (has_labels b f) (p.given b f);
      ends = λ all. record {
        at = λ k v m o h. elim (last_or k n m) [
          | inl q ↦ (p.ends (kept all)).at k v q o h
          | inr q ↦ subst (λ (j : ℕ). IsAlive s steps first last is j v) (sym q) (labels_alive v (ends all labels_open v (subst (λ (j : ℕ). IsEndNow s j v) (ap (λ (j : ℕ). get_or is j 0) q ∙ sym is-i) h)))
        ];
        labels = λ k t m o c open'. elim (last_or k n m) [
          | inl q ↦ (p.ends (kept all)).labels k t q o c open'
          | inr q ↦ subst (λ (j : ℕ). IsAlive s steps first last is j t.label) (sym q)
              (labels_alive t.label (closed all t.label (All-contains (λ x. Contains alphabet x.label) steps t covers c) (subst (λ (j : ℕ). IsOpenTo s j t.label) (ap (λ (j : ℕ). get_or is j 0) q ∙ sym is-i) open')))
        ];
        values = λ k v m o narrow open'. elim (last_or k n m) [
          | inl q ↦ (p.ends (kept all)).values k v q o narrow open'
          | inr q ↦
              let here : get_or is k 0 ≡ i = ap (λ (j : ℕ). get_or is j 0) q ∙ sym is-i in
              subst (λ (j : ℕ). IsAlive s steps first last is j v) (sym q)
              (labels_alive v (whole all labels_open (subst (λ (j : ℕ). IsNarrowAt s j) here narrow) v (subst (λ (j : ℕ). IsOpenTo s j v) here open')))
        ];
      };
    }

    pub dead_by : (found : List Narrowing) → labels ≡ [] → AreFound s steps first last is n found → IsDead s steps first last is found
    dead_by found e p = record {
      given = p.given;
      nowhere = λ b f xs admitted body. (let c = subst (λ (vs : List ℤ). Contains vs (value_at xs i)) e ((has_labels b f).at xs admitted body) in let m = c.1 in omega arith);
    }

  pub found_begun : (first : ℕ) (is : List ℕ) (found : List Narrowing) → found ≡ [] → AreFound s steps first last is 0 found
  found_begun first is found e = record {
    given = λ b f. subst (λ (ns : List Narrowing). AllGiven b s ns) (sym e) (All-nil (λ (n : Narrowing). IsGiven b s n.target));
    ends = λ all. record { at = λ k v m o h. absurd (omega arith); labels = λ k t m o c open'. absurd (omega arith); values = λ k v m o narrow open'. absurd (omega arith) };
  }

  pub dead_from : (first : ℕ) (is : List ℕ) (ends : List Bool) (found : List Narrowing) → found ≡ [] → get_or ends first false ≡ false → AreEnding s steps last is ends → IsDead s steps first last is found
  dead_from first is ends found e no' p = record {
    given = (found_begun first is found e).given;
    nowhere = λ b f xs admitted body. (let m : get_or ends first false ≡ true = p.all first (f.whole xs admitted body) in let g : true ≡ false = sym m ∙ no' in cc g);
  }

-- atoms that are found
abbrev atom_of : ℕ → Op → ℤ → Atom
atom_of i o v = record { subject = i; op = o; value = v }

same_atom : (t : Atom) (i : ℕ) (o : Op) (v : ℤ) → t.subject ≡ i → t.op ≡ o → t.value ≡ v → t ≡ atom_of i o v
same_atom t i o v a b c = ap (λ (x : ℕ). atom_of x t.op t.value) a ∙ ap (λ (x : Op). atom_of i x t.value) b ∙ ap (λ (x : ℤ). atom_of i o x) c

module _ (s : Trail) (old new : List Narrowing) (n : Narrowing) (pushed : new ≡ old ++ n ∷ []) where
  pub more_kept : AllTargetsTrue s new → AllTargetsTrue s old
  more_kept all = All-append_left (λ m. IsTrueNow s m.target) old (n ∷ []) (subst (λ (ns : List Narrowing). AllTargetsTrue s ns) pushed all)

  more_true : AllTargetsTrue s new → IsTrueNow s n.target
  more_true all = All-head (λ m. IsTrueNow s m.target) n [] (All-append_right (λ m. IsTrueNow s m.target) old (n ∷ []) (subst (λ (ns : List Narrowing). AllTargetsTrue s ns) pushed all))

  more_given : (b : Body) → IsGiven b s n.target → AllGiven b s old → AllGiven b s new
  more_given b g gs = subst (λ (ns : List Narrowing). AllGiven b s ns) (sym pushed) (All-push (λ m. IsGiven b s m.target) old n gs g)

  module _ (i : ℕ) (v : ℤ) (subject : n.target.subject ≡ i) (value : n.target.value ≡ v) where
    module _ (op : n.target.op ≡ Ge) where
      ge : n.target ≡ atom_of i Ge v
      ge = same_atom n.target i Ge v subject op value

      pub from_given : (b : Body) → i < length s.first → IsFrom b s i v → AllGiven b s old → AllGiven b s new
      from_given b inside h = more_given b (subst (λ (u : Atom). IsGiven b s u) (sym ge) (record { subject = inside; at = λ xs admitted body. le_true v (value_at xs i) (h.at xs admitted body) }))

      pub from_true : AllTargetsTrue s new → (x : ℤ) → IsOpenTo s i x → v ≤ℤ x
      from_true all x o = true_le v x (subst (λ (u : Atom). IsTrueNow s u) ge (more_true all) x o)

    module _ (op : n.target.op ≡ Le) where
      le : n.target ≡ atom_of i Le v
      le = same_atom n.target i Le v subject op value

      pub up_to_given : (b : Body) → i < length s.first → IsSubjectUpTo b s i v → AllGiven b s old → AllGiven b s new
      up_to_given b inside h = more_given b (subst (λ (u : Atom). IsGiven b s u) (sym le) (record { subject = inside; at = λ xs admitted body. le_true (value_at xs i) v (h.at xs admitted body) }))

      pub up_to_true : AllTargetsTrue s new → (x : ℤ) → IsOpenTo s i x → x ≤ℤ v
      up_to_true all x o = true_le x v (subst (λ (u : Atom). IsTrueNow s u) le (more_true all) x o)

-- a label that is none of a subject's own
module _ (s : Trail) (old new : List Narrowing) (n : Narrowing) (pushed : new ≡ old ++ n ∷ []) (i : ℕ) (v : ℤ) (subject : n.target.subject ≡ i) (value : n.target.value ≡ v) (op : n.target.op ≡ Ne) where
  pub hole_given : (b : Body) (labels : List ℤ) → i < length s.first → (Contains labels v → ⊥) → HasLabels b s i labels → AllGiven b s old → AllGiven b s new
  hole_given b labels inside none h =
      more_given s old new n pushed b (subst (λ (u : Atom). IsGiven b s u) (sym (same_atom n.target i Ne v subject op value))
      (record { subject = inside; at = λ xs admitted body. unequal (value_at xs i) v (λ e. none (subst (λ (x : ℤ). Contains labels x) e (h.at xs admitted body))) }))

  pub hole_true : AllTargetsTrue s new → IsOpenTo s i v → ⊥
  hole_true all o = off_true s i v (subst (λ (u : Atom). IsTrueNow s u) (same_atom n.target i Ne v subject op value) (more_true s old new n pushed all)) o

-- values of an alphabet that a subject may have, so far
module _ (s : Trail) (i : ℕ) (alphabet labels : List ℤ) (n : ℕ) where
  pub closed_more : ((k : ℕ) → k < n → IsOpenTo s i (get_or alphabet k (pos 0)) → Contains labels (get_or alphabet k (pos 0))) → (IsOpenTo s i (get_or alphabet n (pos 0)) → Contains labels (get_or alphabet n (pos 0)))
      → (k : ℕ) → k < n + 1 → IsOpenTo s i (get_or alphabet k (pos 0)) → Contains labels (get_or alphabet k (pos 0))
  closed_more before here k l = elim (last_or k n l) [
    | inl m ↦ before k m
    | inr e ↦ subst (λ (j : ℕ). IsOpenTo s i (get_or alphabet j (pos 0)) → Contains labels (get_or alphabet j (pos 0))) (sym e) here
  ]

  pub closed_whole : length alphabet ≤ n → ((k : ℕ) → k < n → IsOpenTo s i (get_or alphabet k (pos 0)) → Contains labels (get_or alphabet k (pos 0))) → AreClosed s i alphabet labels
  closed_whole l before v has =
      let m = has.1 in
      subst (λ (x : ℤ). IsOpenTo s i x → Contains labels x) (get_or_default alphabet has.0 (pos 0) v has.1 ∙ has.2) (before has.0 (omega arith))

-- the first and the last of rising labels
module _ (s : Trail) (i : ℕ) (labels : List ℤ) (some : 0 < length labels) (rising : IsRising labels) where
  from_first : (v : ℤ) → Contains labels v → get_or labels 0 (pos 0) ≤ℤ v
  from_first v c = subst (λ (x : ℤ). get_or labels 0 (pos 0) ≤ℤ x) (get_or_default labels c.0 (pos 0) v c.1 ∙ c.2) (first_or c.0 c.1)
    where
      first_or : (k : ℕ) → k < length labels → get_or labels 0 (pos 0) ≤ℤ get_or labels k (pos 0)
      first_or zero l = omega (arith, ints)
      first_or (suc k) l = let h = rising 0 (suc k) (omega arith) l in omega (arith, ints)

  up_to_last : (v : ℤ) → Contains labels v → v ≤ℤ get_or labels (length labels - 1) (pos 0)
  up_to_last v c = subst (λ (x : ℤ). x ≤ℤ get_or labels (length labels - 1) (pos 0)) (get_or_default labels c.0 (pos 0) v c.1 ∙ c.2) (last_or' c.0 c.1 (last_or c.0 (length labels - 1) (let l = c.1 in omega arith)))
    where
      last_or' : (k : ℕ) → k < length labels → (k < length labels - 1) ⊎ (k ≡ length labels - 1) → get_or labels k (pos 0) ≤ℤ get_or labels (length labels - 1) (pos 0)
      last_or' k l (inl m) = let h = rising k (length labels - 1) m (omega arith) in omega (arith, ints)
      last_or' k l (inr e) = let h : get_or labels k (pos 0) ≡ get_or labels (length labels - 1) (pos 0) = ap (λ (j : ℕ). get_or labels j (pos 0)) e in omega (arith, ints)

  pub labels_from : (b : Body) → HasLabels b s i labels → IsFrom b s i (get_or labels 0 (pos 0))
  labels_from b h = record { at = λ xs admitted body. from_first (value_at xs i) (h.at xs admitted body) }

  pub labels_up_to : (b : Body) → HasLabels b s i labels → IsSubjectUpTo b s i (get_or labels (length labels - 1) (pos 0))
  labels_up_to b h = record { at = λ xs admitted body. up_to_last (value_at xs i) (h.at xs admitted body) }

  pub ends_listed : ((x : ℤ) → IsOpenTo s i x → get_or labels 0 (pos 0) ≤ℤ x) → ((x : ℤ) → IsOpenTo s i x → x ≤ℤ get_or labels (length labels - 1) (pos 0)) → ((v : ℤ) → Contains labels v → IsOpenTo s i v) → (v : ℤ) → IsEndNow s i v → Contains labels v
  ends_listed low high opens v h = elim h.last [
    | inl below ↦
        let a = below (get_or labels 0 (pos 0)) (opens (get_or labels 0 (pos 0)) first_listed) in
        let b = low v h.reached in
        let e : get_or labels 0 (pos 0) ≡ v = omega (arith, ints) in
        subst (λ (x : ℤ). Contains labels x) e first_listed
    | inr above ↦
        let a = above (get_or labels (length labels - 1) (pos 0)) (opens (get_or labels (length labels - 1) (pos 0)) last_listed) in
        let b = high v h.reached in
        let e : get_or labels (length labels - 1) (pos 0) ≡ v = omega (arith, ints) in
        subst (λ (x : ℤ). Contains labels x) e last_listed
  ]
    where
      first_listed : Contains labels (get_or labels 0 (pos 0))
      first_listed = (0, some, get_or_default labels 0 (get_or labels 0 (pos 0)) (pos 0) some)

      last_listed : Contains labels (get_or labels (length labels - 1) (pos 0))
      last_listed = (length labels - 1, omega arith, get_or_default labels (length labels - 1) (get_or labels (length labels - 1) (pos 0)) (pos 0) (omega arith))

-- the same of lists that are lent
pub labels_at : (s : Trail) (i : ℕ) (steps : List Step) (tails tails' heads heads' : List Bool) (labels : List ℤ) → tails' ≡ tails → heads' ≡ heads → AreLabels s i steps (length steps) tails' heads' labels → AreLabels s i steps (length steps) tails heads labels
labels_at s i steps tails tails' heads heads' labels e f p =
    subst (λ (xs : List Bool). AreLabels s i steps (length steps) xs heads labels) e (subst (λ (ys : List Bool). AreLabels s i steps (length steps) tails' ys labels) f p)

pub heads_at : (s : Trail) (i : ℕ) (steps : List Step) (tails tails' heads : List Bool) → tails' ≡ tails → AreHeads s i steps (length steps) tails' heads → AreHeads s i steps (length steps) tails heads
heads_at s i steps tails tails' heads e p = subst (λ (xs : List Bool). AreHeads s i steps (length steps) xs heads) e p

pub given_at : (s : Trail) (i : ℕ) (labels labels' : List ℤ) (old new : List Narrowing) → labels' ≡ labels → ((b : Body) → HasLabels b s i labels' → AllGiven b s old → AllGiven b s new) → (b : Body) → HasLabels b s i labels → AllGiven b s old → AllGiven b s new
given_at s i labels labels' old new e given b h = given b (subst (λ (vs : List ℤ). HasLabels b s i vs) (sym e) h)

pub listed_ends : (s : Trail) (i : ℕ) (labels labels' : List ℤ) (new : List Narrowing) → labels' ≡ labels → (AllTargetsTrue s new → ((v : ℤ) → Contains labels' v → IsOpenTo s i v) → (v : ℤ) → IsEndNow s i v → Contains labels' v)
    → AllTargetsTrue s new → ((v : ℤ) → Contains labels v → IsOpenTo s i v) → (v : ℤ) → IsEndNow s i v → Contains labels v
listed_ends s i labels labels' new e ends all opens v h =
    subst (λ (vs : List ℤ). Contains vs v) e (ends all (λ x c. opens x (subst (λ (vs : List ℤ). Contains vs x) e c)) v h)

pub whole_at : (s : Trail) (i : ℕ) (labels labels' : List ℤ) (new : List Narrowing) → labels' ≡ labels → (AllTargetsTrue s new → ((v : ℤ) → Contains labels' v → IsOpenTo s i v) → IsNarrowAt s i → (x : ℤ) → IsOpenTo s i x → Contains labels' x)
    → AllTargetsTrue s new → ((v : ℤ) → Contains labels v → IsOpenTo s i v) → IsNarrowAt s i → (x : ℤ) → IsOpenTo s i x → Contains labels x
whole_at s i labels labels' new e whole = subst (λ (vs : List ℤ). AllTargetsTrue s new → ((v : ℤ) → Contains vs v → IsOpenTo s i v) → IsNarrowAt s i → (x : ℤ) → IsOpenTo s i x → Contains vs x) e whole

-- by all steps
pub tails_whole : (s : Trail) (i : ℕ) (steps : List Step) (n : ℕ) (heads tails : List Bool) → length steps ≤ n → AreTails s i steps n heads tails → AreTails s i steps (length steps) heads tails
tails_whole s i steps n heads tails past p = record { size = p.size; all = λ k d l m. p.all k d (omega (arith, m, past)) m; from = p.from }

pub heads_whole : (s : Trail) (i : ℕ) (steps : List Step) (n : ℕ) (tails heads : List Bool) → length steps ≤ n → AreHeads s i steps n tails heads → AreHeads s i steps (length steps) tails heads
heads_whole s i steps n tails heads past p = record { size = p.size; all = λ k d l m. p.all k d (omega (arith, m, past)) m; from = p.from }

-- a list whose length is counted has items, or none
pub some_items : (v n : ℕ) (b : Bool) → b ≡ (v == 0) → b ≡ false → v ≡ n → 0 < n
some_items v n b e f is = grind arith

pub no_items : (v n : ℕ) (b : Bool) → b ≡ (v == 0) → b ≡ true → v ≡ n → n ≡ 0
no_items v n b e f is = grind arith

pub empty_is : (labels : List ℤ) → length labels ≡ 0 → labels ≡ []
empty_is [] e = refl
empty_is (v ∷ vs) e = absurd (omega arith)

pub looked_by : (s : Trail) (steps : List Step) (first : ℕ) (last : List Bool) (is : List ℕ) (found : List Narrowing) (r : Bool) → CanEnd s steps last is first → IsNarrowed s steps first last is found r → IsRunLooked s steps first last is found r
looked_by s steps first last is found true h p = (h, p)
looked_by s steps first last is found false h p = p
