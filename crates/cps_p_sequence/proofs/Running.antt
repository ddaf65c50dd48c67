-- Runs of an automaton, and where they may go by the numbers of its states.
use Rattle.std.specs.Prelude.{All, Contains}
use Rattle.std.specs.List.{AllZip}
use Rattle.std.proofs.Common.{◌≡◌, ℕ, zero, suc, ◌+◌, ◌<◌, ◌≤◌, ℤ, pos, Bool, List, [], ◌∷◌, length, drop, get_or, refl, sym, ◌∙◌, ap, subst, arith}
use Rattle.std.proofs.lemmas.List.{drop_more}
use Rattle.std.proofs.lemmas.List.Elements.{All-contains, All-head, All-tail, All-drop}
use Rattle.cps_model.specs.declared.parts.Transition.{Transition}
use Rattle.cps_model.specs.Sequences.{transitions, Accepts}
use Rattle.cps_literal.specs.Truth.{value_at}
use Rattle.cps_instance.specs.declared.task.Body.TheVariants.{Automaton}
use Rattle.cps_instance.specs.Parts.{values_at}
use Rattle.cps_trail.specs.Trail.{Trail, IsAdmitted}
use Rattle.cps_propagate.specs.Now.{IsOpenTo, IsFixedNow, AreOpen}
use Rattle.cps_propagate.specs.Strength.{IsRunNow, IsOnRun, HasRuns}
use Rattle.cps_rule.specs.Rules.{IsAtRest}
use Rattle.cps_p_sequence.specs.declared.states.Step.{Step}
use Rattle.cps_p_sequence.specs.Networks.{IsNetwork, IsStepWithin, state_at, named}
use Rattle.cps_p_sequence.specs.Runs.{CanEnd, CanReach, IsAlive, IsFollowed, AreEndsAlive}

-- where each subject is fixed, what a run may have is what they have
fixed_labels : (s : Trail) (is : List ℕ) (xs labels : List ℤ) → All (IsFixedNow s) is → AreOpen s xs is → AllZip (IsOpenTo s) is labels → labels ≡ values_at xs is
fixed_labels s [] xs [] f o z = refl
fixed_labels s [] xs (l ∷ ls) f o z = absurd z
fixed_labels s (i ∷ is) xs [] f o z = absurd z
fixed_labels s (i ∷ is) xs (l ∷ ls) f o z =
    let here : l ≡ value_at xs i = All-head (IsFixedNow s) i is f l (value_at xs i) z.0 (All-head (λ j. IsOpenTo s j (value_at xs j)) i is o) in
    let rest : ls ≡ values_at xs is = fixed_labels s is xs ls (All-tail (IsFixedNow s) i is f) (All-tail (λ j. IsOpenTo s j (value_at xs j)) i is o) z.1 in
    ap (λ (v : ℤ). v ∷ ls) here ∙ ap (λ (vs : List ℤ). value_at xs i ∷ vs) rest

module _ (raw : List Transition) (finals : List ℤ) (start : ℤ) (states : List ℤ) (first : ℕ) (last : List Bool) (steps : List Step) (net : IsNetwork raw finals start states first last steps) (s : Trail) where
  pub within_of : (t : Step) → Contains steps t → IsStepWithin (length last) t
  within_of t c = All-contains (IsStepWithin (length last)) steps t net.within c

  -- the step of a transition
  follow : (q : ℕ) (next v : ℤ) → q < length last → Contains raw (record { tail = state_at states q; head = next; label = v }) → (t : Step) × Contains steps t × (t.tail ≡ q) × (state_at states t.head ≡ next) × (t.label ≡ v)
  follow q next v l c =
      let r : Transition = record { tail = state_at states q; head = next; label = v } in
      let n = net.numbered r c in
      let w = within_of n.0 n.1 in
      (n.0, n.1, net.distinct n.0.tail q w.tail l (ap (λ (x : Transition). x.tail) n.2), ap (λ (x : Transition). x.head) n.2, ap (λ (x : Transition). x.label) n.2)

  -- values that are accepted from a state lead to a last one
  pub end_from : (xs : List ℤ) (is : List ℕ) (q : ℕ) → q < length last → AreOpen s xs is → Accepts raw finals (state_at states q) (values_at xs is) → CanEnd s steps last is q
  end_from xs [] q l o acc = net.marked q l acc
  end_from xs (i ∷ is) q l o acc =
      let f = follow q acc.0 (value_at xs i) l acc.1 in
      let w = within_of f.0 f.1 in
      let here : IsOpenTo s i f.0.label = subst (λ (v : ℤ). IsOpenTo s i v) (sym f.4) (All-head (λ j. IsOpenTo s j (value_at xs j)) i is o) in
      let rest : Accepts raw finals (state_at states f.0.head) (values_at xs is) = subst (λ (x : ℤ). Accepts raw finals x (values_at xs is)) (sym f.3) acc.2 in
      (f.0, f.1, f.2, here, end_from xs is f.0.head w.head (All-tail (λ j. IsOpenTo s j (value_at xs j)) i is o) rest)

  -- the step that they take at a position
  pub step_at : (xs : List ℤ) (is : List ℕ) (k : ℕ) → k < length is → (q : ℕ) → q < length last → Accepts raw finals (state_at states q) (values_at xs (drop k is))
      → (t : Step) × Contains steps t × (t.tail ≡ q) × (t.label ≡ value_at xs (get_or is k 0)) × Accepts raw finals (state_at states t.head) (values_at xs (drop (k + 1) is))
  step_at xs is k l q m acc =
      let i = get_or is k 0 in
      let now : Accepts raw finals (state_at states q) (value_at xs i ∷ values_at xs (drop (k + 1) is)) = subst (λ (js : List ℕ). Accepts raw finals (state_at states q) (values_at xs js)) (drop_more is k 0 l) acc in
      let f = follow q now.0 (value_at xs i) m now.1 in
      (f.0, f.1, f.2, f.4, subst (λ (x : ℤ). Accepts raw finals x (values_at xs (drop (k + 1) is))) (sym f.3) now.2)

  reach_at : (xs : List ℤ) (is : List ℕ) (k : ℕ) → k ≤ length is → AreOpen s xs is → Accepts raw finals start (values_at xs is)
      → (q : ℕ) × (q < length last) × CanReach s steps first is k q × Accepts raw finals (state_at states q) (values_at xs (drop k is))
  reach_at xs is zero l o acc = (first, net.begin, refl, subst (λ (x : ℤ). Accepts raw finals x (values_at xs is)) (sym net.start_is) acc)
  reach_at xs is (suc k) l o acc =
      let before = reach_at xs is k (omega arith) o acc in
      let m : k < length is = omega arith in
      let f = step_at xs is k m before.0 before.1 before.3 in
      let w = within_of f.0 f.1 in
      let here : IsOpenTo s (get_or is k 0) f.0.label = subst (λ (v : ℤ). IsOpenTo s (get_or is k 0) v) (sym f.3) (o k 0 m) in
      let from : CanReach s steps first is k f.0.tail = subst (λ (q : ℕ). CanReach s steps first is k q) (sym f.2) before.2 in
      let e : k + 1 ≡ suc k = omega arith in
      (f.0.head, w.head, (f.0, f.1, refl, here, from), subst (λ (n : ℕ). Accepts raw finals (state_at states f.0.head) (values_at xs (drop n is))) e f.4)

  pub alive_at : (xs : List ℤ) (is : List ℕ) (k : ℕ) → k < length is → AreOpen s xs is → Accepts raw finals start (values_at xs is) → IsAlive s steps first last is k (value_at xs (get_or is k 0))
  alive_at xs is k l o acc =
      let r = reach_at xs is k (omega arith) o acc in
      let f = step_at xs is k l r.0 r.1 r.3 in
      let w = within_of f.0 f.1 in
      let from : CanReach s steps first is k f.0.tail = subst (λ (q : ℕ). CanReach s steps first is k q) (sym f.2) r.2 in
      (f.0, f.1, f.3, o k 0 l, from, end_from xs (drop (k + 1) is) f.0.head w.head (All-drop (λ j. IsOpenTo s j (value_at xs j)) (k + 1) is o) f.4)

  -- from where a run may end, some run does
  run_to_end : (is : List ℕ) (q : ℕ) → CanEnd s steps last is q → (labels : List ℤ) × AllZip (IsOpenTo s) is labels × Accepts raw finals (state_at states q) labels
  run_to_end [] q h = ([], tt, net.listed q h)
  run_to_end (i ∷ is) q h =
      let r = run_to_end is h.0.head h.4 in
      let given : Contains raw (record { tail = state_at states q; head = state_at states h.0.head; label = h.0.label }) = subst (λ (p : ℕ). Contains raw (record { tail = state_at states p; head = state_at states h.0.head; label = h.0.label })) h.2 (net.given h.0 h.1) in
      (h.0.label ∷ r.0, (h.3, r.1), (state_at states h.0.head, given, r.2))

  -- and to where it may come, some run does
  extend : (is : List ℕ) (k q : ℕ) → k ≤ length is → CanReach s steps first is k q → (ls : List ℤ) → AllZip (IsOpenTo s) (drop k is) ls → Accepts raw finals (state_at states q) ls
      → (labels : List ℤ) × AllZip (IsOpenTo s) is labels × Accepts raw finals start labels × ((j : ℕ) (d : ℤ) → get_or labels (k + j) d ≡ get_or ls j d)
  extend is zero q l h ls z acc = (ls, z, subst (λ (x : ℤ). Accepts raw finals x ls) (ap (λ (p : ℕ). state_at states p) h ∙ net.start_is) acc, λ j d. ap (λ (n : ℕ). get_or ls n d) (zero_plus j))
    where
      zero_plus : (j : ℕ) → 0 + j ≡ j
      zero_plus j = omega arith
  extend is (suc k) q l h ls z acc =
      let t = h.0 in
      let e : suc k ≡ k + 1 = omega arith in
      let open' : AllZip (IsOpenTo s) (get_or is k 0 ∷ drop (k + 1) is) (t.label ∷ ls) = (h.3, subst (λ (n : ℕ). AllZip (IsOpenTo s) (drop n is) ls) e z) in
      let all = subst (λ (js : List ℕ). AllZip (IsOpenTo s) js (t.label ∷ ls)) (sym (drop_more is k 0 (omega arith))) open' in
      let run : Accepts raw finals (state_at states t.tail) (t.label ∷ ls) = (state_at states t.head, net.given t h.1, subst (λ (p : ℕ). Accepts raw finals (state_at states p) ls) (sym h.2) acc) in
      let r = extend is k t.tail (omega arith) h.4 (t.label ∷ ls) all run in
      (r.0, r.1, r.2, λ j d. ap (λ (n : ℕ). get_or r.0 n d) (moved j) ∙ r.3 (suc j) d)
    where
      moved : (j : ℕ) → suc k + j ≡ k + suc j
      moved j = omega arith

  pub whole_run : (is : List ℕ) → CanEnd s steps last is first → (labels : List ℤ) × IsRunNow s raw finals start is labels
  whole_run is h =
      let r = run_to_end is first h in
      (r.0, record { possible = r.1; accepted = subst (λ (x : ℤ). Accepts raw finals x r.0) net.start_is r.2 })

  pub run_through : (is : List ℕ) (k : ℕ) (v : ℤ) → k < length is → IsAlive s steps first last is k v → IsOnRun s raw finals start is k v
  run_through is k v l h =
      let t = h.0 in
      let r = run_to_end (drop (k + 1) is) t.head h.5 in
      let here : IsOpenTo s (get_or is k 0) t.label = subst (λ (x : ℤ). IsOpenTo s (get_or is k 0) x) (sym h.2) h.3 in
      let open' : AllZip (IsOpenTo s) (get_or is k 0 ∷ drop (k + 1) is) (t.label ∷ r.0) = (here, r.1) in
      let all = subst (λ (js : List ℕ). AllZip (IsOpenTo s) js (t.label ∷ r.0)) (sym (drop_more is k 0 l)) open' in
      let run : Accepts raw finals (state_at states t.tail) (t.label ∷ r.0) = (state_at states t.head, net.given t h.1, r.2) in
      let x = extend is k t.tail (omega arith) h.4 (t.label ∷ r.0) all run in
      let e : k ≡ k + 0 = omega arith in
      (x.0, record { possible = x.1; accepted = x.2 }, ap (λ (n : ℕ). get_or x.0 n (pos 0)) e ∙ x.3 0 (pos 0) ∙ h.2)

  pub runs_from : (is : List ℕ) → AreEndsAlive s steps first last is (length is) → HasRuns s raw finals start is
  runs_from is alive = record {
    ends = λ k v l h. run_through is k v l (alive.at k v l l h);
    labels = λ k t l has o. label_on_run k t l (net.numbered t has) o;
    values = λ k v l narrow o. run_through is k v l (alive.values k v l l narrow o);
  }
    where
      label_on_run : (k : ℕ) (t : Transition) → k < length is → (n : Step) × Contains steps n × (named states n ≡ t) → IsOpenTo s (get_or is k 0) t.label → IsOnRun s raw finals start is k t.label
      label_on_run k t l n o =
          let e : n.0.label ≡ t.label = ap (λ (x : Transition). x.label) n.2 in
          let here : IsOpenTo s (get_or is k 0) n.0.label = subst (λ (v : ℤ). IsOpenTo s (get_or is k 0) v) (sym e) o in
          subst (λ (v : ℤ). IsOnRun s raw finals start is k v) e (run_through is k n.0.label l (alive.labels k n.0 l l n.1 here))

  pub decided_from : (is : List ℕ) → CanEnd s steps last is first → All (IsFixedNow s) is → (xs : List ℤ) → AreOpen s xs is → Accepts raw finals start (values_at xs is)
  decided_from is h fixed xs o =
      let r = whole_run is h in
      subst (λ (ls : List ℤ). Accepts raw finals start ls) (fixed_labels s is xs r.0 fixed o r.1.possible) r.1.accepted

  open_of : (is : List ℕ) → All (λ i. i < length s.first) is → (xs : List ℤ) → IsAdmitted s.first s.entries xs → AreOpen s xs is
  open_of is inside xs admitted k d l = admitted (get_or is k d) (inside k d l)

  pub followed_by : (is : List ℕ) → All (λ i. i < length s.first) is → (xs : List ℤ) → IsAdmitted s.first s.entries xs → Accepts raw finals start (values_at xs is)
      → CanEnd s steps last is first × ((k : ℕ) → k < length is → IsAlive s steps first last is k (value_at xs (get_or is k 0)))
  followed_by is inside xs admitted acc = (
    end_from xs is first net.begin (open_of is inside xs admitted) (subst (λ (x : ℤ). Accepts raw finals x (values_at xs is)) (sym net.start_is) acc),
    λ k l. alive_at xs is k l (open_of is inside xs admitted) acc,
  )

-- the same of the body
module _ (start : ℤ) (finals tails heads labels : List ℤ) (states : List ℤ) (first : ℕ) (last : List Bool) (steps : List Step) (net : IsNetwork (transitions tails heads labels) finals start states first last steps) (s : Trail) (is : List ℕ) where
  pub body_followed : All (λ i. i < length s.first) is → IsFollowed (Automaton start finals tails heads labels is) s steps first last is
  body_followed inside = record {
    whole = λ xs admitted body. (followed_by (transitions tails heads labels) finals start states first last steps net s is inside xs admitted body).0;
    at = λ k l xs admitted body. (followed_by (transitions tails heads labels) finals start states first last steps net s is inside xs admitted body).1 k l;
  }

  pub body_rests : CanEnd s steps last is first → AreEndsAlive s steps first last is (length is) → IsAtRest (Automaton start finals tails heads labels is) s
  body_rests h alive = record {
    decided = decided_from (transitions tails heads labels) finals start states first last steps net s is h;
    strong = runs_from (transitions tails heads labels) finals start states first last steps net s is alive;
  }

  pub body_possible : CanEnd s steps last is first → ((values : List ℤ) → IsRunNow s (transitions tails heads labels) finals start is values → ⊥) → ⊥
  body_possible h none = let r = whole_run (transitions tails heads labels) finals start states first last steps net s is h in none r.0 r.1
