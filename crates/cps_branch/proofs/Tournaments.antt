-- Who stands where in a tournament.
use Rattle.std.specs.Prelude.{if◌then◌else◌}
use Rattle.std.proofs.Common.{ℕ, zero, suc, ◌+◌, ◌-◌, ◌*◌, ◌/◌, ◌≤◌, ◌<◌, ◌≡◌, ◌⊎◌, inl, inr, Bool, true, false, List, length, set, refl, sym, ap, subst, ◌∙◌, arith}
use Rattle.std.proofs.lemmas.List.{get_or-set_other, get_or-set_same}
use Rattle.cps_branch.specs.declared.tournament.Contender.{Contender}
use Rattle.cps_branch.specs.Tournament.{AreWon, AreWonBut, IsAheadOf, IsWinner, IsWon, SameNodesBut, count_false, nobody, stands_at}

pub ahead_self : (one : Contender) → IsAheadOf one one
ahead_self one = record { plays = λ h. h; activity = λ h. omega arith; first = λ h e. omega arith }

pub ahead_next : (one two three : Contender) → IsAheadOf one two → IsAheadOf two three → IsAheadOf one three
ahead_next one two three a b = record {
  plays = λ h. a.plays (b.plays h);
  activity = λ h. omega (arith, b.activity h, a.activity (b.plays h));
  first = λ h e.
      let low = b.activity h in
      let high = a.activity (b.plays h) in
      omega (arith, b.first h (omega (arith, e, low, high)), a.first (b.plays h) (omega (arith, e, low, high)));
}

eq_cases : (a b : ℕ) → (a ≡ b) ⊎ (a ≡ b → ⊥)
eq_cases a b = grind arith

nat_cases : (a b : ℕ) → (a < b) ⊎ (b ≤ a)
nat_cases a b = grind arith

winner_of : (a b c a' b' c' : Contender) → a' ≡ a → b' ≡ b → c' ≡ c → IsWinner a b c → IsWinner a' b' c'
winner_of a b c a' b' c' ea eb ec h =
    subst (λ (x : Contender). IsWinner x b' c') (sym ea) (subst (λ (y : Contender). IsWinner a y c') (sym eb) (subst (λ (z : Contender). IsWinner a b z) (sym ec) h))

same_won : (nodes nodes' : List Contender) (p k : ℕ) → SameNodesBut p nodes nodes' → (2 * k ≡ p → ⊥) → (2 * k + 1 ≡ p → ⊥) → (k ≡ p → ⊥) → IsWon nodes k → IsWon nodes' k
same_won nodes nodes' p k same one other here h =
    winner_of (stands_at nodes (2 * k)) (stands_at nodes (2 * k + 1)) (stands_at nodes k) (stands_at nodes' (2 * k)) (stands_at nodes' (2 * k + 1)) (stands_at nodes' k)
    (same (2 * k) one) (same (2 * k + 1) other) (same k here) h

pub played : (nodes : List Contender) (node : ℕ) (w : Contender) → 1 ≤ node → node < length nodes → IsWinner (stands_at nodes (2 * node)) (stands_at nodes (2 * node + 1)) w → IsWon (set nodes node w) node
played nodes node w low l h =
    winner_of (stands_at nodes (2 * node)) (stands_at nodes (2 * node + 1)) w (stands_at (set nodes node w) (2 * node)) (stands_at (set nodes node w) (2 * node + 1)) (stands_at (set nodes node w) node)
    (get_or-set_other nodes node (2 * node) w nobody (λ e. omega (arith, e, low))) (get_or-set_other nodes node (2 * node + 1) w nobody (λ e. omega (arith, e, low))) (get_or-set_same nodes node w nobody l) h

pub others_set : (nodes : List Contender) (node : ℕ) (w : Contender) → SameNodesBut node nodes (set nodes node w)
others_set nodes node w k ne = get_or-set_other nodes node k w nobody ne

-- a node that changed leaves the match above it to be played
pub won_below : (count p : ℕ) (nodes nodes' : List Contender) → count ≤ p → AreWon count nodes → SameNodesBut p nodes nodes' → AreWonBut count nodes' (p / 2)
won_below count p nodes nodes' high won same k low l ne =
    same_won nodes nodes' p k same (λ e. ne (omega (arith, e))) (λ e. ne (omega (arith, e))) (λ e. omega (arith, e, l, high)) (won k low l)

-- after it was played the next one is left
pub won_up : (count p : ℕ) (nodes nodes' : List Contender) → AreWonBut count nodes p → IsWon nodes' p → SameNodesBut p nodes nodes' → AreWonBut count nodes' (p / 2)
won_up count p nodes nodes' but here same k low l ne = elim (eq_cases k p) [
  | inl e ↦ subst (λ (j : ℕ). IsWon nodes' j) (sym e) here
  | inr other ↦ same_won nodes nodes' p k same (λ e. ne (omega (arith, e))) (λ e. ne (omega (arith, e))) other (but k low l other)
]

-- until none is
pub won_all : (count p : ℕ) (nodes : List Contender) → p < 1 → AreWonBut count nodes p → AreWon count nodes
won_all count p nodes none but k low l = but k low l (λ e. omega (arith, e, none, low))

-- the top is ahead of each node
top_from : (count : ℕ) (nodes : List Contender) → AreWon count nodes → (fuel k : ℕ) → k ≤ fuel → 1 ≤ k → k < 2 * count → IsAheadOf (stands_at nodes 1) (stands_at nodes k)
top_from count nodes won zero k most low l = absurd (omega arith)
top_from count nodes won (suc fuel) k most low l = elim (nat_cases k 2) [
  | inl one ↦ subst (λ (j : ℕ). IsAheadOf (stands_at nodes 1) (stands_at nodes j)) (let e : 1 ≡ k = omega arith in e) (ahead_self (stands_at nodes 1))
  | inr two ↦
      let p = k / 2 in
      let here = won p (omega arith) (omega arith) in
      let above = top_from count nodes won fuel p (omega arith) (omega arith) (omega arith) in
      elim (halves k) [
        | inl e ↦ subst (λ (j : ℕ). IsAheadOf (stands_at nodes 1) (stands_at nodes j)) e (ahead_next (stands_at nodes 1) (stands_at nodes p) (stands_at nodes (2 * p)) above here.of_one)
        | inr e ↦ subst (λ (j : ℕ). IsAheadOf (stands_at nodes 1) (stands_at nodes j)) e (ahead_next (stands_at nodes 1) (stands_at nodes p) (stands_at nodes (2 * p + 1)) above here.of_other)
      ]
]
  where
    halves : (k : ℕ) → (2 * (k / 2) ≡ k) ⊎ (2 * (k / 2) + 1 ≡ k)
    halves k = grind arith

pub top_leads : (count : ℕ) (nodes : List Contender) (k : ℕ) → AreWon count nodes → 1 ≤ k → k < 2 * count → IsAheadOf (stands_at nodes 1) (stands_at nodes k)
top_leads count nodes k won low l = top_from count nodes won k k (omega arith) low l

-- a variable that stands at a node
pub record StandsFor (count : ℕ) (nodes : List Contender) (k : ℕ) : Type 0 where
  pub variable : ℕ
  pub within : variable < count
  pub is : stands_at nodes k ≡ stands_at nodes (count + variable)

-- at each node stands a variable
stands_from : (count : ℕ) (nodes : List Contender) → AreWon count nodes → (fuel k : ℕ) → 2 * count ≤ k + fuel → 1 ≤ k → k < 2 * count → StandsFor count nodes k
stands_from count nodes won zero k enough low l = absurd (omega arith)
stands_from count nodes won (suc fuel) k enough low l = elim (nat_cases k count) [
  | inl inner ↦ elim (won k low inner).is [
    | inl e ↦ onto (2 * k) e (stands_from count nodes won fuel (2 * k) (omega arith) (omega arith) (omega arith))
    | inr e ↦ onto (2 * k + 1) e (stands_from count nodes won fuel (2 * k + 1) (omega arith) (omega arith) (omega arith))
  ]
  | inr leaf ↦ record { variable = k - count; within = omega arith; is = ap (λ (j : ℕ). stands_at nodes j) (let e : k ≡ count + (k - count) = omega arith in e) }
]
  where
    onto : (j : ℕ) → stands_at nodes k ≡ stands_at nodes j → StandsFor count nodes j → StandsFor count nodes k
    onto j e h = record { variable = h.variable; within = h.within; is = e ∙ h.is }

pub stands_for : (count : ℕ) (nodes : List Contender) (k : ℕ) → AreWon count nodes → 1 ≤ k → k < 2 * count → StandsFor count nodes k
stands_for count nodes k won low l = stands_from count nodes won (2 * count) k (omega arith) low l

-- where all nodes are alike each match is won
pub won_alike : (count : ℕ) (nodes : List Contender) (one : Contender) → ((k : ℕ) → stands_at nodes k ≡ one) → AreWon count nodes
won_alike count nodes one alike k low l =
    winner_of one one one (stands_at nodes (2 * k)) (stands_at nodes (2 * k + 1)) (stands_at nodes k) (alike (2 * k)) (alike (2 * k + 1)) (alike k)
    (record { is = inl refl; of_one = ahead_self one; of_other = ahead_self one })

abbrev fails : Bool → ℕ
fails b = if b then 0 else 1

one_most : (b : Bool) → fails b ≤ 1
one_most true = omega arith
one_most false = omega arith

-- how many numbers fail a test
pub count_most : (test : ℕ → Bool) (m : ℕ) → count_false test m ≤ m
count_most test zero = omega arith
count_most test (suc m) = omega (arith, count_most test m, one_most (test m))

last_or : (i m : ℕ) → i < suc m → (i < m) ⊎ (i ≡ m)
last_or i m l = grind arith

pub count_less : (test : ℕ → Bool) (m i : ℕ) → i < m → test i ≡ true → count_false test m < m
count_less test zero i l e = absurd (omega arith)
count_less test (suc m) i l e = elim (last_or i m l) [
  | inl below ↦ omega (arith, count_less test m i below e, one_most (test m))
  | inr same ↦
      let none : fails (test m) ≡ 0 = ap fails (ap test (sym same) ∙ e) in
      omega (arith, count_most test m, none)
]

pub count_same : (test new : ℕ → Bool) (m : ℕ) → ((i : ℕ) → i < m → new i ≡ test i) → count_false new m ≡ count_false test m
count_same test new zero same = refl
count_same test new (suc m) same =
    let here : fails (new m) ≡ fails (test m) = ap fails (same m (omega arith)) in
    omega (arith, here, count_same test new m (λ i l. same i (omega arith)))

-- one more fails it
pub count_more : (test new : ℕ → Bool) (m v : ℕ) → v < m → test v ≡ true → new v ≡ false → ((i : ℕ) → i < m → (i ≡ v → ⊥) → new i ≡ test i) → count_false new m ≡ count_false test m + 1
count_more test new zero v l before after same = absurd (omega arith)
count_more test new (suc m) v l before after same = elim (last_or v m l) [
  | inl below ↦
      let here : fails (new m) ≡ fails (test m) = ap fails (same m (omega arith) (λ e. omega (arith, e, below))) in
      omega (arith, here, count_more test new m v below before after (λ i h ne. same i (omega (arith, h)) ne))
  | inr last ↦
      let none : fails (test m) ≡ 0 = ap fails (ap test (sym last) ∙ before) in
      let one : fails (new m) ≡ 1 = ap fails (ap new (sym last) ∙ after) in
      omega (arith, none, one, count_same test new m (λ i h. same i (omega (arith, h)) (λ e. omega (arith, e, last, h))))
]

-- at most one fewer fails it
pub count_fewer : (test new : ℕ → Bool) (m v : ℕ) → ((i : ℕ) → i < m → (i ≡ v → ⊥) → new i ≡ test i) → count_false test m ≤ count_false new m + 1
count_fewer test new zero v same = omega arith
count_fewer test new (suc m) v same = elim (eq_cases m v) [
  | inl last ↦ omega (arith, one_most (test m), count_same test new m (λ i h. same i (omega (arith, h)) (λ e. omega (arith, e, last, h))))
  | inr other ↦
      let here : fails (new m) ≡ fails (test m) = ap fails (same m (omega arith) other) in
      omega (arith, here, count_fewer test new m v (λ i h ne. same i (omega (arith, h)) ne))
]
