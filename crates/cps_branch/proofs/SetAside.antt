-- Who is in play, and who is aside.
use Rattle.std.proofs.Common.{ℕ, ◌+◌, ◌-◌, ◌*◌, ◌^◌, ◌≤◌, ◌<◌, ◌≡◌, ◌⊎◌, inl, inr, Bool, ℤ, Option, Some, None, true, false, List, [], ◌∷◌, ◌++◌, length, take, drop, get_or, set, refl, sym, ap, subst, ◌∙◌, arith, true≢false, length-append, add-one, drop-cons}
use Rattle.std.specs.Prelude.{if◌then◌else◌, ◌==◌, ◌||◌, MatchOption}
use Rattle.std.proofs.lemmas.List.{get_or-take, get_or_append_left, get_or_default, get_or_push, length-set, length-take, length-take-le, take-take, take_more_set}
use Rattle.cps_literal.specs.declared.atom.Atom.{Atom}
use Rattle.cps_trail.specs.Trail.{Trail}
use Rattle.cps_branch.specs.declared.tournament.Contender.{Contender}
use Rattle.cps_branch.specs.declared.ranking.Aside.{Aside}
use Rattle.cps_branch.specs.declared.ranking.Ranking.{Ranking}
use Rattle.cps_branch.specs.Activities.{speaks_of, gain, AreGained, ByActivity}
use Rattle.cps_branch.specs.Luby.{Pace}
use Rattle.cps_branch.specs.Fixed.{IsFixedAfter, IsFixed, AreFixed}
use Rattle.cps_branch.specs.Choice.{IsMostActive}
use Rattle.cps_branch.specs.Tournament.{AreWon, HaveActivities, IsAheadOf, stands_at}
use Rattle.cps_branch.specs.SetAside.{AreAllFixed, AreFixedAside, IsAside, IsMostActiveIn, IsRanking, IsTournament, LeadsInPlay, NonePlays, PutsBack, SameActivities, SameAside, SetsAside, aside_at, aside_of, size_of}
use Rattle.cps_branch.proofs.FixedSubjects.{fixed-later, fixed-more, fixed-whole}
use Rattle.cps_branch.proofs.Leaders.{most_active}
use Rattle.cps_branch.proofs.Tournaments.{count_fewer, count_less, count_more, count_same, stands_for, top_leads}

eq_cases : (a b : ℕ) → (a ≡ b) ⊎ (a ≡ b → ⊥)
eq_cases a b = grind arith

nat_cases : (a b : ℕ) → (a < b) ⊎ (b ≤ a)
nat_cases a b = grind arith

bool_cases : (b : Bool) → (b ≡ true) ⊎ (b ≡ false)
bool_cases true = inl refl
bool_cases false = inr refl

-- what a read past the end would give
abbrev pub no_one : Aside
no_one = record { variable = 0; after = 0 }

abbrev one_of : ℕ → ℕ → Aside
one_of v after = record { variable = v; after = after }

-- One variable of a tournament changed.
module _ (n v : ℕ) (nodes nodes' : List Contender) (same_length : length nodes' ≡ length nodes) (won : AreWon n nodes') (others : (i : ℕ) → (i ≡ v → ⊥) → stands_at nodes' (n + i) ≡ stands_at nodes (n + i)) where
  variables_are : (aside : List Aside) → IsTournament n nodes aside → (stands_at nodes' (n + v)).variable ≡ v → (i : ℕ) → i < n → (stands_at nodes' (n + i)).variable ≡ i
  variables_are aside h here i l = elim (eq_cases i v) [
    | inl e ↦ subst (λ (j : ℕ). (stands_at nodes' (n + j)).variable ≡ j) (sym e) here
    | inr ne ↦ ap (λ (c : Contender). c.variable) (others i ne) ∙ h.variables i l
  ]

  plays_as : (i : ℕ) → (i ≡ v → ⊥) → (stands_at nodes' (n + i)).in_play ≡ (stands_at nodes (n + i)).in_play
  plays_as i ne = ap (λ (c : Contender). c.in_play) (others i ne)

  -- it has another activity
  pub refreshed : (aside : List Aside) (activity : ℕ) → IsTournament n nodes aside → stands_at nodes' (n + v) ≡ record { variable = v; activity = activity; in_play = (stands_at nodes (n + v)).in_play } → IsTournament n nodes' aside
  refreshed aside activity h here = record {
    size = same_length ∙ h.size;
    variables = variables_are aside h (ap (λ (c : Contender). c.variable) here);
    won = won;
    out = λ i l off. h.out i l (sym (plays i) ∙ off);
    names = h.names;
    room = omega (arith, h.room, count_same (λ i. (stands_at nodes (n + i)).in_play) (λ i. (stands_at nodes' (n + i)).in_play) n (λ i l. plays i));
  }
    where
      plays : (i : ℕ) → (stands_at nodes' (n + i)).in_play ≡ (stands_at nodes (n + i)).in_play
      plays i = elim (eq_cases i v) [
        | inl e ↦ subst (λ (j : ℕ). (stands_at nodes' (n + j)).in_play ≡ (stands_at nodes (n + j)).in_play) (sym e) (ap (λ (c : Contender). c.in_play) here)
        | inr ne ↦ plays_as i ne
      ]

  -- it went out of play, and aside
  pub set_one_aside : (aside : List Aside) (after activity : ℕ) → v < n → (stands_at nodes (n + v)).in_play ≡ true → IsTournament n nodes aside → stands_at nodes' (n + v) ≡ record { variable = v; activity = activity; in_play = false }
      → IsTournament n nodes' (aside ++ record { variable = v; after = after } ∷ [])
  set_one_aside aside after activity within on h here = record {
    size = same_length ∙ h.size;
    variables = variables_are aside h (ap (λ (c : Contender). c.variable) here);
    won = won;
    out = λ i l off. elim (eq_cases i v) [
      | inl e ↦ (length aside, omega (arith, more), ap (λ (a : Aside). a.variable) (get_or_push aside (one_of v after) no_one (length aside) refl) ∙ sym e)
      | inr ne ↦
          let old : IsAside aside i = h.out i l (sym (plays_as i ne) ∙ off) in
          (old.0, omega (arith, more, old.1), ap (λ (a : Aside). a.variable) (get_or_append_left aside (one_of v after ∷ []) no_one old.0 old.1) ∙ old.2)
    ];
    names = λ p l. elim (nat_cases p (length aside)) [
      | inl below ↦ omega (arith, h.names p below, ap (λ (a : Aside). a.variable) (get_or_append_left aside (one_of v after ∷ []) no_one p below))
      | inr last ↦ omega (arith, within, ap (λ (a : Aside). a.variable) (get_or_push aside (one_of v after) no_one p (let e : length aside ≡ p = omega (arith, l, last, more) in e)))
    ];
    room = omega (arith, more, h.room, count_more (λ i. (stands_at nodes (n + i)).in_play) (λ i. (stands_at nodes' (n + i)).in_play) n v within on (ap (λ (c : Contender). c.in_play) here) (λ i l ne. plays_as i ne));
  }
    where
      more : length (aside ++ one_of v after ∷ []) ≡ length aside + 1
      more = omega (arith, length-append aside (one_of v after ∷ []))

  -- it is the last that went aside, and came back into play
  pub one_put_back : (m activity : ℕ) (items : List Aside) → m < length items → v ≡ (aside_at items m).variable → IsTournament n nodes (take (m + 1) items) → stands_at nodes' (n + v) ≡ record { variable = v; activity = activity; in_play = true }
      → IsTournament n nodes' (take m items)
  one_put_back m activity items within is h here = record {
    size = same_length ∙ h.size;
    variables = variables_are (take (m + 1) items) h (ap (λ (c : Contender). c.variable) here);
    won = won;
    out = λ i l off. elim (eq_cases i v) [
      | inl e ↦ absurd (true≢false (sym (ap (λ (c : Contender). c.in_play) here) ∙ ap (λ (j : ℕ). (stands_at nodes' (n + j)).in_play) (sym e) ∙ off))
      | inr ne ↦
          let old : IsAside (take (m + 1) items) i = h.out i l (sym (plays_as i ne) ∙ off) in
          elim (nat_cases old.0 m) [
            | inl below ↦ (old.0, omega (arith, below, fewer), ap (λ (a : Aside). a.variable) (front old.0 below) ∙ old.2)
            | inr last ↦
                let e : m ≡ old.0 = omega (arith, last, old.1, all) in
                absurd (ne (sym old.2 ∙ ap (λ (j : ℕ). (aside_at (take (m + 1) items) j).variable) (sym e) ∙ ap (λ (a : Aside). a.variable) (get_or-take (m + 1) items m no_one (omega arith)) ∙ sym is))
          ]
    ];
    names = λ p l. omega (arith, ap (λ (a : Aside). a.variable) (front p (omega (arith, l, fewer))), h.names p (omega (arith, l, fewer, all)));
    room = omega (arith, fewer, all, h.room, count_fewer (λ i. (stands_at nodes (n + i)).in_play) (λ i. (stands_at nodes' (n + i)).in_play) n v (λ i l ne. plays_as i ne));
  }
    where
      fewer : length (take m items) ≡ m
      fewer = length-take-le m items (omega arith)

      all : length (take (m + 1) items) ≡ m + 1
      all = length-take-le (m + 1) items (omega arith)

      front : (p : ℕ) → p < m → aside_at (take m items) p ≡ aside_at (take (m + 1) items) p
      front p l = get_or-take m items p no_one l ∙ sym (get_or-take (m + 1) items p no_one (omega arith))

-- all are in play, and none is aside
pub begun : (n : ℕ) (nodes : List Contender) (aside : List Aside) → length aside ≡ 0 → length nodes ≡ 2 * n → AreWon n nodes → ((i : ℕ) → i < n → stands_at nodes (n + i) ≡ record { variable = i; activity = 0; in_play = true }) → IsTournament n nodes aside
begun n nodes aside none size won each = record {
  size = size;
  variables = λ i l. ap (λ (c : Contender). c.variable) (each i l);
  won = won;
  out = λ i l off. absurd (true≢false (sym (ap (λ (c : Contender). c.in_play) (each i l)) ∙ off));
  names = λ p l. absurd (omega arith);
  room = omega arith;
}

-- so it is with a ranking
pub begun_ranking : (r : Ranking) (n : ℕ) (nodes : List Contender) → n ≤ 2 ^ 31 → size_of r ≡ n → r.out ≡ 0 → r.nodes.items ≡ nodes → length nodes ≡ 2 * n → AreWon n nodes → ((i : ℕ) → i < n → stands_at nodes (n + i) ≡ record { variable = i; activity = 0; in_play = true }) → IsRanking r
begun_ranking r n nodes few count out is size won each = record {
  few = omega (arith, few, count);
  within = omega (arith, out);
  tournament = subst (λ (k : ℕ). IsTournament k r.nodes.items (aside_of r)) (sym count) (subst (λ (xs : List Contender). IsTournament n xs (aside_of r)) (sym is)
      (begun n nodes (aside_of r) (omega (arith, length-take-le r.out r.aside.items (omega (arith, out)), out)) size won each));
}

-- there is room for one more aside where a variable is in play
pub room_aside : (n v : ℕ) (nodes : List Contender) (aside : List Aside) → IsTournament n nodes aside → LeadsInPlay n nodes v → length aside < n
room_aside n v nodes aside h leads = omega (arith, h.room, count_less (λ i. (stands_at nodes (n + i)).in_play) n v leads.within leads.plays)

pub top_room : (r : Ranking) (v : ℕ) → IsRanking r → LeadsInPlay (size_of r) r.nodes.items v → r.out < size_of r
top_room r v h leads = omega (arith, room_aside (size_of r) v r.nodes.items (aside_of r) h.tournament leads, length-take-le r.out r.aside.items h.within)

-- what is read of the last that is aside is one of the variables
pub last_named : (r : Ranking) (last : Aside) → IsRanking r → 0 < r.out → last ≡ get_or r.aside.items (r.out - 1) last → last.variable < size_of r
last_named r last h some at = subst (λ (a : Aside). a.variable < size_of r) (sym same) (h.tournament.names (r.out - 1) (omega (arith, some, length-take-le r.out r.aside.items h.within)))
  where
    same : last ≡ aside_at (aside_of r) (r.out - 1)
    same = at ∙ get_or_default r.aside.items (r.out - 1) last no_one (omega (arith, some, h.within)) ∙ sym (get_or-take r.out r.aside.items (r.out - 1) no_one (omega (arith, some)))

-- one more is aside
pub front_more : (out out' : ℕ) (items items' : List Aside) (one : Aside) → out < length items → items' ≡ set items out one → out' ≡ out + 1 → take out' items' ≡ take out items ++ one ∷ []
front_more out out' items items' one room aside count =
    ap (λ (k : ℕ). take k items') count ∙ ap (λ (xs : List Aside). take (out + 1) xs) aside ∙ take_more_set items out one room

-- One variable of a ranking changed.
module _ (old new : Ranking) (v : ℕ) (h : IsRanking old) (same_length : length new.nodes.items ≡ length old.nodes.items) (won : AreWon (size_of old) new.nodes.items)
    (others : (i : ℕ) → (i ≡ v → ⊥) → stands_at new.nodes.items (size_of old + i) ≡ stands_at old.nodes.items (size_of old + i)) where
  pub same_but_one : (stands_at new.nodes.items (size_of old + v)).activity ≡ (stands_at old.nodes.items (size_of old + v)).activity → SameActivities (size_of old) old new
  same_but_one here i l = elim (eq_cases i v) [
    | inl e ↦ subst (λ (j : ℕ). (stands_at new.nodes.items (size_of old + j)).activity ≡ (stands_at old.nodes.items (size_of old + j)).activity) (sym e) here
    | inr ne ↦ ap (λ (c : Contender). c.activity) (others i ne)
  ]

  pub refreshed_ranking : (activity : ℕ) → SameAside old new → stands_at new.nodes.items (size_of old + v) ≡ record { variable = v; activity = activity; in_play = (stands_at old.nodes.items (size_of old + v)).in_play } → IsRanking new
  refreshed_ranking activity same here =
      let items = same.aside in
      let count : size_of new ≡ size_of old = ap (λ (xs : List Aside). length xs) items in
      record {
        few = omega (arith, h.few, count);
        within = omega (arith, h.within, count, same.out);
        tournament = subst (λ (k : ℕ). IsTournament (size_of new) new.nodes.items (take k new.aside.items)) (sym same.out)
            (subst (λ (xs : List Aside). IsTournament (length xs) new.nodes.items (take old.out xs)) (sym items)
            (refreshed (size_of old) v old.nodes.items new.nodes.items same_length won others (aside_of old) activity h.tournament here));
      }

  pub one_aside_more : (after activity : ℕ) → LeadsInPlay (size_of old) old.nodes.items v → new.aside.items ≡ set old.aside.items old.out (record { variable = v; after = after }) → new.out ≡ old.out + 1
      → stands_at new.nodes.items (size_of old + v) ≡ record { variable = v; activity = activity; in_play = false } → IsRanking new
  one_aside_more after activity leads aside out here =
      let count : size_of new ≡ size_of old = ap (λ (xs : List Aside). length xs) aside ∙ length-set old.aside.items old.out (one_of v after) in
      let room : old.out < size_of old = top_room old v h leads in
      record {
        few = omega (arith, h.few, count);
        within = omega (arith, out, room, count);
        tournament = subst (λ (k : ℕ). IsTournament k new.nodes.items (aside_of new)) (sym count)
            (subst (λ (xs : List Aside). IsTournament (size_of old) new.nodes.items xs) (sym (front_more old.out new.out old.aside.items new.aside.items (one_of v after) room aside out))
            (set_one_aside (size_of old) v old.nodes.items new.nodes.items same_length won others (aside_of old) after activity leads.within leads.plays h.tournament here));
      }

  pub one_aside_fewer : (activity : ℕ) → new.aside.items ≡ old.aside.items → new.out + 1 ≡ old.out → v ≡ (aside_at old.aside.items new.out).variable
      → stands_at new.nodes.items (size_of old + v) ≡ record { variable = v; activity = activity; in_play = true } → IsRanking new
  one_aside_fewer activity aside out is here =
      let items = aside in
      let count : size_of new ≡ size_of old = ap (λ (xs : List Aside). length xs) items in
      record {
        few = omega (arith, h.few, count);
        within = omega (arith, h.within, out, count);
        tournament = subst (λ (xs : List Aside). IsTournament (length xs) new.nodes.items (take new.out xs)) (sym items)
            (one_put_back (size_of old) v old.nodes.items new.nodes.items same_length won others new.out activity old.aside.items (omega (arith, h.within, out)) is
            (subst (λ (k : ℕ). IsTournament (size_of old) old.nodes.items (take k old.aside.items)) (sym out) h.tournament) here);
      }

-- where the top is out of play, all are
pub none_plays : (n : ℕ) (nodes : List Contender) (aside : List Aside) → 1 ≤ n → IsTournament n nodes aside → (stands_at nodes 1).in_play ≡ false → NonePlays n nodes
none_plays n nodes aside some h off i l = elim (bool_cases (stands_at nodes (n + i)).in_play) [
  | inl on ↦ absurd (true≢false (sym ((top_leads n nodes (n + i) h.won (omega arith) (omega arith)).plays on) ∙ off))
  | inr out ↦ out
]

-- else it is ahead of all
pub top_is_first : (n : ℕ) (nodes : List Contender) (aside : List Aside) → 1 ≤ n → IsTournament n nodes aside → (stands_at nodes 1).in_play ≡ true → LeadsInPlay n nodes (stands_at nodes 1).variable
top_is_first n nodes aside some h on =
    let top = stands_for n nodes 1 h.won (omega arith) (omega arith) in
    let e : (stands_at nodes 1).variable ≡ top.variable = ap (λ (c : Contender). c.variable) top.is ∙ h.variables top.variable top.within in
    subst (λ (v : ℕ). LeadsInPlay n nodes v) (sym e) (record {
      within = top.within;
      plays = ap (λ (c : Contender). c.in_play) (sym top.is) ∙ on;
      ahead = λ i l. subst (λ (c : Contender). IsAheadOf c (stands_at nodes (n + i))) top.is (top_leads n nodes (n + i) h.won (omega arith) (omega arith));
    })

-- a variable that is out of play is fixed
out_fixed : (n : ℕ) (nodes : List Contender) (aside : List Aside) (s : Trail) (i : ℕ) → IsTournament n nodes aside → AreAllFixed s aside → i < n → (stands_at nodes (n + i)).in_play ≡ false → IsFixed s i
out_fixed n nodes aside s i h fixed l off =
    let is = h.out i l off in
    subst (λ (j : ℕ). IsFixed s j) is.2 (fixed is.0 is.1)

pub none_open : (n : ℕ) (nodes : List Contender) (aside : List Aside) (s : Trail) → IsTournament n nodes aside → AreAllFixed s aside → NonePlays n nodes → AreFixed s n
none_open n nodes aside s h fixed none i l = out_fixed n nodes aside s i h fixed l (none i l)

pub leader_most : (n v : ℕ) (nodes : List Contender) (aside : List Aside) (s : Trail) (activities : List ℕ) → IsTournament n nodes aside → AreAllFixed s aside → LeadsInPlay n nodes v → (IsFixed s v → ⊥) → length activities ≡ n → HaveActivities activities nodes
    → IsMostActive activities s v
leader_most n v nodes aside s activities h fixed leads open_now count have =
    most_active activities s v (omega (arith, leads.within, count)) open_now (λ j l.
    let lj : j < n = omega (arith, l, count) in
    elim (bool_cases (stands_at nodes (n + j)).in_play) [
      | inl on ↦ inr (record {
        activity = omega (arith, (leads.ahead j lj).activity on, active j lj, active v leads.within);
        first = λ tie. omega (arith, (leads.ahead j lj).first on (active j lj ∙ tie ∙ sym (active v leads.within)), h.variables j lj, h.variables v leads.within);
      })
      | inr off ↦ inl (out_fixed n nodes aside s j h fixed lj off)
    ])
  where
    active : (i : ℕ) → i < n → (stands_at nodes (n + i)).activity ≡ get_or activities i 0
    active i l = ap (λ (k : ℕ). (stands_at nodes (k + i)).activity) (sym count) ∙ have i (omega (arith, l, count))

-- the same activities, from one ranking to the next
pub same_next : (n : ℕ) (old mid new : Ranking) → size_of mid ≡ n → SameActivities n old mid → SameActivities (size_of mid) mid new → SameActivities n old new
same_next n old mid new e before after i l = subst (λ (k : ℕ). SameActivities k mid new) e after i l ∙ before i l

pub have_still : (activities : List ℕ) (old new : Ranking) (n : ℕ) → n ≡ length activities → SameActivities n old new → HaveActivities activities old.nodes.items → HaveActivities activities new.nodes.items
have_still activities old new n e same have i l = subst (λ (k : ℕ). SameActivities k old new) e same i l ∙ have i l

-- the first ones stay aside
pub puts_back : (kept out first : ℕ) (items : List Aside) → out ≤ first → first ≤ length items → (0 < out → (0 < kept) × ((aside_at items (out - 1)).after ≤ kept)) → PutsBack kept (take first items) (take out items)
puts_back kept out first items fewer within stays = record {
  front = sym (ap (λ (k : ℕ). take k (take first items)) count ∙ take-take out first items fewer);
  some_kept = λ l. (stays (omega (arith, l, count))).0;
  last = λ l.
      let some : 0 < out = omega (arith, l, count) in
      let same = ap (λ (k : ℕ). aside_at (take out items) (k - 1)) count ∙ get_or-take out items (out - 1) no_one (omega (arith, some)) in
      omega (arith, ap (λ (a : Aside). a.after) same, (stays some).1);
}
  where
    count : length (take out items) ≡ out
    count = length-take-le out items (omega arith)

-- what came back was fixed after more than the kept entries
pub back_more : (kept new mid first : ℕ) (items mids : List Aside) → new + 1 ≡ mid → mids ≡ items → ((0 < kept) × ((aside_at mids (mid - 1)).after ≤ kept) → ⊥) → ((p : ℕ) → mid ≤ p → p < first → 0 < kept → kept < (aside_at items p).after)
    → (p : ℕ) → new ≤ p → p < first → 0 < kept → kept < (aside_at items p).after
back_more kept new mid first items mids count same leaves only p low high some = elim (nat_cases p mid) [
  | inl here ↦
      let e : p ≡ mid - 1 = omega arith in
      elim (nat_cases kept (aside_at items p).after) [
        | inl more ↦ more
        | inr stays ↦ absurd (leaves (some, subst (λ (k : ℕ). (aside_at mids k).after ≤ kept) e (subst (λ (xs : List Aside). (aside_at xs p).after ≤ kept) (sym same) stays)))
      ]
  | inr above ↦ only p above high some
]

pub only_back : (kept out first : ℕ) (items mids : List Aside) → first ≤ length items → out ≤ first → mids ≡ items → ((p : ℕ) → out ≤ p → p < first → 0 < kept → kept < (aside_at items p).after)
    → (p : ℕ) → length (take out mids) ≤ p → p < length (take first items) → 0 < kept → kept < (aside_at (take first items) p).after
only_back kept out first items mids within fewer same only p low high some =
    let l : p < first = omega (arith, high, length-take-le first items within) in
    let some_left : length (take out mids) ≡ out = ap (λ (xs : List Aside). length (take out xs)) same ∙ length-take-le out items (omega arith) in
    omega (arith, only p (omega (arith, low, some_left)) l some, ap (λ (a : Aside). a.after) (get_or-take first items p no_one l))

pub aside_next : (old mid new : Ranking) → SameAside old mid → SameAside mid new → SameAside old new
aside_next old mid new h k = record { aside = k.aside ∙ h.aside; out = k.out ∙ h.out }

-- nothing was set aside yet
pub sets_none : (s : Trail) (aside : List Aside) → SetsAside s aside aside
sets_none s aside = record { more = omega arith; kept = λ p l. refl; after = λ p low l. absurd (omega arith); fixed = λ p low l. absurd (omega arith) }

-- one more variable that is fixed
pub sets_more : (s : Trail) (old mid new : List Aside) (one : Aside) → new ≡ mid ++ one ∷ [] → one.after ≡ length s.entries → IsFixed s one.variable → SetsAside s old mid → SetsAside s old new
sets_more s old mid new one is after fixed h = subst (λ (xs : List Aside). SetsAside s old xs) (sym is) (record {
  more = omega (arith, h.more, count);
  kept = λ p l. get_or_append_left mid (one ∷ []) no_one p (omega (arith, l, h.more)) ∙ h.kept p l;
  after = λ p low l. elim (nat_cases p (length mid)) [
    | inl below ↦ ap (λ (a : Aside). a.after) (get_or_append_left mid (one ∷ []) no_one p below) ∙ h.after p low below
    | inr last ↦ ap (λ (a : Aside). a.after) (at_end p l last) ∙ after
  ];
  fixed = λ p low l. elim (nat_cases p (length mid)) [
    | inl below ↦ subst (λ (a : Aside). IsFixed s a.variable) (sym (get_or_append_left mid (one ∷ []) no_one p below)) (h.fixed p low below)
    | inr last ↦ subst (λ (a : Aside). IsFixed s a.variable) (sym (at_end p l last)) fixed
  ];
})
  where
    count : length (mid ++ one ∷ []) ≡ length mid + 1
    count = omega (arith, length-append mid (one ∷ []))

    at_end : (p : ℕ) → p < length (mid ++ one ∷ []) → length mid ≤ p → aside_at (mid ++ one ∷ []) p ≡ one
    at_end p l last = get_or_push mid one no_one p (let e : length mid ≡ p = omega (arith, l, last, count) in e)

-- all that are aside are fixed
pub all_aside_fixed : (s : Trail) (old new : List Aside) → SetsAside s old new → AreAllFixed s old → AreAllFixed s new
all_aside_fixed s old new h fixed p l = elim (nat_cases p (length old)) [
  | inl below ↦ subst (λ (a : Aside). IsFixed s a.variable) (sym (h.kept p below)) (fixed p below)
  | inr new_one ↦ h.fixed p new_one l
]

-- What stays aside was fixed by the entries that are kept.
module _ (n kept : ℕ) (olds mids : List Aside) (s : Trail) (back : PutsBack kept olds mids) (agrees : AreFixedAside n olds s kept) where
  shorter : length mids ≤ length olds
  shorter = omega (arith, ap (λ (xs : List Aside). length xs) back.front, length-take (length mids) olds)

  as_old : (i : ℕ) → i < length mids → aside_at mids i ≡ aside_at olds i
  as_old i l = ap (λ (xs : List Aside). aside_at xs i) back.front ∙ get_or-take (length mids) olds i no_one l

  stays_fixed : (j : ℕ) → j < length mids → (aside_at mids j).variable < n → IsFixedAfter s.first (take kept s.entries) (aside_at mids j).variable
  stays_fixed j l jn =
      let some : 0 < length mids = omega arith in
      let i = length mids - 1 in
      let low : (aside_at olds i).after ≤ kept = omega (arith, back.last some, ap (λ (a : Aside). a.after) (as_old i (omega arith))) in
      let e = as_old j l in
      subst (λ (a : Aside). IsFixedAfter s.first (take kept s.entries) a.variable) (sym e)
      (fixed-more s.first s.entries (aside_at olds i).after kept (aside_at olds j).variable low
      (agrees (back.some_kept some) i j (omega (arith, shorter, some)) low (omega arith) (omega (arith, jn, ap (λ (a : Aside). a.variable) e))))

  pub still_fixed : ((p : ℕ) → p < length mids → (aside_at mids p).variable < n) → AreAllFixed s mids
  still_fixed names p l = fixed-later s.first s.entries kept (aside_at mids p).variable (stays_fixed p l (names p l))

  -- and what is aside now is fixed by those that there are
  pub seen_aside : (news : List Aside) → SetsAside s mids news → AreFixedAside n news s (length s.entries)
  seen_aside news sets some i j li c lj jn = elim (nat_cases i (length mids)) [
    | inl l ↦
        let ei = sets.kept i l ∙ as_old i l in
        let ej = sets.kept j (omega (arith, l, lj)) in
        let fixed = subst (λ (a : Aside). IsFixedAfter s.first (take kept s.entries) a.variable) (sym ej) (stays_fixed j (omega (arith, l, lj)) (omega (arith, jn, ap (λ (a : Aside). a.variable) ej))) in
        elim (nat_cases kept (aside_at news i).after) [
          | inl later ↦ fixed-more s.first s.entries kept (aside_at news i).after (aside_at news j).variable (omega arith) fixed
          | inr sooner ↦
              let eo = ej ∙ as_old j (omega (arith, l, lj)) in
              subst (λ (a : Aside). IsFixedAfter s.first (take (aside_at news i).after s.entries) a.variable) (sym eo)
              (subst (λ (a : Aside). IsFixedAfter s.first (take a.after s.entries) (aside_at olds j).variable) (sym ei)
              (agrees (back.some_kept (omega (arith, l))) i j (omega (arith, l, shorter)) (omega (arith, sooner, ap (λ (a : Aside). a.after) ei)) lj (omega (arith, jn, ap (λ (a : Aside). a.variable) eo))))
        ]
    | inr l ↦
        subst (λ (k : ℕ). IsFixedAfter s.first (take k s.entries) (aside_at news j).variable) (sym (sets.after i l li))
        (fixed-whole s.first s.entries (aside_at news j).variable (elim (nat_cases j (length mids)) [
          | inl below ↦
              let ej = sets.kept j below in
              subst (λ (a : Aside). IsFixed s a.variable) (sym ej) (fixed-later s.first s.entries kept (aside_at mids j).variable (stays_fixed j below (omega (arith, jn, ap (λ (a : Aside). a.variable) ej))))
          | inr new_one ↦ sets.fixed j new_one (omega (arith, li, lj))
        ]))
  ]

-- a variable of which the clause does not speak gained nothing
pub unspoken : (clause : List Atom) (old new : List ℕ) (i : ℕ) → AreGained clause old new → i < length old → speaks_of clause i ≡ false → get_or new i 0 ≡ get_or old i 0
unspoken clause old new i gains l e =
    let none : gain clause i ≡ 0 = ap (λ (b : Bool). if b then 1 else 0) e in
    omega (arith, gains.each i l, none)

-- a clause speaks of no subject of which neither its first atom nor the others speak
pub speaks_on : (clause : List Atom) (k : ℕ) (t d : Atom) (i : ℕ) → k < length clause → t ≡ get_or clause k d → (i ≡ t.subject → ⊥) → speaks_of (drop (k + 1) clause) i ≡ false → speaks_of (drop k clause) i ≡ false
speaks_on clause k t d i l e ne h =
    let first : drop k clause ≡ get_or clause k d ∷ drop (k + 1) clause = rw (add-one, drop-cons clause k d) in
    let other : (t.subject == i) ≡ false = differ t.subject i (λ same. ne (sym same)) in
    ap (λ (c : List Atom). speaks_of c i) (first ∙ ap (λ (u : Atom). u ∷ drop (k + 1) clause) (sym e)) ∙ ap (λ (b : Bool). b || speaks_of (drop (k + 1) clause) i) other ∙ h
  where
    differ : (a b : ℕ) → (a ≡ b → ⊥) → (a == b) ≡ false
    differ a b ne = grind arith

pub choice_more : (o : Option ℕ) (P P' : Type 0) (Q Q' : ℕ → Type 0) → (P → P') → ((v : ℕ) → Q v → Q' v) → MatchOption o P Q → MatchOption o P' Q'
choice_more None P P' Q Q' none some h = none h
choice_more (Some v) P P' Q Q' none some h = some v h

-- What a brancher by activity has at a choice: its variables after those whose entries are gone are back in play, and after the choice.
module _ (activities : List ℕ) (pace : Pace) (hints : List (Option ℤ)) (old mid new : Ranking) (b : ByActivity) (s : Trail) (kept : ℕ) (view : record { activities = activities; pace = pace; hints = hints; aside = aside_of old } ≡ b)
    (count : size_of old ≡ length activities) (have : HaveActivities activities old.nodes.items) (agrees : AreFixedAside (length b.activities) b.aside s kept)
    (back : PutsBack kept (aside_of old) (aside_of mid)) (mid_count : size_of mid ≡ size_of old) (mid_same : SameActivities (size_of old) old mid) (ranking : IsRanking mid) where
  agreed : AreFixedAside (length activities) (aside_of old) s kept
  agreed = subst (λ (x : ByActivity). AreFixedAside (length x.activities) x.aside s kept) (sym view) agrees

  pub back_fixed : AreAllFixed s (aside_of mid)
  back_fixed = still_fixed (length activities) kept (aside_of old) (aside_of mid) s back agreed (λ p l. omega (arith, ranking.tournament.names p l, mid_count, count))

  pub chosen_seen : SetsAside s (aside_of mid) (aside_of new) → AreFixedAside (length activities) (aside_of new) s (length s.entries)
  chosen_seen sets = seen_aside (length activities) kept (aside_of old) (aside_of mid) s back agreed (aside_of new) sets

  mid_have : HaveActivities activities mid.nodes.items
  mid_have = have_still activities old mid (size_of old) count mid_same have

  pub chosen_most : (variable : ℕ) → IsMostActiveIn (size_of mid) mid s variable → IsMostActive b.activities s variable
  chosen_most variable most = subst (λ (x : ByActivity). IsMostActive x.activities s variable) view (most activities (sym (mid_count ∙ count)) mid_have)

  pub chosen_none : AreFixed s (size_of mid) → AreFixed s (length b.activities)
  chosen_none fixed = subst (λ (x : ByActivity). AreFixed s (length x.activities)) view (subst (λ (n : ℕ). AreFixed s n) (mid_count ∙ count) fixed)

  pub chosen_have : SameActivities (size_of mid) mid new → HaveActivities activities new.nodes.items
  chosen_have same = have_still activities mid new (size_of mid) (mid_count ∙ count) same mid_have
