-- Seats that are split among workers and joined again.
use Rattle.std.specs.Prelude.{Option, Some, None, All, int_lt, if◌then◌else◌, ◌↔◌, IsTrue, Bool, true, false, ℤ, slice_index_or}
use Rattle.std.specs.Int.{int_min}
use Rattle.std.proofs.Common.{◌≡◌, ℕ, zero, suc, ◌+◌, ◌-◌, ◌/◌, ◌^◌, ◌<◌, ◌≤◌, List, [], ◌∷◌, ◌++◌, length, get_or, arith, refl, sym, ap, ap₂, subst, ◌∙◌, length-append, ◌⊎◌, inl, inr, take, drop}
use Rattle.std.proofs.Math.Nat.{two-pow-succ}
use Rattle.std.proofs.lemmas.Int.{ints, int_min_is, int_max_is}
use Rattle.std.proofs.lemmas.List.Elements.{All-nil, All-cons, All-weaker}
use Rattle.std.proofs.lemmas.Option.{IfSome_then}
use Rattle.cps_options.specs.declared.options.Options.{Options}
use Rattle.cps_options.specs.Ranges.{AreInRange}
use Rattle.cps_model.specs.declared.model.CpModel.{CpModel}
use Rattle.cps_model.specs.declared.bound.Bound.{Bound}
use Rattle.cps_model.specs.declared.bound.Bound.TheVariants.{At, Infinite}
use Rattle.cps_model.specs.Solutions.{objective_value}
use Rattle.cps_bounds.specs.declared.seats.Bounds.{Bounds}
use Rattle.cps_board.specs.declared.seats.Board.{Board}
use Rattle.cps_bounds.specs.Seats as words
use Rattle.cps_board.specs.Seats as boards
use Rattle.cps_bounds.specs.Rule.{both_parts}
use Rattle.cps_port.specs.declared.part.BoundsPart.{BoundsPart}
use Rattle.cps_port.specs.declared.part.Part.{Part}
use Rattle.cps_port.specs.Entries.{most_rows}
use Rattle.cps_port.specs.Parts.{newcomer}
use Rattle.cps_port.specs.Order.{BoundLe, IsNoLower, lesser, greater, greater_of, raised_above}
use Rattle.cps_port.specs.Totals.{total}
use Rattle.cps_port.proofs.BoundLaws.{BoundLe-trans, lesser-first, lesser-second, greater-first, greater-exchange}
use Rattle.cps_search.specs.declared.end.End.{End}
use Rattle.cps_search.specs.declared.end.Phase.TheVariants.{Over}
use Rattle.cps_search.specs.declared.end.WorkerKind.{WorkerKind}
use Rattle.cps_search.specs.Searches.{Search}
use Rattle.cps_search.specs.Ends.{Ending, IsOver, IsHonestEnding}
use Rattle.cps_search.specs.Following.{best_bound}
use Rattle.cps_search.proofs.Bounds.{greater-second, same_bound}
use Rattle.cps_crew.specs.declared.seats.Seated.{Seated}
use Rattle.cps_crew.specs.Workers.{AnySearch, search_in, kind_in, ending_in, worker_kind, DrawsBy, HasEnded, SearchesNear}
use Rattle.cps_model.specs.Start.{objective_start}
use Rattle.cps_port.specs.Incumbents.{IsLowerBound}
use Rattle.cps_crew.specs.Outcomes.{CameTo, EndedWithin, GoesByModel, HasSums, better, best_of}
use Rattle.cps_crew.specs.Crews.{part_at, words_part, words_splits, IsBackAt, MayWork, Worked, IsSeated, IsCrew, IsHonestlyDone, IsHonestEnd, HasReturned, HaveReturned, EndedSeen, AreGathered}
use Rattle.cps_crew.proofs.MemberRuns.{done_from}

-- ---- lists that grow and shrink at their end

module _ {A : Type 0} where
  pub front : (xs ys : List A) (k : ℕ) (d : A) → k < length xs → get_or (xs ++ ys) k d ≡ get_or xs k d
  front [] ys k d h = absurd (omega arith)
  front (x ∷ xs) ys zero d h = refl
  front (x ∷ xs) ys (suc k) d h = front xs ys k d (omega arith)

  pub last_at : (xs : List A) (x d : A) → get_or (xs ++ x ∷ []) (length xs) d ≡ x
  last_at [] x d = refl
  last_at (y ∷ ys) x d = last_at ys x d

  pub total_push : (f : A → ℕ) (xs : List A) (x : A) → total f (xs ++ x ∷ []) ≡ total f xs + f x
  total_push f [] x = omega arith
  total_push f (y ∷ ys) x = let h = total_push f ys x in omega arith

  -- a fact of each place, and of one more at the end
  pub each_push : (P : ℕ → A → Type 0) (xs : List A) (x : A) → ((i : ℕ) (d : A) → i < length xs → P i (get_or xs i d)) → P (length xs) x → (i : ℕ) (d : A) → i < length (xs ++ x ∷ []) → P i (get_or (xs ++ x ∷ []) i d)
  each_push P xs x h last i d l = go (cases i (length xs))
    where
      cases : (a b : ℕ) → (a < b) ⊎ (b ≤ a)
      cases a b = grind arith

      go : (i < length xs) ⊎ (length xs ≤ i) → P i (get_or (xs ++ x ∷ []) i d)
      go (inl less) = subst (P i) (sym (front xs (x ∷ []) i d less)) (h i d less)
      go (inr more) =
          let same : length xs ≡ i = omega (arith, more, l, length-append xs (x ∷ [])) in
          subst (λ (j : ℕ). P j (get_or (xs ++ x ∷ []) j d)) same (subst (P (length xs)) (sym (last_at xs x d)) last)

  pub each_front : (P : ℕ → A → Type 0) (xs : List A) (x : A) → ((i : ℕ) (d : A) → i < length (xs ++ x ∷ []) → P i (get_or (xs ++ x ∷ []) i d)) → (i : ℕ) (d : A) → i < length xs → P i (get_or xs i d)
  each_front P xs x h i d l = subst (P i) (front xs (x ∷ []) i d l) (h i d (omega (arith, l, length-append xs (x ∷ []))))

  pub each_last : (P : ℕ → A → Type 0) (xs : List A) (x : A) → ((i : ℕ) (d : A) → i < length (xs ++ x ∷ []) → P i (get_or (xs ++ x ∷ []) i d)) → P (length xs) x
  each_last P xs x h = subst (P (length xs)) (last_at xs x x) (h (length xs) x (omega (arith, length-append xs (x ∷ []))))

  -- a fact of each place from a number on, where it holds of the first place and of those after it
  pub each_cons : (P : ℕ → A → Type 0) (first : ℕ) (x : A) (xs : List A) → P first x → ((i : ℕ) (d : A) → i < length xs → P (first + 1 + i) (get_or xs i d)) → (i : ℕ) (d : A) → i < length (x ∷ xs) → P (first + i) (get_or (x ∷ xs) i d)
  each_cons P first x xs here rest zero d l = subst (λ (j : ℕ). P j x) (let q : first ≡ first + 0 = omega arith in q) here
  each_cons P first x xs here rest (suc i) d l = subst (λ (j : ℕ). P j (get_or xs i d)) (let q : first + 1 + i ≡ first + suc i = omega arith in q) (rest i d (omega (arith, l)))

  pub each_from_none : (P : ℕ → A → Type 0) (xs : List A) → ((i : ℕ) (d : A) → i < length xs → P (0 + i) (get_or xs i d)) → (i : ℕ) (d : A) → i < length xs → P i (get_or xs i d)
  each_from_none P xs h i d l = subst (λ (j : ℕ). P j (get_or xs i d)) (let q : 0 + i ≡ i = omega arith in q) (h i d l)

  take_all : (ys zs : List A) → take (length ys) (ys ++ zs) ≡ ys
  take_all [] zs = refl
  take_all (y ∷ ys) zs = ap (λ (l : List A). y ∷ l) (take_all ys zs)

  -- what was written over a whole list
  pub written : (n : ℕ) (xs ys : List A) → n ≡ length xs → length ys ≡ length xs → take n (ys ++ drop (length ys) xs) ≡ ys
  written n xs ys e h = ap (λ (k : ℕ). take k (ys ++ drop (length ys) xs)) (e ∙ sym h) ∙ take_all ys (drop (length ys) xs)

  -- lists with equal numbers at each place have equal sums
  pub total_same : (f : A → ℕ) (xs ys : List A) → length ys ≡ length xs → ((i : ℕ) (d : A) → i < length xs → f (get_or ys i d) ≡ f (get_or xs i d)) → total f ys ≡ total f xs
  total_same f [] [] e h = refl
  total_same f [] (y ∷ ys) e h = absurd (omega (arith, e))
  total_same f (x ∷ xs) [] e h = absurd (omega (arith, e))
  total_same f (x ∷ xs) (y ∷ ys) e h =
      let first : f y ≡ f x = h 0 x (omega arith) in
      let rest = total_same f xs ys (omega (arith, e)) (λ i d l. h (suc i) d (omega (arith, l))) in
      omega (arith, first, rest)

-- ---- halves

one_at_least : (k : ℕ) → 1 ≤ 2 ^ k
one_at_least zero = omega arith
one_at_least (suc k) = omega (arith, one_at_least k, two-pow-succ k)

half : (k s : ℕ) → s ≡ 2 ^ suc k → (2 ≤ s) × (s - s / 2 ≡ 2 ^ k)
half k s e =
    let two : s ≡ 2 ^ k + 2 ^ k = e ∙ two-pow-succ k in
    let one = one_at_least k in
    (omega (arith, two, one), omega (arith, two, one))

-- before the next worker is seated there are at least two splits, and half of them are left after it
pub halves : (n workers s : ℕ) → n < workers → workers ≤ 16 → s ≡ 2 ^ (32 - n) → (2 ≤ s) × (s - s / 2 ≡ 2 ^ (32 - (n + 1)))
halves n workers s l most e =
    let next : 32 - n ≡ suc (32 - (n + 1)) = omega (arith, l, most) in
    half (32 - (n + 1)) s (e ∙ ap (λ (k : ℕ). 2 ^ k) next)

-- ---- two seats that meet

swap_greater : (a b : Bound) → greater a b ≡ greater b a
swap_greater a b = same_bound (greater a b) (greater b a) (at_most a b) (at_most b a)
  where
    at_most : (x y : Bound) → BoundLe (greater x y) (greater y x)
    at_most x y = least x y (greater y x) (greater-second y x) (greater-first y x)
      where
        least : (p q r : Bound) → BoundLe p r → BoundLe q r → BoundLe (greater p q) r
        least (At p) (At q) (At r) h k = omega (arith, ints, int_max_is)
        least (At p) (At q) Infinite h k = tt
        least (At p) Infinite r h k = k
        least Infinite q r h k = h

lesser_top : (b : Bound) → lesser b Infinite ≡ b
lesser_top (At x) = refl
lesser_top Infinite = refl

-- the better of two solutions has the lesser objective
best_lesser : (m : CpModel) (a b : Option (List ℤ)) → lesser (best_bound m b) (best_bound m a) ≡ best_bound m (better m a b)
best_lesser m None b = lesser_top (best_bound m b)
best_lesser m (Some x) None = refl
best_lesser m (Some x) (Some y) = go (int_lt (objective_value m y) (objective_value m x)) refl
  where
    go : (t : Bool) → int_lt (objective_value m y) (objective_value m x) ≡ t → At (int_min (objective_value m y) (objective_value m x)) ≡ best_bound m (if t then Some y else Some x)
    go true less = ap At (least_first (objective_value m y) (objective_value m x) less)
      where
        least_first : (v w : ℤ) → int_lt v w ≡ true → int_min v w ≡ v
        least_first v w h = grind (arith, ints, int_min_is)
    go false less = ap At (least_second (objective_value m y) (objective_value m x) less)
      where
        least_second : (v w : ℤ) → int_lt v w ≡ false → int_min v w ≡ w
        least_second v w h = grind (arith, ints, int_min_is)

swap_lesser : (a b : Bound) → lesser a b ≡ lesser b a
swap_lesser a b = same_bound (lesser a b) (lesser b a) (most b a (lesser a b) (lesser-second a b) (lesser-first a b)) (most a b (lesser b a) (lesser-second b a) (lesser-first b a))
  where
    most : (p q r : Bound) → BoundLe r p → BoundLe r q → BoundLe r (lesser p q)
    most (At p) (At q) (At r) h k = omega (arith, ints, int_min_is)
    most (At p) (At q) Infinite h k = h
    most (At p) Infinite r h k = h
    most Infinite q r h k = k

pub lesser_best : (m : CpModel) (a b : Option (List ℤ)) → lesser (best_bound m a) (best_bound m b) ≡ best_bound m (better m a b)
lesser_best m a b = swap_lesser (best_bound m a) (best_bound m b) ∙ best_lesser m a b

raised_both : (a b : Option Bound) (start : Bound) → raised_above (greater_of a b) start ≡ raised_above b (raised_above a start)
raised_both a None start = refl
raised_both None (Some b) start = refl
raised_both (Some a) (Some b) start = greater-exchange a b start ∙ swap_greater (greater a start) b

no_lower_first : (a c : Option Bound) (b : Bound) → IsNoLower (greater_of a c) b → IsNoLower a b
no_lower_first a None b h = h
no_lower_first None (Some c) b h = tt
no_lower_first (Some a) (Some c) b h = BoundLe-trans a (greater a c) b (greater-first a c) h

no_lower_second : (a c : Option Bound) (b : Bound) → IsNoLower (greater_of a c) b → IsNoLower c b
no_lower_second a None b h = tt
no_lower_second None (Some c) b h = h
no_lower_second (Some a) (Some c) b h = BoundLe-trans c (greater a c) b (greater-second a c) h

-- ---- one more worker's seats were joined

pub none_gathered : (m : CpModel) (o : Options) (first : ℕ) (k : BoundsPart) → k.offered ≡ Infinite → k.raised ≡ None → AreGathered m o first 0 k []
none_gathered m o first k offered raised = record {
  kinds = refl;
  offered = offered;
  raised = λ start. ap (λ (o : Option Bound). raised_above o start) raised;
  each = All-nil (EndedSeen m o.gap o.conflicts k);
  goes = λ i d l. absurd (omega (arith, l));
}

pub over_is : (s : Search) (end : End) → s.phase ≡ Over end → IsOver s.phase
over_is s end e = subst IsOver (sym e) tt

-- what is seen of a worker that ended honestly
pub honest_end : (m : CpModel) (o : Options) (q : BoundsPart) (number : ℕ) (s : AnySearch) (e : Ending) → kind_in s ≡ worker_kind number → IsHonestlyDone m o number q s → (search_in s).phase ≡ Over e.end → e ≡ ending_in s e.end
    → IsHonestEnd m o q number e
honest_end m o q number s e kind_is done phase is =
    let both : Over e.end ≡ Over done.end = sym phase ∙ done.over in
    let same : e.end ≡ done.end = cc in
    let all : e ≡ ending_in s done.end = is ∙ ap (ending_in s) same in
    record {
      kind = ap (λ (x : Ending). x.kind) all ∙ kind_is;
      honest = subst (IsHonestEnding m o.gap o.conflicts q) (sym all) done.honest;
      sums = subst (λ (x : Ending). HasSums x.kind m x.defs) (sym all) done.sums;
      goes = subst (GoesByModel m o number) (sym all) done.goes;
    }

pub one_gathered : (m : CpModel) (o : Options) (first count : ℕ) (k j q : BoundsPart) (e : Ending) (ends : List Ending) → AreGathered m o (first + 1) count k ends → IsHonestEnd m o q first e → j ≡ both_parts k q
    → AreGathered m o first (suc count) j (e ∷ ends)
one_gathered m o first count k j q e ends h done joined =
    let offered : j.offered ≡ lesser k.offered q.offered = ap (λ (x : BoundsPart). x.offered) joined in
    let raised : j.raised ≡ greater_of k.raised q.raised = ap (λ (x : BoundsPart). x.raised) joined in
    let upper : j.saw_upper ≡ lesser k.saw_upper q.saw_upper = ap (λ (x : BoundsPart). x.saw_upper) joined in
    let lower : j.saw_lower ≡ greater_of k.saw_lower q.saw_lower = ap (λ (x : BoundsPart). x.saw_lower) joined in
    record {
      kinds = ap₂ (λ (x : WorkerKind) (xs : List WorkerKind). x ∷ xs) done.kind h.kinds;
      offered = offered ∙ ap₂ lesser h.offered done.honest.offered ∙ best_lesser m e.best (best_of m ends);
      raised = λ start. ap (λ (o : Option Bound). raised_above o start) raised ∙ raised_both k.raised q.raised start ∙ ap₂ raised_above done.honest.raised (h.raised start);
      each = All-cons (EndedSeen m o.gap o.conflicts j) e ends (record {
        part = q;
        ended = done.honest;
        sums = done.sums;
        above = subst (λ (b : Bound). BoundLe b q.saw_upper) (sym upper) (lesser-second k.saw_upper q.saw_upper);
        below = λ b l. no_lower_second k.saw_lower q.saw_lower b (subst (λ (o : Option Bound). IsNoLower o b) lower l);
      })
          (All-weaker (EndedSeen m o.gap o.conflicts k) (EndedSeen m o.gap o.conflicts j) (λ x y. record {
            part = y.part;
            ended = y.ended;
            sums = y.sums;
            above = subst (λ (b : Bound). BoundLe b y.part.saw_upper) (sym upper) (BoundLe-trans (lesser k.saw_upper q.saw_upper) k.saw_upper y.part.saw_upper (lesser-first k.saw_upper q.saw_upper) y.above);
            below = λ b l. y.below b (no_lower_first k.saw_lower q.saw_lower b (subst (λ (o : Option Bound). IsNoLower o b) lower l));
          }) ends h.each);
      goes = each_cons (GoesByModel m o) first e ends done.goes h.goes;
    }

-- ---- a worker that was seated and then searched is back

pub has_returned : (m : CpModel) (o : Options) (board : Board) (bounds : Bounds) (number : ℕ) (a b : Seated) → boards.rows_of board ≡ most_rows → IsSeated board bounds number a → Worked m o a b → HasReturned m o board bounds number b
has_returned m o board bounds number a b whole h w = record {
  board_is = w.seats.board ∙ h.board_is;
  bounds_is = w.seats.bounds ∙ h.bounds_is;
  done = IfSome_then b.ended w.ended (λ e s.
      let rows : boards.rows_of a.port.board.now ≡ most_rows = ap boards.rows_of h.board_is ∙ whole in
      let ended = subst (λ (n : ℕ). HasEnded n s.first s.last newcomer (part_at b)) rows (subst (λ (p : Part). HasEnded (boards.rows_of a.port.board.now) s.first s.last p (part_at b)) h.new s.ended) in
      let draws = subst (λ (n : ℕ). DrawsBy o.seed n s.first) h.number_is s.draws in
      honest_end m o (words_part b) number s.last e (s.kind ∙ ap worker_kind h.number_is) (done_from m o number s.first s.last (part_at b) s.begins draws ended) s.over s.is);
}

pub all_ready : (suits : CpModel → Type 0) (m pool : CpModel) (is_read : Bool) (o : Options) (board : Board) (bounds : Bounds) (crew : List Seated) → words.model_of bounds ≡ m → pool ≡ m → (IsTrue is_read ↔ SearchesNear o.workers) → length crew ≡ o.workers → AreInRange o → suits m
    → IsCrew board bounds crew → All (MayWork suits m o pool is_read) crew
all_ready suits m pool is_read o board bounds crew model found reads count range suited h i d l =
    let s = h.each i d l in
    record { range = range; suited = suited; number = (let at = s.number_is in omega (arith, at, count, l)); found = found; reads = reads; words = ap words.model_of s.bounds_is ∙ model }

pub all_back : (m : CpModel) (o : Options) (board : Board) (bounds : Bounds) (crew after : List Seated) → boards.rows_of board ≡ most_rows → length after ≡ length crew → IsCrew board bounds crew
    → ((i : ℕ) (d : Seated) → i < length crew → Worked m o (slice_index_or crew i d) (slice_index_or after i d)) → HaveReturned m o board bounds after
all_back m o board bounds crew after whole len h w = record { each = λ i d l. let k : i < length crew = omega (arith, l, len) in has_returned m o board bounds i _ _ whole (h.each i d k) (w i d k) }

-- the workers that were written over the crew after they searched
pub written_back : (m : CpModel) (o : Options) (board board' : Board) (bounds bounds' : Bounds) (n : ℕ) (crew before after : List Seated) → n ≡ length crew → before ≡ crew → length after ≡ length before → board ≡ board' → bounds ≡ bounds' → boards.rows_of board' ≡ most_rows
    → IsCrew board' bounds' crew → ((i : ℕ) (d : Seated) → i < length before → Worked m o (slice_index_or before i d) (slice_index_or after i d))
    → HaveReturned m o board bounds (take n (after ++ drop (length after) crew))
written_back m o board board' bounds bounds' n crew before after full same len at_board at_bounds whole h w =
    let long : length after ≡ length crew = len ∙ ap (λ (l : List Seated). length l) same in
    let there = subst (λ (b : Bounds). IsCrew board b crew) (sym at_bounds) (subst (λ (b : Board). IsCrew b bounds' crew) (sym at_board) h) in
    let seated = subst (IsCrew board bounds) (sym same) there in
    subst (HaveReturned m o board bounds) (sym (written n crew after full long)) (all_back m o board bounds before after (ap boards.rows_of at_board ∙ whole) len seated w)

pub all_at : (m : CpModel) (o : Options) (board : Board) (bounds : Bounds) (crew : List Seated) → HaveReturned m o board bounds crew → All (IsBackAt board bounds) crew
all_at m o board bounds crew h i d l = let back = h.each i d l in (back.board_is, back.bounds_is)

pub splits_back : (m : CpModel) (o : Options) (crew after : List Seated) → length after ≡ length crew → ((i : ℕ) (d : Seated) → i < length crew → Worked m o (slice_index_or crew i d) (slice_index_or after i d))
    → total words_splits after ≡ total words_splits crew
splits_back m o crew after len w = total_same words_splits crew after len (λ i d l. (w i d l).seats.bounds_splits)

-- ---- the words that are left

pub came_to : (m : CpModel) (o : Options) (k : BoundsPart) (upper lower : Bound) (ends : List Ending) → AreGathered m o 0 o.workers k ends → upper ≡ k.offered → lower ≡ raised_above k.raised (At (objective_start m))
    → IsLowerBound m lower → BoundLe upper k.saw_upper → IsNoLower k.saw_lower lower → o.log ≡ false → CameTo m o upper lower ends
came_to m o k upper lower ends h u l floor above below no_log = record {
  kinds = h.kinds;
  upper_is = u ∙ h.offered;
  lower_is = l ∙ h.raised (At (objective_start m));
  floor = floor;
  each = All-weaker (EndedSeen m o.gap o.conflicts k) (EndedWithin m o.gap o.conflicts upper lower) (λ e y. record {
    part = y.part;
    ended = y.ended;
    sums = y.sums;
    above = BoundLe-trans upper k.saw_upper y.part.saw_upper above y.above;
    below = y.below lower below;
  }) ends h.each;
  goes = each_from_none (GoesByModel m o) ends h.goes;
  open_yet = λ asked. absurd (let q : false ≡ true = sym no_log ∙ asked in cc);
}
