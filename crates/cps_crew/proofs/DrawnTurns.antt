-- Workers that take turns.
use Rattle.std.specs.Prelude.{Option, None, IsTrue, Bool, true, false, if◌then◌else◌, All, map}
use Rattle.std.specs.List.{range_with_len}
use Rattle.std.proofs.lemmas.List.Elements.{All-nil, All-cons}
use Rattle.std.proofs.Common.{◌≡◌, ◌≢◌, refl, sym, ap, subst, ◌∙◌, ℕ, zero, suc, ◌+◌, ◌<◌, ◌≤◌, ◌%◌, List, [], ◌∷◌, length, get_or, set, drop, arith, length-set, ap₂, replicate}
use Rattle.std.proofs.lemmas.List.{drop_more, length-replicate}
use Rattle.rand_pcg.specs.Lcg.{Lcg}
use Rattle.rand_pcg.specs.Pcg.{pcg32}
use Rattle.cps_model.specs.declared.model.CpModel.{CpModel}
use Rattle.cps_model.specs.declared.bound.Bound.{Bound}
use Rattle.cps_model.specs.declared.bound.Bound.TheVariants.{At}
use Rattle.cps_model.specs.Start.{objective_start}
use Rattle.cps_port.specs.declared.entry.Entry.{Entry}
use Rattle.cps_options.specs.declared.options.Options.{Options}
use Rattle.cps_port.specs.Entries.{most_rows}
use Rattle.cps_port.specs.Shared.{Shared, part_at, actor_count, first_shared}
use Rattle.cps_port.specs.Parts.{newcomer, no_rows, no_bounds}
use Rattle.cps_port.specs.declared.part.BoardPart.{BoardPart}
use Rattle.cps_port.specs.declared.part.BoundsPart.{BoundsPart}
use Rattle.cps_port.specs.declared.part.Part.{Part}
use Rattle.cps_port.specs.Others.{ActsAlone}
use Rattle.cps_port.specs.Order.{BoundLe, IsNoLower, lesser, raised_above}
use Rattle.cps_port.specs.Incumbents.{IsLowerBound}
use Rattle.cps_port.specs.Sound.{IsSoundShared, least_offer, greatest_raise}
use Rattle.cps_model.specs.Statuses.{is_closed}
use Rattle.cps_search.specs.declared.end.End.{End}
use Rattle.cps_search.specs.declared.end.End.TheVariants as ends
use Rattle.cps_search.specs.declared.end.WorkerKind.{WorkerKind}
use Rattle.cps_search.specs.declared.end.Phase.{Phase}
use Rattle.cps_search.specs.Ends.{Ending, IsHonestEnding, IsOver}
use Rattle.cps_search.specs.Following.{best_bound}
use Rattle.cps_crew.specs.declared.interleaved.Turning.{Turning}
use Rattle.cps_crew.specs.Workers.{AnySearch, search_in, kind_in, ending_in, worker_kind, HasTurned, TakesTurnsAs}
use Rattle.cps_crew.specs.Outcomes.{CameTo, EndedWithin, FirstSpentOnlyIf, GoesByModel, SpentOnlyIf, best_of, greatest_raised}
use Rattle.cps_crew.specs.Crews.{IsHonestlyDone, LastSawOpen}
use Rattle.cps_crew.specs.Turning.{AtWork, IsTurning, AreTurning, IsFresh, AreFresh, one_at_work, count_at_work, end_of_phase, ended_of, place_at_work, drawn_place, TakesTurnAt, TakesDrawnTurns}
use Rattle.cps_crew.specs.Turning.{none_yet as none_drawn, one_more as one_drawn}
use Rattle.cps_crew.proofs.MemberRuns.{has_begun, has_kept, none_taken, turned_on, still_runs, left_in, lighter_in, done_from}
use Rattle.cps_crew.proofs.AloneBounds.{SeesAll}
use Rattle.cps_crew.proofs.Crews.{each_cons, each_from_none, lesser_best, over_is}

-- ---- one of a list changes

module _ {A : Type 0} where
  pub each_set : (P Q : ℕ → A → Type 0) (xs : List A) (k : ℕ) (x : A) → ((i : ℕ) (d : A) → i < length xs → P i (get_or xs i d)) → Q k x → ((i : ℕ) → i ≢ k → (y : A) → P i y → Q i y) → (i : ℕ) (d : A) → i < length xs → Q i (get_or (set xs k x) i d)
  each_set P Q [] k x h q o i d l = absurd (omega (arith, l))
  each_set P Q (y ∷ ys) zero x h q o zero d l = q
  each_set P Q (y ∷ ys) zero x h q o (suc i) d l = o (suc i) (λ e. absurd (omega (arith, e))) (get_or ys i d) (h (suc i) d l)
  each_set P Q (y ∷ ys) (suc k) x h q o zero d l = o zero (λ e. absurd (omega (arith, e))) y (h zero d l)
  each_set P Q (y ∷ ys) (suc k) x h q o (suc i) d l =
      each_set (λ j. P (suc j)) (λ j. Q (suc j)) ys k x (λ j b m. h (suc j) b (omega (arith, m))) q (λ j n. o (suc j) (λ e. n (omega (arith, e)))) i d (omega (arith, l))

  -- numbers of each place, added up
  abbrev pub total_by : (ℕ → A → ℕ) → List A → ℕ
  total_by f [] = 0
  total_by f (x ∷ xs) = f 0 x + total_by (λ i. f (suc i)) xs

  same_by : (f g : ℕ → A → ℕ) (xs : List A) → ((i : ℕ) (y : A) → g i y ≡ f i y) → total_by g xs ≡ total_by f xs
  same_by f g [] h = refl
  same_by f g (x ∷ xs) h = let first = h 0 x in let rest = same_by (λ i. f (suc i)) (λ i. g (suc i)) xs (λ i y. h (suc i) y) in omega (arith, first, rest)

  pub less_by : (f g : ℕ → A → ℕ) (xs : List A) (k : ℕ) (x d : A) → k < length xs → g k x < f k (get_or xs k d) → ((i : ℕ) → i ≢ k → (y : A) → g i y ≡ f i y) → total_by g (set xs k x) < total_by f xs
  less_by f g [] k x d l less same = absurd (omega (arith, l))
  less_by f g (y ∷ ys) zero x d l less same =
      let rest = same_by (λ i. f (suc i)) (λ i. g (suc i)) ys (λ i b. same (suc i) (λ e. absurd (omega (arith, e))) b) in
      omega (arith, less, rest)
  less_by f g (y ∷ ys) (suc k) x d l less same =
      let first = same zero (λ e. absurd (omega (arith, e))) y in
      let rest = less_by (λ i. f (suc i)) (λ i. g (suc i)) ys k x d (omega (arith, l)) less (λ i n b. same (suc i) (λ e. n (omega (arith, e))) b) in
      omega (arith, first, rest)

-- ---- a worker's turn among others

module _ {W : Type 0} (known : W → AnySearch) where
  pub at_work : (m : CpModel) (o : Options) (c : Shared) (crew : List (Turning W)) (i : ℕ) (d : Turning W) → AreTurning known m o c crew → i < length crew → (get_or crew i d).over ≡ false
      → AtWork m o i (known (get_or crew i d).worker) (part_at c i)
  at_work m o c crew i d h l still = (h.each i d l).at_work still

pub work_model : (m : CpModel) (o : Options) (i : ℕ) (s : AnySearch) (q : Part) → AtWork m o i s q → (search_in s).instance.model ≡ m
work_model m o i s q h =
    let b = has_begun m o h.first h.begins in
    let kept = has_kept most_rows h.first s newcomer q h.turns in
    kept.model ∙ b.model

pub work_memory : (m : CpModel) (o : Options) (i : ℕ) (s : AnySearch) (q : Part) → AtWork m o i s q → (search_in s).refused ≡ false
work_memory m o i s q h =
    let b = has_begun m o h.first h.begins in
    let kept = has_kept most_rows h.first s newcomer q h.turns in
    kept.refused ∙ b.refused

pub work_imported : (m : CpModel) (o : Options) (i : ℕ) (s : AnySearch) (q : Part) → AtWork m o i s q → (search_in s).imported ≤ length q.board.taken
work_imported m o i s q h =
    let b = has_begun m o h.first h.begins in
    let kept = has_kept most_rows h.first s newcomer q h.turns in
    kept.moves.imports (let none = b.imported in omega (arith, none))

module _ {W : Type 0} (known : W → AnySearch) where
  turns_on : (m : CpModel) (o : Options) (c d : Shared) (i : ℕ) (w v : Turning W) → IsTurning known m o c i w → w.over ≡ false → kind_in (known v.worker) ≡ kind_in (known w.worker)
      → HasTurned most_rows (known w.worker) (known v.worker) (part_at c i) (part_at d i) v.over → IsTurning known m o d i v
  turns_on m o c d i w v h still kind turn =
      let a = h.at_work still in
      let s = known w.worker in
      let t = known v.worker in
      record {
        kind = kind ∙ h.kind;
        at_work = λ on.
            let goes_on = subst (HasTurned most_rows s t (part_at c i) (part_at d i)) on turn in
            record { first = a.first; begins = a.begins; draws = a.draws; turns = turned_on most_rows a.first s t newcomer (part_at c i) (part_at d i) a.turns goes_on; running = still_runs most_rows s t (part_at c i) (part_at d i) goes_on };
        done = λ stopped.
            let last = subst (HasTurned most_rows s t (part_at c i) (part_at d i)) stopped turn in
            done_from m o i a.first t (part_at d i) a.begins a.draws (record { before = s; part = part_at c i; turns = a.turns; last = last });
      }

  pub all_turn_on : (m : CpModel) (o : Options) (c d : Shared) (crew : List (Turning W)) (k : ℕ) (w v : Turning W) → AreTurning known m o c crew → k < length crew → get_or crew k w ≡ w → w.over ≡ false → kind_in (known v.worker) ≡ kind_in (known w.worker)
      → HasTurned most_rows (known w.worker) (known v.worker) (part_at c k) (part_at d k) v.over → ((i : ℕ) → i ≢ k → part_at d i ≡ part_at c i) → AreTurning known m o d (set crew k v)
  all_turn_on m o c d crew k w v h l is still kind turn others =
      let here = subst (λ (x : Turning W). IsTurning known m o c k x) is (h.each k w l) in
      let every = each_set (IsTurning known m o c) (IsTurning known m o d) crew k v h.each (turns_on m o c d k w v here still kind turn) (λ i n y t. record {
        kind = t.kind;
        at_work = λ on. subst (AtWork m o i (known y.worker)) (sym (others i n)) (t.at_work on);
        done = λ stopped. subst (λ (q : Part). IsHonestlyDone m o i q.bounds (known y.worker)) (sym (others i n)) (t.done stopped);
      }) in
      record { each = λ i b m. every i b (omega (arith, m, length-set crew k v)) }

-- ---- why the turns come to an end

module _ {W : Type 0} (known : W → AnySearch) where
  -- what a worker has left to do
  abbrev pub weigh : ℕ → Shared → ℕ → Turning W → ℕ
  weigh rows c i w = if w.over then 0 else 1 + left_in (known w.worker) rows (part_at c i).board

  lighter : (rows : ℕ) (c d : Shared) (k : ℕ) (w v : Turning W) → w.over ≡ false → HasTurned rows (known w.worker) (known v.worker) (part_at c k) (part_at d k) v.over → weigh rows d k v < weigh rows c k w
  lighter rows c d k w v still turn = go v.over refl
    where
      left : ℕ
      left = left_in (known w.worker) rows (part_at c k).board

      right : ℕ
      right = left_in (known v.worker) rows (part_at d k).board

      was : weigh rows c k w ≡ 1 + left
      was = ap (λ (b : Bool). if b then zero else 1 + left) still

      go : (b : Bool) → v.over ≡ b → weigh rows d k v < weigh rows c k w
      go true is = let q : weigh rows d k v ≡ 0 = ap (λ (b : Bool). if b then zero else 1 + right) is in omega (arith, was, q)
      go false is =
          let less : right < left = lighter_in rows (known w.worker) (known v.worker) (part_at c k) (part_at d k) (subst (HasTurned rows (known w.worker) (known v.worker) (part_at c k) (part_at d k)) is turn) in
          let q : weigh rows d k v ≡ 1 + right = ap (λ (b : Bool). if b then zero else 1 + right) is in
          omega (arith, was, less, q)

  pub all_lighter : (rows : ℕ) (c d : Shared) (crew : List (Turning W)) (k : ℕ) (w v : Turning W) → k < length crew → get_or crew k w ≡ w → w.over ≡ false → HasTurned rows (known w.worker) (known v.worker) (part_at c k) (part_at d k) v.over
      → ((i : ℕ) → i ≢ k → part_at d i ≡ part_at c i) → total_by (weigh rows d) (set crew k v) < total_by (weigh rows c) crew
  all_lighter rows c d crew k w v l is still turn others =
      less_by (weigh rows c) (weigh rows d) crew k v w l (subst (λ (x : Turning W). weigh rows d k v < weigh rows c k x) (sym is) (lighter rows c d k w v still turn))
      (λ i n y. ap (λ (q : Part). if y.over then zero else 1 + left_in (known y.worker) rows q.board) (others i n))

-- ---- how many are at work

module _ {W : Type 0} where
  pub count_drop : (crew : List (Turning W)) (i : ℕ) (d : Turning W) → i < length crew → count_at_work (drop i crew) ≡ one_at_work (get_or crew i d) + count_at_work (drop (i + 1) crew)
  count_drop crew i d l = ap count_at_work (drop_more crew i d l)

  -- where the workers before a place are left out, the ranks of those that had not ended are counted down
  pub found_at : (crew : List (Turning W)) (i : ℕ) (d : Turning W) → i < length crew → (get_or crew i d).over ≡ false → place_at_work (drop i crew) 0 ≡ 0
  found_at crew i d l still = subst (λ (ws : List (Turning W)). place_at_work ws 0 ≡ 0) (sym (drop_more crew i d l)) (ap (λ (b : Bool). if b then 1 + place_at_work (drop (i + 1) crew) 0 else zero) still)

  pub passed_over : (crew : List (Turning W)) (i left : ℕ) (d : Turning W) → i < length crew → (get_or crew i d).over ≡ true → place_at_work (drop i crew) left ≡ 1 + place_at_work (drop (i + 1) crew) left
  passed_over crew i left d l over = ap (λ (ws : List (Turning W)). place_at_work ws left) (drop_more crew i d l) ∙ skip left
    where
      skip : (k : ℕ) → place_at_work (get_or crew i d ∷ drop (i + 1) crew) k ≡ 1 + place_at_work (drop (i + 1) crew) k
      skip zero = ap (λ (b : Bool). if b then 1 + place_at_work (drop (i + 1) crew) 0 else zero) over
      skip (suc k) = ap (λ (b : Bool). 1 + place_at_work (drop (i + 1) crew) (if b then suc k else k)) over

  pub counted_down : (crew : List (Turning W)) (i left : ℕ) (d : Turning W) → i < length crew → (get_or crew i d).over ≡ false → place_at_work (drop i crew) (suc left) ≡ 1 + place_at_work (drop (i + 1) crew) left
  counted_down crew i left d l still = ap (λ (ws : List (Turning W)). place_at_work ws (suc left)) (drop_more crew i d l) ∙ ap (λ (b : Bool). 1 + place_at_work (drop (i + 1) crew) (if b then suc left else left)) still

  pub all_over : (crew : List (Turning W)) → count_at_work crew ≡ 0 → (i : ℕ) (d : Turning W) → i < length crew → (get_or crew i d).over ≡ true
  all_over [] e i d l = absurd (omega (arith, l))
  all_over (w ∷ ws) e zero d l = go w.over refl
    where
      go : (b : Bool) → w.over ≡ b → w.over ≡ true
      go true is = is
      go false is = absurd (let q : one_at_work w ≡ 1 = ap (λ (b : Bool). if b then zero else 1) is in omega (arith, e, q))
  all_over (w ∷ ws) e (suc i) d l = all_over ws (omega (arith, e)) i d (omega (arith, l))

-- ---- the drawn schedule

same_read : {A : Type 0} (xs : List A) (k : ℕ) (a b : A) → k < length xs → get_or xs k a ≡ get_or xs k b
same_read [] k a b l = absurd (omega (arith, l))
same_read (x ∷ xs) zero a b l = refl
same_read (x ∷ xs) (suc k) a b l = same_read xs k a b (omega (arith, l))

some_at_work : (count : ℕ) → (count ≡ 0 → ⊥) → 0 < count
some_at_work zero h = absurd (h refl)
some_at_work (suc n) h = omega arith

module _ {W : Type 0} (known : W → AnySearch) where
  -- one turn more, of the worker that was drawn
  pub drawn_more : (rows : ℕ) (c : Shared) (crew : List (Turning W)) (begun : Lcg) (d e : Shared) (later : List (Turning W)) (next : Turning W) (words after : Lcg) (word count place : ℕ) (any : Turning W)
      → TakesDrawnTurns known rows c crew begun d later words → (word, after) ≡ pcg32 words → count ≡ count_at_work later → (count ≡ 0 → ⊥) → place ≡ place_at_work later (word % count) → place < length later
      → HasTurned rows (known (get_or later place any).worker) (known next.worker) (part_at d place) (part_at e place) next.over → ActsAlone place place d e
      → TakesDrawnTurns known rows c crew begun e (set later place next) after
  drawn_more rows c crew begun d e later next words after word count place any before step counted some is within turn alone =
      let word_is : word ≡ (pcg32 words).0 = ap (λ (x : ℕ × Lcg). x.0) step in
      let after_is : after ≡ (pcg32 words).1 = ap (λ (x : ℕ × Lcg). x.1) step in
      let here : place ≡ drawn_place later words = is ∙ ap₂ (λ (x n : ℕ). place_at_work later (x % n)) word_is counted in
      let read : get_or later place any ≡ get_or later place next = same_read later place any next within in
      let took : TakesTurnAt known place rows d e later next = record {
        some_left = subst (λ (n : ℕ). 0 < n) counted (some_at_work count some);
        alone = alone;
        turned = subst (λ (x : Turning W). HasTurned rows (known x.worker) (known next.worker) (part_at d place) (part_at e place) next.over) read turn;
      } in
      let more = one_drawn d e later next words before (subst (λ (k : ℕ). TakesTurnAt known k rows d e later next) here took) in
      subst (λ (k : ℕ). TakesDrawnTurns known rows c crew begun e (set later k next) after) (sym here) (subst (λ (g : Lcg). TakesDrawnTurns known rows c crew begun e (set later (drawn_place later words) next) g) (sym after_is) more)

  -- turns leave the crew as long as it was
  pub drawn_length : (rows : ℕ) (c : Shared) (crew : List (Turning W)) (begun : Lcg) (d : Shared) (later : List (Turning W)) (words : Lcg) → TakesDrawnTurns known rows c crew begun d later words → length later ≡ length crew
  drawn_length rows c crew begun d later words none_drawn = refl
  drawn_length rows c crew begun core after words (one_drawn d e before next left turns took) = length-set before (drawn_place before left) next ∙ drawn_length rows c crew begun d before left turns

-- ---- workers that begin

replicated : {A : Type 0} (n i : ℕ) (x : A) → get_or (replicate n x) i x ≡ x
replicated zero i x = refl
replicated (suc n) zero x = refl
replicated (suc n) (suc i) x = replicated n i x

fresh_part : (m : CpModel) (actors rows i : ℕ) → part_at (first_shared m actors rows) i ≡ newcomer
fresh_part m actors rows i = ap₂ (λ (b : BoardPart) (q : BoundsPart). let p : Part = record { board = b; bounds = q } in p) (replicated actors i no_rows) (replicated actors i no_bounds)

-- a state begins with as many rows as it was made with
pub first_rows : (m : CpModel) (actors rows : ℕ) → length (first_shared m actors rows).board.rows ≡ rows
first_rows m actors rows = length-replicate {A = Option Entry} rows None

module _ {W : Type 0} (known : W → AnySearch) where
  pub all_fresh : (m : CpModel) (o : Options) (actors rows : ℕ) (c : Shared) (crew : List (Turning W)) → c ≡ first_shared m actors rows → AreFresh known m o crew → AreTurning known m o c crew
  all_fresh m o actors rows c crew is h = record { each = λ i d l. one i (get_or crew i d) (h.each i d l) }
    where
      one : (i : ℕ) (w : Turning W) → IsFresh known m o i w → IsTurning known m o c i w
      one i w k =
          let s = known w.worker in
          let b = has_begun m o s k.begins in
          let part : part_at c i ≡ newcomer = ap (λ (x : Shared). part_at x i) is ∙ fresh_part m actors rows i in
          record {
            kind = k.kind;
            at_work = λ still. record {
              first = s;
              begins = k.begins;
              draws = k.draws;
              turns = subst (TakesTurnsAs most_rows s s newcomer) (sym part) (none_taken most_rows s newcomer);
              running = b.running;
            };
            done = λ stopped. absurd (let q : false ≡ true = sym k.not_over ∙ stopped in cc);
          }

-- ---- workers that have all ended

module _ {W : Type 0} (known : W → AnySearch) where
  record IsConcluded (m : CpModel) (o : Options) (upper lower : Bound) (number : ℕ) (q : BoundsPart) (w : Turning W) : Type 0 where
    kind : kind_in (known w.worker) ≡ worker_kind number
    done : IsHonestlyDone m o number q (known w.worker)
    above : BoundLe upper q.saw_upper
    below : IsNoLower q.saw_lower lower

record AreConcluded (m : CpModel) (o : Options) (upper lower : Bound) (first count : ℕ) (ps : List BoundsPart) (es : List Ending) : Type 0 where
  kinds : map (λ (e : Ending). e.kind) es ≡ map worker_kind (range_with_len first count)
  offered : least_offer ps ≡ best_bound m (best_of m es)
  raised : (start : Bound) → greatest_raise start ps ≡ greatest_raised start es
  each : All (EndedWithin m o.gap o.conflicts upper lower) es
  goes : (i : ℕ) (d : Ending) → i < length es → GoesByModel m o (first + i) (get_or es i d)

module _ {W : Type 0} (known : W → AnySearch) (m : CpModel) (o : Options) (upper lower : Bound) where
  concluded : (first : ℕ) (crew : List (Turning W)) (ps : List BoundsPart) → length ps ≡ length crew → ((i : ℕ) (d : Turning W) → i < length crew → IsConcluded known m o upper lower (first + i) (get_or ps i no_bounds) (get_or crew i d))
      → AreConcluded m o upper lower first (length crew) ps (map (ended_of known) crew)
  concluded first [] [] len h = record { kinds = refl; offered = refl; raised = λ start. refl; each = All-nil (EndedWithin m o.gap o.conflicts upper lower); goes = λ i d l. absurd (omega (arith, l)) }
  concluded first [] (p ∷ ps) len h = absurd (omega (arith, len))
  concluded first (w ∷ ws) [] len h = absurd (omega (arith, len))
  concluded first (w ∷ ws) (p ∷ ps) len h =
      let k : IsConcluded known m o upper lower first p w = subst (λ (j : ℕ). IsConcluded known m o upper lower j p w) (let q : first + 0 ≡ first = omega arith in q) (h 0 w (omega arith)) in
      let rest = concluded (first + 1) ws ps (omega (arith, len))
      (λ i d l. subst (λ (j : ℕ). IsConcluded known m o upper lower j (get_or ps i no_bounds) (get_or ws i d)) (let q : first + suc i ≡ first + 1 + i = omega arith in q) (h (suc i) d (omega (arith, l)))) in
      let s = known w.worker in
      let is : ended_of known w ≡ ending_in s k.done.end = ap (λ (y : Phase). ending_in s (end_of_phase y)) k.done.over in
      let honest : IsHonestEnding m o.gap o.conflicts p (ended_of known w) = subst (IsHonestEnding m o.gap o.conflicts p) (sym is) k.done.honest in
      record {
        kinds = ap₂ (λ (x : WorkerKind) (xs : List WorkerKind). x ∷ xs) k.kind rest.kinds;
        offered = ap₂ lesser honest.offered rest.offered ∙ lesser_best m (ended_of known w).best (best_of m (map (ended_of known) ws));
        raised = λ start. ap₂ raised_above honest.raised (rest.raised start);
        each = All-cons (EndedWithin m o.gap o.conflicts upper lower) (ended_of known w) (map (ended_of known) ws) (record {
          part = p;
          ended = honest;
          sums = k.done.sums;
          above = k.above;
          below = k.below;
        }) rest.each;
        goes = each_cons (GoesByModel m o) first (ended_of known w) (map (ended_of known) ws) (subst (GoesByModel m o first) (sym is) k.done.goes) rest.goes;
      }

only_if : (P Q : Type 0) (end : End) → (P → Q) → SpentOnlyIf P end → SpentOnlyIf Q end
only_if P Q ends.Exhausted f h = tt
only_if P Q ends.SawClosed f h = tt
only_if P Q (ends.Spent clause below) f h = f h
only_if P Q ends.RoundsDone f h = tt

module _ {W : Type 0} (known : W → AnySearch) where
  -- where the first worker saw last what the bounds are, it spent its budget only where they have not met
  pub open_first : (m : CpModel) (o : Options) (c : Shared) (crew : List (Turning W)) → AreTurning known m o c crew → count_at_work crew ≡ 0 → SeesAll c.bounds → FirstSpentOnlyIf (is_closed c.bounds.lower c.bounds.upper o.gap ≡ false) (map (ended_of known) crew)
  open_first m o c [] h none sees = tt
  open_first m o c (w ∷ ws) h none sees =
      let t = h.each 0 w (omega arith) in
      let done = t.done (all_over (w ∷ ws) none 0 w (omega arith)) in
      let now : LastSawOpen o.gap (part_at c 0).bounds → is_closed c.bounds.lower c.bounds.upper o.gap ≡ false =
      λ saw. ap₂ (λ (l u : Bound). is_closed l u o.gap) (sees.lower saw.lower saw.saw_lower) (sym sees.upper) ∙ saw.open_yet in
      subst (λ (end : End). SpentOnlyIf (is_closed c.bounds.lower c.bounds.upper o.gap ≡ false) end) (sym (ap end_of_phase done.over))
      (only_if (LastSawOpen o.gap (part_at c 0).bounds) (is_closed c.bounds.lower c.bounds.upper o.gap ≡ false) done.end now (done.looked t.kind))

module _ {W : Type 0} (known : W → AnySearch) where
  pub came_in_turns : (m : CpModel) (o : Options) (c : Shared) (crew : List (Turning W)) → IsSoundShared c → c.model ≡ m → length crew ≡ o.workers → actor_count c ≡ length crew → AreTurning known m o c crew → count_at_work crew ≡ 0 → (IsTrue o.log → SeesAll c.bounds)
      → CameTo m o c.bounds.upper c.bounds.lower (map (ended_of known) crew)
  came_in_turns m o c crew sound model len actors h none alone =
      let all = concluded known m o c.bounds.upper c.bounds.lower 0 crew c.bounds.parts (sound.both ∙ actors) (λ i d l.
      let t = h.each i d l in
      subst (λ (j : ℕ). IsConcluded known m o c.bounds.upper c.bounds.lower j (get_or c.bounds.parts i no_bounds) (get_or crew i d)) (let q : i ≡ 0 + i = omega arith in q)
      (record { kind = t.kind; done = t.done (all_over crew none i d l); above = sound.bounds.saw_upper i; below = sound.bounds.saw_lower i })) in
      record {
        kinds = all.kinds ∙ ap (λ (n : ℕ). map worker_kind (range_with_len 0 n)) len;
        upper_is = sound.bounds.upper ∙ all.offered;
        lower_is = sound.bounds.lower ∙ all.raised (At (objective_start c.model)) ∙ ap (λ (x : CpModel). greatest_raised (At (objective_start x)) (map (ended_of known) crew)) model;
        floor = subst (λ (x : CpModel). IsLowerBound x c.bounds.lower) model sound.bounds.floor;
        each = all.each;
        goes = each_from_none (GoesByModel m o) (map (ended_of known) crew) all.goes;
        open_yet = λ asked. open_first known m o c crew h none (alone asked);
      }

  pub each_over : (m : CpModel) (o : Options) (c : Shared) (crew : List (Turning W)) → AreTurning known m o c crew → count_at_work crew ≡ 0 → All (λ (w : Turning W). IsOver (search_in (known w.worker)).phase) crew
  each_over m o c crew h none i d l = let k = (h.each i d l).done (all_over crew none i d l) in over_is (search_in (known (get_or crew i d).worker)) k.end k.over
