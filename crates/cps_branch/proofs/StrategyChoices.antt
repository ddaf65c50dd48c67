-- The subject that a strategy takes, one subject after another, and the strategy that is followed.
use Rattle.std.specs.List.{AllZip}
use Rattle.std.specs.Prelude.{All, int_le, if◌then◌else◌}
use Rattle.std.proofs.Common.{◌≡◌, ℕ, ◌+◌, ◌<◌, List, [], ◌∷◌, ◌++◌, length, take, drop, get_or, true, false, refl, sym, ◌∙◌, ap, subst, arith, ℤ, pos, ◌≤ℤ◌, ◌<ℤ◌}
use Rattle.std.proofs.lemmas.Int.{ints}
use Rattle.std.proofs.lemmas.List.{append_assoc, drop_more, take-append-drop}
use Rattle.std.proofs.lemmas.List.Elements.{All-nil, All-cons, All-append, All-push, All-weaker, All-from_get_or}
use Rattle.cps_model.specs.declared.steering.Choose.{Choose}
use Rattle.cps_model.specs.declared.steering.Choose.TheVariants.{First}
use Rattle.cps_domain.proofs.Tests.{true_le, false_le}
use Rattle.cps_literal.specs.declared.atom.Atom.{Atom}
use Rattle.cps_instance.specs.declared.steering.Steering.{Steering}
use Rattle.cps_instance.specs.Problem.{Problem, IsInstance, IsSubjectOf, Steers, variable_count}
use Rattle.cps_instance.proofs.Agreeing.{All-append_right}
use Rattle.cps_trail.specs.Trail.{Trail}
use Rattle.cps_branch.specs.declared.strategy.Ranked.{Ranked}
use Rattle.cps_branch.specs.Fixed.{IsFixed}
use Rattle.cps_branch.specs.Strategies.{IsRank, IsRankedAbove, IsRankedFrom, IsTaken, better_of, IsDone, DecidesBy, FollowsStrategies}

-- a fixed subject changes nothing
pub taken_fixed : (choose : Choose) (s : Trail) (xs : List ℕ) (x : ℕ) (b : Ranked) → IsFixed s x → IsTaken choose s xs b.subject b.rank → IsTaken choose s (xs ++ x ∷ []) b.subject b.rank
taken_fixed choose s xs x b fixed h = record {
  before = h.before;
  after = h.after ++ x ∷ [];
  listed = ap (λ ys. ys ++ x ∷ []) h.listed ∙ append_assoc h.before (b.subject ∷ h.after) (x ∷ []);
  open_now = h.open_now;
  rank_is = h.rank_is;
  earlier = h.earlier;
  later = All-push (IsRankedFrom choose s b.rank) h.after x h.later (λ open_now. absurd (open_now fixed));
}

-- one that is no better comes later
taken_before : (choose : Choose) (s : Trail) (xs : List ℕ) (b n : Ranked) → b.rank ≤ℤ n.rank → IsRank choose s n.subject n.rank → IsTaken choose s xs b.subject b.rank → IsTaken choose s (xs ++ n.subject ∷ []) b.subject b.rank
taken_before choose s xs b n le is h = record {
  before = h.before;
  after = h.after ++ n.subject ∷ [];
  listed = ap (λ ys. ys ++ n.subject ∷ []) h.listed ∙ append_assoc h.before (b.subject ∷ h.after) (n.subject ∷ []);
  open_now = h.open_now;
  rank_is = h.rank_is;
  earlier = h.earlier;
  later = All-push (IsRankedFrom choose s b.rank) h.after n.subject h.later (λ open_now. (n.rank, (is, le)));
}

below_above : (choose : Choose) (s : Trail) (a b : ℤ) (i : ℕ) → a <ℤ b → IsRankedAbove choose s b i → IsRankedAbove choose s a i
below_above choose s a b i less h = λ open_now. (let r = h open_now in let more = r.1.1 in (r.0, (r.1.0, omega (arith, ints))))

below_from : (choose : Choose) (s : Trail) (a b : ℤ) (i : ℕ) → a <ℤ b → IsRankedFrom choose s b i → IsRankedAbove choose s a i
below_from choose s a b i less h = λ open_now. (let r = h open_now in let more = r.1.1 in (r.0, (r.1.0, omega (arith, ints))))

-- and one that is better is the only one of its rank
taken_better : (choose : Choose) (s : Trail) (xs : List ℕ) (b n : Ranked) → n.rank <ℤ b.rank → IsRank choose s n.subject n.rank → (IsFixed s n.subject → ⊥) → IsTaken choose s xs b.subject b.rank → IsTaken choose s (xs ++ n.subject ∷ []) n.subject n.rank
taken_better choose s xs b n less is open_now h = record {
  before = xs;
  after = [];
  listed = refl;
  open_now = open_now;
  rank_is = is;
  earlier =
      subst (λ ys. All (IsRankedAbove choose s n.rank) ys) (sym h.listed)
      (All-append (IsRankedAbove choose s n.rank) h.before (b.subject ∷ h.after)
      (All-weaker (IsRankedAbove choose s b.rank) (IsRankedAbove choose s n.rank) (λ i k. below_above choose s n.rank b.rank i less k) h.before h.earlier)
      (All-cons (IsRankedAbove choose s n.rank) b.subject h.after (λ o. (b.rank, (h.rank_is, less)))
      (All-weaker (IsRankedFrom choose s b.rank) (IsRankedAbove choose s n.rank) (λ i k. below_from choose s n.rank b.rank i less k) h.after h.later)));
  later = All-nil (IsRankedFrom choose s n.rank);
}

-- the first subject that is not fixed
pub taken_first : (choose : Choose) (s : Trail) (xs : List ℕ) (n : Ranked) → All (IsFixed s) xs → (IsFixed s n.subject → ⊥) → IsRank choose s n.subject n.rank → IsTaken choose s (xs ++ n.subject ∷ []) n.subject n.rank
taken_first choose s xs n h open_now is = record {
  before = xs;
  after = [];
  listed = refl;
  open_now = open_now;
  rank_is = is;
  earlier = All-weaker (IsFixed s) (IsRankedAbove choose s n.rank) (λ i f. λ o. absurd (o f)) xs h;
  later = All-nil (IsRankedFrom choose s n.rank);
}

-- a later one
pub taken_open : (choose : Choose) (s : Trail) (xs : List ℕ) (b n : Ranked) → (IsFixed s n.subject → ⊥) → IsRank choose s n.subject n.rank → IsTaken choose s xs b.subject b.rank → IsTaken choose s (xs ++ n.subject ∷ []) (better_of b n).subject (better_of b n).rank
taken_open choose s xs b n open_now is h =
    elim (int_le b.rank n.rank) as (λ t. int_le b.rank n.rank ≡ t → IsTaken choose s (xs ++ n.subject ∷ []) (if t then b else n).subject (if t then b else n).rank) [
      | true ↦ λ e. taken_before choose s xs b n (true_le b.rank n.rank e) is h
      | false ↦ λ e. taken_better choose s xs b n (false_le b.rank n.rank e) is open_now h
    ] refl

-- where the first listed is taken, no later one needs to be looked at
pub taken_listed : (s : Trail) (xs : List ℕ) (k : ℕ) → k < length xs → All (IsFixed s) (take k xs) → (IsFixed s (get_or xs k 0) → ⊥) → IsTaken First s xs (get_or xs k 0) (pos 0)
taken_listed s xs k l fixed open_now = record {
  before = take k xs;
  after = drop (k + 1) xs;
  listed = sym (take-append-drop k xs) ∙ ap (λ ys. take k xs ++ ys) (drop_more xs k 0 l);
  open_now = open_now;
  rank_is = refl;
  earlier = All-weaker (IsFixed s) (IsRankedAbove First s (pos 0)) (λ i f. λ o. absurd (o f)) (take k xs) fixed;
  later = All-from_get_or (IsRankedFrom First s (pos 0)) (drop (k + 1) xs) 0 (λ i m. λ o. (pos 0, (refl, omega (arith, ints))));
}

-- the strategy at a place is the first that is not done
pub follows_at : (strategies : List Steering) (s : Trail) (t : Atom) (k : ℕ) (g : Steering) → k < length strategies → g ≡ get_or strategies k g → All (IsDone s) (take k strategies) → DecidesBy g s t → FollowsStrategies strategies s t
follows_at strategies s t k g l at done decides = record {
  before = take k strategies;
  strategy = g;
  after = drop (k + 1) strategies;
  listed = sym (take-append-drop k strategies) ∙ ap (λ gs. take k strategies ++ gs) (drop_more strategies k g l ∙ ap (λ h. h ∷ drop (k + 1) strategies) (sym at));
  done = done;
  decides = decides;
}

-- the subject that is taken is one of those listed
pub taken_within : (choose : Choose) (s : Trail) (n : ℕ) (xs : List ℕ) (i : ℕ) (rank : ℤ) → All (λ j. j < n) xs → IsTaken choose s xs i rank → i < n
taken_within choose s n xs i rank within h =
    let all = subst (λ ys. All (λ j. j < n) ys) h.listed within in
    All-append_right (λ (j : ℕ). j < n) h.before (i ∷ h.after) all 0 i (omega arith)

zip_right : {A B : Type 0} (R : A → B → Type 0) (P : B → Type 0) → ((x : A) (y : B) → R x y → P y) → (xs : List A) (ys : List B) → AllZip R xs ys → All P ys
zip_right R P f [] [] h = All-nil P
zip_right R P f [] (y ∷ ys) h = absurd h
zip_right R P f (x ∷ xs) [] h = absurd h
zip_right R P f (x ∷ xs) (y ∷ ys) h = All-cons P y ys (f x y h.0) (zip_right R P f xs ys h.1)

-- the subjects of an instance's strategies are among the instance's
pub steering_within : (p : Problem) (n : ℕ) → n ≡ length p.domains → IsInstance p → All (λ g. All (λ i. i < n) g.subjects) p.steering
steering_within p n is h =
    let count = h.domains.count in
    zip_right (Steers (variable_count p) p.defs) (λ g. All (λ i. i < n) g.subjects)
    (λ s g k. zip_right (IsSubjectOf (variable_count p) p.defs) (λ i. i < n) (λ e i v. (let l = v.within in omega arith)) s.exprs g.subjects k.subjects) p.model.strategies p.steering h.steering
