-- What is so of the parts of a brancher by activity, at first and after a clause.
use Rattle.std.specs.Prelude.{Option}
use Rattle.std.proofs.Common.{ℕ, ◌+◌, ◌^◌, ◌≤◌, ◌<◌, ◌≡◌, Bool, ℤ, false, List, length, take, replicate, get_or, refl, sym, ap, subst, ◌∙◌, arith}
use Rattle.std.proofs.lemmas.List.{length-replicate}
use Rattle.cps_literal.specs.declared.atom.Atom.{Atom}
use Rattle.cps_trail.specs.Trail.{Trail}
use Rattle.cps_branch.specs.declared.ranking.Aside.{Aside}
use Rattle.cps_branch.specs.declared.ranking.Ranking.{Ranking}
use Rattle.cps_branch.specs.Activities.{AreBumped, AreGained, AreSmall, ByActivity, NoneMarked, speaks_of}
use Rattle.cps_branch.specs.Luby.{CountsConflict, Pace}
use Rattle.cps_branch.specs.Tournament.{HaveActivities, stands_at}
use Rattle.cps_branch.specs.SetAside.{AreFixedAside, IsRanking, SameAside, aside_of, size_of}
use Rattle.cps_branch.proofs.SetAside.{unspoken}
use Rattle.cps_branch.proofs.Lists.{alike}

-- activities, marks, hints and a ranking of the same variables
abbrev AreParts : List ℕ → List Bool → List (Option ℤ) → Ranking → Type 0
AreParts activities marks hints r = (length activities ≤ 2 ^ 31)
    × (length marks ≡ length activities)
    × (length hints ≡ length activities)
    × (AreSmall activities)
    × (NoneMarked marks)
    × (IsRanking r)
    × (size_of r ≡ length activities)
    × (HaveActivities activities r.nodes.items)

-- no activity and no mark yet
pub begun_parts : (n : ℕ) (activities : List ℕ) (marks : List Bool) (hints : List (Option ℤ)) (r : Ranking) → n ≤ 2 ^ 31 → activities ≡ replicate n 0 → marks ≡ replicate n false → length hints ≡ n → IsRanking r → size_of r ≡ n
    → ((i : ℕ) → i < n → (stands_at r.nodes.items (n + i)).activity ≡ 0) → AreParts activities marks hints r
begun_parts n activities marks hints r few none unmarked places ranking size idle =
    let count : length activities ≡ n = ap (λ (xs : List ℕ). length xs) none ∙ length-replicate n 0 in
    let marked : length marks ≡ n = ap (λ (ms : List Bool). length ms) unmarked ∙ length-replicate n false in (
      omega (arith, few, count),
      marked ∙ sym count,
      places ∙ sym count,
      λ i l. omega (arith, zero_at i),
      λ i l. ap (λ (ms : List Bool). get_or ms i false) unmarked ∙ alike n i false,
      ranking,
      size ∙ sym count,
      λ i l. ap (λ (k : ℕ). (stands_at r.nodes.items (k + i)).activity) count ∙ idle i (omega (arith, l, count)) ∙ sym (zero_at i),
    )
  where
    zero_at : (i : ℕ) → get_or activities i 0 ≡ 0
    zero_at i = ap (λ (xs : List ℕ). get_or xs i 0) none ∙ alike n i 0

-- after a clause the ranking has the activities of the variables of which it does not speak
pub gained_for : (clause : List Atom) (r : Ranking) (olds before news now : List ℕ) (halved : Bool) → size_of r ≡ length olds → HaveActivities olds r.nodes.items → before ≡ olds → (halved ≡ false → AreGained clause before news) → now ≡ news
    → halved ≡ false → (i : ℕ) → i < size_of r → speaks_of clause i ≡ false → (stands_at r.nodes.items (size_of r + i)).activity ≡ get_or now i 0
gained_for clause r olds before news now halved count have was gained is off i l quiet =
    let h : i < length olds = omega (arith, l, count) in
    let gains : AreGained clause olds news = subst (λ (xs : List ℕ). AreGained clause xs news) was (gained off) in
    ap (λ (k : ℕ). (stands_at r.nodes.items (k + i)).activity) count ∙ have i h ∙ sym (unspoken clause olds news i gains h quiet) ∙ sym (ap (λ (xs : List ℕ). get_or xs i 0) is)

-- the parts after it, where the activities and the marks that are kept are the new ones
pub heard_parts : (olds news now activities : List ℕ) (marks news_marks marked : List Bool) (hints : List (Option ℤ)) (old r : Ranking) → AreParts olds marks hints old → length news ≡ length olds → length news_marks ≡ length marks → AreSmall news → NoneMarked news_marks
    → IsRanking r → SameAside old r → ((i : ℕ) → i < size_of old → (stands_at r.nodes.items (size_of old + i)).activity ≡ get_or now i 0) → now ≡ news → activities ≡ news → marked ≡ news_marks → AreParts activities marked hints r
heard_parts olds news now activities marks news_marks marked hints old r v same_length same_marks small none ranking aside have is activities_are marks_are =
    let count : size_of old ≡ length news = v.6 ∙ sym same_length in
    let size : size_of r ≡ length news = ap (λ (xs : List Aside). length xs) aside.aside ∙ count in
    subst (λ (xs : List ℕ). AreParts xs marked hints r) (sym activities_are) (subst (λ (ms : List Bool). AreParts news ms hints r) (sym marks_are) (
      omega (arith, v.0, same_length),
      omega (arith, v.1, same_length, same_marks),
      omega (arith, v.2, same_length),
      small,
      none,
      ranking,
      size,
      λ i l. subst (λ (k : ℕ). (stands_at r.nodes.items (k + i)).activity ≡ get_or news i 0) count (have i (omega (arith, l, count)) ∙ ap (λ (xs : List ℕ). get_or xs i 0) is),
    ))

-- What a brancher heard of a clause, and saw of a store before.
module _ (olds : List ℕ) (pace : Pace) (hints : List (Option ℤ)) (old : Ranking) (b : ByActivity) (view : record { activities = olds; pace = pace; hints = hints; aside = aside_of old } ≡ b) where
  pub heard : (clause : List Atom) (before news activities : List ℕ) (next : Pace) (restart : Bool) → before ≡ olds → activities ≡ news → AreBumped clause before news → CountsConflict pace next restart
      → AreBumped clause b.activities activities × CountsConflict b.pace next restart × (hints ≡ b.hints)
  heard clause before news activities next restart was is bumped counts =
      subst (λ (x : ByActivity). AreBumped clause x.activities activities × CountsConflict x.pace next restart × (hints ≡ x.hints)) view
      (subst (λ (xs : List ℕ). AreBumped clause xs activities) was (subst (λ (ys : List ℕ). AreBumped clause before ys) (sym is) bumped), counts, refl)

  pub saw_still : (activities : List ℕ) (r : Ranking) → length activities ≡ length olds → SameAside old r → (s : Trail) (kept : ℕ) → AreFixedAside (length b.activities) b.aside s kept → AreFixedAside (length activities) (aside_of r) s kept
  saw_still activities r same aside s kept agrees =
      let asides : aside_of r ≡ aside_of old = ap (λ (k : ℕ). take k r.aside.items) aside.out ∙ ap (λ (xs : List Aside). take old.out xs) aside.aside in
      subst (λ (xs : List Aside). AreFixedAside (length activities) xs s kept) (sym asides)
      (subst (λ (n : ℕ). AreFixedAside n (aside_of old) s kept) (sym same) (subst (λ (x : ByActivity). AreFixedAside (length x.activities) x.aside s kept) (sym view) agrees))
