-- The last worker's seats were joined, and its end is the first of the ends.
use Rattle.std.specs.Prelude.{Option, IfSome, option_to_list}
use Rattle.std.proofs.Common.{◌≡◌, All, ℕ, ◌+◌, length, refl, sym, ap, subst, ◌∙◌, List, [], ◌∷◌, ◌++◌, arith, length-append}
use Rattle.cps_instance.proofs.Agreeing.{All-append_left, All-append_right}
use Rattle.cps_port.specs.Totals.{total}
use Rattle.cps_search.specs.Ends.{Ending}
use Rattle.cps_bounds.specs.Seats as words
use Rattle.cps_crew.specs.declared.seats.Seated.{Seated}
use Rattle.cps_crew.specs.Crews.{words_part, words_splits, IsBackAt, IsHonestEnd, HasReturned, HaveReturned, AreGathered}
use Rattle.cps_crew.proofs.Crews.{each_front, each_last, none_gathered, total_push, one_gathered}
use Rattle.cps_crew.proofs.threads.gather.Goals as goal

pub loop-seated-init : goal.loop-seated-init
loop-seated-init c =
    let xs : List Seated = c.args.crew.items in
    let part = words.part_of c.args.kept.now.bounds_seat in
    let none : c.new-ends.result.items ≡ [] = c.new-ends.ensures.items in
    record {
      tables = (refl, refl);
      splits = c.requires.splits;
      crew = c.requires.crew;
      returned = λ m o h. h;
      count = omega (arith, ap (λ (l : List Ending). length l) none);
      gathered = λ m o h. subst (λ (l : List Ending). AreGathered m o (length xs) (length l) part l) (sym none)
          (none_gathered m o (length xs) part c.requires.idle.0 c.requires.idle.1);
    }

pub join-requires : goal.join-requires
join-requires c =
    let board = c.args.kept.now.board.now in
    let bounds = c.args.kept.now.bounds.now in
    let i = c.loop-seated.invariant in
    let xs : List Seated = c.pop.new.self.items in
    let x : Seated = c.in-Some.seated in
    let e : c.loop-seated.crew.items ≡ xs ++ x ∷ [] = c.pop.ensures.items ∙ ap (λ (o : Option Seated). xs ++ option_to_list o) c.in-Some.is in
    let all : All (IsBackAt board bounds) (xs ++ x ∷ []) = subst (All (IsBackAt board bounds)) e i.crew in
    let last : IsBackAt board bounds x = All-append_right (IsBackAt board bounds) xs (x ∷ []) all 0 x (omega arith) in
    (last.0 ∙ sym i.tables.0, last.1 ∙ sym i.tables.1)

pub loop-seated-preserved : goal.loop-seated-preserved
loop-seated-preserved c =
    let board = c.args.kept.now.board.now in
    let bounds = c.args.kept.now.bounds.now in
    let i = c.loop-seated.invariant in
    let xs : List Seated = c.pop.new.self.items in
    let x : Seated = c.in-Some.seated in
    let e : c.loop-seated.crew.items ≡ xs ++ x ∷ [] = c.pop.ensures.items ∙ ap (λ (o : Option Seated). xs ++ option_to_list o) c.in-Some.is in
    let there : All (IsBackAt board bounds) (xs ++ x ∷ []) = subst (All (IsBackAt board bounds)) e i.crew in
    let long : length c.loop-seated.crew.items ≡ length xs + 1 = ap (λ (l : List Seated). length l) e ∙ length-append xs (x ∷ []) in
    let es : List Ending = c.loop-seated.ends.items in
    let ended : Ending = c.in-Some-ended.ended in
    let inserted : c.insert.new.self.items ≡ ended ∷ es = c.in_ok-insert.ensures.items in
    let k = c.join.ensures in
    record {
      tables = (k.tables.0 ∙ i.tables.0, k.tables.1 ∙ i.tables.1);
      splits = omega (arith, i.splits, ap (λ (l : List Seated). total words_splits l) e, total_push words_splits xs x, k.splits);
      crew = All-append_left (IsBackAt board bounds) xs (x ∷ []) there;
      returned = λ m o h. record { each = each_front (HasReturned m o board bounds) xs x (subst (HaveReturned m o board bounds) e (i.returned m o h)).each };
      count = omega (arith, long, i.count, ap (λ (l : List Ending). length l) inserted);
      gathered = λ m o h.
          let last = each_last (HasReturned m o board bounds) xs x (subst (HaveReturned m o board bounds) e (i.returned m o h)).each in
          let done : IsHonestEnd m o (words_part x) (length xs) ended = subst (λ (found : Option Ending). IfSome found (IsHonestEnd m o (words_part x) (length xs))) c.in-Some-ended.is last.done in
          let before = subst (λ (n : ℕ). AreGathered m o n (length es) (words.part_of c.loop-seated.kept.bounds_seat) es) long (i.gathered m o h) in
          let one = one_gathered m o (length xs) (length es) (words.part_of c.loop-seated.kept.bounds_seat) (words.part_of c.join.new.self.bounds_seat) (words_part x) ended es before done k.part in
          subst (λ (l : List Ending). AreGathered m o (length xs) (length l) (words.part_of c.join.new.self.bounds_seat) l) (sym inserted) one;
    }
