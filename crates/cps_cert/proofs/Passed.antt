-- Lines that are accepted one after another, and where that ends.
use Rattle.std.specs.Prelude.{Some, slice_get}
use Rattle.std.specs.List.{flat_map, list_all}
use Rattle.std.proofs.Common.{◌≡◌, ℕ, ◌+◌, ◌<◌, ◌^◌, List, [], ◌∷◌, ◌++◌, length, Bool, true, false, refl, sym, ◌∙◌, ap, subst, arith}
use Rattle.std.proofs.lemmas.Grind.{flat_map-append}
use Rattle.std.proofs.lemmas.List.{append_assoc, append-nil, length-append, take_at}
use Rattle.std.proofs.lemmas.List.Elements.{All-nil, All-cons, All-head, All-tail, All-append}
use Rattle.std.proofs.lemmas.Option.{same_Some}
use Rattle.cps_model.specs.declared.model.CpModel.{CpModel}
use Rattle.cps_cert.specs.Lines.{Phase, at_status, finished, Takes, Leads}
use Rattle.cps_cert.specs.Parts.{feed_count}
use Rattle.cps_cert.specs.declared.checking.Stop.{Stop}
use Rattle.cps_cert.specs.declared.checking.Stop.TheVariants as stops
use Rattle.cps_cert.specs.Progress.{IsNextLine, Passes, IsStuck, StopsAt, IsStop}
use Rattle.cps_cert.specs.Verdicts.{is_no_feed, fed_line, AreLines, Accepts, RefusesAfter}
use Rattle.std.proofs.lemmas.Bool.Decides.{nat_tests}
use Rattle.cps_cert.proofs.Feeds.{no_feed, feeds_behind, feed_taken}
use Rattle.cps_cert.proofs.OneItem.{same_run}

pub none_passed : (m : CpModel) (from : Phase) (bytes : List ℕ) (first : ℕ) → Passes m from bytes first from bytes first
none_passed m from bytes first = record { lines = []; text = refl; whole = All-nil (λ line. list_all is_no_feed line ≡ true); leads = refl; number = omega arith }

pub one_passed : (m : CpModel) (from to : Phase) (bytes line after : List ℕ) (first : ℕ) → IsNextLine bytes line after → Takes m from line to → Passes m from bytes first to after (first + 1)
one_passed m from to bytes line after first h takes = record {
  lines = line ∷ [];
  text = h.text ∙ ap (λ (bs : List ℕ). bs ++ after) (sym (append-nil (fed_line line)));
  whole = All-cons (λ line. list_all is_no_feed line ≡ true) line [] h.whole (All-nil (λ line. list_all is_no_feed line ≡ true));
  leads = (to, takes, refl);
  number = omega arith;
}

leads_on : (m : CpModel) (xs ys : List (List ℕ)) (from mid to : Phase) → Leads m from xs mid → Leads m mid ys to → Leads m from (xs ++ ys) to
leads_on m [] ys from mid to x y = subst (λ (p : Phase). Leads m p ys to) (sym x) y
leads_on m (l ∷ ls) ys from mid to x y = (x.0, x.1, leads_on m ls ys x.0 mid to x.2 y)

text_on : (xs ys : List (List ℕ)) (bytes mid rest : List ℕ) → bytes ≡ flat_map fed_line xs ++ mid → mid ≡ flat_map fed_line ys ++ rest → bytes ≡ flat_map fed_line (xs ++ ys) ++ rest
text_on xs ys bytes mid rest p q =
    p ∙ ap (λ (bs : List ℕ). flat_map fed_line xs ++ bs) q ∙ sym (append_assoc (flat_map fed_line xs) (flat_map fed_line ys) rest) ∙ ap (λ (bs : List ℕ). bs ++ rest) (sym (flat_map-append fed_line xs ys))

pub passed_on : (m : CpModel) (from mid to : Phase) (bytes behind rest : List ℕ) (first next last : ℕ) → Passes m from bytes first mid behind next → Passes m mid behind next to rest last → Passes m from bytes first to rest last
passed_on m from mid to bytes behind rest first next last p q =
    let long = length-append p.lines q.lines in
    let one = p.number in
    let two = q.number in
    record {
      lines = p.lines ++ q.lines;
      text = text_on p.lines q.lines bytes behind rest p.text q.text;
      whole = All-append (λ line. list_all is_no_feed line ≡ true) p.lines q.lines p.whole q.whole;
      leads = leads_on m p.lines q.lines from mid to p.leads q.leads;
      number = omega arith;
    }

-- a line more
pub line_passed : (m : CpModel) (from mid to : Phase) (bytes behind line after : List ℕ) (first next : ℕ) → Passes m from bytes first mid behind next → IsNextLine behind line after → Takes m mid line to → Passes m from bytes first to after (next + 1)
line_passed m from mid to bytes behind line after first next p h takes =
    passed_on m from mid to bytes behind after first next (next + 1) p (one_passed m mid to behind line after next h takes)

pub stopped_on : (m : CpModel) (from mid : Phase) (bytes behind : List ℕ) (first next number : ℕ) → Passes m from bytes first mid behind next → StopsAt m mid behind next number → StopsAt m from bytes first number
stopped_on m from mid bytes behind first next number p s = record {
  phase = s.phase;
  rest = s.rest;
  passes = passed_on m from mid s.phase bytes behind s.rest first next number p s.passes;
  stuck = s.stuck;
}

-- why a reading stops that goes on behind lines
pub stop_on : (m : CpModel) (from mid : Phase) (bytes behind : List ℕ) (first next : ℕ) → Passes m from bytes first mid behind next → (stop : Stop) → IsStop m mid behind next stop → IsStop m from bytes first stop
stop_on m from mid bytes behind first next p (stops.Refused number) s = stopped_on m from mid bytes behind first next number p s
stop_on m from mid bytes behind first next p stops.OutOfMemory s = tt

pub stops_here : (m : CpModel) (from phase : Phase) (bytes rest : List ℕ) (first number : ℕ) → Passes m from bytes first phase rest number → IsStuck m phase rest → StopsAt m from bytes first number
stops_here m from phase bytes rest first number p s = record { phase = phase; rest = rest; passes = p; stuck = s }

-- the line feeds that are left are those behind the lines
pub feeds_left : (m : CpModel) (from to : Phase) (bytes rest : List ℕ) (first next : ℕ) → Passes m from bytes first to rest next → next + feed_count rest ≡ first + feed_count bytes
feeds_left m from to bytes rest first next p =
    let text : feed_count bytes ≡ feed_count (flat_map fed_line p.lines ++ rest) = ap feed_count p.text in
    let count = feeds_behind p.lines rest p.whole in
    let number = p.number in
    omega arith

pub still_fits : (m : CpModel) (from to : Phase) (bytes rest : List ℕ) (first next : ℕ) → Passes m from bytes first to rest next → first + feed_count bytes < 2 ^ 64 → next + feed_count rest < 2 ^ 64
still_fits m from to bytes rest first next p fits = rw (feeds_left m from to bytes rest first next p) fits

-- ---- where nothing is accepted

-- bytes begin with one line at most
first_one : (bytes line after line' after' : List ℕ) → IsNextLine bytes line after → IsNextLine bytes line' after' → line ≡ line'
first_one bytes line after line' after' h h' =
    let same : line ++ 10 ∷ after ≡ line' ++ 10 ∷ after' = sym (append_assoc line (10 ∷ []) after) ∙ sym h.text ∙ h'.text ∙ append_assoc line' (10 ∷ []) after' in
    (same_run is_no_feed line 10 after line' 10 after' h.whole refl h'.whole refl same).runs

pub stuck_at_line : (m : CpModel) (phase : Phase) (rest line after : List ℕ) → IsNextLine rest line after → ((next : Phase) → Takes m phase line next → ⊥) → IsStuck m phase rest
stuck_at_line m phase rest line after h none = record {
  refused = λ l a next h' takes. none next (subst (λ (bs : List ℕ). Takes m phase bs next) (first_one rest l a line after h' h) takes);
  missing = λ e nil. (let one = feed_taken rest line after h in let zero_so : feed_count rest ≡ 0 = ap feed_count nil in absurd (omega arith));
}

pub stuck_unended : (m : CpModel) (phase : Phase) (rest : List ℕ) → list_all is_no_feed rest ≡ true → (phase ≡ finished → ⊥) → IsStuck m phase rest
stuck_unended m phase rest unfed open_so = record {
  refused = λ l a next h takes. (let one = feed_taken rest l a h in let none = no_feed rest unfed in absurd (omega arith));
  missing = λ e nil. open_so e;
}

pub stuck_behind_end : (m : CpModel) (rest : List ℕ) → (rest ≡ [] → ⊥) → IsStuck m finished rest
stuck_behind_end m rest more = record { refused = λ l a next h takes. takes; missing = λ e nil. more nil }

-- ---- the verdicts

pub accepted_of : (m : CpModel) (bytes : List ℕ) (first number : ℕ) → Passes m at_status bytes first finished [] number → Accepts m bytes
accepted_of m bytes first number p = record {
  lines = p.lines;
  split = record { text = p.text; whole = p.whole; unfed = refl };
  leads = p.leads;
}

-- all lines of bytes, and the rest
pub record IsSplitUp (bytes : List ℕ) : Type 0 where
  pub lines : List (List ℕ)
  pub rest : List ℕ
  pub are : AreLines bytes lines rest

with_feed : (b : ℕ) (bs : List ℕ) (lines : List (List ℕ)) (rest : List ℕ) → b ≡ 10 → AreLines bs lines rest → AreLines (b ∷ bs) ([] ∷ lines) rest
with_feed b bs lines rest e a = record {
  text = rw e (ap (λ (xs : List ℕ). 10 ∷ xs) a.text);
  whole = All-cons (λ line. list_all is_no_feed line ≡ true) [] lines refl a.whole;
  unfed = a.unfed;
}

both_pass : (b : ℕ) (bs : List ℕ) → is_no_feed b ≡ true → list_all is_no_feed bs ≡ true → list_all is_no_feed (b ∷ bs) ≡ true
both_pass b bs p q = rw (p, q) refl

with_byte : (b : ℕ) (bs : List ℕ) (lines : List (List ℕ)) (rest : List ℕ) → is_no_feed b ≡ true → AreLines bs lines rest → IsSplitUp (b ∷ bs)
with_byte b bs [] rest h a = record {
  lines = [];
  rest = b ∷ rest;
  are = record { text = ap (λ (xs : List ℕ). b ∷ xs) a.text; whole = a.whole; unfed = both_pass b rest h a.unfed };
}
with_byte b bs (l ∷ ls) rest h a = record {
  lines = (b ∷ l) ∷ ls;
  rest = rest;
  are = record {
    text = ap (λ (xs : List ℕ). b ∷ xs) a.text;
    whole = All-cons (λ line. list_all is_no_feed line ≡ true) (b ∷ l) ls (both_pass b l h (All-head (λ line. list_all is_no_feed line ≡ true) l ls a.whole)) (All-tail (λ line. list_all is_no_feed line ≡ true) l ls a.whole);
    unfed = a.unfed;
  };
}

split_more : (b : ℕ) (bs : List ℕ) (is_one : Bool) → is_no_feed b ≡ is_one → IsSplitUp bs → IsSplitUp (b ∷ bs)
split_more b bs true h s = with_byte b bs s.lines s.rest h s.are
split_more b bs false h s = record { lines = [] ∷ s.lines; rest = s.rest; are = with_feed b bs s.lines s.rest (grind (arith, nat_tests)) s.are }

pub split_up : (bytes : List ℕ) → IsSplitUp bytes
split_up [] = record { lines = []; rest = []; are = record { text = refl; whole = All-nil (λ line. list_all is_no_feed line ≡ true); unfed = refl } }
split_up (b ∷ bs) = split_more b bs (is_no_feed b) refl (split_up bs)

-- what stands at the first place behind lines
first_behind : (xs ys : List (List ℕ)) (line : List ℕ) → slice_get (xs ++ ys) (length xs) ≡ Some line → slice_get ys 0 ≡ Some line
first_behind [] ys line e = e
first_behind (x ∷ xs) ys line e = first_behind xs ys line e

first_text : (ys : List (List ℕ)) (rest bytes line : List ℕ) → AreLines bytes ys rest → slice_get ys 0 ≡ Some line → (after : List ℕ) × IsNextLine bytes line after
first_text [] rest bytes line a e = cc
first_text (y ∷ ys) rest bytes line a e =
    let is : y ≡ line = same_Some y line e in (
      flat_map fed_line ys ++ rest,
      record {
        text = a.text ∙ append_assoc (fed_line y) (flat_map fed_line ys) rest ∙ ap (λ (l : List ℕ). fed_line l ++ (flat_map fed_line ys ++ rest)) is;
        whole = subst (λ (l : List ℕ). list_all is_no_feed l ≡ true) is (All-head (λ line. list_all is_no_feed line ≡ true) y ys a.whole);
      },
    )

-- where no line is left, the bytes are the rest
none_left : (n : ℕ) (ys : List (List ℕ)) (rest bytes : List ℕ) → AreLines bytes ys rest → n ≡ n + length ys → rest ≡ [] → bytes ≡ []
none_left n [] rest bytes a e nil = a.text ∙ nil
none_left n (y ∷ ys) rest bytes a e nil = absurd (omega arith)

pub refused_of : (m : CpModel) (bytes : List ℕ) (first number : ℕ) → StopsAt m at_status bytes first number → (count : ℕ) × (number ≡ first + count) × RefusesAfter m bytes count
refused_of m bytes first number s =
    let p = s.passes in
    let more = split_up s.rest in
    let all = p.lines ++ more.lines in
    let long = length-append p.lines more.lines in (
      length p.lines,
      p.number,
      record {
        lines = all;
        rest = more.rest;
        split = record {
          text = text_on p.lines more.lines bytes s.rest more.rest p.text more.are.text;
          whole = All-append (λ line. list_all is_no_feed line ≡ true) p.lines more.lines p.whole more.are.whole;
          unfed = more.are.unfed;
        };
        within = omega arith;
        phase = s.phase;
        leads = subst (λ (ls : List (List ℕ)). Leads m at_status ls s.phase) (sym (take_at p.lines more.lines (length p.lines) refl)) p.leads;
        refused = λ line next e takes. (let here = first_text more.lines more.rest s.rest line more.are (first_behind p.lines more.lines line e) in s.stuck.refused line here.0 next here.1 takes);
        missing = λ e fin nil. s.stuck.missing fin (none_left (length p.lines) more.lines more.rest s.rest more.are (e ∙ long) nil);
      },
    )
