-- A text is split into lines in one way, and a phase and a line lead to one phase. So there is one verdict.
use Rattle.std.specs.Prelude.{All, Some, slice_get, codes}
use Rattle.std.specs.List.{flat_map, list_all}
use Rattle.std.specs.Fmt.{signed_decimal}
use Rattle.std.proofs.Common.{◌≡◌, ℕ, zero, suc, ◌<◌, ◌≤◌, List, [], ◌∷◌, ◌++◌, length, get_or, take, drop, true, ◌⊎◌, inl, inr, refl, sym, ◌∙◌, ap, subst, arith, ℤ}
use Rattle.std.proofs.lemmas.Fmt.{signed_decimal_injective}
use Rattle.std.proofs.lemmas.List.{append_assoc, take-take, take_all}
use Rattle.std.proofs.lemmas.List.Elements.{All-head, All-tail}
use Rattle.std.proofs.lemmas.List.Folds.{list_all-append}
use Rattle.cps_model.specs.declared.model.CpModel.{CpModel}
use Rattle.cps_model.proofs.Tests.{and_true}
use Rattle.cps_cert.specs.Lines.{Phase, at_status, in_solution, at_lines, in_core, in_log, at_end, finished, optimal_line, infeasible_line, value_line, assumption_line, IsBehindValues, IsValue, IsAssumption, Takes, Leads}
use Rattle.cps_cert.specs.Verdicts.{is_no_feed, fed_line, Accepts, RefusesAfter}
use Rattle.cps_subjects.proofs.Near.{near_mag}
use Rattle.cps_cert.proofs.OneItem.{same_run, one_item}

-- ---- lines

-- where a line feed stands, not all bytes are others
feed_shows : (xs ys : List ℕ) → list_all is_no_feed (xs ++ 10 ∷ ys) ≡ true → ⊥
feed_shows xs ys h =
    let both = and_true (list_all is_no_feed xs) (list_all is_no_feed (10 ∷ ys)) (sym (list_all-append is_no_feed xs (10 ∷ ys)) ∙ h) in
    let here = both.1 in
    cc

first_line : (l : List ℕ) (ls : List (List ℕ)) (rest : List ℕ) → flat_map fed_line (l ∷ ls) ++ rest ≡ l ++ 10 ∷ (flat_map fed_line ls ++ rest)
first_line l ls rest = ap (λ (bs : List ℕ). bs ++ rest) (append_assoc l (10 ∷ []) (flat_map fed_line ls)) ∙ append_assoc l (10 ∷ flat_map fed_line ls) rest

pub record SameSplit (lines lines' : List (List ℕ)) (rest rest' : List ℕ) : Type 0 where
  pub same_lines : lines ≡ lines'
  pub same_rests : rest ≡ rest'

pub split_one : (lines lines' : List (List ℕ)) (rest rest' : List ℕ) → All (λ line. list_all is_no_feed line ≡ true) lines → All (λ line. list_all is_no_feed line ≡ true) lines' → list_all is_no_feed rest ≡ true → list_all is_no_feed rest' ≡ true → flat_map fed_line lines ++ rest ≡ flat_map fed_line lines' ++ rest' → SameSplit lines lines' rest rest'
split_one [] [] rest rest' w w' u u' e = record { same_lines = refl; same_rests = e }
split_one [] (l ∷ ls) rest rest' w w' u u' e =
    let is : rest ≡ l ++ 10 ∷ (flat_map fed_line ls ++ rest') = e ∙ first_line l ls rest' in
    absurd (feed_shows l (flat_map fed_line ls ++ rest') (subst (λ (bs : List ℕ). list_all is_no_feed bs ≡ true) is u))
split_one (l ∷ ls) [] rest rest' w w' u u' e =
    let is : rest' ≡ l ++ 10 ∷ (flat_map fed_line ls ++ rest) = sym e ∙ first_line l ls rest in
    absurd (feed_shows l (flat_map fed_line ls ++ rest) (subst (λ (bs : List ℕ). list_all is_no_feed bs ≡ true) is u'))
split_one (l ∷ ls) (k ∷ ks) rest rest' w w' u u' e =
    let P = λ (line : List ℕ). list_all is_no_feed line ≡ true in
    let whole : l ++ 10 ∷ (flat_map fed_line ls ++ rest) ≡ k ++ 10 ∷ (flat_map fed_line ks ++ rest') = sym (first_line l ls rest) ∙ e ∙ first_line k ks rest' in
    let cut = same_run is_no_feed l 10 (flat_map fed_line ls ++ rest) k 10 (flat_map fed_line ks ++ rest') (All-head P l ls w) refl (All-head P k ks w') refl whole in
    let behind : flat_map fed_line ls ++ rest ≡ flat_map fed_line ks ++ rest' = (let tails = cut.rests in cc) in
    let more = split_one ls ks rest rest' (All-tail P l ls w) (All-tail P k ks w') u u' behind in
    record { same_lines = rw (cut.runs, more.same_lines) refl; same_rests = more.same_rests }

-- ---- phases

behind_one : (m : CpModel) (a : List ℤ) (p q : Phase) → IsBehindValues m a p → IsBehindValues m a q → p ≡ q
behind_one m a p q (inl x) (inl y) = x.1 ∙ sym y.1
behind_one m a p q (inl x) (inr y) = (let less = x.0 in let same = y.0 in absurd (omega arith))
behind_one m a p q (inr x) (inl y) = (let less = y.0 in let same = x.0 in absurd (omega arith))
behind_one m a p q (inr x) (inr y) = x.2 ∙ sym y.2

value_one : (v w : ℤ) (line : List ℕ) → line ≡ value_line v → line ≡ value_line w → signed_decimal v ≡ signed_decimal w
value_one v w line e f = ap (λ (bs : List ℕ). drop 10 bs) (sym e ∙ f)

literal_one : (r s : ℤ) (line : List ℕ) → line ≡ assumption_line r → line ≡ assumption_line s → signed_decimal r ≡ signed_decimal s
literal_one r s line e f = ap (λ (bs : List ℕ). drop 42 bs) (sym e ∙ f)

solved_one : (m : CpModel) (a : List ℤ) (line : List ℕ) (p q : Phase) → IsValue m a line p → IsValue m a line q → p ≡ q
solved_one m a line p q x y =
    let same : x.value ≡ y.value = signed_decimal_injective x.value y.value (near_mag x.value x.near) (near_mag y.value y.near) (value_one x.value y.value line x.is y.is) in
    behind_one m (a ++ x.value ∷ []) p q x.behind (subst (λ (v : ℤ). IsBehindValues m (a ++ v ∷ []) q) (sym same) y.behind)

listed_one : (m : CpModel) (literals : List ℤ) (line : List ℕ) (p q : Phase) → IsAssumption m literals line p → IsAssumption m literals line q → p ≡ q
listed_one m literals line p q x y =
    let same : x.literal ≡ y.literal = signed_decimal_injective x.literal y.literal (near_mag x.literal x.near) (near_mag y.literal y.near) (literal_one x.literal y.literal line x.is y.is) in
    x.behind ∙ rw same (sym y.behind)

byte_of : (k : ℕ) (xs ys : List ℕ) → xs ≡ ys → get_or xs k 0 ≡ get_or ys k 0
byte_of k xs ys e = ap (λ (bs : List ℕ). get_or bs k 0) e

no_log : (r : ℤ) (line : List ℕ) → line ≡ assumption_line r → line ≡ codes "%log" → ⊥
no_log r line e f = let h = byte_of 0 (assumption_line r) (codes "%log") (sym e ∙ f) in absurd (omega (arith, h))

no_two_states : (line : List ℕ) → line ≡ optimal_line → line ≡ infeasible_line → ⊥
no_two_states line e f = let h = byte_of 8 optimal_line infeasible_line (sym e ∙ f) in absurd (omega (arith, h))

pub takes_one : (m : CpModel) (phase : Phase) (line : List ℕ) (p q : Phase) → Takes m phase line p → Takes m phase line q → p ≡ q
takes_one m at_status line p q (inl x) (inl y) = behind_one m [] p q x.1 y.1
takes_one m at_status line p q (inl x) (inr y) = absurd (no_two_states line x.0 y.0)
takes_one m at_status line p q (inr x) (inl y) = absurd (no_two_states line y.0 x.0)
takes_one m at_status line p q (inr x) (inr y) = x.1 ∙ sym y.1
takes_one m (in_solution a) line p q x y = solved_one m a line p q x y
takes_one m (at_lines [] claim) line p q x y = x.1 ∙ sym y.1
takes_one m (at_lines (l ∷ ls) claim) line p q x y = x.1 ∙ sym y.1
takes_one m (in_core literals) line p q (inl x) (inl y) = listed_one m literals line p q x y
takes_one m (in_core literals) line p q (inl x) (inr y) = absurd (no_log x.literal line x.is y.0)
takes_one m (in_core literals) line p q (inr x) (inl y) = absurd (no_log y.literal line y.is x.0)
takes_one m (in_core literals) line p q (inr x) (inr y) = x.1 ∙ sym y.1
takes_one m (in_log claim g) line p q x y =
    let same : x.item ≡ y.item = one_item x.item y.item x.fits y.fits (sym x.is ∙ y.is) in
    x.behind ∙ rw same (sym y.behind)
takes_one m at_end line p q x y = x.1 ∙ sym y.1
takes_one m finished line p q x y = absurd x

pub leads_one : (m : CpModel) (lines : List (List ℕ)) (from p q : Phase) → Leads m from lines p → Leads m from lines q → p ≡ q
leads_one m [] from p q x y = sym x ∙ y
leads_one m (line ∷ lines) from p q x y =
    let same = takes_one m from line x.0 y.0 x.1 y.1 in
    leads_one m lines x.0 p q x.2 (subst (λ (next : Phase). Leads m next lines q) (sym same) y.2)

-- what stands at a line that is accepted
pub record IsTaken (m : CpModel) (from : Phase) (lines : List (List ℕ)) (k : ℕ) : Type 0 where
  pub phase : Phase
  pub leads : Leads m from (take k lines) phase
  pub line : List ℕ
  pub here : slice_get lines k ≡ Some line
  pub next : Phase
  pub takes : Takes m phase line next

pub taken_at : (m : CpModel) (lines : List (List ℕ)) (from last : Phase) (k : ℕ) → Leads m from lines last → k < length lines → IsTaken m from lines k
taken_at m [] from last k h l = absurd (omega arith)
taken_at m (line ∷ lines) from last zero h l = record { phase = from; leads = refl; line = line; here = refl; next = h.0; takes = h.1 }
taken_at m (line ∷ lines) from last (suc k) h l =
    let rest = taken_at m lines h.0 last k h.2 (omega arith) in
    record { phase = rest.phase; leads = (h.0, h.1, rest.leads); line = rest.line; here = rest.here; next = rest.next; takes = rest.takes }

-- what is accepted is not refused
not_both : (m : CpModel) (lines : List (List ℕ)) (rest : List ℕ) (count : ℕ) (phase : Phase) → Leads m at_status lines finished → rest ≡ [] → count ≤ length lines → Leads m at_status (take count lines) phase → ((line : List ℕ) (next : Phase) → slice_get lines count ≡ Some line → Takes m phase line next → ⊥) → (count ≡ length lines → phase ≡ finished → (rest ≡ [] → ⊥)) → (count < length lines) ⊎ (count ≡ length lines) → ⊥
not_both m lines rest count phase all none within leads refused missing (inl l) =
    let taken = taken_at m lines at_status finished count all l in
    let same = leads_one m (take count lines) at_status taken.phase phase taken.leads leads in
    refused taken.line taken.next taken.here (subst (λ (p : Phase). Takes m p taken.line taken.next) same taken.takes)
not_both m lines rest count phase all none within leads refused missing (inr e) =
    let whole : Leads m at_status (take count lines) finished = subst (λ (ls : List (List ℕ)). Leads m at_status ls finished) (sym (take_all count lines (omega arith))) all in
    missing e (leads_one m (take count lines) at_status phase finished leads whole) none

less_or_same : (a b : ℕ) → a ≤ b → (a < b) ⊎ (a ≡ b)
less_or_same zero zero h = inr refl
less_or_same zero (suc b) h = inl (omega arith)
less_or_same (suc a) zero h = absurd (omega arith)
less_or_same (suc a) (suc b) h = elim (less_or_same a b (omega arith)) [ inl l ↦ inl (omega arith) | inr e ↦ inr (omega arith) ]

pub accepts_or_refuses : (m : CpModel) (bytes : List ℕ) (count : ℕ) → Accepts m bytes → RefusesAfter m bytes count → ⊥
accepts_or_refuses m bytes count a r =
    let same = split_one a.lines r.lines [] r.rest a.split.whole r.split.whole a.split.unfed r.split.unfed (sym a.split.text ∙ r.split.text) in
    let all : Leads m at_status r.lines finished = subst (λ (ls : List (List ℕ)). Leads m at_status ls finished) same.same_lines a.leads in
    not_both m r.lines r.rest count r.phase all (sym same.same_rests) r.within r.leads r.refused r.missing (less_or_same count (length r.lines) r.within)

-- ---- one count

get_taken : (ls : List (List ℕ)) (n k : ℕ) → k < n → slice_get (take n ls) k ≡ slice_get ls k
get_taken ls zero k l = absurd (omega arith)
get_taken [] (suc n) k l = refl
get_taken (x ∷ xs) (suc n) zero l = refl
get_taken (x ∷ xs) (suc n) (suc k) l = get_taken xs n k (omega arith)

long_taken : (ls : List (List ℕ)) (n : ℕ) → n ≤ length ls → length (take n ls) ≡ n
long_taken ls zero l = refl
long_taken [] (suc n) l = absurd (omega arith)
long_taken (x ∷ xs) (suc n) l = ap suc (long_taken xs n (omega arith))

not_earlier : (m : CpModel) (bytes : List ℕ) (j k : ℕ) → j < k → RefusesAfter m bytes j → RefusesAfter m bytes k → ⊥
not_earlier m bytes j k l r s =
    let same = split_one s.lines r.lines s.rest r.rest s.split.whole r.split.whole s.split.unfed r.split.unfed (sym s.split.text ∙ r.split.text) in
    let within : k ≤ length r.lines = subst (λ (ls : List (List ℕ)). k ≤ length ls) same.same_lines s.within in
    let leads : Leads m at_status (take k r.lines) s.phase = subst (λ (ls : List (List ℕ)). Leads m at_status (take k ls) s.phase) same.same_lines s.leads in
    let counted = long_taken r.lines k within in
    let taken = taken_at m (take k r.lines) at_status s.phase j leads (omega arith) in
    let front : Leads m at_status (take j r.lines) taken.phase = subst (λ (ls : List (List ℕ)). Leads m at_status ls taken.phase) (take-take j k r.lines (omega arith)) taken.leads in
    let phases = leads_one m (take j r.lines) at_status taken.phase r.phase front r.leads in
    r.refused taken.line taken.next (sym (get_taken r.lines k j l) ∙ taken.here) (subst (λ (p : Phase). Takes m p taken.line taken.next) phases taken.takes)

pub order : (j k : ℕ) → (j < k) ⊎ ((j ≡ k) ⊎ (k < j))
order zero zero = inr (inl refl)
order zero (suc k) = inl (omega arith)
order (suc j) zero = inr (inr (omega arith))
order (suc j) (suc k) = elim (order j k) [
  | inl l ↦ inl (omega arith)
  | inr other ↦ elim other [ inl e ↦ inr (inl (ap suc e)) | inr l ↦ inr (inr (omega arith)) ]
]

pub refuses_once : (m : CpModel) (bytes : List ℕ) (j k : ℕ) → RefusesAfter m bytes j → RefusesAfter m bytes k → j ≡ k
refuses_once m bytes j k r s = elim (order j k) [
  | inl l ↦ absurd (not_earlier m bytes j k l r s)
  | inr other ↦ elim other [ inl e ↦ e | inr l ↦ absurd (not_earlier m bytes k j l s r) ]
]
