-- What the terms of an instance's objective are worth, and how far they go.
use Rattle.std.specs.Prelude.{All, map, unsigned_abs, ◌*◌, ◌&&◌, if◌then◌else◌, Option, Some, None, nat_le, nat_lt}
use Rattle.std.specs.Int.{int_max}
use Rattle.std.proofs.Common.{◌≡◌, ℕ, suc, ◌+◌, ◌-◌, ◌<◌, ◌≤◌, ◌^◌, Bool, true, false, List, [], ◌∷◌, ◌++◌, length, take, drop, get_or, refl, sym, ◌∙◌, ap, arith, ℤ, pos, negsuc, ◌+ℤ◌, ◌*ℤ◌, ◌≤ℤ◌, neg_ℤ, length-append}
use Rattle.std.proofs.Math.Nat.{mul-le-mul_left}
use Rattle.std.proofs.lemmas.Int.{ints, unsigned_abs-mul}
use Rattle.std.proofs.lemmas.List.{drop_more, get_or_default, get_or-map, get_or-take}
use Rattle.std.proofs.lemmas.List.Elements.{All-head, All-tail, All-weaker, All-get_or}
use Rattle.cps_model.specs.declared.model.CpModel.{CpModel}
use Rattle.cps_model.specs.declared.model.Variable.{Variable}
use Rattle.cps_model.specs.declared.model.Objective.{Objective}
use Rattle.cps_model.specs.Solutions.{objective_value, IsSolution}
use Rattle.cps_model.specs.Validity.{IsValid, first_broken, size_fault, entry_count, most_entries, most_items, objective_entries}
use Rattle.cps_model.specs.Within.{is_within}
use Rattle.cps_model.proofs.Faults.{at_place-none, or_else-none, parts_of, rule_kept}
use Rattle.cps_model.proofs.Inside.{length-are_within}
use Rattle.cps_model.proofs.Products.{times_grows, times_shrinks}
use Rattle.cps_model.proofs.Sums.{unsigned_abs-add}
use Rattle.cps_model.proofs.Tests.{and_true}
use Rattle.cps_domain.specs.Window.{Window, intervals, is_among}
use Rattle.cps_literal.specs.Truth.{value_at}
use Rattle.cps_instance.specs.declared.task.Body.TheVariants.{Cut}
use Rattle.cps_instance.specs.declared.task.Task.{Task}
use Rattle.cps_instance.specs.declared.term.Term.{Term}
use Rattle.cps_instance.specs.Posting.{objective_terms, HaveValuesOf}
use Rattle.cps_instance.specs.Problem.{Problem, IsAssignment, IsInstance, bounds_at, variable_count}
use Rattle.cps_instance.specs.Sums.{extended}
use Rattle.cps_instance.specs.Terms.{AreIntervals, Domains, Intervals, domain_at, greatest_of, least_of, greatest_of_terms, magnitude, term_subjects, terms_reach, terms_value}
use Rattle.cps_instance.specs.Writing.{has_no_opposite, terms_of, terms_of_reference}
use Rattle.cps_instance.proofs.Boundings.{high_end}
use Rattle.cps_instance.proofs.Fits.{objective_fits}
use Rattle.cps_instance.proofs.Growing.{SameAt, same-append, terms_reach-same}
use Rattle.cps_instance.proofs.Intervals.{greatest_of-greatest, least_of-least}
use Rattle.cps_instance.proofs.Meaning.{is_cut_task}
use Rattle.cps_instance.proofs.Solving.{extended_within}

-- the greatest value so far and that of the terms that are left make the whole, and none of it is large
pub record GreatestSoFar (ds : Domains) (ts : List Term) (k : ℕ) (sum : ℤ) : Type 0 where
  pub is : sum +ℤ greatest_of_terms ds (drop k ts) ≡ greatest_of_terms ds ts
  pub size : unsigned_abs sum + terms_reach ds (drop k ts) ≤ terms_reach ds ts

end_size : (c v : ℤ) (m : ℕ) → unsigned_abs v ≤ m → unsigned_abs (c *ℤ v) ≤ unsigned_abs c * m
end_size c v m k = let e = unsigned_abs-mul c v in let l = mul-le-mul_left (unsigned_abs c) k in omega arith

max_size : (x y : ℤ) (n : ℕ) → unsigned_abs x ≤ n → unsigned_abs y ≤ n → unsigned_abs (int_max x y) ≤ n
max_size x y n p q = grind arith

high_end-size : (t : Term) (d : Intervals) → unsigned_abs (high_end t d) ≤ unsigned_abs t.coeff * magnitude d
high_end-size t d = max_size (t.coeff *ℤ least_of d) (t.coeff *ℤ greatest_of d) (unsigned_abs t.coeff * magnitude d) (end_size t.coeff (least_of d) (magnitude d) (omega arith)) (end_size t.coeff (greatest_of d) (magnitude d) (omega arith))

-- what a list of terms has from a place on
record AtPlace (ds : Domains) (ts : List Term) (k : ℕ) (t : Term) : Type 0 where
  greatest : greatest_of_terms ds (drop k ts) ≡ high_end t (domain_at ds t.subject) +ℤ greatest_of_terms ds (drop (k + 1) ts)
  reach : terms_reach ds (drop k ts) ≡ unsigned_abs t.coeff * magnitude (domain_at ds t.subject) + terms_reach ds (drop (k + 1) ts)

at_place : (ds : Domains) (ts : List Term) (k : ℕ) (t : Term) → k < length ts → t ≡ get_or ts k t → AtPlace ds ts k t
at_place ds ts k t l e =
    let more = drop_more ts k t l ∙ ap (λ u. u ∷ drop (k + 1) ts) (sym e) in
    record { greatest = ap (λ us. greatest_of_terms ds us) more; reach = ap (λ us. terms_reach ds us) more }

-- there is room for the next part, and for the sum with it
pub part-room : (ds : Domains) (ts : List Term) (k : ℕ) (sum : ℤ) (t : Term) → terms_reach ds ts < 2 ^ 62 → GreatestSoFar ds ts k sum → k < length ts → t ≡ get_or ts k t → unsigned_abs t.coeff * magnitude (domain_at ds t.subject) < 2 ^ 62
part-room ds ts k sum t small h l e = let step = (at_place ds ts k t l e).reach in let s = h.size in omega arith

pub sum-room : (ds : Domains) (ts : List Term) (k : ℕ) (sum part : ℤ) (t : Term) → terms_reach ds ts < 2 ^ 62 → GreatestSoFar ds ts k sum → k < length ts → t ≡ get_or ts k t → part ≡ high_end t (domain_at ds t.subject) → unsigned_abs (sum +ℤ part) < 2 ^ 62
sum-room ds ts k sum part t small h l e is =
    let step = (at_place ds ts k t l e).reach in
    let s = h.size in
    let size = high_end-size t (domain_at ds t.subject) in
    let same = ap (λ (z : ℤ). unsigned_abs z) is in
    let both = unsigned_abs-add sum part in
    omega arith

next_sum : (sum new part all rest whole : ℤ) → new ≡ sum +ℤ part → all ≡ part +ℤ rest → sum +ℤ all ≡ whole → new +ℤ rest ≡ whole
next_sum sum new part all rest whole e f g = omega (arith, ints)

pub greatest-more : (ds : Domains) (ts : List Term) (k : ℕ) (sum new part : ℤ) (t : Term) → GreatestSoFar ds ts k sum → k < length ts → t ≡ get_or ts k t → part ≡ high_end t (domain_at ds t.subject) → new ≡ sum +ℤ part → GreatestSoFar ds ts (k + 1) new
greatest-more ds ts k sum new part t h l e is n =
    let here = at_place ds ts k t l e in
    let reach = here.reach in
    let size = high_end-size t (domain_at ds t.subject) in
    let same = ap (λ (z : ℤ). unsigned_abs z) is in
    let whole = ap (λ (z : ℤ). unsigned_abs z) n in
    let both = unsigned_abs-add sum part in
    let s = h.size in
    record {
      is = next_sum sum new part (greatest_of_terms ds (drop k ts)) (greatest_of_terms ds (drop (k + 1) ts)) (greatest_of_terms ds ts) n (here.greatest ∙ ap (λ (v : ℤ). v +ℤ greatest_of_terms ds (drop (k + 1) ts)) (sym is)) h.is;
      size = omega arith;
    }

-- a read of a term and of its subject's domain
pub record Reads (ws : List Window) (ts : List Term) (k : ℕ) (t : Term) (w : Window) : Type 0 where
  pub term : t ≡ get_or ts k t
  pub domain : intervals w ≡ domain_at (map intervals ws) t.subject

pub reads : (ws : List Window) (ts : List Term) (k : ℕ) (t : Term) (e : Term) (w : Window) → k < length ts → t ≡ get_or ts k e → All (λ u. u.subject < length ws) ts → w ≡ get_or ws t.subject w → Reads ws ts k t w
reads ws ts k t e w l r h s =
    let term = r ∙ get_or_default ts k e t l in
    let inside : (get_or ts k t).subject < length ws = All-get_or (λ u. u.subject < length ws) ts k t l h in
    let inside' : t.subject < length ws = rw term inside in
    record { term = term; domain = ap (λ v. intervals v) s ∙ sym (get_or-map intervals ws t.subject w [] inside') }

-- the domains of the variables have their values
values_of : (vs : List Variable) (ds : Domains) → length vs ≤ length ds → All AreIntervals ds → ((i : ℕ) (x : ℤ) → i < length vs → is_among (domain_at ds i) x ≡ is_within (bounds_at vs i) x) → HaveValuesOf vs (take (length vs) ds)
values_of [] ds l sound h = tt
values_of (v ∷ vs) [] l sound h = absurd (let n : suc (length vs) ≤ 0 = l in omega arith)
values_of (v ∷ vs) (d ∷ ds) l sound h =
    (record { sound = All-head AreIntervals d ds sound; values = λ x. h 0 x (omega arith) }, values_of vs ds (omega arith) (All-tail AreIntervals d ds sound) (λ i x less. h (suc i) x (omega arith)))

-- what is known of the terms of an instance's objective
pub record HasTerms (p : Problem) (ts : List Term) : Type 0 where
  pub value : (a : List ℤ) → IsAssignment p.model a → terms_value (extended p.defs a) ts ≡ objective_value p.model a
  pub subjects : All (λ s. s < variable_count p) (term_subjects ts)
  pub small : terms_reach p.domains ts < 2 ^ 62
  pub few : length ts ≤ 2 ^ 25

same_front : (ds : Domains) (n i : ℕ) → i < n → n ≤ length ds → SameAt (take n ds) ds i
same_front ds n i l h = get_or-take n ds i [] l

one_or_two : (b : Bool) (x y z : Term) → length (if b then x ∷ y ∷ [] else z ∷ []) ≤ 2
one_or_two true x y z = omega arith
one_or_two false x y z = omega arith

reference_few : (c r : ℤ) → length (terms_of_reference c r) ≤ 2
reference_few c (pos i) = omega arith
reference_few c (negsuc i) = one_or_two (has_no_opposite c) (record { coeff = pos (2 ^ 62); subject = i }) (record { coeff = pos (2 ^ 62); subject = i }) (record { coeff = neg_ℤ c; subject = i })

terms_few : (rs cs : List ℤ) → length (terms_of rs cs) ≤ 2 * length rs
terms_few [] cs = omega arith
terms_few (r ∷ rs) [] = omega arith
terms_few (r ∷ rs) (c ∷ cs) =
    let rest = terms_few rs cs in
    let here = reference_few c r in
    let both = length-append (terms_of_reference c r) (terms_of rs cs) in
    omega arith

size_kept : (m : CpModel) → IsValid m → size_fault m ≡ None
size_kept m e = at_place-none _ _ (or_else-none _ _ e).0

le_of : (m n : ℕ) → nat_le m n ≡ true → m ≤ n
le_of m n h = grind arith

entries_few : (m : CpModel) → IsValid m → entry_count m ≤ 2 ^ 24
entries_few m e =
    let counts = nat_le (length m.variables) most_items && nat_le (length m.constraints) most_items in
    let sizes = rule_kept 18 (counts && nat_le (entry_count m) most_entries) (first_broken ((18, nat_lt (length m.strategies) (2 ^ 32)) ∷ [])) (size_kept m e) in
    le_of (entry_count m) most_entries (and_true counts (nat_le (entry_count m) most_entries) sizes.0).1

objective_few : (o : Option Objective) (others most : ℕ) → objective_entries o + others ≤ most → length (objective_terms o) ≤ 2 * most
objective_few None others most h = omega arith
objective_few (Some o) others most h = let few = terms_few o.vars o.coeffs in omega arith

same_terms : (ts us : List Term) → Cut ts None ≡ Cut us None → ts ≡ us
same_terms ts us e = cc

pub has-terms : (p : Problem) → IsInstance p → HasTerms p (objective_terms p.model.objective)
has-terms p i =
    let m = p.model in
    let n = variable_count p in
    let ts = objective_terms m.objective in
    let count = i.domains.count in
    let parts = parts_of m i.valid in
    let within : n ≤ length p.domains = omega arith in
    let fits = objective_fits m.variables (take n p.domains) m.objective parts.variables (values_of m.variables p.domains within i.domains.sound i.domains.variables) parts.objective in
    let same : All (SameAt (take n p.domains) p.domains) (term_subjects ts) = All-weaker (λ (s : ℕ). s < n) (SameAt (take n p.domains) p.domains) (λ s l. same_front p.domains n s l within) (term_subjects ts) fits.subjects in
    let reach = terms_reach-same (take n p.domains) p.domains ts same in
    let small = fits.small in
    let few = entries_few m i.valid in
    record {
      value = λ a is.
          let cut = is_cut_task m p.defs fits.subjects in
          ap (λ (us : List Term). terms_value (extended p.defs a) us) (same_terms ts cut.terms (ap (λ (t : Task). t.body) cut.is)) ∙ cut.value a is;
      subjects = fits.subjects;
      small = omega arith;
      few = objective_few m.objective (entry_count m - objective_entries m.objective) (2 ^ 24) (omega arith);
    }

max_left : (x y : ℤ) → x ≤ℤ int_max x y
max_left x y = grind (arith, ints)

max_right : (x y : ℤ) → y ≤ℤ int_max x y
max_right x y = grind (arith, ints)

-- a term is at most its greater end
part_most : (c l v h : ℤ) → l ≤ℤ v → v ≤ℤ h → (c *ℤ v) ≤ℤ int_max (c *ℤ l) (c *ℤ h)
part_most (pos c) l v h p q =
    let b = times_grows (pos c) v h (omega (arith, ints)) q in
    let n = max_right (pos c *ℤ l) (pos c *ℤ h) in
    omega (arith, ints)
part_most (negsuc c) l v h p q =
    let a = times_shrinks (negsuc c) l v (omega (arith, ints)) p in
    let n = max_left (negsuc c *ℤ l) (negsuc c *ℤ h) in
    omega (arith, ints)

-- each value is among those of its subject's domain
abbrev AreAmong : Domains → List ℤ → Type 0
AreAmong ds xs = (i : ℕ) → i < length ds → is_among (domain_at ds i) (value_at xs i) ≡ true

terms_most : (ds : Domains) (xs : List ℤ) (ts : List Term) → All AreIntervals ds → AreAmong ds xs → All (λ j. j < length ds) (term_subjects ts) → terms_value xs ts ≤ℤ greatest_of_terms ds ts
terms_most ds xs [] s h k = omega (arith, ints)
terms_most ds xs (t ∷ ts) s h k =
    let inside : t.subject < length ds = All-head (λ (j : ℕ). j < length ds) t.subject (term_subjects ts) k in
    let sound : AreIntervals (domain_at ds t.subject) = All-get_or AreIntervals ds t.subject [] inside s in
    let among = h t.subject inside in
    let low = least_of-least (domain_at ds t.subject) (value_at xs t.subject) sound among in
    let high = greatest_of-greatest (domain_at ds t.subject) (value_at xs t.subject) sound among in
    let here = part_most t.coeff (least_of (domain_at ds t.subject)) (value_at xs t.subject) (greatest_of (domain_at ds t.subject)) low high in
    let rest = terms_most ds xs ts s h (All-tail (λ (j : ℕ). j < length ds) t.subject (term_subjects ts) k) in
    omega (arith, ints)

-- no solution's objective is above the greatest value by the domains
pub objective-most : (p : Problem) → IsInstance p → (a : List ℤ) → IsSolution p.model a → objective_value p.model a ≤ℤ greatest_of_terms p.domains (objective_terms p.model.objective)
objective-most p i a s =
    let h = has-terms p i in
    let count = i.domains.count in
    let ts = objective_terms p.model.objective in
    let value = h.value a (length-are_within p.model.variables a s.free.domains) in
    let subjects : All (λ j. j < length p.domains) (term_subjects ts) = All-weaker (λ (j : ℕ). j < variable_count p) (λ (j : ℕ). j < length p.domains) (λ j l. (omega (arith, count, l))) (term_subjects ts) h.subjects in
    let most = terms_most p.domains (extended p.defs a) ts i.domains.sound (λ k l. extended_within p a i s.free.domains k l) subjects in
    omega (arith, ints)

greatest_same : (ds es : Domains) (ts : List Term) → All (SameAt ds es) (term_subjects ts) → greatest_of_terms ds ts ≡ greatest_of_terms es ts
greatest_same ds es [] h = refl
greatest_same ds es (t ∷ ts) h =
    ap (λ w. int_max (t.coeff *ℤ least_of w) (t.coeff *ℤ greatest_of w) +ℤ greatest_of_terms ds ts) (All-head (SameAt ds es) t.subject (term_subjects ts) h)
    ∙ ap (λ (v : ℤ). int_max (t.coeff *ℤ least_of (domain_at es t.subject)) (t.coeff *ℤ greatest_of (domain_at es t.subject)) +ℤ v) (greatest_same ds es ts (All-tail (SameAt ds es) t.subject (term_subjects ts) h))

-- which stays where more subjects follow
pub greatest-longer : (p : Problem) (es : Domains) → IsInstance p → greatest_of_terms p.domains (objective_terms p.model.objective) ≡ greatest_of_terms (p.domains ++ es) (objective_terms p.model.objective)
greatest-longer p es i =
    let h = has-terms p i in
    let count = i.domains.count in
    let ts = objective_terms p.model.objective in
    greatest_same p.domains (p.domains ++ es) ts (All-weaker (λ (s : ℕ). s < variable_count p) (SameAt p.domains (p.domains ++ es)) (λ s l. same-append p.domains es s (omega (arith, count, l))) (term_subjects ts) h.subjects)

size_of_terms : (ds : Domains) (ts : List Term) → unsigned_abs (greatest_of_terms ds ts) ≤ terms_reach ds ts
size_of_terms ds [] = omega arith
size_of_terms ds (t ∷ ts) =
    let rest = size_of_terms ds ts in
    let here = high_end-size t (domain_at ds t.subject) in
    let both = unsigned_abs-add (high_end t (domain_at ds t.subject)) (greatest_of_terms ds ts) in
    omega arith

pub greatest-small : (p : Problem) → IsInstance p → unsigned_abs (greatest_of_terms p.domains (objective_terms p.model.objective)) < 2 ^ 62
greatest-small p i =
    let small = (has-terms p i).small in
    let size = size_of_terms p.domains (objective_terms p.model.objective) in
    omega arith
