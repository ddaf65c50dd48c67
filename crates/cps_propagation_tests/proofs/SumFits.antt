-- The tried sums fit their store, and stay in step with it.
use Rattle.std.specs.Prelude.{IsTrue, unsigned_abs, ◌*◌}
use Rattle.std.proofs.Common.{◌≡◌, ◌∙◌, ℕ, zero, suc, ◌+◌, ◌<◌, ◌≤◌, ℤ, pos, ◌≤ℤ◌, true, arith, rules, List, [], ◌∷◌, ◌++◌, length, take, get_or, ap, subst, sym, lit<, refl}
use Rattle.std.specs.List.{All}
use Rattle.std.proofs.Math.Nat.{mul-le-mul}
use Rattle.std.proofs.lemmas.Int.{ints}
use Rattle.std.proofs.lemmas.List.{take-append-le}
use Rattle.std.proofs.lemmas.List.Elements.{All-append, All-map, All-head, All-tail, All-nil, All-cons}
use Rattle.cps_model.specs.Within.{is_well_shaped}
use Rattle.cps_domain.specs.Window.{is_among}
use Rattle.cps_literal.specs.declared.atom.Atom.{Atom}
use Rattle.cps_instance.specs.declared.term.Term.{Term}
use Rattle.cps_instance.specs.declared.task.Task.{Task}
use Rattle.cps_instance.specs.Tasks.{atom_subjects}
use Rattle.cps_instance.specs.Terms.{Domains, AreIntervals, domain_at, magnitude, terms_reach, term_subjects}
use Rattle.cps_instance.specs.Fitting.{IsLiteral, IsFitting}
use Rattle.cps_instance.specs.Problem.{sum_task}
use Rattle.cps_trail.specs.Trail.{Trail, Entry, IsSoundTrail}
use Rattle.cps_trail.specs.Adds.{Grounds, Infers}
use Rattle.cps_propagate.specs.Laws.{IsTaskAtRest, IsInStep}
use Rattle.cps_propagate.specs.Recalling.{Recall, AllRecall}
use Rattle.cps_propagate.proofs.Remembering.{Recalls-same}
use Rattle.cps_propagate.proofs.Stepping.{IsInStep-first, IsInStep-decided}
use Rattle.cps_propagation_tests.specs.Bits.{bit, IsBit}
use Rattle.cps_propagation_tests.specs.Sums.{idle_task, up_to_ten, five_domains, sum_domains, tripled_sum, IsSmallTerm, AreSmallTerms, linear_task, cut_task}

at_term : (s : ℕ) → s < 3 → up_to_ten ≡ domain_at five_domains s
at_term zero l = refl
at_term (suc zero) l = refl
at_term (suc (suc zero)) l = refl
at_term (suc (suc (suc n))) l = absurd (omega (arith, l))

at_bit : (s : ℕ) → 3 ≤ s → s < 5 → bit ≡ domain_at five_domains s
at_bit zero m l = absurd (omega (arith, m))
at_bit (suc zero) m l = absurd (omega (arith, m))
at_bit (suc (suc zero)) m l = absurd (omega (arith, m))
at_bit (suc (suc (suc zero))) m l = refl
at_bit (suc (suc (suc (suc zero)))) m l = refl
at_bit (suc (suc (suc (suc (suc n))))) m l = absurd (omega (arith, l))

bit_least : (x : ℤ) → is_among bit x ≡ true → pos 0 ≤ℤ x
bit_least x h = grind (arith, ints)

bit_greatest : (x : ℤ) → is_among bit x ≡ true → x ≤ℤ pos 1
bit_greatest x h = grind (arith, ints)

literal : (u : Atom) → IsBit 3 5 u → IsLiteral five_domains u
literal u h = record {
  low = h.low;
  high = h.high;
  least = λ x a. bit_least x (subst (λ (d : List (ℤ × ℤ)). is_among d x ≡ true) (sym (at_bit u.subject h.from h.to)) a);
  greatest = λ x a. bit_greatest x (subst (λ (d : List (ℤ × ℤ)). is_among d x ≡ true) (sym (at_bit u.subject h.from h.to)) a);
}

ten_sound : AreIntervals up_to_ten
ten_sound = record { some = omega arith; rising = search rules }

bit_sound : AreIntervals bit
bit_sound = record { some = omega arith; rising = search rules }

-- a term is at most 1000 from 0
term_small : (t : Term) → IsSmallTerm t → unsigned_abs t.coeff * magnitude (domain_at five_domains t.subject) ≤ 1000
term_small t h =
    let e : magnitude up_to_ten ≡ magnitude (domain_at five_domains t.subject) = ap (λ (d : List (ℤ × ℤ)). magnitude d) (at_term t.subject h.subject) in
    let ten : magnitude (domain_at five_domains t.subject) ≤ 10 = subst (λ (m : ℕ). m ≤ 10) e (omega arith) in
    mul-le-mul h.size ten

reach_small : (ts : List Term) → All IsSmallTerm ts → terms_reach five_domains ts ≤ length ts * 1000
reach_small [] h = omega arith
reach_small (t ∷ ts) h =
    let a = term_small t (All-head IsSmallTerm t ts h) in
    let b = reach_small ts (All-tail IsSmallTerm t ts h) in
    omega arith

pub sums_fit : (first : Domains) (e : List Atom) (ts : List Term) (bounds : List ℤ) → first ≡ five_domains → All (IsBit 3 5) e → AreSmallTerms ts → IsTrue (is_well_shaped bounds) → IsFitting first (linear_task e ts bounds)
sums_fit first e ts bounds is he ht shaped = subst (λ (f : Domains). IsFitting f (linear_task e ts bounds)) (sym is) (record {
  subjects = every (λ s. s < 5) (λ u h. h.to) (λ t h. (let l = h.subject in omega arith));
  sound = every (λ s. AreIntervals (domain_at five_domains s)) (λ u h. subst (λ (d : List (ℤ × ℤ)). AreIntervals d) (at_bit u.subject h.from h.to) bit_sound) (λ t h. subst (λ (d : List (ℤ × ℤ)). AreIntervals d) (at_term t.subject h.subject) ten_sound);
  enforcement = λ j d l. literal _ (he j d l);
  body = record { small = (let r = reach_small ts ht.small in let f = ht.few in omega arith); shaped = shaped };
})
  where
    every : (P : ℕ → Type 0) → ((u : Atom) → IsBit 3 5 u → P u.subject) → ((t : Term) → IsSmallTerm t → P t.subject) → All P (atom_subjects e ++ term_subjects ts)
    every P h k = All-append P (atom_subjects e) (term_subjects ts) (All-map P (λ u. u.subject) e (λ j d l. h _ (he j d l))) (All-map P (λ t. t.subject) ts (λ j d l. k _ (ht.small j d l)))

-- a defined sum fits its store
tripled_fits : IsFitting sum_domains (sum_task 1 tripled_sum)
tripled_fits = record {
  subjects = All-cons (λ (s : ℕ). s < 2) 1 (0 ∷ []) (omega arith) (All-cons (λ (s : ℕ). s < 2) 0 [] (omega arith) (All-nil (λ (s : ℕ). s < 2)));
  sound = All-cons (λ (s : ℕ). AreIntervals (domain_at sum_domains s)) 1 (0 ∷ []) (record { some = omega arith; rising = search rules }) (All-cons (λ (s : ℕ). AreIntervals (domain_at sum_domains s)) 0 [] (record { some = omega arith; rising = search rules }) (All-nil (λ (s : ℕ). AreIntervals (domain_at sum_domains s))));
  enforcement = All-nil (IsLiteral sum_domains);
  body = record { earlier = All-cons (λ (j : ℕ). j < 1) 0 [] (omega arith) (All-nil (λ (j : ℕ). j < 1)); small = lit< tt; domain = refl };
}

pub sum_fits : (first : Domains) (tasks : List Task) → first ≡ sum_domains → tasks ≡ sum_task 1 tripled_sum ∷ [] → All (IsFitting first) tasks
sum_fits first tasks e f = subst (λ (us : List Task). All (IsFitting first) us) (sym f) (subst (λ (ds : Domains). All (IsFitting ds) (sum_task 1 tripled_sum ∷ [])) (sym e) (All-cons (IsFitting sum_domains) (sum_task 1 tripled_sum) [] tripled_fits (All-nil (IsFitting sum_domains))))

-- after a run at level 0 and a decision tasks are in step at the entries that stood before
pub decided_step : (C : Grounds) (tasks : List Task) (r s t : Trail) (e : Entry) (from : ℕ) → r.level ≡ 0 → Infers C r s → All (λ u. IsTaskAtRest u s) tasks → IsSoundTrail s → e.level ≡ s.level + 1 → t ≡ record s { entries = s.entries ++ e ∷ []; level = s.level + 1 } → from ≡ length s.entries → IsInStep tasks t from
decided_step C tasks r s t e from none run rest sound at is here = subst (λ n. IsInStep tasks t n) (sym here)
    (IsInStep-decided tasks s t e sound (ap (λ (u : Trail). u.first) is) (ap (λ (u : Trail). u.level) is) at (ap (λ (u : Trail). u.entries) is) (IsInStep-first tasks s (run.level ∙ none) rest))

-- what is remembered of entries is so where one more was decided
pub decided_recalls : (r : Recall) (s t : Trail) (e : Entry) (from : ℕ) → ((n : ℕ) → AllRecall r s n) → t.first ≡ s.first → t.entries ≡ s.entries ++ e ∷ [] → from ≡ length s.entries → AllRecall r t from
decided_recalls r s t e from h first more here number k d l small stand =
    Recalls-same (get_or r.memories number d) s t k first
    (λ j b. ap (λ (es : List Entry). take j es) more ∙ take-append-le j s.entries (e ∷ []) (omega (arith, b, small, here)))
    (h from number k d l small stand)

one_fits : (upper : ℤ) → IsFitting five_domains (cut_task upper)
one_fits upper = record {
  subjects = All-cons (λ (s : ℕ). s < 5) 0 [] (omega arith) (All-nil (λ (s : ℕ). s < 5));
  sound = All-cons (λ (s : ℕ). AreIntervals (domain_at five_domains s)) 0 [] ten_sound (All-nil (λ (s : ℕ). AreIntervals (domain_at five_domains s)));
  enforcement = All-nil (IsLiteral five_domains);
  body = record { small = lit< tt };
}

pub cut_fits : (first : Domains) (t : Task) (upper : ℤ) → first ≡ five_domains → t ≡ cut_task upper → IsFitting first t
cut_fits first t upper e f = subst (λ (ds : Domains). IsFitting ds t) (sym e) (subst (λ (u : Task). IsFitting five_domains u) (sym f) (one_fits upper))

none_fits : (first : Domains) → IsFitting first idle_task
none_fits first = record {
  subjects = All-nil (λ (s : ℕ). s < length first);
  sound = All-nil (λ (s : ℕ). AreIntervals (domain_at first s));
  enforcement = All-nil (IsLiteral first);
  body = tt;
}

pub idle_fit : (first : Domains) (tasks : List Task) → tasks ≡ idle_task ∷ idle_task ∷ [] → All (IsFitting first) tasks
idle_fit first tasks e = subst (λ (us : List Task). All (IsFitting first) us) (sym e)
    (All-cons (IsFitting first) idle_task (idle_task ∷ []) (none_fits first) (All-cons (IsFitting first) idle_task [] (none_fits first) (All-nil (IsFitting first))))

-- tasks that fit go on to fit where the first domains stay
pub fits_after : (d e : Domains) (ts us : List Task) → us ≡ ts → e ≡ d → All (IsFitting d) ts → All (IsFitting e) us
fits_after d e ts us same first fit = subst (λ (xs : List Task). All (IsFitting e) xs) (sym same)
    (subst (λ (x : Domains). All (IsFitting x) ts) (sym first) fit)
