-- Tasks over the subjects of a store of intervals fit it.
use Rattle.std.proofs.Common.{◌≡◌, ◌<◌, ◌≤ℤ◌, ℕ, ℤ, pos, true, List, [], length, get_or, refl, sym, subst, arith}
use Rattle.std.proofs.lemmas.Int.{ints}
use Rattle.std.specs.List.{All}
use Rattle.std.proofs.lemmas.List.Elements.{All-nil}
use Rattle.cps_literal.specs.declared.atom.Atom.{Atom}
use Rattle.cps_instance.specs.declared.task.Task.{Task}
use Rattle.cps_instance.specs.Tasks.{subjects_of}
use Rattle.cps_instance.specs.Terms.{Domains, AreIntervals, domain_at}
use Rattle.cps_instance.specs.Fitting.{IsLiteral, IsNeverNegative, IsFitting, IsFittingBody}
use Rattle.cps_domain.specs.Window.{is_among}
use Rattle.cps_domain.proofs.Tests.{both}
use Rattle.cps_trail.specs.Trail.{Trail, Entry, admits}
use Rattle.cps_rule_tests.specs.Ready.{IsPlainTask, IsTaskReady}

pub ready_fits : (first : Domains) (t : Task) → All AreIntervals first → IsTaskReady first t → All (λ i. i < length first) (subjects_of t) → IsFitting first t
ready_fits first t sound h within = record {
  subjects = within;
  sound = λ j d l. sound (get_or (subjects_of t) j d) [] (within j d l);
  enforcement = h.enforcement;
  body = h.body;
}

-- a propagator of a plain task is one of a plain task
pub plain_by : (t u : Task) → t ≡ u → u.enforcement ≡ [] → ((first : Domains) → IsFittingBody first u.body) → IsPlainTask t
plain_by t u e none fits = subst (λ (v : Task). IsPlainTask v) (sym e) (record { enforcement = none; body = fits })

-- no atoms are literals
pub no_literals : (first : Domains) (us : List Atom) → us ≡ [] → All (IsLiteral first) us
no_literals first us none = subst (λ (vs : List Atom). All (IsLiteral first) vs) (sym none) (All-nil (IsLiteral first))

-- and one of a task that fits these domains
pub ready_under : (first : Domains) (t u : Task) → t ≡ u → All (IsLiteral first) u.enforcement → IsFittingBody first u.body → IsTaskReady first t
ready_under first t u e literals fits = subst (λ (v : Task). IsTaskReady first v) (sym e) (record { enforcement = literals; body = fits })

pub ready_by : (first : Domains) (t u : Task) → t ≡ u → u.enforcement ≡ [] → IsFittingBody first u.body → IsTaskReady first t
ready_by first t u e none fits = ready_under first t u e (no_literals first u.enforcement none) fits

-- what is among the first values is open where nothing was done yet
admits_first : (s : Trail) (i : ℕ) (x : ℤ) → s.entries ≡ [] → is_among (domain_at s.first i) x ≡ true → admits s.first s.entries i x ≡ true
unfolding admits
admits_first s i x none a = subst (λ (es : List Entry). admits s.first es i x ≡ true) (sym none) (both (is_among (domain_at s.first i) x) true a refl)

-- an atom on a subject of a fresh store stands for a literal where it compares with 1 and the subject has no values but 0 and 1
pub literal_by : (s : Trail) (u : Atom) (low high : ℤ) → s.entries ≡ [] → u.value ≡ pos 1 → pos 0 ≤ℤ low → high ≤ℤ pos 1 → ((x : ℤ) → admits s.first s.entries u.subject x ≡ true → low ≤ℤ x) → ((x : ℤ) → admits s.first s.entries u.subject x ≡ true → x ≤ℤ high) → IsLiteral s.first u
literal_by s u low high none one l h least greatest = record {
  low = omega (arith, ints);
  high = omega (arith, ints);
  least = λ x a. (let k = least x (admits_first s u.subject x none a) in omega (arith, ints));
  greatest = λ x a. (let k = greatest x (admits_first s u.subject x none a) in omega (arith, ints));
}

-- a subject of a fresh store has no value below 0 where its least value is none
pub never_negative_by : (s : Trail) (i : ℕ) (low : ℤ) → s.entries ≡ [] → pos 0 ≤ℤ low → ((x : ℤ) → admits s.first s.entries i x ≡ true → low ≤ℤ x) → IsNeverNegative s.first i
never_negative_by s i low none l least = λ x a. (let k = least x (admits_first s i x none a) in omega (arith, ints))
