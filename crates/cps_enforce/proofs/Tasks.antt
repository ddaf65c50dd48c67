-- A task in force: what its body gives, what it fits, and what it is when it is settled.
use Rattle.std.specs.Prelude.{not, All, Contains, map}
use Rattle.std.proofs.lemmas.List.{get_or_default}
use Rattle.std.proofs.Common.{◌≡◌, ◌≢◌, ◌⊎◌, inl, inr, ℕ, ◌<◌, ℤ, pos, ◌++◌, arith, true, false, sym, ◌∙◌, List, [], ◌∷◌, length, take, drop, ◌+◌, get_or, subst}
use Rattle.std.proofs.lemmas.Int.{ints}
use Rattle.std.proofs.lemmas.List.Sums.{list_all-from_AllPass}
use Rattle.std.proofs.lemmas.List.Elements.{All-nil, All-cons, All-head, All-tail, All-weaker, All-take, All-drop}
use Rattle.cps_literal.specs.declared.atom.Atom.{Atom}
use Rattle.cps_literal.specs.declared.atom.Op.TheVariants.{Le}
use Rattle.cps_literal.specs.Truth.{meets, value_at, atom_holds, Implies}
use Rattle.cps_literal.proofs.Normalizing.{holds_too}
use Rattle.cps_instance.specs.declared.task.Body.{Body}
use Rattle.cps_instance.specs.Terms.{Domains, AreIntervals, domain_at}
use Rattle.cps_instance.specs.Tasks.{HoldsTask, HoldsBody, atom_subjects, subjects_of, subjects_of_body}
use Rattle.cps_instance.specs.Fitting.{IsLiteral, IsFitting}
use Rattle.cps_instance.proofs.Agreeing.{All-append_left, All-append_right}
use Rattle.cps_instance.specs.declared.task.Task.{Task}
use Rattle.cps_trail.specs.Trail.{Entry, Trail, Explains, first_entries, admits, IsInside, IsTrueNow, IsFalseNow, IsAdmitted}
use Rattle.cps_trail.specs.Adds.{Grounds, Infers, IsForced}
use Rattle.cps_trail.proofs.Laws.{admits-append}
use Rattle.cps_trail.proofs.Inferring.{Infers-refl, same_midway, stays_true}
use Rattle.cps_propagate.specs.Now.{IsFixedNow, IsOpenTo}
use Rattle.cps_propagate.specs.Laws.{IsDecided}
use Rattle.cps_propagate.specs.Strength.{OthersAre, IsStrong, IsExcludedBody}
use Rattle.cps_rule.specs.declared.rule.Look.{Look}
use Rattle.cps_rule.specs.declared.rule.Look.TheVariants.{Possible}
use Rattle.cps_rule.specs.Rules.{IsFittingRule, IsGiven, IsImpossible, AreFacts, AllTrueAt, IsExplained, IsRefuted, IsSeen, IsAtRest}
use Rattle.cps_enforce.specs.Force.{AreNegatable, IsOpenAt, IsBarred, but}
use Rattle.cps_enforce.specs.Reasons.{task_of, DeniesFacts, IsReasonFor}
use Rattle.cps_enforce.specs.Settling.{IsTaskInForce, IsBlocked, IsRestingBody, IsBodySettled}
use Rattle.cps_propagate.specs.Conflicts.{IsConflictBy}
use Rattle.cps_propagate.specs.Notes.{IsReasonBy}
use Rattle.cps_propagate.specs.Reasons.{SpeaksOf}
use Rattle.cps_propagate.proofs.Speaking.{about_itself, speaks_left, speaks_right, speaks_append}
use Rattle.cps_enforce.proofs.Denials.{conflict_denied, reason_denied}
use Rattle.cps_enforce.proofs.Forces.{but_all, negation_given, false_not_true, fixed_true}

abbrev pub no_atom : Atom
no_atom = record { subject = 0; op = Le; value = pos 0 }

unmap : {X Y : Type 0} (f : X → Y) (P : Y → Type 0) (xs : List X) → All P (map f xs) → All (λ x. P (f x)) xs
unmap f P [] h = All-nil (λ x. P (f x))
unmap f P (x ∷ xs) h = All-cons (λ x. P (f x)) x xs (All-head P (f x) (map f xs) h) (unmap f P xs (All-tail P (f x) (map f xs) h))

-- what a task fits, its parts fit
module _ (first : Domains) (us : List Atom) (b : Body) (fits : IsFitting first (task_of us b)) where
  pub fits_rule : IsFittingRule first b
  fits_rule = record {
    subjects = All-append_right (λ i. i < length first) (atom_subjects us) (subjects_of_body b) fits.subjects;
    sound = All-append_right (λ i. AreIntervals (domain_at first i)) (atom_subjects us) (subjects_of_body b) fits.sound;
    body = fits.body;
  }

  pub fits_negatable : AreNegatable first us
  fits_negatable = record {
    inside = All-weaker (IsLiteral first) (λ (u : Atom). IsInside u.value) (λ u i. (let a = i.low in let c = i.high in record { low = omega (arith, ints); high = omega (arith, ints) })) us fits.enforcement;
    subjects = unmap (λ (u : Atom). u.subject) (λ i. i < length first) us (All-append_left (λ i. i < length first) (atom_subjects us) (subjects_of_body b) fits.subjects);
  }

pub force_facts : (s : Trail) (us : List Atom) (b : Body) → IsTaskInForce s us b → AreFacts s us
force_facts s us b f = let n = fits_negatable s.first us b f.fits in λ k d l. record { subject = n.subjects k d l; inside = n.inside k d l; true_now = f.on k d l }

pub force_rule : (s : Trail) (us : List Atom) (b : Body) → IsTaskInForce s us b → IsFittingRule s.first b
force_rule s us b f = fits_rule s.first us b f.fits

-- later stores have fewer values
pub force_later : (G : Grounds) (s u : Trail) (us : List Atom) (b : Body) → Infers G s u → IsTaskInForce s us b → IsTaskInForce u us b
force_later G s u us b h f = record {
  fits = subst (λ ds. IsFitting ds (task_of us b)) (sym h.first) f.fits;
  on = All-weaker (IsTrueNow s) (IsTrueNow u) (stays_true G s u h) us f.on;
}

admitted_before : (G : Grounds) (s u : Trail) → Infers G s u → (xs : List ℤ) → IsAdmitted u.first u.entries xs → IsAdmitted s.first s.entries xs
admitted_before G s u h xs a i l =
    let l' : i < length u.first = subst (λ (ds : Domains). i < length ds) (sym h.first) l in
    let here : admits s.first (s.entries ++ h.added) i (value_at xs i) ≡ true = rw (← h.first, ← h.entries) (a i l') in
    admits-append s.first s.entries h.added i (value_at xs i) here

pub given_later : (G : Grounds) (s u : Trail) (b : Body) (t : Atom) → Infers G s u → IsGiven b s t → IsGiven b u t
given_later G s u b t h g = record {
  subject = subst (λ (ds : Domains). t.subject < length ds) (sym h.first) g.subject;
  at = λ xs a holds. g.at xs (admitted_before G s u h xs a) holds;
}

-- at values that the store leaves, atoms that are true in the store are true
true_at : (s : Trail) (us : List Atom) (xs : List ℤ) → All (IsTrueNow s) us → All (λ u. u.subject < length s.first) us → IsAdmitted s.first s.entries xs → AllTrueAt xs us
true_at s us xs on known a j u l = on j u l (value_at xs (get_or us j u).subject) (a (get_or us j u).subject (known j u l))

-- where the enforcement atoms are true the body holds
pub body_holds : (us : List Atom) (b : Body) (xs : List ℤ) → HoldsTask (task_of us b) xs → AllTrueAt xs us → HoldsBody b xs
body_holds us b xs holds on = holds (list_all-from_AllPass (atom_holds xs) us on)

pub body_admitted : (s : Trail) (us : List Atom) (b : Body) (xs : List ℤ) → IsTaskInForce s us b → IsAdmitted s.first s.entries xs → HoldsTask (task_of us b) xs → HoldsBody b xs
body_admitted s us b xs f a holds = body_holds us b xs holds (true_at s us xs f.on (fits_negatable s.first us b f.fits).subjects a)

pub forced_given : (s : Trail) (us : List Atom) (b : Body) (t : Atom) → IsTaskInForce s us b → IsGiven b s t → IsForced (HoldsTask (task_of us b)) s.first s.entries t
forced_given s us b t f g = record { at = λ xs a holds. g.at xs a (body_admitted s us b xs f a holds) }

-- what a body gives and is false makes it impossible
pub given_false : (s : Trail) (b : Body) (t : Atom) → IsGiven b s t → IsFalseNow s t → IsImpossible b s
given_false s b t g f = record { at = λ xs a holds. (let bad : true ≡ false = sym (g.at xs a holds) ∙ f (value_at xs t.subject) (a t.subject g.subject) in cc) }

-- a task reads the subjects of its enforcement atoms, and those of its body
speak : (us vs facts : List Atom) (b : Body) → SpeaksOf (atom_subjects us) vs → SpeaksOf (subjects_of_body b) facts → SpeaksOf (subjects_of (task_of us b)) (vs ++ facts)
speak us vs facts b own about =
    speaks_append (subjects_of (task_of us b)) vs facts (speaks_left (atom_subjects us) (subjects_of_body b) vs own) (speaks_right (atom_subjects us) (subjects_of_body b) facts about)

but_speak : (us : List Atom) (place : ℕ) → SpeaksOf (atom_subjects us) (but us place)
but_speak us place =
    let P : Atom → Type 0 = λ u. Contains (atom_subjects us) u.subject in
    speaks_append (atom_subjects us) (take place us) (drop (place + 1) us) (All-take P place us (about_itself us)) (All-drop P (place + 1) us (about_itself us))

-- conflicts and reasons of a task by facts
pub refuted_conflict : (s : Trail) (us facts c : List Atom) (b : Body) → DeniesFacts s (us ++ facts) [] c → IsRefuted b s facts → IsConflictBy (task_of us b) s c
refuted_conflict s us facts c b denies refuted = conflict_denied (task_of us b) s (us ++ facts) c denies (speak us us facts b (about_itself us) refuted.speaks)
    (λ xs w holds all. refuted.excludes xs w (All-append_right (λ u. atom_holds xs u ≡ true) us facts all) (body_holds us b xs holds (All-append_left (λ u. atom_holds xs u ≡ true) us facts all)))

pub explained_reason : (s : Trail) (us facts c : List Atom) (t : Atom) (b : Body) → DeniesFacts s (us ++ facts) [] c → t.subject < length s.first → IsExplained b s t facts → IsReasonFor (task_of us b) s t (c ++ t ∷ [])
explained_reason s us facts c t b denies at explained = reason_denied (task_of us b) s (us ++ facts) c denies (speak us us facts b (about_itself us) explained.speaks) t at
    (λ xs w holds all. explained.gives xs w (All-append_right (λ u. atom_holds xs u ≡ true) us facts all) (body_holds us b xs holds (All-append_left (λ u. atom_holds xs u ≡ true) us facts all)))

module _ (s : Trail) (us : List Atom) (place : ℕ) (n : Atom) (b : Body) (inside : place < length us) (subject : n.subject ≡ (get_or us place no_atom).subject) (negated : (x : ℤ) → meets n.op n.value x ≡ not (meets (get_or us place no_atom).op (get_or us place no_atom).value x)) where
  pub off_reason : (facts c : List Atom) (t : Atom) → DeniesFacts s (but us place ++ facts) [] c → t.subject < length s.first → Implies n t → IsRefuted b s facts → IsReasonFor (task_of us b) s t (c ++ t ∷ [])
  off_reason facts c t denies at implies refuted = reason_denied (task_of us b) s (but us place ++ facts) c denies (speak us (but us place) facts b (but_speak us place) refuted.speaks) t at
      (λ xs w holds all. holds_too n t xs implies (negation_given us place no_atom n xs inside subject negated (All-append_left (λ u. atom_holds xs u ≡ true) (but us place) facts all)
      (λ on. refuted.excludes xs w (All-append_right (λ u. atom_holds xs u ≡ true) (but us place) facts all) (holds on))))

  -- where the body cannot hold and all other enforcement atoms are true, the negation of the last is forced
  pub forced_off : IsFitting s.first (task_of us b) → IsOpenAt s us place → IsImpossible b s → IsForced (HoldsTask (task_of us b)) s.first s.entries n
  forced_off fits one none = record {
    at = λ xs a holds. negation_given us place no_atom n xs inside subject negated
        (but_all (λ u. atom_holds xs u ≡ true) us place inside (λ k d l ne. one.others k d l ne (value_at xs (get_or us k d).subject) (a (get_or us k d).subject ((fits_negatable s.first us b fits).subjects k d l))))
        (λ on. none.at xs a (holds on));
  }

-- an atom that is barred bars the task, and so does an open one where the body may hold, and one that became false
pub aside_barred : (s : Trail) (us : List Atom) (place : ℕ) (b : Body) → IsBarred s us place → IsBlocked s us place b
aside_barred s us place b h = record { inside = h.inside; not_true = h.not_true; last = λ others none. h.last others }

pub aside_possible : (s : Trail) (us : List Atom) (place : ℕ) (b : Body) → IsOpenAt s us place → (IsExcludedBody b s → ⊥) → IsBlocked s us place b
aside_possible s us place b o p = record { inside = o.inside; not_true = o.not_true; last = λ others none. absurd (p none) }

pub aside_false : (s : Trail) (us : List Atom) (place : ℕ) (b : Body) → place < length us → ((x : ℤ) × (admits s.first s.entries (get_or us place no_atom).subject x ≡ true)) → IsFalseNow s (get_or us place no_atom) → IsBlocked s us place b
aside_false s us place b l some f = record {
  inside = l;
  not_true = λ d t. false_not_true s (get_or us place no_atom) some f (subst (λ (v : Atom). IsTrueNow s v) (sym (get_or_default us place no_atom d l)) t);
  last = λ others none d. subst (λ (v : Atom). IsFalseNow s v) (get_or_default us place no_atom d l) f;
}

-- where no entry was added, what a look said of the store before still stands
pub resting_same : (G : Grounds) (s u : Trail) (b : Body) → Infers G s u → u.entries ≡ s.entries → (u ≡ s → IsAtRest b s) → (IsExcludedBody b s → ⊥) → IsRestingBody b u
resting_same G s u b h e rest possible =
    let is : u ≡ s = (same_midway G G s u u h (Infers-refl G u) e).0 in
    subst (λ (v : Trail). IsRestingBody b v) (sym is) (record { rest = rest is; possible = possible })

pub seen_possible : (b : Body) (s : Trail) (look : Look) → look ≡ Possible → IsSeen b s look → IsExcludedBody b s → ⊥
seen_possible b s look e h = subst (λ (l : Look). IsSeen b s l) e h

-- a settled task is decided and strong
pub settled_decided : (s : Trail) (us : List Atom) (b : Body) → IsBodySettled s us b → IsDecided (task_of us b) s
settled_decided s us b (inl h) = record {
  holds = λ fixed xs opens on.
      absurd (h.1.not_true no_atom (fixed_true s us xs (All-append_left (λ i. IsOpenTo s i (value_at xs i)) (atom_subjects us) (subjects_of_body b) opens) (All-append_left (IsFixedNow s) (atom_subjects us) (subjects_of_body b) fixed) on h.0 no_atom h.1.inside));
}
settled_decided s us b (inr h) = record {
  holds = λ fixed xs opens on.
      h.rest.decided (All-append_right (IsFixedNow s) (atom_subjects us) (subjects_of_body b) fixed) xs (All-append_right (λ i. IsOpenTo s i (value_at xs i)) (atom_subjects us) (subjects_of_body b) opens);
}

aside_last : (s : Trail) (us : List Atom) (place : ℕ) (b : Body) → IsBlocked s us place b → (k : ℕ) (d : Atom) → k < length us → OthersAre (IsTrueNow s) us k → IsExcludedBody b s → IsFalseNow s (get_or us k d)
aside_last s us place b h k d l others none = elim (same_or place k) [
  | inl e ↦ subst (λ (n : ℕ). IsFalseNow s (get_or us n d)) e (h.last (subst (λ (n : ℕ). OthersAre (IsTrueNow s) us n) (sym e) others) none d)
  | inr e ↦ absurd (h.not_true d (others place d h.inside e))
]
  where
    same_or : (m n : ℕ) → (m ≡ n) ⊎ (m ≢ n)
    same_or m n = grind arith

pub settled_strong : (s : Trail) (us : List Atom) (b : Body) → IsBodySettled s us b → IsStrong (task_of us b) s
settled_strong s us b (inl h) = record {
  body = λ on. absurd (h.1.not_true no_atom (on h.0 no_atom h.1.inside));
  last = λ k d l others none. aside_last s us h.0 b h.1 k d l others none;
}
settled_strong s us b (inr h) = record {
  body = λ on. h.rest.strong;
  last = λ k d l others none. absurd (h.possible none);
}

-- the reason of an atom before an entry is the entry's
pub reason_at : (task : Task) (s : Trail) (k : ℕ) (u : Atom) (made reason : List Atom) → k < length s.entries → ((d : Entry) → (get_or s.entries k d).atom ≡ u) → reason ≡ made → IsReasonFor task (first_entries s k) u made → IsReasonBy task s k reason
reason_at task s k u made reason l is same r = subst (λ (c : List Atom). IsReasonBy task s k c) (sym same) (record {
  given = record {
    explains = λ d. subst (λ (t : Atom). Explains s.first (take k s.entries) made t) (sym (is d)) r.explained;
    follows = r.follows;
  };
  speaks = λ d. subst (λ (t : Atom). SpeaksOf (t.subject ∷ subjects_of task) made) (sym (is d)) r.speaks;
})
