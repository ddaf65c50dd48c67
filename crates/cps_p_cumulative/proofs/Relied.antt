-- How facts come to give what is relied on.
use Rattle.std.proofs.Common.{ℕ, zero, suc, inl, inr, min, ◌+◌, ◌<◌, ◌≤◌, ℤ, pos, ◌+ℤ◌, ◌-ℤ◌, ◌*ℤ◌, ◌≤ℤ◌, ◌<ℤ◌, ◌≡◌, unsigned_abs, Bool, true, false, not, ◌&&◌, List, [], ◌∷◌, ◌++◌, length, take, drop, get_or, refl, sym, ◌∙◌, ap, subst, arith}
use Rattle.std.specs.Prelude.{Option, Some, None, IfSome, ◌⊎◌}
use Rattle.std.specs.List.{list_all, All, Contains}
use Rattle.std.proofs.lemmas.Int.{ints}
use Rattle.std.proofs.lemmas.List.{drop_more, length-map}
use Rattle.std.proofs.lemmas.List.Elements.{All-nil, All-cons, All-push, All-head, All-tail, All-more, All-contains_itself}
use Rattle.cps_domain.specs.Window.{is_among}
use Rattle.cps_domain.proofs.Tests.{first_of_both, true_le, le_true}
use Rattle.cps_domain.proofs.Products.{times_grows}
use Rattle.cps_literal.specs.declared.atom.Atom.{Atom}
use Rattle.cps_literal.specs.declared.atom.Op.TheVariants.{Le, Ge}
use Rattle.cps_literal.specs.Truth.{meets, value_at, atom_holds, Implies}
use Rattle.cps_literal.proofs.Normalizing.{holds_too}
use Rattle.cps_instance.specs.declared.task.Body.{Body}
use Rattle.cps_instance.specs.declared.task.Span.{Span}
use Rattle.cps_instance.specs.Parts.{span_end}
use Rattle.cps_instance.specs.Tasks.{HoldsBody, atom_subjects, subjects_of_span, span_subjects, subjects_of_body}
use Rattle.cps_propagate.proofs.Listing.{get_or-map}
use Rattle.cps_propagate.proofs.Speaking.{speaks_none, speaks_push}
use Rattle.cps_instance.proofs.Agreeing.{All-append_left, All-append_right}
use Rattle.cps_trail.specs.Trail.{Trail, Domains, IsTrueNow, IsTrueAfter, IsWithin, IsAdmitted, IsInside, first_of, admits, leaves}
use Rattle.cps_rule.specs.Rules.{IsFact, AreFacts, IsGiven, IsImpossible, IsExplained, IsRefuted}
use Rattle.cps_p_cumulative.specs.declared.resource.Resource.{Resource}
use Rattle.cps_p_cumulative.specs.declared.charge.Claim.{Claim}
use Rattle.cps_p_cumulative.specs.Running.{energy_of, energies, body_of, IsTimeOf}
use Rattle.cps_p_cumulative.specs.Relying.{Relies, IsEnergyTaken, IsCharged, IsBound, IsLater, IsClaim, IsActiveBetween}
use Rattle.cps_p_cumulative.proofs.SpanDemands.{all_hold}
use Rattle.cps_p_cumulative.proofs.Energy.{energies-cons, energies-past, energies-within, energy-some, energy-stay}

-- what is so anyhow
pub Relies-none : (s : Trail) (a : Atom) (among : List ℕ) (P : List ℤ → Type 0) (us : List Atom) → AreFacts s us → ((xs : List ℤ) → IsWithin s.first xs → atom_holds xs a ≡ true → P xs) → Relies s a among P us us
Relies-none s a among P us f h = record { facts = f; kept = λ xs all. all; about = λ is all before. before; gives = λ xs w all b. h xs w b }

-- first one thing and then another
pub Relies-then : (s : Trail) (a : Atom) (among : List ℕ) (P Q R : List ℤ → Type 0) (old mid new : List Atom) → Relies s a among P old mid → Relies s a among Q mid new → ((xs : List ℤ) → IsWithin s.first xs → P xs → Q xs → R xs) → Relies s a among R old new
Relies-then s a among P Q R old mid new p q r = record {
  facts = q.facts;
  kept = λ xs all. p.kept xs (q.kept xs all);
  about = λ is all before. q.about is all (p.about is all before);
  gives = λ xs w all b. r xs w (p.gives xs w (q.kept xs all) b) (q.gives xs w all b);
}

pub Relies-so : (s : Trail) (a : Atom) (among : List ℕ) (P Q : List ℤ → Type 0) (old new : List Atom) → Relies s a among P old new → ((xs : List ℤ) → IsWithin s.first xs → P xs → Q xs) → Relies s a among Q old new
Relies-so s a among P Q old new p r = record { facts = p.facts; kept = p.kept; about = p.about; gives = λ xs w all b. r xs w (p.gives xs w all b) }

-- about more subjects
pub Relies-among : (s : Trail) (a : Atom) (few among : List ℕ) (P : List ℤ → Type 0) (old new : List Atom) → ((is : List ℕ) → All (Contains is) among → All (Contains is) few) → Relies s a few P old new → Relies s a among P old new
Relies-among s a few among P old new part p = record { facts = p.facts; kept = p.kept; about = λ is all before. p.about is (part is all) before; gives = p.gives }

pub one_of : (is : List ℕ) (i j : ℕ) → j ≡ i → Contains is i → All (Contains is) (j ∷ [])
one_of is i j e has = All-cons (Contains is) j [] (subst (λ (k : ℕ). Contains is k) (sym e) has) (All-nil (Contains is))

-- the subjects of a span and of one of several, and of a list's atoms
on_atoms : (p : Span) (us : List Atom) → us ≡ p.presence → (is : List ℕ) → All (Contains is) (subjects_of_span p) → All (Contains is) (atom_subjects us)
on_atoms p us e is all = subst (λ (vs : List Atom). All (Contains is) (atom_subjects vs)) (sym e) (All-tail (Contains is) p.end (atom_subjects p.presence) (All-tail (Contains is) p.start (p.end ∷ atom_subjects p.presence) all))

on_times : (p : Span) (u last : Atom) → u.subject ≡ p.start → IsTimeOf p last.subject → (is : List ℕ) → All (Contains is) (subjects_of_span p) → All (Contains is) (u.subject ∷ last.subject ∷ [])
on_times p u last e at is all =
    let start = All-head (Contains is) p.start (p.end ∷ atom_subjects p.presence) all in
    let end = All-head (Contains is) p.end (atom_subjects p.presence) (All-tail (Contains is) p.start (p.end ∷ atom_subjects p.presence) all) in
    All-cons (Contains is) u.subject (last.subject ∷ []) (subst (λ (k : ℕ). Contains is k) (sym e) start)
    (elim at [ inl f ↦ one_of is p.start last.subject f start | inr f ↦ one_of is p.end last.subject f end ])

span_at : (P : ℕ → Type 0) (ps : List Span) (k : ℕ) (d : Span) → k < length ps → All P (span_subjects ps) → All P (subjects_of_span (get_or ps k d))
span_at P [] k d l all = absurd (omega arith)
span_at P (p ∷ ps) zero d l all = All-append_left P (subjects_of_span p) (span_subjects ps) all
span_at P (p ∷ ps) (suc k) d l all = span_at P ps k d (omega arith) (All-append_right P (subjects_of_span p) (span_subjects ps) all)

atom_at : (us : List Atom) (k : ℕ) (d : Atom) → k < length us → (is : List ℕ) → All (Contains is) (atom_subjects us) → All (Contains is) ((get_or us k d).subject ∷ [])
atom_at us k d l is all = All-cons (Contains is) (get_or us k d).subject [] (subst (λ (i : ℕ). Contains is i) (get_or-map (λ (u : Atom). u.subject) us k d) (all k d.subject (omega (arith, l, length-map us (λ (u : Atom). u.subject))))) (All-nil (Contains is))

first_admits : (first : Domains) (i : ℕ) (x : ℤ) → is_among (first_of first i) x ≡ true → admits first [] i x ≡ true
unfolding admits
first_admits first i x h = with_true (is_among (first_of first i) x) h
  where
    with_true : (b : Bool) → b ≡ true → (b && true) ≡ true
    with_true b e = ap (λ c. c && true) e

-- what each first value meets
pub Relies-always : (s : Trail) (a u : Atom) (us : List Atom) → u.subject < length s.first → AreFacts s us → IsTrueAfter s.first [] u → Relies s a (u.subject ∷ []) (λ xs. atom_holds xs u ≡ true) us us
Relies-always s a u us inside f h = Relies-none s a (u.subject ∷ []) (λ xs. atom_holds xs u ≡ true) us f (λ xs w b. h (value_at xs u.subject) (first_admits s.first u.subject (value_at xs u.subject) (w u.subject inside)))

-- what the assumed atom implies
pub Relies-implied : (s : Trail) (a u : Atom) (us : List Atom) → AreFacts s us → Implies a u → Relies s a (u.subject ∷ []) (λ xs. atom_holds xs u ≡ true) us us
Relies-implied s a u us f h = Relies-none s a (u.subject ∷ []) (λ xs. atom_holds xs u ≡ true) us f (λ xs w b. holds_too a u xs h b)

-- one fact more
pub Relies-fact : (s : Trail) (a u : Atom) (us new : List Atom) → new ≡ us ++ u ∷ [] → u.subject < length s.first → IsInside u.value → IsTrueNow s u → AreFacts s us → Relies s a (u.subject ∷ []) (λ xs. atom_holds xs u ≡ true) us new
Relies-fact s a u us new is inside value now f = subst (λ (vs : List Atom). Relies s a (u.subject ∷ []) (λ xs. atom_holds xs u ≡ true) us vs) (sym is) (record {
  facts = All-push (IsFact s) us u f (record { subject = inside; inside = value; true_now = now });
  kept = λ xs all. All-append_left (λ v. atom_holds xs v ≡ true) us (u ∷ []) all;
  about = λ js all before. speaks_push js us u before (All-head (Contains js) u.subject [] all);
  gives = λ xs w all b. All-head (λ v. atom_holds xs v ≡ true) u [] (All-append_right (λ v. atom_holds xs v ≡ true) us (u ∷ []) all);
})

-- one atom more of a list
pub Relies-more : (s : Trail) (a : Atom) (atoms : List Atom) (k : ℕ) (d : Atom) (old mid new : List Atom) → k < length atoms
    → Relies s a (atom_subjects atoms) (λ xs. All (λ u. atom_holds xs u ≡ true) (take k atoms)) old mid → Relies s a ((get_or atoms k d).subject ∷ []) (λ xs. atom_holds xs (get_or atoms k d) ≡ true) mid new → Relies s a (atom_subjects atoms) (λ xs. All (λ u. atom_holds xs u ≡ true) (take (k + 1) atoms)) old new
Relies-more s a atoms k d old mid new l p q = Relies-then s a (atom_subjects atoms) (λ xs. All (λ u. atom_holds xs u ≡ true) (take k atoms)) (λ xs. atom_holds xs (get_or atoms k d) ≡ true) (λ xs. All (λ u. atom_holds xs u ≡ true) (take (k + 1) atoms)) old mid new p
    (Relies-among s a ((get_or atoms k d).subject ∷ []) (atom_subjects atoms) (λ xs. atom_holds xs (get_or atoms k d) ≡ true) mid new (atom_at atoms k d l) q)
    (λ xs w here this. All-more (λ u. atom_holds xs u ≡ true) atoms k d l here this)

-- one span more
pub charged-more : (t w : ℤ) (ps : List Span) (ds : List ℕ) (need : ℤ) (k : ℕ) (p : Span) (d : ℕ) (left after : ℤ) (xs : List ℤ) → k < length ps → k < length ds
    → IsCharged t w ps ds need k left xs → IsEnergyTaken t w (get_or ps k p) (get_or ds k d) left after xs → IsCharged t w ps ds need (k + 1) after xs
charged-more t w ps ds need k p d left after xs l m h this =
    let n = unsigned_abs w in
    let e : energies xs t n (drop k ps) (drop k ds) ≡ energies xs t n (get_or ps k p ∷ drop (k + 1) ps) (get_or ds k d ∷ drop (k + 1) ds) =
    ap (λ (qs : List Span). energies xs t n qs (drop k ds)) (drop_more ps k p l) ∙ ap (λ (es : List ℕ). energies xs t n (get_or ps k p ∷ drop (k + 1) ps) es) (drop_more ds k d m) in
    let f = energies-cons xs t n (get_or ps k p) (get_or ds k d) (drop (k + 1) ps) (drop (k + 1) ds) in
    let g = h.used in
    let i = this.used in
    record { used = omega (arith, ints) }

-- where the assumed atom denies one, that one is given
pub explained : (s : Trail) (b : Body) (a u : Atom) (facts : List Atom) → a.subject ≡ u.subject → ((x : ℤ) → meets a.op a.value x ≡ not (meets u.op u.value x))
    → Relies s a (subjects_of_body b) (λ xs. HoldsBody b xs → ⊥) [] facts → IsExplained b s u facts
explained s b a u facts same denies h = record {
  facts = h.facts;
  speaks = h.about (subjects_of_body b) (All-contains_itself (subjects_of_body b)) (speaks_none (subjects_of_body b));
  gives = λ xs w all holds. yes' (atom_holds xs u) (λ no'. h.gives xs w all (ap (λ (k : ℕ). meets a.op a.value (value_at xs k)) same ∙ denies (value_at xs u.subject) ∙ ap not no') holds);
}
  where
    yes' : (b : Bool) → (b ≡ false → ⊥) → b ≡ true
    yes' true f = refl
    yes' false f = absurd (f refl)

-- where the assumed atom is the first fact, the body cannot hold
pub refuted : (s : Trail) (b : Body) (a : Atom) (facts : List Atom) → Contains (subjects_of_body b) a.subject → Relies s a (subjects_of_body b) (λ xs. HoldsBody b xs → ⊥) (a ∷ []) facts → IsRefuted b s facts
refuted s b a facts mine h = record {
  facts = h.facts;
  speaks = h.about (subjects_of_body b) (All-contains_itself (subjects_of_body b)) (speaks_push (subjects_of_body b) [] a (speaks_none (subjects_of_body b)) mine);
  excludes = λ xs w all. h.gives xs w all (All-head (λ v. atom_holds xs v ≡ true) a [] (h.kept xs all));
}

pub within_of : (s : Trail) (xs : List ℤ) → IsAdmitted s.first s.entries xs → IsWithin s.first xs
unfolding admits
within_of s xs h = λ i l. first_of_both (is_among (first_of s.first i) (value_at xs i)) (list_all (leaves i (value_at xs i)) s.entries) (h i l)

-- what facts explain is given
pub given : (s : Trail) (b : Body) (u : Atom) (facts : List Atom) → u.subject < length s.first → IsExplained b s u facts → IsGiven b s u
given s b u facts inside h = record {
  subject = inside;
  at = λ xs admitted holds. h.gives xs (within_of s xs admitted) (λ k d l. (h.facts k d l).true_now (value_at xs (get_or facts k d).subject) (admitted (get_or facts k d).subject (h.facts k d l).subject)) holds;
}

-- what facts exclude is impossible
pub refuted-impossible : (s : Trail) (b : Body) (facts : List Atom) → IsRefuted b s facts → IsImpossible b s
refuted-impossible s b facts h = record {
  at = λ xs admitted holds. h.excludes xs (within_of s xs admitted) (λ k d l. (h.facts k d l).true_now (value_at xs (get_or facts k d).subject) (admitted (get_or facts k d).subject (h.facts k d l).subject)) holds;
}

-- no facts
pub no_facts : (s : Trail) (us : List Atom) → us ≡ [] → AreFacts s us
no_facts s us e = subst (λ (vs : List Atom). AreFacts s vs) (sym e) (All-nil (IsFact s))

-- the first fact of a list that was empty
pub one_fact : (old pushed : List Atom) (u : Atom) → old ≡ [] → pushed ≡ old ++ u ∷ [] → pushed ≡ u ∷ []
one_fact old pushed u e f = f ∙ ap (λ (us : List Atom). us ++ u ∷ []) e

-- an atom that is a span's later end
pub later-some : (t far : ℤ) (p : Span) (u : Atom) → p.length ≡ Some far → IsBound p.start ((t +ℤ pos 1) -ℤ far) u → IsLater t p u
later-some t far p u e h = record {
  subject = inl (ap (λ (v : Atom). v.subject) h.is);
  inside = subst (λ (v : Atom). IsInside v.value) (sym h.is) h.inside;
  after = λ xs holds.
      let a = true_le ((t +ℤ pos 1) -ℤ far) (value_at xs p.start) (subst (λ (v : Atom). atom_holds xs v ≡ true) h.is holds) in
      subst (λ (o : Option ℤ). t <ℤ span_end xs p.start p.end o) (sym e) (by (value_at xs p.start) a);
}
  where
    by : (x : ℤ) → ((t +ℤ pos 1) -ℤ far) ≤ℤ x → t <ℤ (x +ℤ far)
    by x a = omega (arith, ints)

pub later-none : (t : ℤ) (p : Span) (u : Atom) → p.length ≡ None → IsBound p.end (t +ℤ pos 1) u → IsLater t p u
later-none t p u e h = record {
  subject = inr (ap (λ (v : Atom). v.subject) h.is);
  inside = subst (λ (v : Atom). IsInside v.value) (sym h.is) h.inside;
  after = λ xs holds.
      let a = true_le (t +ℤ pos 1) (value_at xs p.end) (subst (λ (v : Atom). atom_holds xs v ≡ true) h.is holds) in
      subst (λ (o : Option ℤ). t <ℤ span_end xs p.start p.end o) (sym e) (by (value_at xs p.end) a);
}
  where
    by : (x : ℤ) → (t +ℤ pos 1) ≤ℤ x → t <ℤ x
    by x a = omega (arith, ints)

pub later-some-of : (t far : ℤ) (p : Span) (r : Option Atom) (v : ℤ) → p.length ≡ Some far → IfSome r (IsBound p.start v) → v ≡ (t +ℤ pos 1) -ℤ far → IfSome r (IsLater t p)
later-some-of t far p None v e h same = h
later-some-of t far p (Some u) v e h same = later-some t far p u e (subst (λ (x : ℤ). IsBound p.start x u) same h)

pub later-none-of : (t : ℤ) (p : Span) (r : Option Atom) (v : ℤ) → p.length ≡ None → IfSome r (IsBound p.end v) → v ≡ t +ℤ pos 1 → IfSome r (IsLater t p)
later-none-of t p None v e h same = h
later-none-of t p (Some u) v e h same = later-none t p u e (subst (λ (x : ℤ). IsBound p.end x u) same h)

-- that a span is present, starts by one time and ends after another
pub run-relied : (s : Trail) (a : Atom) (latest after : ℤ) (p : Span) (atoms : List Atom) (u last : Atom) (old mid new : List Atom) → atoms ≡ p.presence → u ≡ record { subject = p.start; op = Le; value = latest } → IsLater after p last
    → Relies s a (atom_subjects atoms) (λ xs. All (λ v. atom_holds xs v ≡ true) atoms) old mid → Relies s a (u.subject ∷ last.subject ∷ []) (λ xs. All (λ v. atom_holds xs v ≡ true) (u ∷ last ∷ [])) mid new → Relies s a (subjects_of_span p) (IsActiveBetween latest after p) old new
run-relied s a latest after p atoms u last old mid new is starts later h i =
    Relies-then s a (subjects_of_span p) (λ xs. All (λ v. atom_holds xs v ≡ true) atoms) (λ xs. All (λ v. atom_holds xs v ≡ true) (u ∷ last ∷ [])) (IsActiveBetween latest after p) old mid new
    (Relies-among s a (atom_subjects atoms) (subjects_of_span p) (λ xs. All (λ v. atom_holds xs v ≡ true) atoms) old mid (on_atoms p atoms is) h)
    (Relies-among s a (u.subject ∷ last.subject ∷ []) (subjects_of_span p) (λ xs. All (λ v. atom_holds xs v ≡ true) (u ∷ last ∷ [])) mid new (on_times p u last (ap (λ (v : Atom). v.subject) starts) later.subject) i)
    (λ xs w b c. record {
      present = subst (λ (us : List Atom). list_all (atom_holds xs) us ≡ true) is (all_hold xs atoms b);
      started = true_le (value_at xs p.start) latest (subst (λ (v : Atom). atom_holds xs v ≡ true) starts (All-head (λ v. atom_holds xs v ≡ true) u (last ∷ []) c));
      later = later.after xs (All-head (λ v. atom_holds xs v ≡ true) last [] (All-tail (λ v. atom_holds xs v ≡ true) u (last ∷ []) c));
    })

-- a span that is passed over, and one that counts
pub charge-skip : (s : Trail) (a : Atom) (t w : ℤ) (p : Span) (d : ℕ) (left after : ℤ) (u : Atom) (old new : List Atom) → left ≡ after → u ≡ record { subject = d; op = Ge; value = pos 0 } → Relies s a (u.subject ∷ []) (λ xs. atom_holds xs u ≡ true) old new
    → Relies s a (d ∷ subjects_of_span p) (IsEnergyTaken t w p d left after) old new
charge-skip s a t w p d left after u old new same is h = Relies-so s a (d ∷ subjects_of_span p) (λ xs. atom_holds xs u ≡ true) (IsEnergyTaken t w p d left after) old new
    (Relies-among s a (u.subject ∷ []) (d ∷ subjects_of_span p) (λ xs. atom_holds xs u ≡ true) old new (λ js all. one_of js d u.subject (ap (λ (v : Atom). v.subject) is) (All-head (Contains js) d (subjects_of_span p) all)) h)
    (λ xs b c. (let e = energy-some xs t (unsigned_abs w) p d (true_le (pos 0) (value_at xs d) (subst (λ (v : Atom). atom_holds xs v ≡ true) is c)) in record { used = omega (arith, ints) }))

pub charge-run : (s : Trail) (a : Atom) (t w : ℤ) (p : Span) (d : ℕ) (left after some : ℤ) (old new : List Atom) → (left -ℤ after) ≤ℤ some → Relies s a (d ∷ subjects_of_span p) (λ xs. some ≤ℤ energy_of xs t (unsigned_abs w) p d) old new → Relies s a (d ∷ subjects_of_span p) (IsEnergyTaken t w p d left after) old new
charge-run s a t w p d left after some old new taken h = Relies-so s a (d ∷ subjects_of_span p) (λ xs. some ≤ℤ energy_of xs t (unsigned_abs w) p d) (IsEnergyTaken t w p d left after) old new h (λ xs x b. record { used = omega (arith, ints) })

-- that a span uses what is claimed of it
pub claim-relied : (s : Trail) (a : Atom) (t w : ℤ) (p : Span) (d : ℕ) (claim : Claim) (u : Atom) (old mid new : List Atom) → IsClaim t w p.length claim → u ≡ record { subject = d; op = Ge; value = claim.demand }
    → Relies s a (subjects_of_span p) (IsActiveBetween claim.stay.latest claim.stay.after p) old mid → Relies s a (u.subject ∷ []) (λ xs. atom_holds xs u ≡ true) mid new → Relies s a (d ∷ subjects_of_span p) (λ xs. (claim.stay.ticks *ℤ claim.demand) ≤ℤ energy_of xs t (unsigned_abs w) p d) old new
claim-relied s a t w p d claim u old mid new of is h i = Relies-then s a (d ∷ subjects_of_span p) (IsActiveBetween claim.stay.latest claim.stay.after p) (λ xs. atom_holds xs u ≡ true) (λ xs. (claim.stay.ticks *ℤ claim.demand) ≤ℤ energy_of xs t (unsigned_abs w) p d) old mid new
    (Relies-among s a (subjects_of_span p) (d ∷ subjects_of_span p) (IsActiveBetween claim.stay.latest claim.stay.after p) old mid (λ js all. All-tail (Contains js) d (subjects_of_span p) all) h)
    (Relies-among s a (u.subject ∷ []) (d ∷ subjects_of_span p) (λ xs. atom_holds xs u ≡ true) mid new (λ js all. one_of js d u.subject (ap (λ (v : Atom). v.subject) is) (All-head (Contains js) d (subjects_of_span p) all)) i)
    (λ xs x b c. energy-stay xs t w p d claim.demand claim.stay of.stay b of.some (true_le claim.demand (value_at xs d) (subst (λ (v : Atom). atom_holds xs v ≡ true) is c)))

-- a loop over the spans
pub charge-begun : (s : Trail) (a : Atom) (t w : ℤ) (ps : List Span) (ds : List ℕ) (need : ℤ) (us : List Atom) → AreFacts s us → Relies s a (span_subjects ps ++ ds) (IsCharged t w ps ds need 0 need) us us
charge-begun s a t w ps ds need us f = Relies-none s a (span_subjects ps ++ ds) (IsCharged t w ps ds need 0 need) us f (λ xs x b. record { used = omega (arith, ints) })

pub charge-more : (s : Trail) (a : Atom) (t w : ℤ) (ps : List Span) (ds : List ℕ) (need : ℤ) (k : ℕ) (p : Span) (d : ℕ) (left after : ℤ) (old mid new : List Atom) → k < length ps → k < length ds
    → Relies s a (span_subjects ps ++ ds) (IsCharged t w ps ds need k left) old mid → Relies s a (get_or ds k d ∷ subjects_of_span (get_or ps k p)) (IsEnergyTaken t w (get_or ps k p) (get_or ds k d) left after) mid new → Relies s a (span_subjects ps ++ ds) (IsCharged t w ps ds need (k + 1) after) old new
charge-more s a t w ps ds need k p d left after old mid new l m h i =
    Relies-then s a (span_subjects ps ++ ds) (IsCharged t w ps ds need k left) (IsEnergyTaken t w (get_or ps k p) (get_or ds k d) left after) (IsCharged t w ps ds need (k + 1) after) old mid new h
    (Relies-among s a (get_or ds k d ∷ subjects_of_span (get_or ps k p)) (span_subjects ps ++ ds) (IsEnergyTaken t w (get_or ps k p) (get_or ds k d) left after) mid new
    (λ js all. All-cons (Contains js) (get_or ds k d) (subjects_of_span (get_or ps k p)) (All-append_right (Contains js) (span_subjects ps) ds all k d m) (span_at (Contains js) ps k p l (All-append_left (Contains js) (span_subjects ps) ds all))) i) (λ xs x b c. charged-more t w ps ds need k p d left after xs l m b c)

-- what passes the greatest capacity
pub over-capacity : (s : Trail) (a : Atom) (t w : ℤ) (r : Resource) (most need : ℤ) (u : Atom) (old mid new : List Atom) → pos 0 ≤ℤ w → need ≡ (w *ℤ most) +ℤ pos 1 → u ≡ record { subject = r.capacity; op = Le; value = most }
    → Relies s a (u.subject ∷ []) (λ xs. atom_holds xs u ≡ true) old mid → Relies s a (span_subjects r.spans ++ r.demands) (λ xs. need ≤ℤ energies xs t (unsigned_abs w) r.spans r.demands) mid new → Relies s a (subjects_of_body (body_of r)) (λ xs. HoldsBody (body_of r) xs → ⊥) old new
over-capacity s a t w r most need u old mid new some same is h i = Relies-then s a (subjects_of_body (body_of r)) (λ xs. atom_holds xs u ≡ true) (λ xs. need ≤ℤ energies xs t (unsigned_abs w) r.spans r.demands) (λ xs. HoldsBody (body_of r) xs → ⊥) old mid new
    (Relies-among s a (u.subject ∷ []) (subjects_of_body (body_of r)) (λ xs. atom_holds xs u ≡ true) old mid (λ js all. one_of js r.capacity u.subject (ap (λ (v : Atom). v.subject) is) (All-head (Contains js) r.capacity (span_subjects r.spans ++ r.demands) all)) h)
    (Relies-among s a (span_subjects r.spans ++ r.demands) (subjects_of_body (body_of r)) (λ xs. need ≤ℤ energies xs t (unsigned_abs w) r.spans r.demands) mid new (λ js all. All-tail (Contains js) r.capacity (span_subjects r.spans ++ r.demands) all) i)
    (λ xs x b c holds. (
    let cap = value_at xs r.capacity in
    let wide : pos (unsigned_abs w) ≡ w = omega (arith, ints) in
    let e = true_le cap most (subst (λ (v : Atom). atom_holds xs v ≡ true) is b) in
    let f = energies-within xs cap t (unsigned_abs w) r.spans r.demands holds.enough in
    let g = times_grows w cap most some e in
    let j = ap (λ (z : ℤ). z *ℤ cap) wide in
    absurd (omega (arith, ints))
    ))

-- a capacity below 0
pub under-capacity : (s : Trail) (a : Atom) (r : Resource) (most : ℤ) (u : Atom) (old new : List Atom) → most <ℤ pos 0 → u ≡ record { subject = r.capacity; op = Le; value = most }
    → Relies s a (u.subject ∷ []) (λ xs. atom_holds xs u ≡ true) old new → Relies s a (subjects_of_body (body_of r)) (λ xs. HoldsBody (body_of r) xs → ⊥) old new
under-capacity s a r most u old new low is h = Relies-so s a (subjects_of_body (body_of r)) (λ xs. atom_holds xs u ≡ true) (λ xs. HoldsBody (body_of r) xs → ⊥) old new
    (Relies-among s a (u.subject ∷ []) (subjects_of_body (body_of r)) (λ xs. atom_holds xs u ≡ true) old new (λ js all. one_of js r.capacity u.subject (ap (λ (v : Atom). v.subject) is) (All-head (Contains js) r.capacity (span_subjects r.spans ++ r.demands) all)) h)
    (λ xs x b holds. (
    let e = true_le (value_at xs r.capacity) most (subst (λ (v : Atom). atom_holds xs v ≡ true) is b) in
    let f = holds.some_room in
    absurd (omega (arith, ints))
    ))

-- the same, by what the code reads
pub charge-step : (s : Trail) (a : Atom) (t w : ℤ) (ps rs : List Span) (ds es : List ℕ) (need known : ℤ) (k : ℕ) (p : Span) (d : ℕ) (left had after got : ℤ) (old mid new : List Atom) → k < length rs → k < length es → rs ≡ ps → es ≡ ds → p ≡ get_or rs k p → d ≡ get_or es k 0
    → Relies s a (span_subjects ps ++ ds) (IsCharged t w ps ds need k left) old mid → Relies s a (d ∷ subjects_of_span p) (IsEnergyTaken t w p d had after) mid new → had ≡ left → known ≡ need → got ≡ after → Relies s a (span_subjects ps ++ ds) (IsCharged t w ps ds known (k + 1) got) old new
charge-step s a t w ps rs ds es need known k p d left had after got old mid new l m same alike is-p is-d h i e f g =
    let q : get_or ps k p ≡ p = ap (λ (qs : List Span). get_or qs k p) (sym same) ∙ sym is-p in
    let r : get_or ds k 0 ≡ d = ap (λ (qs : List ℕ). get_or qs k 0) (sym alike) ∙ sym is-d in
    let l' : k < length ps = subst (λ (qs : List Span). k < length qs) same l in
    let m' : k < length ds = subst (λ (qs : List ℕ). k < length qs) alike m in
    let j : Relies s a (get_or ds k 0 ∷ subjects_of_span (get_or ps k p)) (IsEnergyTaken t w (get_or ps k p) (get_or ds k 0) left after) mid new =
    subst (λ (x : ℤ). Relies s a (get_or ds k 0 ∷ subjects_of_span (get_or ps k p)) (IsEnergyTaken t w (get_or ps k p) (get_or ds k 0) x after) mid new) e
    (subst (λ (n : ℕ). Relies s a (n ∷ subjects_of_span (get_or ps k p)) (IsEnergyTaken t w (get_or ps k p) n had after) mid new) (sym r)
    (subst (λ (u : Span). Relies s a (d ∷ subjects_of_span u) (IsEnergyTaken t w u d had after) mid new) (sym q) i)) in
    let b = charge-more s a t w ps ds need k p 0 left after old mid new l' m' h j in
    subst (λ (x : ℤ). Relies s a (span_subjects ps ++ ds) (IsCharged t w ps ds x (k + 1) got) old new) (sym f) (subst (λ (x : ℤ). Relies s a (span_subjects ps ++ ds) (IsCharged t w ps ds need (k + 1) x) old new) (sym g) b)

le_or : (a b : ℕ) → (a ≤ b) ⊎ (b ≤ a)
le_or zero b = inl (omega arith)
le_or (suc a) zero = inr (omega arith)
le_or (suc a) (suc b) = elim (le_or a b) [ inl h ↦ inl (omega arith) | inr h ↦ inr (omega arith) ]

pub min_past : (a b k m : ℕ) → m ≡ min a b → m ≤ k → (a ≤ k) ⊎ (b ≤ k)
min_past a b k m e l = elim (le_or a b) [ inl h ↦ inl (omega arith) | inr h ↦ inr (omega arith) ]

pub charge-done : (s : Trail) (a : Atom) (t w : ℤ) (ps : List Span) (ds : List ℕ) (need known : ℤ) (k : ℕ) (left : ℤ) (old new : List Atom) → (length ps ≤ k) ⊎ (length ds ≤ k) → Relies s a (span_subjects ps ++ ds) (IsCharged t w ps ds need k left) old new → left ≤ℤ pos 0 → known ≡ need
    → Relies s a (span_subjects ps ++ ds) (λ xs. known ≤ℤ energies xs t (unsigned_abs w) ps ds) old new
charge-done s a t w ps ds need known k left old new past h none same = Relies-so s a (span_subjects ps ++ ds) (IsCharged t w ps ds need k left) (λ xs. known ≤ℤ energies xs t (unsigned_abs w) ps ds) old new h (λ xs x b. (let e = energies-past xs t (unsigned_abs w) ps ds k past in let f = b.used in omega (arith, ints)))

-- the greatest capacity is a fact
pub fact-capacity : (s : Trail) (i : ℕ) (most : ℤ) (u : Atom) (us : List Atom) → us ≡ u ∷ [] → u ≡ record { subject = i; op = Le; value = most } → i < length s.first → IsInside most → ((x : ℤ) → admits s.first s.entries i x ≡ true → x ≤ℤ most) → AreFacts s us
fact-capacity s i most u us is same l inside up =
    let fact : IsFact s (record { subject = i; op = Le; value = most }) = record { subject = l; inside = inside; true_now = λ x o. le_true x most (up x o) } in
    subst (λ (vs : List Atom). AreFacts s vs) (sym is) (subst (λ (v : Atom). AreFacts s (v ∷ [])) (sym same) (All-push (IsFact s) [] (record { subject = i; op = Le; value = most }) (All-nil (IsFact s)) fact))

-- what is left after a span took from it
pub fallen : (left got after : ℤ) → got ≡ after → pos 0 ≤ℤ got → got ≤ℤ left → (pos 0 ≤ℤ after) × (after ≤ℤ left)
fallen left got after e low high = subst (λ (z : ℤ). (pos 0 ≤ℤ z) × (z ≤ℤ left)) e (low, high)

pub not_fallen : (left after : ℤ) → left ≡ after → pos 0 ≤ℤ left → (pos 0 ≤ℤ after) × (after ≤ℤ left)
not_fallen left after e low = fallen left left after e low (omega (arith, ints))
