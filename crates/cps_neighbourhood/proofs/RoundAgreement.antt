-- How progress in a round goes on agreeing with a store.
use Rattle.std.specs.Prelude.{All, Contains, max, nat_le}
use Rattle.std.specs.List.{Any, filter}
use Rattle.std.proofs.Common.{ℕ, zero, suc, ◌+◌, ◌≤◌, ◌<◌, ℤ, ◌≡◌, ◌∙◌, ◌⊎◌, inl, inr, Bool, true, false, true≢false, cond, min, List, [], ◌∷◌, ◌++◌, length, get_or, drop, refl, sym, ap, subst, arith, length-append}
use Rattle.std.proofs.lemmas.Bool.{leb-true, le-leb}
use Rattle.std.proofs.lemmas.List.{get_or_append_left, take-append-drop}
use Rattle.std.proofs.Math.Seq.{get_or-append_seam}
use Rattle.std.proofs.lemmas.List.Elements.{All-append, All-cons, All-nil, All-filter, All-weaker, filter_passes}
use Rattle.cps_literal.specs.declared.atom.Atom.{Atom}
use Rattle.cps_literal.specs.declared.atom.Op.TheVariants.{Eq}
use Rattle.cps_trail.specs.Trail.{Domains, Trail, Entry, Decision, IsSoundTrail, admits, up_to}
use Rattle.cps_trail.proofs.Falls.{bool_cases}
use Rattle.cps_trail.proofs.Laws.{admits-append}
use Rattle.cps_trail.proofs.Marks.{up_to-all, up_to-append_above, up_to-up_to}
use Rattle.cps_branch.specs.Choice.{IsUndecided}
use Rattle.cps_search.specs.Ends.{round_conflicts}
use Rattle.cps_neighbourhood.specs.declared.round.Progress.{Progress}
use Rattle.cps_neighbourhood.specs.Rounds.{EndsRound, IsOfRound, NoneOpen}
use Rattle.cps_neighbourhood.specs.Standing.{IsRoundEnd, IsUnderWay, at_end_of, begun, held_to, round_of}

-- what a store leaves undecided an earlier one did that left at least its values
pub undecided_before : (s t : Trail) (u : Atom) → t.first ≡ s.first → ((x : ℤ) → admits t.first t.entries u.subject x ≡ true → admits s.first s.entries u.subject x ≡ true) → IsUndecided t u → IsUndecided s u
undecided_before s t u first fewer k = record {
  subject = subst (λ (ds : Domains). u.subject < length ds) first k.subject;
  not_true = λ h. k.not_true (λ x a. h x (fewer x a));
  not_false = λ h. k.not_false (λ x a. h x (fewer x a));
}

none_open_later : (decisions : List Atom) (s t : Trail) → t.first ≡ s.first → ((i : ℕ) (x : ℤ) → admits t.first t.entries i x ≡ true → admits s.first s.entries i x ≡ true) → NoneOpen decisions s → NoneOpen decisions t
none_open_later decisions s t first fewer none = λ k d l is_open. none k d l (undecided_before s t (get_or decisions k d) first (fewer (get_or decisions k d).subject) is_open)

-- more entries leave fewer values
pub fewer_added : (s t : Trail) (added : List Entry) → t.first ≡ s.first → t.entries ≡ s.entries ++ added → (i : ℕ) (x : ℤ) → admits t.first t.entries i x ≡ true → admits s.first s.entries i x ≡ true
fewer_added s t added first entries i x h =
    admits-append s.first s.entries added i x (subst (λ (ds : Domains). admits ds (s.entries ++ added) i x ≡ true) first (subst (λ (es : List Entry). admits t.first es i x ≡ true) entries h))

-- the entries of the first levels, and those after them
split_at : (s : Trail) (level : ℕ) → IsSoundTrail s → s.entries ≡ up_to level s.entries ++ drop (length (up_to level s.entries)) s.entries
split_at s level sound = sym (take-append-drop (length (up_to level s.entries)) s.entries) ∙ ap (λ (es : List Entry). es ++ drop (length (up_to level s.entries)) s.entries) (sound.fronts level)

-- what was not open at the end of a level is not open now
pub none_open_now : (decisions : List Atom) (s : Trail) (level : ℕ) → IsSoundTrail s → NoneOpen decisions (at_end_of s level) → NoneOpen decisions s
none_open_now decisions s level sound none = none_open_later decisions (at_end_of s level) s refl (fewer_added (at_end_of s level) s (drop (length (up_to level s.entries)) s.entries) refl (split_at s level sound)) none

any_added : (P : Entry → Type 0) (es fs : List Entry) → Any P es → Any P (es ++ fs)
any_added P es fs h = (h.0, h.1, omega (arith, h.2, length-append es fs), get_or_append_left es fs h.1 h.0 h.2 ∙ h.3, h.4)

any_last : (P : Entry → Type 0) (es : List Entry) (e : Entry) → P e → Any P (es ++ e ∷ [])
any_last P es e h = (length es, e, omega (arith, length-append es (e ∷ [])), get_or-append_seam es e [] e, h)

cond_true : {X : Type 0} (b : Bool) (x y : X) → b ≡ true → cond b x y ≡ x
cond_true b x y e = ap (λ (c : Bool). cond c x y) e

any_next : (P : Entry → Type 0) (b : Bool) (y : Entry) (ys : List Entry) → Any P ys → Any P (cond b (y ∷ ys) ys)
any_next P true y ys h = (suc h.0, h.1, omega (arith, h.2), h.3, h.4)
any_next P false y ys h = h

any_filter : (p : Entry → Bool) (P : Entry → Type 0) (es : List Entry) (k : ℕ) (x : Entry) → k < length es → get_or es k x ≡ x → P x → p x ≡ true → Any P (filter p es)
any_filter p P [] k x l e h t = absurd (omega arith)
any_filter p P (y ∷ ys) zero x l e h t =
    subst (λ (fs : List Entry). Any P fs) (sym (cond_true (p y) (y ∷ filter p ys) (filter p ys) (ap p e ∙ t))) (zero, y, omega arith, refl, subst P (sym e) h)
any_filter p P (y ∷ ys) (suc k) x l e h t = any_next P (p y) y (filter p ys) (any_filter p P ys k x (omega (arith, l)) e h t)

any_up_to : (P : Entry → Type 0) (es : List Entry) (level : ℕ) → Any (λ e. P e × (e.level ≤ level)) es → Any P (up_to level es)
any_up_to P es level h = any_filter (λ e. nat_le e.level level) P es h.0 h.1 h.2 h.3 h.4.0 (le-leb h.1.level level h.4.1)

any_weaker : (P Q : Entry → Type 0) (es : List Entry) → ((e : Entry) → P e → Q e) → Any P es → Any Q es
any_weaker P Q es f h = (h.0, h.1, h.2, h.3, f h.1 h.4)

-- which levels are the round's, where the search went back to one
pub held_cases : (r : Progress) (level : ℕ) → ((level ≤ r.assumed) × (held_to r level ≡ 0)) ⊎ ((r.assumed < level) × (held_to r level ≡ min r.held level))
held_cases r level = elim (bool_cases (nat_le level r.assumed)) [
  | inl low ↦ inl (leb-true level r.assumed low, cond_true (nat_le level r.assumed) 0 (min r.held level) low)
  | inr high ↦ inr (less (λ l. true≢false (sym (le-leb level r.assumed l) ∙ high)), ap (λ (b : Bool). cond b 0 (min r.held level)) high)
]
  where
    less : (level ≤ r.assumed → ⊥) → r.assumed < level
    less not = grind arith

pub held_or_not : (n : ℕ) → (n ≡ 0) ⊎ (0 < n)
held_or_not zero = inl refl
held_or_not (suc n) = inr (omega arith)

-- nothing changes for a round where the search stays at its level
pub held_stays : (r : Progress) (s : Trail) → IsUnderWay r s → (min r.assumed s.level ≡ r.assumed) × (held_to r s.level ≡ r.held)
held_stays r s h = elim (held_cases r s.level) [
  | inl low ↦ (omega (arith, h.within), low.1 ∙ sym (none_held (held_or_not r.held) low.0))
  | inr high ↦ (omega (arith, h.within), high.1 ∙ (let l = h.within in omega (arith, l)))
]
  where
    none_held : (r.held ≡ 0) ⊎ (0 < r.held) → s.level ≤ r.assumed → r.held ≡ 0
    none_held (inl none) l = none
    none_held (inr some) l = absurd (let a = h.above some in let w = h.within in omega (arith, l, a, w))

-- which entries are the round's
abbrev pub AreBetween : List Atom → ℕ → ℕ → List Entry → Type 0
AreBetween decisions assumed held es = All (λ e. IsOfRound decisions e → (assumed < e.level) × (e.level ≤ held)) es

-- entries were inferred at the present level
pub way_onward : (r : Progress) (s t : Trail) (added : List Entry) → t.first ≡ s.first → t.level ≡ s.level → t.entries ≡ s.entries ++ added → All (λ e. e.level ≡ s.level) added → All (λ e. e.reason ≡ Decision → ⊥) added → IsUnderWay r s → IsUnderWay r t
way_onward r s t added first level entries at inferred h = record {
  few = h.few;
  subjects = subst (λ (ds : Domains). All (λ u. u.subject < length ds) r.decisions.items) (sym first) h.subjects;
  values = h.values;
  within = omega (arith, level, h.within);
  above = h.above;
  each = λ l some low. subst (λ (es : List Entry). Any (λ e. IsOfRound r.decisions.items e × (e.level ≡ l)) es) (sym entries) (any_added (λ e. IsOfRound r.decisions.items e × (e.level ≡ l)) s.entries added (h.each l some low));
  between = subst (λ (es : List Entry). AreBetween r.decisions.items r.assumed r.held es) (sym entries)
      (All-append (λ e. IsOfRound r.decisions.items e → (r.assumed < e.level) × (e.level ≤ r.held)) s.entries added h.between (λ k d l of. absurd (inferred k d l of.decided)));
  settled = λ less.
      let before : begun r < s.level = omega (arith, level, less) in
      let same : up_to (begun r) t.entries ≡ up_to (begun r) s.entries = ap (λ (es : List Entry). up_to (begun r) es) entries ∙ up_to-append_above (begun r) s.entries added (All-weaker (λ (e : Entry). e.level ≡ s.level) (λ (e : Entry). begun r < e.level) (λ e is. subst (λ (n : ℕ). begun r < n) (sym is) before) added at) in
      none_open_later r.decisions.items (at_end_of s (begun r)) (at_end_of t (begun r)) first
      (λ i x a. subst (λ (ds : Domains). admits ds (up_to (begun r) s.entries) i x ≡ true) first (subst (λ (es : List Entry). admits t.first es i x ≡ true) same a))
      (h.settled before);
  passed = λ j d l m is_open. h.passed j d l m (undecided_before s t (get_or r.decisions.items j d) first (fewer_added s t added first entries (get_or r.decisions.items j d).subject) is_open);
}

-- the store went back to a level
pub way_back : (r u : Progress) (s t : Trail) (level : ℕ) → t.first ≡ s.first → t.entries ≡ up_to level s.entries → t.level ≡ level → level ≤ s.level → u.decisions.items ≡ r.decisions.items → u.assumed ≡ min r.assumed level → u.held ≡ held_to r level → u.place ≡ 0 → u.learnt < round_conflicts
    → IsUnderWay r s → IsUnderWay u t
way_back r u s t level first entries at within decisions assumed held place few h = elim (held_cases r level) [
  | inl low ↦ back_low low.0 (held ∙ low.1)
  | inr high ↦ back_high high.0 (held ∙ high.1)
]
  where
    ts : List Atom
    ts = u.decisions.items

    subjects : All (λ v. v.subject < length t.first) ts
    subjects = subst (λ (ds : Domains). All (λ v. v.subject < length ds) ts) (sym first) (subst (λ (us : List Atom). All (λ v. v.subject < length s.first) us) (sym decisions) h.subjects)

    values : All (λ v. v.op ≡ Eq) ts
    values = subst (λ (us : List Atom). All (λ v. v.op ≡ Eq) us) (sym decisions) h.values

    passed : (j : ℕ) (d : Atom) → j < u.place → j < length ts → IsUndecided t (get_or ts j d) → ⊥
    passed j d l m is_open = absurd (omega (arith, l, place))

    -- the entries that are left are of the first levels, and those of the round are where they were
    kept_between : (k : ℕ) (d : Entry) → k < length (up_to level s.entries) → IsOfRound ts (get_or (up_to level s.entries) k d) → ((r.assumed < (get_or (up_to level s.entries) k d).level) × ((get_or (up_to level s.entries) k d).level ≤ r.held)) × ((get_or (up_to level s.entries) k d).level ≤ level)
    kept_between k d l of = (
      All-filter (λ e. nat_le e.level level) (λ e. IsOfRound r.decisions.items e → (r.assumed < e.level) × (e.level ≤ r.held)) s.entries h.between k d l (subst (λ (us : List Atom). IsOfRound us (get_or (up_to level s.entries) k d)) decisions of),
      leb-true (get_or (up_to level s.entries) k d).level level (filter_passes (λ e. nat_le e.level level) s.entries k d l),
    )

    -- all that is left began with assumptions
    back_low : level ≤ r.assumed → u.held ≡ 0 → IsUnderWay u t
    back_low low none = record {
      few = few;
      subjects = subjects;
      values = values;
      within = omega (arith, none, assumed, low, at);
      above = λ some. absurd (omega (arith, some, none));
      each = λ l some is_low. absurd (omega (arith, none, some, is_low));
      between = subst (λ (es : List Entry). AreBetween ts u.assumed u.held es) (sym entries) (λ k d l of. absurd (let old = kept_between k d l of in omega (arith, old.0.0, old.1, low)));
      settled = λ less. absurd (omega (arith, less, none, assumed, low, at));
      passed = passed;
    }

    -- all assumptions are left, and of the round's levels the first ones
    back_high : r.assumed < level → u.held ≡ min r.held level → IsUnderWay u t
    back_high high least =
        let stays : u.assumed ≡ r.assumed = omega (arith, assumed, high) in
        let fewer : u.held ≤ r.held = omega (arith, least) in
        record {
          few = few;
          subjects = subjects;
          values = values;
          within = omega (arith, least, stays, high, at);
          above = λ some. (let old = h.above (omega (arith, some, fewer)) in omega (arith, old, least, stays, high));
          each = λ l some low. subst (λ (es : List Entry). Any (λ e. IsOfRound ts e × (e.level ≡ l)) es) (sym entries) (any_up_to (λ e. IsOfRound ts e × (e.level ≡ l)) s.entries level
              (any_weaker (λ e. IsOfRound r.decisions.items e × (e.level ≡ l)) (λ e. (IsOfRound ts e × (e.level ≡ l)) × (e.level ≤ level)) s.entries
              (λ e k. ((subst (λ (us : List Atom). IsOfRound us e) (sym decisions) k.0, k.1), omega (arith, k.1, low, least)))
              (h.each l (omega (arith, some, stays)) (omega (arith, low, fewer)))));
          between = subst (λ (es : List Entry). AreBetween ts u.assumed u.held es) (sym entries) (λ k d l of.
              let old = kept_between k d l of in
              (omega (arith, old.0.0, stays), omega (arith, old.0.1, old.1, least)));
          settled = λ less.
              let same_held : u.held ≡ r.held = omega (arith, least, less, at, stays) in
              let same_begun : begun u ≡ begun r = ap (λ (n : ℕ). max n u.held) stays ∙ ap (λ (n : ℕ). max r.assumed n) same_held in
              let below : begun r < level = omega (arith, less, at, stays, same_held) in
              let before : begun r < s.level = omega (arith, below, within) in
              let same : up_to (begun u) t.entries ≡ up_to (begun r) s.entries = ap (λ (n : ℕ). up_to n t.entries) same_begun ∙ ap (λ (es : List Entry). up_to (begun r) es) entries ∙ up_to-up_to (begun r) level s.entries (omega (arith, below)) in
              subst (λ (us : List Atom). NoneOpen us (at_end_of t (begun u))) (sym decisions)
              (none_open_later r.decisions.items (at_end_of s (begun r)) (at_end_of t (begun u)) first
              (λ i x a. subst (λ (ds : Domains). admits ds (up_to (begun r) s.entries) i x ≡ true) first (subst (λ (es : List Entry). admits t.first es i x ≡ true) same a))
              (h.settled before));
          passed = passed;
        }

-- a decision of the round was made, after none but such and assumptions
pub way_decided : (r u : Progress) (s t : Trail) (e : Entry) → t.first ≡ s.first → t.entries ≡ s.entries ++ e ∷ [] → t.level ≡ s.level + 1 → e.level ≡ s.level + 1 → IsOfRound r.decisions.items e → begun r ≡ s.level → u.decisions.items ≡ r.decisions.items
    → u.assumed ≡ r.assumed → u.held ≡ t.level → u.place ≡ r.place → u.learnt ≡ r.learnt → IsUnderWay r s → IsUnderWay u t
way_decided r u s t e first entries level at of held decisions assumed more place learnt h =
    let ts = u.decisions.items in
    let fewer : r.assumed ≤ s.level = omega (arith, held) in
    let last : r.held ≤ s.level = omega (arith, held) in
    record {
      few = omega (arith, learnt, h.few);
      subjects = subst (λ (ds : Domains). All (λ v. v.subject < length ds) ts) (sym first) (subst (λ (us : List Atom). All (λ v. v.subject < length s.first) us) (sym decisions) h.subjects);
      values = subst (λ (us : List Atom). All (λ v. v.op ≡ Eq) us) (sym decisions) h.values;
      within = omega (arith, more, assumed, fewer, level);
      above = λ _. omega (arith, more, assumed, fewer, level);
      each = λ l some low. subst (λ (us : List Atom). Any (λ f. IsOfRound us f × (f.level ≡ l)) t.entries) (sym decisions) (subst (λ (es : List Entry). Any (λ f. IsOfRound r.decisions.items f × (f.level ≡ l)) es) (sym entries) (elim (cases l (omega (arith, low, more, level))) [
        | inl old ↦ any_added (λ f. IsOfRound r.decisions.items f × (f.level ≡ l)) s.entries (e ∷ []) (h.each l (omega (arith, some, assumed)) (was_held l (omega (arith, some, assumed)) old (held_or_not r.held)))
        | inr new ↦ any_last (λ f. IsOfRound r.decisions.items f × (f.level ≡ l)) s.entries e (of, at ∙ sym new)
      ]));
      between = subst (λ (es : List Entry). AreBetween ts u.assumed u.held es) (sym entries) (All-append (λ f. IsOfRound ts f → (u.assumed < f.level) × (f.level ≤ u.held)) s.entries (e ∷ [])
          (λ k d l is. (let old = h.between k d l (subst (λ (us : List Atom). IsOfRound us (get_or s.entries k d)) decisions is) in (omega (arith, old.0, assumed), omega (arith, old.1, more, level, last))))
          (All-cons (λ f. IsOfRound ts f → (u.assumed < f.level) × (f.level ≤ u.held)) e [] (λ is. (omega (arith, at, assumed, fewer), omega (arith, at, more, level))) (All-nil (λ (f : Entry). IsOfRound ts f → (u.assumed < f.level) × (f.level ≤ u.held)))));
      settled = λ less. absurd (omega (arith, less, more, level));
      passed = λ j d l m is_open. h.passed j d (omega (arith, l, place)) (omega (arith, m, ap (λ (us : List Atom). length us) decisions))
          (undecided_before s t (get_or r.decisions.items j d) first (fewer_added s t (e ∷ []) first entries (get_or r.decisions.items j d).subject) (subst (λ (us : List Atom). IsUndecided t (get_or us j d)) decisions is_open));
    }
  where
    cases : (l : ℕ) → l ≤ s.level + 1 → (l ≤ s.level) ⊎ (l ≡ s.level + 1)
    cases l low = grind arith

    was_held : (l : ℕ) → r.assumed < l → l ≤ s.level → (r.held ≡ 0) ⊎ (0 < r.held) → l ≤ r.held
    was_held l some low (inl none) = absurd (omega (arith, some, low, none, held))
    was_held l some low (inr is_held) = (let up = h.above is_held in omega (arith, low, held, up))

-- an assumption was decided, where the round has decided nothing yet
pub way_assumed : (r u : Progress) (s t : Trail) (e : Entry) → t.first ≡ s.first → t.entries ≡ s.entries ++ e ∷ [] → t.level ≡ s.level + 1 → e.level ≡ s.level + 1 → (e.atom.op ≡ Eq → ⊥) → r.held ≡ 0 → u.decisions.items ≡ r.decisions.items
    → u.assumed ≡ t.level → u.held ≡ r.held → u.place ≡ r.place → u.learnt ≡ r.learnt → IsUnderWay r s → IsUnderWay u t
way_assumed r u s t e first entries level at other none decisions assumed held place learnt h =
    let ts = u.decisions.items in
    record {
      few = omega (arith, learnt, h.few);
      subjects = subst (λ (ds : Domains). All (λ v. v.subject < length ds) ts) (sym first) (subst (λ (us : List Atom). All (λ v. v.subject < length s.first) us) (sym decisions) h.subjects);
      values = subst (λ (us : List Atom). All (λ v. v.op ≡ Eq) us) (sym decisions) h.values;
      within = omega (arith, assumed, held, none);
      above = λ some. absurd (omega (arith, some, held, none));
      each = λ l some low. absurd (omega (arith, some, low, held, none));
      between = subst (λ (es : List Entry). AreBetween ts u.assumed u.held es) (sym entries) (All-append (λ f. IsOfRound ts f → (u.assumed < f.level) × (f.level ≤ u.held)) s.entries (e ∷ [])
          (λ k d l is. absurd (let old = h.between k d l (subst (λ (us : List Atom). IsOfRound us (get_or s.entries k d)) decisions is) in omega (arith, old.0, old.1, none)))
          (All-cons (λ f. IsOfRound ts f → (u.assumed < f.level) × (f.level ≤ u.held)) e [] (λ is. absurd (other (value_of is.one_of))) (All-nil (λ (f : Entry). IsOfRound ts f → (u.assumed < f.level) × (f.level ≤ u.held)))));
      settled = λ less. absurd (omega (arith, less, assumed));
      passed = λ j d l m is_open. h.passed j d (omega (arith, l, place)) (omega (arith, m, ap (λ (us : List Atom). length us) decisions))
          (undecided_before s t (get_or r.decisions.items j d) first (fewer_added s t (e ∷ []) first entries (get_or r.decisions.items j d).subject) (subst (λ (us : List Atom). IsUndecided t (get_or us j d)) decisions is_open));
    }
  where
    value_of : Contains u.decisions.items e.atom → e.atom.op ≡ Eq
    value_of c =
        let vs : All (λ v. v.op ≡ Eq) u.decisions.items = subst (λ (us : List Atom). All (λ v. v.op ≡ Eq) us) (sym decisions) h.values in
        ap (λ (v : Atom). v.op) (sym c.2) ∙ vs c.0 e.atom c.1

-- another decision was made, where the round had none open
pub way_chosen : (r : Progress) (s t : Trail) (e : Entry) → t.first ≡ s.first → t.entries ≡ s.entries ++ e ∷ [] → t.level ≡ s.level + 1 → e.level ≡ s.level + 1 → IsUndecided s e.atom → NoneOpen r.decisions.items s → All (λ f. f.level ≤ s.level) s.entries
    → IsUnderWay r s → IsUnderWay r t
way_chosen r s t e first entries level at is_open none levels h = record {
  few = h.few;
  subjects = subst (λ (ds : Domains). All (λ u. u.subject < length ds) r.decisions.items) (sym first) h.subjects;
  values = h.values;
  within = omega (arith, level, h.within);
  above = h.above;
  each = λ l some low. subst (λ (es : List Entry). Any (λ f. IsOfRound r.decisions.items f × (f.level ≡ l)) es) (sym entries) (any_added (λ f. IsOfRound r.decisions.items f × (f.level ≡ l)) s.entries (e ∷ []) (h.each l some low));
  between = subst (λ (es : List Entry). AreBetween r.decisions.items r.assumed r.held es) (sym entries) (All-append (λ f. IsOfRound r.decisions.items f → (r.assumed < f.level) × (f.level ≤ r.held)) s.entries (e ∷ []) h.between
      (All-cons (λ f. IsOfRound r.decisions.items f → (r.assumed < f.level) × (f.level ≤ r.held)) e [] (λ of. absurd (not_of of.one_of)) (All-nil (λ (f : Entry). IsOfRound r.decisions.items f → (r.assumed < f.level) × (f.level ≤ r.held)))));
  settled = λ less.
      let same : up_to (begun r) t.entries ≡ up_to (begun r) s.entries = ap (λ (es : List Entry). up_to (begun r) es) entries ∙ up_to-append_above (begun r) s.entries (e ∷ []) (All-cons (λ f. begun r < f.level) e [] (omega (arith, at, h.within)) (All-nil (λ (f : Entry). begun r < f.level))) in
      none_open_later r.decisions.items (at_end_of s (begun r)) (at_end_of t (begun r)) first
      (λ i x a. subst (λ (ds : Domains). admits ds (up_to (begun r) s.entries) i x ≡ true) first (subst (λ (es : List Entry). admits t.first es i x ≡ true) same a))
      (elim (cases h.within) [
        | inl before ↦ h.settled before
        | inr now ↦
            let all : up_to (begun r) s.entries ≡ s.entries = ap (λ (n : ℕ). up_to n s.entries) now ∙ up_to-all s.level s.entries levels in
            none_open_later r.decisions.items s (at_end_of s (begun r)) refl (λ i x a. subst (λ (es : List Entry). admits s.first es i x ≡ true) all a) none
      ]);
  passed = λ j d l m is_open. h.passed j d l m (undecided_before s t (get_or r.decisions.items j d) first (fewer_added s t (e ∷ []) first entries (get_or r.decisions.items j d).subject) is_open);
}
  where
    cases : begun r ≤ s.level → (begun r < s.level) ⊎ (begun r ≡ s.level)
    cases l = grind arith

    not_of : Contains r.decisions.items e.atom → ⊥
    not_of c = none c.0 e.atom c.1 (subst (λ (u : Atom). IsUndecided s u) (sym c.2) is_open)

-- a round begins at level 0
pub way_begins : (r : Progress) (s : Trail) → r.learnt < round_conflicts → All (λ u. u.subject < length s.first) r.decisions.items → All (λ u. u.op ≡ Eq) r.decisions.items → r.assumed ≡ 0 → r.held ≡ 0 → r.place ≡ 0 → s.level ≡ 0
    → All (λ e. IsOfRound r.decisions.items e → ⊥) s.entries → IsUnderWay r s
way_begins r s few subjects values assumed held place level none = record {
  few = few;
  subjects = subjects;
  values = values;
  within = omega (arith, assumed, held);
  above = λ some. absurd (omega (arith, some, held));
  each = λ l some low. absurd (omega (arith, some, low, held));
  between = λ k d l of. absurd (none k d l of);
  settled = λ less. absurd (omega (arith, less, level));
  passed = λ j d l m is_open. absurd (omega (arith, l, place));
}

-- at level 0 nothing was decided
pub none_of_round : (decisions : List Atom) (s : Trail) → IsSoundTrail s → s.level ≡ 0 → All (λ e. IsOfRound decisions e → ⊥) s.entries
none_of_round decisions s sound bottom k d l of =
    let begins = sound.decisions k d l of.decided in
    let most = sound.levels k d l in
    let up = begins.above in
    omega (arith, bottom, most, up)

-- another place, before which none is open
pub way_placed : (r u : Progress) (s : Trail) → u.decisions.items ≡ r.decisions.items → u.learnt ≡ r.learnt → u.assumed ≡ r.assumed → u.held ≡ r.held → ((j : ℕ) (d : Atom) → j < u.place → j < length r.decisions.items → IsUndecided s (get_or r.decisions.items j d) → ⊥)
    → IsUnderWay r s → IsUnderWay u s
way_placed r u s decisions learnt assumed held passed h =
    let same : begun u ≡ begun r = ap (λ (n : ℕ). max n u.held) assumed ∙ ap (λ (n : ℕ). max r.assumed n) held in
    record {
      few = omega (arith, learnt, h.few);
      subjects = subst (λ (us : List Atom). All (λ v. v.subject < length s.first) us) (sym decisions) h.subjects;
      values = subst (λ (us : List Atom). All (λ v. v.op ≡ Eq) us) (sym decisions) h.values;
      within = subst (λ (n : ℕ). n ≤ s.level) (sym same) h.within;
      above = λ some. (let old = h.above (omega (arith, some, held)) in omega (arith, old, assumed, held));
      each = λ l some low. subst (λ (us : List Atom). Any (λ e. IsOfRound us e × (e.level ≡ l)) s.entries) (sym decisions) (h.each l (omega (arith, some, assumed)) (omega (arith, low, held)));
      between = subst (λ (us : List Atom). AreBetween us u.assumed u.held s.entries) (sym decisions) (subst (λ (n : ℕ). AreBetween r.decisions.items n u.held s.entries) (sym assumed) (subst (λ (n : ℕ). AreBetween r.decisions.items r.assumed n s.entries) (sym held) h.between));
      settled = λ less. subst (λ (us : List Atom). NoneOpen us (at_end_of s (begun u))) (sym decisions) (subst (λ (n : ℕ). NoneOpen r.decisions.items (at_end_of s n)) (sym same) (h.settled (subst (λ (n : ℕ). n < s.level) same less)));
      passed = λ j d l m is_open. passed j d l (omega (arith, m, ap (λ (us : List Atom). length us) decisions)) (subst (λ (us : List Atom). IsUndecided s (get_or us j d)) decisions is_open);
    }

-- a clause ends the round exactly where the level says so
pub ends_by_level : (r : Progress) (s : Trail) (back : ℕ) → IsUnderWay r s → IsRoundEnd r back → EndsRound (round_of r) s back
ends_by_level r s back h (inl last) = inl last
ends_by_level r s back h (inr below) =
    let up = h.above (omega (arith, below)) in
    inr (record { level = r.held; last = record { here = h.each r.held up (omega arith); last = λ k d l of. (h.between k d l of).1 }; below = below })

pub level_by_ends : (r : Progress) (s : Trail) (back : ℕ) → IsUnderWay r s → EndsRound (round_of r) s back → IsRoundEnd r back
level_by_ends r s back h (inl last) = inl last
level_by_ends r s back h (inr refuted) =
    let here = refuted.last.here in
    let of : IsOfRound r.decisions.items (get_or s.entries here.0 here.1) = subst (λ (e : Entry). IsOfRound r.decisions.items e) (sym here.3) here.4.0 in
    let low = (h.between here.0 here.1 here.2 of).1 in
    inr (omega (arith, low, ap (λ (e : Entry). e.level) here.3, here.4.1, refuted.below))
