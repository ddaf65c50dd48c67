-- A change at the end of a trail, and a trail that is undone from its end.
use Rattle.std.proofs.Common.{◌≡◌, ℕ, ◌<◌, List, [], ◌∷◌, ◌++◌, length, get_or, set, true, refl, sym, ◌∙◌, ap, subst, arith, ℤ, length-set, length-append, get_or-set_same, inl, inr}
use Rattle.std.proofs.lemmas.List.{set-set, set-get_or, get_or_read, get_or_append_left}
use Rattle.std.proofs.lemmas.Bool.{cases_lt}
use Rattle.std.proofs.Math.Seq.{get_or-append_seam}
use Rattle.cps_domain.specs.Window.{Window, contains}
use Rattle.cps_domain.specs.Cuts.{CanUndo, LeadsBack, restored}
use Rattle.cps_unit.specs.Boxes.{with_atom, HasValues}
use Rattle.cps_rup.specs.declared.trailed.Change.{Change}
use Rattle.cps_rup.specs.Domains.{no_values, box_in}
use Rattle.cps_rup.specs.Trails.{undone, all_undone, CanUndoHere, CanUndoAll, IsTrailedIn}
use Rattle.cps_rup.proofs.Propagating.{values_next}

pub undone-push : (trail : List Change) (c : Change) (now : List Window) → all_undone (trail ++ c ∷ []) now ≡ all_undone trail (undone c now)
undone-push [] c now = refl
undone-push (d ∷ ds) c now = ap (λ (ws : List Window). undone d ws) (undone-push ds c now)

pub can_undo-push : (trail : List Change) (c : Change) (now : List Window) → CanUndoHere c now → CanUndoAll trail (undone c now) → CanUndoAll (trail ++ c ∷ []) now
can_undo-push [] c now h f = (h, tt)
can_undo-push (d ∷ ds) c now h f = (subst (λ (ws : List Window). CanUndoHere d ws) (sym (undone-push ds c now)) f.0, can_undo-push ds c now h f.1)

pub can_undo-last : (trail : List Change) (c : Change) (now : List Window) → CanUndoAll (trail ++ c ∷ []) now → CanUndoHere c now
can_undo-last [] c now f = f.0
can_undo-last (d ∷ ds) c now f = can_undo-last ds c now f.1

pub can_undo-rest : (trail : List Change) (c : Change) (now : List Window) → CanUndoAll (trail ++ c ∷ []) now → CanUndoAll trail (undone c now)
can_undo-rest [] c now f = tt
can_undo-rest (d ∷ ds) c now f = (subst (λ (ws : List Window). CanUndoHere d ws) (undone-push ds c now) f.0, can_undo-rest ds c now f.1)

pub length-undone : (trail : List Change) (now : List Window) → length (all_undone trail now) ≡ length now
length-undone [] now = refl
length-undone (c ∷ cs) now = length-set (all_undone cs now) c.atom.subject (restored c.undo (get_or (all_undone cs now) c.atom.subject no_values)) ∙ length-undone cs now

-- a change that is undone at once
undone_set : (ds : List Window) (c : Change) (new : Window) → c.atom.subject < length ds → restored c.undo new ≡ get_or ds c.atom.subject no_values → undone c (set ds c.atom.subject new) ≡ ds
undone_set ds c new l back =
    let here : get_or (set ds c.atom.subject new) c.atom.subject no_values ≡ new = get_or-set_same ds c.atom.subject new no_values l in
    ap (λ (w : Window). set (set ds c.atom.subject new) c.atom.subject (restored c.undo w)) here
    ∙ ap (λ (w : Window). set (set ds c.atom.subject new) c.atom.subject w) back
    ∙ set-set ds c.atom.subject new (get_or ds c.atom.subject no_values) ∙ set-get_or ds c.atom.subject no_values

pub force_undone : (ds : List Window) (trail trail' : List Change) (c : Change) (old new : Window) → trail' ≡ trail ++ c ∷ [] → c.atom.subject < length ds → old ≡ get_or ds c.atom.subject old → LeadsBack old new c.undo → all_undone trail' (set ds c.atom.subject new) ≡ all_undone trail ds
force_undone ds trail trail' c old new e l is back =
    ap (λ (cs : List Change). all_undone cs (set ds c.atom.subject new)) e ∙ undone-push trail c (set ds c.atom.subject new)
    ∙ ap (λ (ws : List Window). all_undone trail ws) (undone_set ds c new l (back.restores ∙ get_or_read ds c.atom.subject old l is no_values))

-- what is kept of domains and a trail where an open atom narrows one
pub force_trailed : (ds : List Window) (trail trail' : List Change) (c : Change) (old new : Window) (x : ℤ) → trail' ≡ trail ++ c ∷ [] → c.atom.subject < length ds → old ≡ get_or ds c.atom.subject old → LeadsBack old new c.undo → contains new x ≡ true → ((s : ℕ) (y : ℤ) → box_in (set ds c.atom.subject new) s y ≡ with_atom (box_in ds) c.atom s y) → IsTrailedIn trail ds → IsTrailedIn trail' (set ds c.atom.subject new)
force_trailed ds trail trail' c old new x e l is back some kept before =
    let here : get_or (set ds c.atom.subject new) c.atom.subject no_values ≡ new = get_or-set_same ds c.atom.subject new no_values l in
    let same : length (set ds c.atom.subject new) ≡ length ds = length-set ds c.atom.subject new in
    let back_to : undone c (set ds c.atom.subject new) ≡ ds = undone_set ds c new l (back.restores ∙ get_or_read ds c.atom.subject old l is no_values) in
    record {
      can_undo = subst (λ (cs : List Change). CanUndoAll cs (set ds c.atom.subject new)) (sym e) (
          can_undo-push trail c (set ds c.atom.subject new)
          (record { subject = subst (λ (n : ℕ). c.atom.subject < n) (sym same) l; can = subst (λ (w : Window). CanUndo c.undo w) (sym here) back.can })
          (subst (λ (ws : List Window). CanUndoAll trail ws) (sym back_to) before.can_undo));
      values = subst (λ (n : ℕ). HasValues n (box_in (set ds c.atom.subject new))) (sym same) (
          values_next (length ds) (box_in ds) (box_in (set ds c.atom.subject new)) c.atom kept (x, subst (λ (w : Window). contains w x ≡ true) (sym here) some) before.values);
      first_values = subst (λ (n : ℕ). HasValues n (box_in (all_undone trail' (set ds c.atom.subject new)))) (sym same) (
          subst (λ (ws : List Window). HasValues (length ds) (box_in ws)) (sym (force_undone ds trail trail' c old new e l is back)) before.first_values);
    }

-- domains as they are at the start and the end of a trail
pub restored_trailed : (trail trail' : List Change) (now now' : List Window) → trail' ≡ [] → now' ≡ all_undone trail now → IsTrailedIn trail now → IsTrailedIn trail' now'
restored_trailed trail trail' now now' e f before =
    let values : HasValues (length (all_undone trail now)) (box_in (all_undone trail now)) = subst (λ (n : ℕ). HasValues n (box_in (all_undone trail now))) (sym (length-undone trail now)) before.first_values in
    subst (λ (cs : List Change). IsTrailedIn cs now') (sym e) (subst (λ (ws : List Window). IsTrailedIn [] ws) (sym f) (record { can_undo = tt; values = values; first_values = values }))

pub kept_trailed : (trail trail' : List Change) (now : List Window) → trail' ≡ [] → IsTrailedIn trail now → IsTrailedIn trail' now
kept_trailed trail trail' now e before =
    subst (λ (cs : List Change). IsTrailedIn cs now) (sym e) (record { can_undo = tt; values = before.values; first_values = before.values })

-- a subject more
value_at_end : (ds : List Window) (d : Window) (x : ℤ) → contains d x ≡ true → (s : ℕ) → s ≡ length ds → (x : ℤ) × (box_in (ds ++ d ∷ []) s x ≡ true)
value_at_end ds d x some s e = (x, ap (λ (r : ℕ). box_in (ds ++ d ∷ []) r x) e ∙ ap (λ (w : Window). contains w x) (get_or-append_seam ds d [] no_values) ∙ some)

value_before : (ds : List Window) (d : Window) (s : ℕ) → s < length ds → (x : ℤ) × (box_in ds s x ≡ true) → (x : ℤ) × (box_in (ds ++ d ∷ []) s x ≡ true)
value_before ds d s l v = (v.0, ap (λ (w : Window). contains w v.0) (get_or_append_left ds (d ∷ []) no_values s l) ∙ v.1)

values_push : (ds : List Window) (d : Window) (x : ℤ) → contains d x ≡ true → HasValues (length ds) (box_in ds) → HasValues (length (ds ++ d ∷ [])) (box_in (ds ++ d ∷ []))
values_push ds d x some before = record {
  some = λ s l. elim (cases_lt s (length ds)) [
    | inl below ↦ value_before ds d s below (before.some s below)
    | inr from ↦ value_at_end ds d x some s (let m = length-append ds (d ∷ []) in omega arith)
  ];
}

pub pushed_trailed : (ds : List Window) (d : Window) (x : ℤ) (trail trail' : List Change) (now : List Window) → trail' ≡ [] → now ≡ ds ++ d ∷ [] → contains d x ≡ true → IsTrailedIn trail ds → IsTrailedIn trail' now
pushed_trailed ds d x trail trail' now e f some before =
    let values = values_push ds d x some before.values in
    subst (λ (cs : List Change). IsTrailedIn cs now) (sym e) (subst (λ (ws : List Window). IsTrailedIn [] ws) (sym f) (record { can_undo = tt; values = values; first_values = values }))
