-- What the fields of `TrailedDomains` mean: a trail has the changes, newest last.
use Rattle.std.specs.Prelude.{◌<◌, List, [], ◌∷◌, length, slice_index_or, slice_set}
use Rattle.cps_domain.specs.Window.{Window}
use Rattle.cps_domain.specs.Cuts.{CanUndo, restored}
use Rattle.cps_rup.specs.declared.trailed.Change.{Change}
use Rattle.cps_rup.specs.declared.trailed.TrailedDomains.TheInside.{Inside}
use Rattle.cps_unit.specs.Boxes.{HasValues}
use Rattle.cps_rup.specs.Domains.{no_values, box_in}
use Rattle.cps_rup.specs.Trailed.{Trailed}

-- the domains before a change
abbrev pub undone : Change → List Window → List Window
undone c now = slice_set now c.atom.subject (restored c.undo (slice_index_or now c.atom.subject no_values))

-- the domains before all changes
abbrev pub all_undone : List Change → List Window → List Window
all_undone [] now = now
all_undone (c ∷ cs) now = undone c (all_undone cs now)

-- the change led to these domains
pub record CanUndoHere (c : Change) (now : List Window) : Type 0 where
  pub subject : c.atom.subject < length now
  pub can : CanUndo c.undo (slice_index_or now c.atom.subject no_values)

-- the changes led to these domains
abbrev pub CanUndoAll : List Change → List Window → Type 0
CanUndoAll [] now = Unit {0}
CanUndoAll (c ∷ cs) now = CanUndoHere c (all_undone cs now) × CanUndoAll cs now

abbrev pub trailed_of : Inside → Trailed
trailed_of i = record { first = all_undone i.trail.items i.domains.items; now = i.domains.items }

-- the changes can be undone, and each subject has a value now and had one before
pub record IsTrailedIn (trail : List Change) (now : List Window) : Type 0 where
  pub can_undo : CanUndoAll trail now
  pub values : HasValues (length now) (box_in now)
  pub first_values : HasValues (length now) (box_in (all_undone trail now))

abbrev pub IsTrailed : Inside → Type 0
IsTrailed i = IsTrailedIn i.trail.items i.domains.items
