-- What a symbol does to the open messages is the same for the machine and for the tree.
use Rattle.std.specs.Prelude.{if◌then◌else◌}
use Rattle.std.proofs.Common.{◌≡◌, ℕ, zero, suc, ◌+◌, Bool, true, false, List, [], ◌∷◌, length, Option, Some, None, refl, sym, ◌∙◌, ap, subst, arith}
use Rattle.cps_textproto.specs.declared.symbol.Symbol.{Symbol}
use Rattle.cps_textproto.specs.declared.symbol.Symbol.TheVariants.{Name, Text, Close, OpenList, CloseList, Comma}
use Rattle.cps_textproto.specs.declared.machine.Mode.{Mode}
use Rattle.cps_textproto.specs.declared.machine.Mode.TheVariants.{Between, After, Texted, Named, Valued, Signed, ListFirst, ListNext, ListSigned, ListItem, ListTexted, MessagesFirst, MessagesNext, MessagesItem}
use Rattle.cps_textproto.specs.declared.machine.OpenMessage.{OpenMessage}
use Rattle.cps_textproto.specs.declared.machine.Move.{Move}
use Rattle.cps_textproto.specs.declared.machine.Move.TheVariants.{Go, Enter, Leave, Further, Stop}
use Rattle.cps_textproto.specs.declared.machine.Place.{Place}
use Rattle.cps_textproto.specs.Machine.{State, same, mode_behind, move_of, moved, next_place, top_of, without_top, stack_behind, state_of, on_stack, step}
use Rattle.cps_textproto.specs.Building.{Outer, Build, action_of, act, closed, forms, stack_of}

closed_stack : (os : List Outer) (b : Build) → b.outer ≡ os → forms (closed os b).outer ≡ without_top (forms os)
closed_stack [] b is = ap forms is
closed_stack (o ∷ os) b is = refl

-- the open messages behind a symbol
pub act_stack : (m : Mode) (x : Symbol) (k : ℕ) (b : Build) → stack_of (act (action_of m x) k b) ≡ stack_behind (move_of m x) (stack_of b)
act_stack Between Name k b = refl
act_stack Between (Close a) k b = closed_stack b.outer b refl
act_stack Between _ k b = refl
act_stack After Name k b = refl
act_stack After (Close a) k b = closed_stack b.outer b refl
act_stack After _ k b = refl
act_stack Texted Text k b = refl
act_stack Texted (Close a) k b = closed_stack b.outer b refl
act_stack Texted _ k b = refl
act_stack Named OpenList k b = refl
act_stack Named _ k b = refl
act_stack Valued Name k b = refl
act_stack Valued _ k b = refl
act_stack Signed Name k b = refl
act_stack Signed _ k b = refl
act_stack ListFirst Name k b = refl
act_stack ListFirst _ k b = refl
act_stack ListNext Name k b = refl
act_stack ListNext _ k b = refl
act_stack ListSigned Name k b = refl
act_stack ListSigned _ k b = refl
act_stack ListItem Comma k b = refl
act_stack ListItem _ k b = refl
act_stack ListTexted Comma k b = refl
act_stack ListTexted _ k b = refl
act_stack MessagesFirst CloseList k b = refl
act_stack MessagesFirst _ k b = refl
act_stack MessagesNext CloseList k b = refl
act_stack MessagesNext _ k b = refl
act_stack MessagesItem CloseList k b = refl
act_stack MessagesItem _ k b = refl

-- so the place and the tree under construction give the machine's next state
pub turn : (place next : Place) (old new : Build) (k : ℕ) (x : Symbol) → next_place place (top_of (stack_of old)) x ≡ Some next → new ≡ act (action_of place.mode x) k old → step (state_of place (stack_of old)) x ≡ Some (state_of next (stack_of new))
turn place next old new k x on is =
    ap (on_stack (stack_behind (move_of place.mode x) (stack_of old))) on
    ∙ ap (λ stack. Some (state_of next stack)) (sym (ap stack_of is ∙ act_stack place.mode x k old))

pub no_turn : (place : Place) (stack : List OpenMessage) (x : Symbol) → next_place place (top_of stack) x ≡ None → step (state_of place stack) x ≡ None
no_turn place stack x off = ap (on_stack (stack_behind (move_of place.mode x) stack)) off

-- what may still be opened, with what is open, stays the same

abbrev HasInAll : ℕ → Option State → Type 0
HasInAll n None = Unit {0}
HasInAll n (Some state) = state.room + length state.stack ≡ n

left_in_all : (b : Bool) (m : Mode) (f : OpenMessage) (stack : List OpenMessage) (room : ℕ) → HasInAll (room + length (f ∷ stack)) (on_stack stack (if b then Some (record { mode = m; room = suc room }) else None))
left_in_all true m f stack room = omega arith
left_in_all false m f stack room = tt

move_in_all : (move : Move) (stack : List OpenMessage) (room : ℕ) → HasInAll (room + length stack) (on_stack (stack_behind move stack) (moved (top_of stack) room move))
move_in_all (Go m) stack room = refl
move_in_all (Enter f) stack zero = tt
move_in_all (Enter f) stack (suc room) = omega arith
move_in_all (Leave b) [] room = tt
move_in_all (Leave b) (f ∷ stack) room = left_in_all (same b f.bracket) (mode_behind f.listed) f stack room
move_in_all Further stack zero = tt
move_in_all Further stack (suc room) = refl
move_in_all Stop stack room = tt

pub turn_in_all : (state next : State) (x : Symbol) → step state x ≡ Some next → next.room + length next.stack ≡ state.room + length state.stack
turn_in_all state next x on = subst (HasInAll (state.room + length state.stack)) on (move_in_all (move_of state.mode x) state.stack state.room)
