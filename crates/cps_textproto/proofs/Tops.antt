-- The innermost open message is the last of those that the code keeps.
use Rattle.std.proofs.Common.{◌≡◌, suc, ◌-◌, List, [], ◌∷◌, length, Option, Some, None, refl, sym, ◌∙◌, ap, arith}
use Rattle.std.specs.List.{slice_get}
use Rattle.cps_textproto.specs.declared.machine.OpenMessage.{OpenMessage}
use Rattle.cps_textproto.specs.declared.builder.Opened.{Opened}
use Rattle.cps_textproto.specs.Machine.{top_of}
use Rattle.cps_textproto.specs.Building.{Outer, outer_of, outer_onto, forms}

abbrev seen : Option Opened → Option OpenMessage
seen None = None
seen (Some o) = Some o.form

top_at : (o : Opened) (os : List Opened) (outer : List Outer) → top_of (forms (outer_onto (o ∷ os) outer)) ≡ seen (slice_get (o ∷ os) (length os))
top_at o [] outer = refl
top_at o (p ∷ ps) outer =
    let one : length (p ∷ ps) ≡ suc (length ps) = omega arith in
    top_at p ps (outer_of o ∷ outer) ∙ ap (λ n. seen (slice_get (o ∷ p ∷ ps) n)) (sym one)

top_seen : (os : List Opened) → top_of (forms (outer_onto os [])) ≡ seen (slice_get os (length os - 1))
top_seen [] = refl
top_seen (o ∷ os) =
    let one : length (o ∷ os) - 1 ≡ length os = omega arith in
    top_at o os [] ∙ ap (λ n. seen (slice_get (o ∷ os) n)) (sym one)

pub last_is_top : (os : List Opened) (o : Opened) → slice_get os (length os - 1) ≡ Some o → top_of (forms (outer_onto os [])) ≡ Some o.form
last_is_top os o is = top_seen os ∙ ap seen is

pub no_last_no_top : (os : List Opened) → slice_get os (length os - 1) ≡ None → top_of (forms (outer_onto os [])) ≡ None
no_last_no_top os is = top_seen os ∙ ap seen is
