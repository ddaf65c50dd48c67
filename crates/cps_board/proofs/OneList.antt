-- What seats take is one list of entries.
use Rattle.std.proofs.Common.{◌≡◌, ℕ, suc, ◌≤◌, List, [], ◌∷◌, length, take, refl, sym, ap, ◌∙◌, subst, arith}
use mathlib.Core.Option.{some}
use lib.ListN.{get_elem?}
use Rattle.atomic_table.specs.Table.{State}
use Rattle.cps_model.specs.declared.model.CpModel.{CpModel}
use Rattle.cps_port.specs.declared.entry.Entry.{Entry}
use Rattle.cps_port.specs.Entries.{IsSoundEntry}
use Rattle.cps_board.specs.declared.view.View.{View}
use Rattle.cps_board.specs.Rows.{IsOpen, KeptRows}
use Rattle.cps_board.specs.OneList.{TakesOneList, TakesSoundEntries}
use Rattle.cps_board.proofs.Keeps.{one_entry}

-- lists that agree where both have an element: the shorter is the beginning of the longer one
beginning : (xs ys : List Entry) → ((row : ℕ) (x y : Entry) → get_elem? xs row ≡ some x → get_elem? ys row ≡ some y → x ≡ y) → length xs ≤ length ys → take (length xs) ys ≡ xs
beginning [] ys agree l = refl
beginning (x ∷ xs) [] agree l = absurd (omega arith)
beginning (x ∷ xs) (y ∷ ys) agree l =
    ap (λ (z : Entry). z ∷ take (length xs) ys) (sym (agree 0 x y refl refl))
    ∙ ap (λ (zs : List Entry). x ∷ zs) (beginning xs ys (λ row a b g h. agree (suc row) a b g h) (omega arith))

-- what a seat took stands in an open row
taken_open : (m : CpModel) (s : State (Unit {0}) View) (i row : ℕ) (v : View) (e : Entry) → KeptRows m s → get_elem? s.views i ≡ some v → get_elem? v.part.taken row ≡ some e → IsOpen (length s.homes) s.words row e
taken_open m s i row v e k at g = let f = k.each i v at in f.taken row e g

pub takes_one_list : TakesOneList
takes_one_list m s i j v w k at_v at_w l =
    beginning v.part.taken w.part.taken (λ row a b g h. one_entry (length s.homes) s.words row a b (taken_open m s i row v a k at_v g) (taken_open m s j row w b k at_w h)) l

pub takes_sound_entries : TakesSoundEntries
takes_sound_entries m s i row v e k at g =
    let o = taken_open m s i row v e k at g in
    let sound = k.sound row o.within o.flag_set in
    (o.named, subst (IsSoundEntry m) (one_entry (length s.homes) s.words row sound.0 e sound.1 o) sound.2)
