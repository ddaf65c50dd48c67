-- Each step keeps the rule of the board.
use Rattle.std.proofs.Common.{◌≡◌, ◌≢◌, ℕ, ◌+◌, ◌-◌, ◌*◌, ◌/◌, ◌%◌, ◌^◌, ◌<◌, ◌≤◌, ◌==◌, min, nat_lt, Bool, true, false, if◌then◌else◌, Some, None, List, [], ◌∷◌, ◌++◌, map, replicate, length, get_or, set, sym, refl, ap, ◌∙◌, subst, ⊎_elim, arith, length-set, get_or-set_other, get_or-set_same}
use Rattle.std.specs.Prelude.{Contains}
use Rattle.std.proofs.lemmas.List.{length-map, length-replicate}
use mathlib.Core.Logic.{dite}
use mathlib.Core.Option.{some, none, some-ne-none}
use native.Mathlib.Decide.{dec_le, ℕ_discrete}
use lib.ListN.{get_elem?}
use lib.Seq.{set-get_or}
use Rattle.atomic_table.specs.Table.{State, Me, step, keeps, stepped, Allows, Splits, Joins, opening}
use Rattle.atomic_table.proofs.Lists.{at_set, at_snoc, at_index, set_else}
use Rattle.cps_model.specs.declared.bound.Bound.{Bound}
use Rattle.cps_model.specs.declared.model.CpModel.{CpModel}
use Rattle.cps_literal.specs.declared.atom.Atom.{Atom}
use Rattle.cps_port.specs.declared.entry.Entry.{Entry}
use Rattle.cps_port.specs.Entries.{entry_of, entry_clause, IsSoundEntry}
use Rattle.cps_port.specs.Parts.{with_row, with_past, with_mine, with_taken, with_misses}
use Rattle.cps_port.specs.Totals.{total, one_if, one_if_some}
use Rattle.cps_port.proofs.Lists.{one_if-same, times-append}
use Rattle.cps_port.proofs.Places.{total_set, total_snoc, total_at, total_two}
use Rattle.cps_board.specs.declared.view.View.{View}
use Rattle.cps_board.specs.Coding.{entry_words, entry_from, IsCoded, IsCodedEntry}
use Rattle.cps_board.specs.Rows.{all_splits, row_words, data_words, flag, datum, HasData, IsOpen, IsFilling, owns, past, FitsRowWords, HasSound, KeptRows, first_view, spent, kept_half, given_half, joined, with_part, drawing, filling, OfBoardModel, row_drawn, word_put, row_opened, row_looked_at, word_read}
use Rattle.cps_board.proofs.Basics.{at_below, at_end, at_append, at_longer_of, total_le, alone, one_below, one_not_below, one_more, at_most_one, below_of_one, beyond, zeros, early, last, long_snoc, same_list, Away, away_flag, away_word, away_claim}
use Rattle.cps_board.proofs.Coded.{entry_back, coded_entry, words_of_entry, length-entry_words, same_entry}

abbrev splits_of : View → ℕ
splits_of v = v.splits

abbrev draws_of : View → ℕ
draws_of v = v.draws

abbrev row_of : Entry → ℕ
row_of e = e.row

past_of : (v : View) → past v ≤ v.splits
past_of v = elim v.part.full as (λ (b : Bool). (if b then v.splits else 0) ≤ v.splits) [ true ↦ omega arith | false ↦ omega arith ]

past_open : (v : View) → v.part.full ≡ false → past v ≡ 0
past_open v e = ap (λ (b : Bool). if b then v.splits else 0) e

past_halves : (b : Bool) (s : ℕ) → (if b then s - s / 2 else 0) + (if b then s / 2 else 0) ≡ (if b then s else 0)
past_halves true s = omega arith
past_halves false s = omega arith

past_both : (a b : Bool) (s t u : ℕ) → u ≡ s + t → (if a then s else 0) + (if b then t else 0) ≤ (if (if a then true else b) then u else 0)
past_both true true s t u e = omega arith
past_both true false s t u e = omega arith
past_both false true s t u e = omega arith
past_both false false s t u e = omega arith

drawn_none : (row : ℕ) (v : View) → v.part.drawn ≡ None → one_if_some row v.part.drawn ≡ 0
drawn_none row v e = ap (one_if_some row) e

drawn_some : (row q : ℕ) (v : View) → v.part.drawn ≡ Some q → one_if_some row v.part.drawn ≡ one_if (q == row)
drawn_some row q v e = ap (one_if_some row) e

same_row : (a b : ℕ) → Some a ≡ Some b → a ≡ b
same_row a b e = cc

not_none : (a : ℕ) → ¬ (None ≡ Some a)
not_none a e = cc

-- what an open row has stays where another row changes
pub data_kept : (ws ws' : List ℕ) (r0 row : ℕ) (d : List ℕ) → Away r0 ws ws' → row ≢ r0 → HasData ws row d → HasData ws' row d
data_kept ws ws' r0 row d a n h = let f = h.fits in record { fits = f; each = λ k l. a.words row k n (omega arith) ∙ h.each k l }

pub open_kept : (n : ℕ) (ws ws' : List ℕ) (r0 row : ℕ) (e : Entry) → Away r0 ws ws' → flag ws r0 ≡ 0 → IsOpen n ws row e → IsOpen n ws' row e
open_kept n ws ws' r0 row e a closed o = let other : row ≢ r0 = λ q. o.flag_set (ap (flag ws) q ∙ closed) in record {
  within = o.within;
  flag_set = λ z. o.flag_set (sym (a.flags row other) ∙ z);
  named = o.named;
  coded = o.coded;
  words = data_kept ws ws' r0 row (entry_words e.below (entry_clause e)) a other o.words;
}

-- a row has one list of words of one length
one_list : (ws : List ℕ) (row : ℕ) (d e : List ℕ) → length d ≡ length e → HasData ws row d → HasData ws row e → d ≡ e
one_list ws row d e l a b = same_list d e l (λ k h. sym (a.each k h) ∙ b.each k (omega arith))

-- and so it has one entry
pub one_entry : (n : ℕ) (ws : List ℕ) (row : ℕ) (d e : Entry) → IsOpen n ws row d → IsOpen n ws row e → d ≡ e
one_entry n ws row d e a b =
    let ld = length-entry_words d.below (entry_clause d) in
    let le = length-entry_words e.below (entry_clause e) in
    let same : length (entry_clause d) ≡ length (entry_clause e) = sym (a.words.each 0 (omega arith)) ∙ b.words.each 0 (omega arith) in
    same_entry d e row a.named b.named a.coded b.coded (one_list ws row (entry_words d.below (entry_clause d)) (entry_words e.below (entry_clause e)) (omega arith) a.words b.words)

module _ (m : CpModel) (n : ℕ) where
  fits_kept : (ws ws' : List ℕ) (r0 : ℕ) (v : View) → Away r0 ws ws' → flag ws r0 ≡ 0 → ¬ (v.part.drawn ≡ Some r0) → FitsRowWords m n ws v → FitsRowWords m n ws' v
  fits_kept ws ws' r0 v a closed apart f = record {
    model = f.model;
    idle = f.idle;
    drawn = λ row e. let o = f.drawn row e in let other : row ≢ r0 = λ q. apart (e ∙ ap Some q) in record { within = o.within; closed = a.flags row other ∙ o.closed; words = data_kept ws ws' r0 row v.written a other o.words };
    mine = λ i e g. open_kept n ws ws' r0 e.row e a closed (f.mine i e g);
    taken = λ row e g. open_kept n ws ws' r0 row e a closed (f.taken row e g);
  }

  all_fit : (vs : List View) (id : ℕ) (w : View) (ws ws' : List ℕ) → FitsRowWords m n ws' w → ((i : ℕ) (v : View) → i ≢ id → get_elem? vs i ≡ some v → FitsRowWords m n ws' v) → (i : ℕ) (v : View) → get_elem? (set vs id w) i ≡ some v → FitsRowWords m n ws' v
  all_fit vs id w ws ws' mine others i v e = ⊎_elim (λ (t : (i ≡ id) × (w ≡ v)). subst (λ (z : View). FitsRowWords m n ws' z) t.1 mine) (λ (t : (i ≢ id) × (get_elem? vs i ≡ some v)). others i v t.0 t.1) (at_set vs id i w v e)

of_model : (m : CpModel) (v : View) → v.model ≡ Some m → (P : CpModel → Type 0) → P m → OfBoardModel v P
of_model m v e P h q d = let same : m ≡ q = cc in subst P same h

-- an entry of a view's own is in its row
own_open : (m : CpModel) (n : ℕ) (ws : List ℕ) (v : View) (row : ℕ) (x : Entry) → FitsRowWords m n ws v → Contains v.part.mine x → x.row ≡ row → IsOpen n ws row x
own_open m n ws v row x f c e = subst (λ (r : ℕ). IsOpen n ws r x) e (f.mine c.0 x (at_index v.part.mine c.0 x c.1 (sym c.2)))

sound_kept : (m : CpModel) (n : ℕ) (ws ws' : List ℕ) (r0 row : ℕ) → Away r0 ws ws' → flag ws r0 ≡ 0 → row ≢ r0 → HasSound m n ws row → HasSound m n ws' row
sound_kept m n ws ws' r0 row a closed other o = (o.0, open_kept n ws ws' r0 row o.0 a closed o.1, o.2)

module _ {S : Type 0} (m : CpModel) where
  abbrev Rule : State S View → Type 0
  Rule = KeptRows m

  abbrev rows_of : State S View → ℕ
  rows_of s = length s.homes

  abbrev claim_of : State S View → ℕ
  claim_of s = get_or s.words 0 0

  -- no other view has the row that this one drew
  drawn_apart : (s : State S View) (k : Rule s) (id i row : ℕ) (v u : View) → get_elem? s.views id ≡ some v → get_elem? s.views i ≡ some u → i ≢ id → row < rows_of s → v.part.drawn ≡ Some row → ¬ (u.part.drawn ≡ Some row)
  drawn_apart s k id i row v u at e other inside mine his = let t = total_two (owns row) s.views id i v u at e other in let o = k.owned row inside in let h = at_most_one (nat_lt row (claim_of s)) in
      let a = drawn_some row row v mine in let b = drawn_some row row u his in let c = one_if-same row in absurd (omega arith)

  others_fit : (s : State S View) (k : Rule s) (ws' : List ℕ) (id row : ℕ) (v : View) → Away row s.words ws' → get_elem? s.views id ≡ some v → v.part.drawn ≡ Some row → (i : ℕ) (u : View) → i ≢ id → get_elem? s.views i ≡ some u → FitsRowWords m (rows_of s) ws' u
  others_fit s k ws' id row v a at mine i u other e = let f = (k.each id v at).drawn row mine in fits_kept m (rows_of s) s.words ws' row u a f.closed (drawn_apart s k id i row v u at e other f.within mine) (k.each i u e)

  -- a step that changes no word, and nothing of the view that counts rows
  unmoved : (s : State S View) (k : Rule s) (i id : ℕ) (cs : List (ℕ × S)) (v w : View) → get_elem? s.views id ≡ some v → w.splits ≡ v.splits → w.draws ≡ v.draws → w.part.drawn ≡ v.part.drawn → w.part.mine ≡ v.part.mine → w.part.full ≡ v.part.full → FitsRowWords m (rows_of s) s.words w
      → Rule (stepped s i (get_or s.words i 0) id cs w keeps)
  unmoved s k i id cs v w at splits draws_ drawn mine full fits = subst (λ (ws : List ℕ). Rule record { words = ws; homes = s.homes; views = set s.views id w }) (sym (set-get_or s.words i 0)) record {
    wide = k.wide;
    splits = let t = total_set splits_of s.views id v w at in let e = k.splits in omega arith;
    draws = let t = total_set past s.views id v w at in let q : past w ≡ past v = cc in let e = k.draws in omega arith;
    counted = let t = total_set draws_of s.views id v w at in let e = k.counted in omega arith;
    owned = λ row h. let t = total_set (owns row) s.views id v w at in let q : owns row w ≡ owns row v = cc in let e = k.owned row h in omega arith;
    sound = k.sound;
    claimed = k.claimed;
    each = all_fit m (rows_of s) s.views id w s.words s.words fits (λ i u _ e. k.each i u e);
  }

  module _ (slots id : ℕ) (me : Me S View) (part : 0 < me.0.splits) where
    pub draws : slots ≤ 4096 → me.0.part.drawn ≡ None → me.0.part.full ≡ false → Allows Rule slots id me 0 (λ n. (n + 1) % 2 ^ 64) (row_drawn (step slots 0 1 0 none) me)
    draws few none_drawn not_full s k len at small = let v : View = me.0 in let c : ℕ = claim_of s in let n : ℕ = rows_of s in let f = k.each id v at in
        let room : total past s.views ≤ total splits_of s.views = total_le past splits_of s.views past_of in let d = k.draws in let sp = k.splits in
        let up : (c + 1) % 2 ^ 64 ≡ c + 1 = omega arith in
        let ws' : List ℕ = set s.words 0 ((c + 1) % 2 ^ 64) in let wide = k.wide in
        let now : get_or ws' 0 0 ≡ c + 1 = get_or-set_same s.words 0 ((c + 1) % 2 ^ 64) 0 (omega arith) ∙ up in
        let a : Away n s.words ws' = away_claim s.words n ((c + 1) % 2 ^ 64) in
        let past_end : flag s.words n ≡ 0 = beyond s.words (row_words * n + 1) (omega arith) in
        let others : (i : ℕ) (u : View) → i ≢ id → get_elem? s.views i ≡ some u → FitsRowWords m n ws' u = λ i u _ e. let g = k.each i u e in fits_kept m n s.words ws' n u a past_end (λ q. let h = (g.drawn n q).within in absurd (omega arith)) g in
        let open_ : (row : ℕ) → row < n → flag ws' row ≢ 0 → flag s.words row ≢ 0 = λ row l g. let q = a.flags row (λ e. absurd (omega arith)) in λ z. g (q ∙ z) in
        let sound : (row : ℕ) → row < n → flag ws' row ≢ 0 → HasSound m n ws' row = λ row l g. sound_kept m n s.words ws' n row a past_end (λ e. absurd (omega arith)) (k.sound row l (open_ row l g)) in
        let claimed : (row : ℕ) → row < n → flag ws' row ≢ 0 → row < get_or ws' 0 0 = λ row l g. let h = k.claimed row l (open_ row l g) in omega arith in
        let mine = λ (i : ℕ) (e : Entry) (g : get_elem? v.part.mine i ≡ some e). open_kept n s.words ws' n e.row e a past_end (f.mine i e g) in
        let taken = λ (row : ℕ) (e : Entry) (g : get_elem? v.part.taken row ≡ some e). open_kept n s.words ws' n row e a past_end (f.taken row e g) in
        dite (dec_le n c)
        (λ full. let w : View = drawing v (with_past v.part) in (
          w,
          keeps,
          tt,
          record {
            wide = length-set s.words 0 ((c + 1) % 2 ^ 64) ∙ wide;
            counted = let t = total_set draws_of s.views id v w at in let e = k.counted in now ∙ (let q : c + 1 ≡ total draws_of (set s.views id w) = omega arith in q);
            splits = let t = total_set splits_of s.views id v w at in omega arith;
            draws = let t = total_set past s.views id v w at in let z = past_open v not_full in omega arith;
            owned = λ row l. let t = total_set (owns row) s.views id v w at in let e = k.owned row l in let x = one_below row c (omega arith) in let y = one_below row (c + 1) (omega arith) in
                let j : total (owns row) (set s.views id w) ≡ one_if (nat_lt row (c + 1)) = omega arith in j ∙ ap (λ (z : ℕ). one_if (nat_lt row z)) (sym now);
            sound = sound;
            claimed = claimed;
            each = all_fit m n s.views id w s.words ws' (record { model = f.model; idle = λ z. absurd (omega arith); drawn = λ row e. absurd (not_none row (sym none_drawn ∙ e)); mine = mine; taken = taken }) others;
          },
          ((λ h. absurd (omega arith)), (λ _. refl)),
        ))
        (λ less. let w : View = drawing v (with_row v.part c) in
        let closed : flag s.words c ≡ 0 = dite (ℕ_discrete (flag s.words c) 0) (λ z. z) (λ z. let h = k.claimed c (omega arith) z in absurd (omega arith)) in (
          w,
          keeps,
          tt,
          record {
            wide = length-set s.words 0 ((c + 1) % 2 ^ 64) ∙ wide;
            counted = let t = total_set draws_of s.views id v w at in let e = k.counted in now ∙ (let q : c + 1 ≡ total draws_of (set s.views id w) = omega arith in q);
            splits = let t = total_set splits_of s.views id v w at in omega arith;
            draws = omega arith;
            owned = λ row l. let t = total_set (owns row) s.views id v w at in let e = k.owned row l in let x = drawn_none row v none_drawn in let y = one_more row c in
                let j : total (owns row) (set s.views id w) ≡ one_if (nat_lt row (c + 1)) = omega arith in j ∙ ap (λ (z : ℕ). one_if (nat_lt row z)) (sym now);
            sound = sound;
            claimed = claimed;
            each = all_fit m n s.views id w s.words ws' (record {
              model = f.model;
              idle = λ z. absurd (omega arith);
              drawn = λ row e. let q : c ≡ row = same_row c row e in record {
                within = omega arith;
                closed = sym (ap (flag ws') q) ∙ (a.flags c (λ z. absurd (omega arith)) ∙ closed);
                words = record { fits = omega arith; each = λ j h. absurd (omega arith) };
              };
              mine = mine;
              taken = taken;
            }) others;
          },
          ((λ _. refl), (λ h. absurd (omega arith))),
        ))

    puts_here : (row j x : ℕ) → me.0.part.drawn ≡ Some row → length me.0.written ≡ j → j < data_words → Allows Rule slots id me (row_words * row + (j + 2)) (λ _. x) (λ _. word_put (step slots (row_words * row + (j + 2)) x 0 none) me x)
    puts_here row j x drawn so_far less s k len at small = let v : View = me.0 in let n : ℕ = rows_of s in let f = k.each id v at in let o = f.drawn row drawn in
        let i : ℕ = row_words * row + (j + 2) in let ws' : List ℕ = set s.words i x in let wide = k.wide in let inside = o.within in
        let a : Away row s.words ws' = away_word s.words row j x less in let w : View = filling v (v.written ++ x ∷ []) in
        let zero_ : get_or ws' 0 0 ≡ claim_of s = get_or-set_other s.words i 0 x 0 (λ e. omega arith) in
        let flag_ : flag ws' row ≡ 0 = get_or-set_other s.words i (row_words * row + 1) x 0 (λ e. omega arith) ∙ o.closed in
        let there : datum ws' row j ≡ x = get_or-set_same s.words i x 0 (omega arith) in
        let still : (q : ℕ) → flag ws' q ≢ 0 → q ≢ row = λ q g e. g (ap (flag ws') e ∙ flag_) in (
          w,
          keeps,
          tt,
          record {
            wide = length-set s.words i x ∙ wide;
            counted = let t = total_set draws_of s.views id v w at in let e = k.counted in zero_ ∙ (let q : claim_of s ≡ total draws_of (set s.views id w) = omega arith in q);
            splits = let t = total_set splits_of s.views id v w at in let e = k.splits in omega arith;
            draws = let t = total_set past s.views id v w at in let e = k.draws in omega arith;
            owned = λ q l. let t = total_set (owns q) s.views id v w at in let e = k.owned q l in let z : total (owns q) (set s.views id w) ≡ one_if (nat_lt q (claim_of s)) = omega arith in z ∙ ap (λ (y : ℕ). one_if (nat_lt q y)) (sym zero_);
            sound = λ q l g. sound_kept m n s.words ws' row q a o.closed (still q g) (k.sound q l (λ z. g (a.flags q (still q g) ∙ z)));
            claimed = λ q l g. let h = k.claimed q l (λ z. g (a.flags q (still q g) ∙ z)) in omega arith;
            each = all_fit m n s.views id w s.words ws' (record {
              model = f.model;
              idle = f.idle;
              drawn = λ q e. let same : row ≡ q = same_row row q (sym drawn ∙ e) in subst (λ (z : ℕ). IsFilling n ws' z w.written) same (record {
                within = inside;
                closed = flag_;
                words = record {
                  fits = let h = long_snoc v.written x in omega arith;
                  each = λ p l. let h = long_snoc v.written x in dite (ℕ_discrete p j)
                      (λ e. let y : datum ws' row p ≡ x = ap (datum ws' row) e ∙ there in y ∙ sym (ap (λ (z : ℕ). get_or w.written z 0) e ∙ (ap (λ (z : ℕ). get_or w.written z 0) (sym so_far) ∙ last v.written x)))
                      (λ ne. get_or-set_other s.words i (row_words * row + (p + 2)) x 0 (λ e. ne (omega arith)) ∙ (o.words.each p (omega arith) ∙ sym (early v.written x p (omega arith))));
                };
              });
              mine = λ p e g. open_kept n s.words ws' row e.row e a o.closed (f.mine p e g);
              taken = λ q e g. open_kept n s.words ws' row q e a o.closed (f.taken q e g);
            }) (others_fit s k ws' id row v a at drawn);
          },
          refl,
        )

    -- stores the next word of the row that was drawn
    pub puts : (row j x place : ℕ) → place ≡ row_words * row + (j + 2) → me.0.part.drawn ≡ Some row → length me.0.written ≡ j → j < data_words → Allows Rule slots id me place (λ _. x) (λ _. word_put (step slots place x 0 none) me x)
    puts row j x place e drawn so_far less = subst (λ (z : ℕ). Allows Rule slots id me z (λ _. x) (λ _. word_put (step slots z x 0 none) me x)) (sym e) (puts_here row j x drawn so_far less)

    pub publishes : (row : ℕ) (below : Bound) (c : List Atom) → me.0.part.drawn ≡ Some row → me.0.written ≡ entry_words below c → IsCoded below c → IsSoundEntry m (entry_of row below c)
        → Allows Rule slots id me (row_words * row + 1) (λ _. 1) (λ _. row_opened (step slots (row_words * row + 1) 1 0 none) me 1)
    publishes row below c drawn whole coded good s k len at small = let v : View = me.0 in let n : ℕ = rows_of s in let f = k.each id v at in let o = f.drawn row drawn in
        let i : ℕ = row_words * row + 1 in let ws' : List ℕ = set s.words i 1 in let wide = k.wide in let inside = o.within in
        let e : Entry = entry_from row v.written in
        let is : e ≡ entry_of row below c = entry_back row below c v.written whole coded in
        let words : v.written ≡ entry_words e.below (entry_clause e) = whole ∙ (sym (words_of_entry row below c) ∙ ap (λ (x : Entry). entry_words x.below (entry_clause x)) (sym is)) in
        let a : Away row s.words ws' = away_flag s.words row 1 in let w : View = with_part v (with_mine v.part e) in
        let zero_ : get_or ws' 0 0 ≡ claim_of s = get_or-set_other s.words i 0 1 0 (λ q. omega arith) in
        let flag_ : flag ws' row ≡ 1 = get_or-set_same s.words i 1 0 (omega arith) in
        let written : HasData ws' row v.written = record { fits = o.words.fits; each = λ p l. get_or-set_other s.words i (row_words * row + (p + 2)) 1 0 (λ q. omega arith) ∙ o.words.each p l } in
        let opened : IsOpen n ws' row e = record { within = inside; flag_set = λ z. absurd (omega arith); named = refl; coded = subst IsCodedEntry (sym is) (coded_entry row below c coded); words = subst (HasData ws' row) words written } in
        let owner : row < claim_of s = let t = total_at (owns row) s.views id v at in let q = k.owned row inside in let y = drawn_some row row v drawn in let z = one_if-same row in below_of_one row (claim_of s) (omega arith) in (
          w,
          keeps,
          tt,
          record {
            wide = length-set s.words i 1 ∙ wide;
            counted = let t = total_set draws_of s.views id v w at in let q = k.counted in zero_ ∙ (let z : claim_of s ≡ total draws_of (set s.views id w) = omega arith in z);
            splits = let t = total_set splits_of s.views id v w at in let q = k.splits in omega arith;
            draws = let t = total_set past s.views id v w at in let q = k.draws in omega arith;
            owned = λ q l. let t = total_set (owns q) s.views id v w at in let g = k.owned q l in let y = drawn_some q row v drawn in let h = times-append row_of q v.part.mine (e ∷ []) in
                let z : total (owns q) (set s.views id w) ≡ one_if (nat_lt q (claim_of s)) = omega arith in z ∙ ap (λ (y : ℕ). one_if (nat_lt q y)) (sym zero_);
            sound = λ q l g. dite (ℕ_discrete q row) (λ same. subst (HasSound m n ws') (sym same) (e, opened, subst (IsSoundEntry m) (sym is) good))
                (λ ne. sound_kept m n s.words ws' row q a o.closed ne (k.sound q l (λ z. g (a.flags q ne ∙ z))));
            claimed = λ q l g. dite (ℕ_discrete q row) (λ same. omega arith) (λ ne. let h = k.claimed q l (λ z. g (a.flags q ne ∙ z)) in omega arith);
            each = all_fit m n s.views id w s.words ws' (record {
              model = f.model;
              idle = f.idle;
              drawn = λ q h. absurd (not_none q h);
              mine = λ p x h. ⊎_elim (λ g. open_kept n s.words ws' row x.row x a o.closed (f.mine p x g)) (λ (t : (p ≡ length v.part.mine) × (e ≡ x)). subst (λ (z : Entry). IsOpen n ws' z.row z) t.1 opened) (at_end v.part.mine e x p h);
              taken = λ q x g. open_kept n s.words ws' row q x a o.closed (f.taken q x g);
            }) (others_fit s k ws' id row v a at drawn);
          },
          λ q h. let same : row ≡ q = same_row row q (sym drawn ∙ h) in ap (λ (z : ℕ). (with_part v (with_mine v.part (entry_from z v.written)), me.1)) same,
        )

    looks_next : length me.0.part.taken < slots → Allows Rule slots id me (row_words * length me.0.part.taken + 1) (λ n. n) (row_looked_at (step slots (row_words * length me.0.part.taken + 1) 0 0 none) me)
    looks_next left s k len at small = let v : View = me.0 in let n : ℕ = rows_of s in let f = k.each id v at in let t : ℕ = length v.part.taken in let i : ℕ = row_words * t + 1 in
        dite (ℕ_discrete (flag s.words t) 0)
        (λ shut. let w : View = with_part v (with_misses v.part (v.part.misses + 1)) in (
          w,
          keeps,
          tt,
          unmoved s k i id me.1 v w at refl refl refl refl refl (record { model = f.model; idle = f.idle; drawn = f.drawn; mine = f.mine; taken = f.taken }),
          ((λ _. (refl, λ x c row. (own_open m n s.words v t x f c row).flag_set shut)), (λ ne. absurd (ne shut))),
        ))
        (λ open_. let o = k.sound t (omega arith) open_ in let e : Entry = o.0 in let w : View = with_part v (with_taken v.part e) in (
          w,
          keeps,
          tt,
          unmoved s k i id me.1 v w at refl refl refl refl refl (record {
            model = f.model;
            idle = f.idle;
            drawn = f.drawn;
            mine = f.mine;
            taken = λ q x h. ⊎_elim (f.taken q x) (λ (z : (q ≡ t) × (e ≡ x)). subst (λ (y : Entry). IsOpen n s.words q y) z.1 (subst (λ (r : ℕ). IsOpen n s.words r e) (sym z.0) o.1)) (at_end v.part.taken e x q h);
          }),
          (
            (λ z. absurd (open_ z)),
            (λ _. (
              e,
              refl,
              record {
                next = o.1.named;
                coded = o.1.coded;
                own = λ x c row. one_entry n s.words t x e (own_open m n s.words v t x f c row) o.1;
                sound = of_model m v (f.model part) (λ q. IsSoundEntry q e) o.2;
              },
            )),
          ),
        ))

    -- looks at the flag of the next row
    pub looks : (t : ℕ) → length me.0.part.taken ≡ t → t < slots → Allows Rule slots id me (row_words * t + 1) (λ n. n) (row_looked_at (step slots (row_words * t + 1) 0 0 none) me)
    looks t is left = subst (λ (z : ℕ). Allows Rule slots id me (row_words * z + 1) (λ n. n) (row_looked_at (step slots (row_words * z + 1) 0 0 none) me)) is (looks_next (omega arith))

    pub reads : (i : ℕ) → Allows Rule slots id me i (λ n. n) (word_read (step slots i 0 0 none) me)
    reads i s k len at small = let v : View = me.0 in let f = k.each id v at in
        (v, keeps, tt, unmoved s k i id me.1 v v at refl refl refl refl refl f, (refl, λ row p e q h l. let o = (f.taken row e h).words.each p l in ap (λ (z : ℕ). get_or s.words z 0) q ∙ o))

  pub splits : (id : ℕ) (v : View) → 2 ≤ v.splits → Splits Rule id v (kept_half v) (given_half v)
  splits id v room s k at = let a : View = kept_half v in let b : View = given_half v in let f = k.each id v at in let q = f.model (omega arith) in let vs : List View = set s.views id a in
      let half : past a + past b ≡ past v = past_halves v.part.full v.splits in record {
        wide = k.wide;
        counted = let t = total_set draws_of s.views id v a at in let z = total_snoc draws_of vs b in let e = k.counted in omega arith;
        splits = let t = total_set splits_of s.views id v a at in let z = total_snoc splits_of vs b in let e = k.splits in omega arith;
        draws = let t = total_set past s.views id v a at in let z = total_snoc past vs b in let e = k.draws in omega arith;
        owned = λ row l. let t = total_set (owns row) s.views id v a at in let z = total_snoc (owns row) vs b in let e = k.owned row l in omega arith;
        sound = k.sound;
        claimed = k.claimed;
        each = λ i u e. ⊎_elim (all_fit m (rows_of s) s.views id a s.words s.words (record { model = λ _. q; idle = λ z. absurd (omega arith); drawn = f.drawn; mine = f.mine; taken = f.taken }) (λ j x _ h. k.each j x h) i u)
            (λ (t : b ≡ u). subst (λ (z : View). FitsRowWords m (rows_of s) s.words z) t (record { model = λ _. q; idle = λ z. absurd (omega arith); drawn = λ row h. absurd (not_none row h); mine = λ j x h. absurd (some-ne-none x (sym h)); taken = f.taken })) (at_snoc vs b u i e);
      }

  pub joins : (id : ℕ) (v : View) (other : ℕ) (w : View) → 0 < v.splits → w.part.drawn ≡ None → Joins Rule id v other w (joined v w) spent
  joins id v other w part idle s k at apart there = let a : View = joined v w in let vs : List View = set s.views id a in
      let at' : get_elem? s.views other ≡ some w = sym (set_else s.views id other a apart) ∙ there in
      let f = k.each id v at in let g = k.each other w at' in let q = f.model part in
      let two = total_two splits_of s.views id other v w at at' apart in let sum = k.splits in
      let more : past v + past w ≤ past a = past_both v.part.full w.part.full v.splits w.splits (min (v.splits + w.splits) all_splits) (omega arith) in record {
        wide = k.wide;
        counted = let t = total_set draws_of s.views id v a at in let z = total_set draws_of vs other w spent there in let e = k.counted in omega arith;
        splits = let t = total_set splits_of s.views id v a at in let z = total_set splits_of vs other w spent there in omega arith;
        draws = let t = total_set past s.views id v a at in let z = total_set past vs other w spent there in let e = k.draws in omega arith;
        owned = λ row l. let t = total_set (owns row) s.views id v a at in let z = total_set (owns row) vs other w spent there in let e = k.owned row l in let h = times-append row_of row v.part.mine w.part.mine in let i = drawn_none row w idle in omega arith;
        sound = k.sound;
        claimed = k.claimed;
        each = all_fit m (rows_of s) vs other spent s.words s.words
            (record { model = λ h. absurd (omega arith); idle = λ _. refl; drawn = λ row h. absurd (not_none row h); mine = λ j x h. absurd (some-ne-none x (sym h)); taken = λ row x h. absurd (some-ne-none x (sym h)) })
            (λ i u _. all_fit m (rows_of s) s.views id a s.words s.words (record {
              model = λ _. q;
              idle = λ z. absurd (omega arith);
              drawn = f.drawn;
              mine = λ j x h. ⊎_elim (f.mine j x) (λ (t : (i : ℕ) × (get_elem? w.part.mine i ≡ some x)). g.mine t.0 x t.1) (at_append v.part.mine w.part.mine x j h);
              taken = λ row x h. ⊎_elim (f.taken row x) (g.taken row x) (at_longer_of v.part.taken w.part.taken x row h);
            }) (λ j x _ h. k.each j x h) i u);
      }

  pub opens : (rows : ℕ) (xs : List S) → length xs ≡ rows → Rule (opening (replicate (row_words * rows + 1) 0) xs (first_view m))
  opens rows xs long = let n : length (map some xs) ≡ rows = length-map xs some ∙ long in record {
    wide = length-replicate (row_words * rows + 1) 0 ∙ ap (λ (z : ℕ). row_words * z + 1) (sym n);
    splits = refl;
    counted = zeros (row_words * rows + 1) 0;
    draws = let z = zeros (row_words * rows + 1) 0 in omega arith;
    owned = λ row l. let z = zeros (row_words * rows + 1) 0 in let e = one_not_below row (get_or {A = ℕ} (replicate (row_words * rows + 1) 0) 0 0) (omega arith) in omega arith;
    sound = λ row l g. absurd (g (zeros (row_words * rows + 1) (row_words * row + 1)));
    claimed = λ row l g. absurd (g (zeros (row_words * rows + 1) (row_words * row + 1)));
    each = λ i v e. ⊎_elim (λ h. absurd (some-ne-none v (sym h))) (λ (t : first_view m ≡ v). subst (λ (z : View). FitsRowWords m (length (map some xs)) (replicate (row_words * rows + 1) 0) z) t
        (record { model = λ _. refl; idle = λ _. refl; drawn = λ row h. absurd (not_none row h); mine = λ j x h. absurd (some-ne-none x (sym h)); taken = λ row x h. absurd (some-ne-none x (sym h)) })) (at_snoc [] (first_view m) v i e);
  }

  -- the draws of the last state
  pub counts : (s : State S View) → Rule s → claim_of s ≤ rows_of s + all_splits
  counts s k = let room : total past s.views ≤ total splits_of s.views = total_le past splits_of s.views past_of in let d = k.draws in let sp = k.splits in omega arith

  -- what one seat drew, and what it took, are among them
  pub covers_draws : (s : State S View) → Rule s → (id : ℕ) (v : View) → get_elem? s.views id ≡ some v → v.draws ≤ claim_of s
  covers_draws s k id v at = let e = k.counted in let z = total_at draws_of s.views id v at in omega arith

  pub covers_taken : (s : State S View) → Rule s → (id : ℕ) (v : View) → get_elem? s.views id ≡ some v → length v.part.taken ≤ claim_of s
  covers_taken s k id v at = dite (dec_le (length v.part.taken) 0) (λ none_taken. omega arith)
      (λ n. let q : ℕ = length v.part.taken - 1 in let o = at_below v.part.taken q (omega arith) in let open_ = (k.each id v at).taken q o.0 o.1 in let h = k.claimed q open_.within open_.flag_set in omega arith)

  pub whole : (s : State S View) → Rule s → (id : ℕ) (v : View) → get_elem? s.views id ≡ some v → v.splits ≡ all_splits → claim_of s ≡ v.draws
  whole s k id v at all = let e = k.counted in let z = alone draws_of s.views id v at (λ i u h n. let t = total_two splits_of s.views id i v u at h n in let q = k.splits in (k.each i u h).idle (omega arith)) in omega arith
