use Rattle.std.proofs.Common.{rules, arith, ◌≡◌, ◌+◌, ◌*◌, ◌≤◌, ℕ, List, [], ◌∷◌, ◌++◌, take, length, get_or, refl, ap, ◌∙◌, length-append}
use Rattle.std.proofs.lemmas.List.{take_all}
use Rattle.cps_port.specs.Entries.{blank}
use Rattle.cps_port.specs.Words.{word_of}
use Rattle.cps_literal.specs.declared.atom.Atom.{Atom}
use Rattle.cps_board.specs.Coding.{head_word, atom_words}
use Rattle.cps_board.specs.Rows.{filling}
use Rattle.cps_board.proofs.FilledRows.{puts_more, put_more, atom_words-more, length-atom_words-take, publishes_row, published}
use Rattle.cps_board.proofs.row.fill.Goals as goal

pub store-requires : goal.store-requires
store-requires c = (search rules, omega arith, puts_more _ _ _ c.args.seat.now.me _ [] c.args.row 0 _ _ (ap (λ (l : List ℕ). (filling c.args.seat.now.me.0 l, c.args.seat.now.me.1)) c.requires.drawn.1) c.requires.part c.requires.drawn.0 refl (omega arith) (omega arith))

pub store-requires-2 : goal.store-requires-2
store-requires-2 c =
    let old = c.args.seat.now.me in
    let first = put_more old old c.store.new.seat.me [] (length c.args.clause.now) (ap (λ (l : List ℕ). (filling old.0 l, old.1)) c.requires.drawn.1) c.store.ensures.2 in
    (search rules, omega arith, puts_more _ _ _ old _ (length c.args.clause.now ∷ []) c.args.row 1 _ _ first c.requires.part c.requires.drawn.0 refl (omega arith) (omega arith))

pub loop-i-init : goal.loop-i-init
loop-i-init c =
    let old = c.args.seat.now.me in
    let first = put_more old old c.store.new.seat.me [] (length c.args.clause.now) (ap (λ (l : List ℕ). (filling old.0 l, old.1)) c.requires.drawn.1) c.store.ensures.2 in
    let second = put_more old c.store.new.seat.me c.store-2.new.seat.me (length c.args.clause.now ∷ []) c.word_of.result first c.store-2.ensures.2 in
    record {
      table = c.store-2.ensures.0 ∙ c.store.ensures.0;
      id = c.store-2.ensures.1 ∙ c.store.ensures.1;
      view = second ∙ ap (λ (w : ℕ). (filling old.0 (length c.args.clause.now ∷ w ∷ []), old.1)) c.word_of.ensures;
    }

pub store-requires-in-loop-i : goal.store-requires-in-loop-i
store-requires-in-loop-i c =
    let i : ℕ = c.loop-i.i in
    let clause : List Atom = c.args.clause.now in
    let long = length-atom_words-take clause i (omega arith) in (
      search rules,
      omega arith,
      puts_more _ _ _ c.args.seat.now.me _ (length clause ∷ word_of c.args.below ∷ atom_words (take i clause)) c.args.row (2 + 2 * i) _ _ c.loop-i.invariant.view c.requires.part c.requires.drawn.0 (omega arith) (omega arith) (omega arith),
    )

pub store-requires-in-loop-i-2 : goal.store-requires-in-loop-i-2
store-requires-in-loop-i-2 c =
    let old = c.args.seat.now.me in
    let i : ℕ = c.loop-i.i in
    let clause : List Atom = c.args.clause.now in
    let words : List ℕ = length clause ∷ word_of c.args.below ∷ atom_words (take i clause) in
    let long = length-atom_words-take clause i (omega arith) in
    let more = length-append (atom_words (take i clause)) (c.head_word.result ∷ []) in
    let next = put_more old c.loop-i.seat.me c.store-in-loop-i.new.seat.me words c.head_word.result c.loop-i.invariant.view c.store-in-loop-i.ensures.2 in
    (search rules, omega arith, puts_more _ _ _ old _ (words ++ c.head_word.result ∷ []) c.args.row (3 + 2 * i) _ _ next c.requires.part c.requires.drawn.0 (omega arith) (omega arith) (omega arith))

pub loop-i-preserved : goal.loop-i-preserved
loop-i-preserved c =
    let old = c.args.seat.now.me in
    let i : ℕ = c.loop-i.i in
    let clause : List Atom = c.args.clause.now in
    let t : Atom = get_or clause i blank in
    let front : List ℕ = atom_words (take i clause) in
    let words : List ℕ = length clause ∷ word_of c.args.below ∷ front in
    let next = put_more old c.loop-i.seat.me c.store-in-loop-i.new.seat.me words c.head_word.result c.loop-i.invariant.view c.store-in-loop-i.ensures.2 in
    let last = put_more old c.store-in-loop-i.new.seat.me c.store-in-loop-i-2.new.seat.me (words ++ c.head_word.result ∷ []) c.number_word.result next c.store-in-loop-i-2.ensures.2 in
    let same : (front ++ c.head_word.result ∷ []) ++ c.number_word.result ∷ [] ≡ atom_words (take (i + 1) clause) =
    ap (λ (x : ℕ). (front ++ x ∷ []) ++ c.number_word.result ∷ []) c.head_word.ensures
    ∙ (ap (λ (x : ℕ). (front ++ head_word t ∷ []) ++ x ∷ []) c.number_word.ensures ∙ atom_words-more clause i t blank c.loop-i-test.true refl) in
    record {
      table = c.store-in-loop-i-2.ensures.0 ∙ (c.store-in-loop-i.ensures.0 ∙ c.loop-i.invariant.table);
      id = c.store-in-loop-i-2.ensures.1 ∙ (c.store-in-loop-i.ensures.1 ∙ c.loop-i.invariant.id);
      view = last ∙ ap (λ (l : List ℕ). (filling old.0 (length clause ∷ word_of c.args.below ∷ l), old.1)) same;
    }

filled : (clause : List Atom) (i : ℕ) → length clause ≤ i → atom_words (take i clause) ≡ atom_words clause
filled clause i h = ap atom_words (take_all i clause h)

pub store-requires-3 : goal.store-requires-3
store-requires-3 c =
    let old = c.args.seat.now.me in
    let clause : List Atom = c.args.clause.now in
    let all = c.loop-i.invariant.view ∙ ap (λ (l : List ℕ). (filling old.0 (length clause ∷ word_of c.args.below ∷ l), old.1)) (filled clause c.loop-i.i (omega arith)) in
    (search rules, omega arith, publishes_row _ _ _ old _ c.args.row _ c.args.below clause all c.requires.part c.requires.drawn.0 c.requires.coded c.requires.sound (omega arith))

pub returns-clause-shared : goal.returns-clause-shared
returns-clause-shared c =
    let old = c.args.seat.now.me in
    let clause : List Atom = c.args.clause.now in
    let all = c.loop-i.invariant.view ∙ ap (λ (l : List ℕ). (filling old.0 (length clause ∷ word_of c.args.below ∷ l), old.1)) (filled clause c.loop-i.i (omega arith)) in
    published old c.loop-i.seat.me c.store-3.new.seat.me c.args.row c.args.below clause all c.requires.drawn.0 c.requires.coded c.store-3.ensures.2
