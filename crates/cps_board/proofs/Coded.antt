-- Clauses come back from their words.
use Rattle.std.proofs.Common.{◌≡◌, ℕ, zero, suc, ◌+◌, ◌-◌, ◌*◌, ◌/◌, ◌%◌, ◌<◌, ◌≤◌, ◌^◌, true, ℤ, pos, negsuc, ◌≤ℤ◌, List, [], ◌∷◌, length, get_or, replicate, sym, refl, ap, ◌∙◌, subst, arith}
use Rattle.std.specs.Prelude.{All, nat_le, None, ◌&&◌}
use Rattle.std.proofs.lemmas.Int.{ints}
use Rattle.std.proofs.lemmas.Bool.Decides.{nat_tests}
use Rattle.std.proofs.lemmas.List.Elements.{All-head, All-tail}
use Rattle.cps_model.specs.declared.bound.Bound.{Bound}
use Rattle.cps_model.specs.declared.bound.Bound.TheVariants.{At, Infinite}
use Rattle.cps_model.specs.declared.model.CpModel.{CpModel}
use Rattle.cps_model.specs.declared.place.Place.TheVariants as places
use Rattle.cps_model.specs.Validity.{most_items, most_entries, entry_count, at_place, size_fault, IsValid}
use Rattle.cps_model.proofs.Faults.{rule_kept, or_else-none, at_place-none}
use Rattle.cps_model.proofs.Tests.{and_true}
use Rattle.cps_literal.specs.declared.atom.Atom.{Atom}
use Rattle.cps_literal.specs.declared.atom.Op.{Op}
use Rattle.cps_literal.specs.declared.atom.Op.TheVariants.{Le, Ge, Eq, Ne}
use Rattle.cps_port.specs.declared.entry.Entry.{Entry}
use Rattle.cps_port.specs.Entries.{most_atoms, blank, entry_of, entry_clause, IsModelAtom, IsShareable, IsSoundEntry}
use Rattle.cps_port.specs.Incumbents.{HoldsBelow, IsIncumbent}
use Rattle.cps_port.specs.Words.{value_word, value_of, word_of, bound_of}
use Rattle.cps_port.proofs.Attained.{attained_small}
use Rattle.cps_port.proofs.InOrder.{has_word_at}
use Rattle.cps_port.proofs.PortEvents.{take-front}
use Rattle.cps_board.specs.Coding.{op_code, op_of, head_word, atom_words, entry_words, atom_of, atoms_of, entry_from, IsCoded, IsCodedEntry}

op_back : (o : Op) (n : ℕ) → n ≡ op_code o → op_of n ≡ o
op_back Le n e = ap op_of e
op_back Ge n e = ap op_of e
op_back Eq n e = ap op_of e
op_back Ne n e = ap op_of e

pub op_small : (o : Op) → op_code o < 4
op_small Le = omega arith
op_small Ge = omega arith
op_small Eq = omega arith
op_small Ne = omega arith

number_back : (v : ℤ) → negsuc (2 ^ 62 - 1) ≤ℤ v → v ≤ℤ pos (2 ^ 62) → value_of (value_word v) ≡ v
number_back (pos n) l h = let s : n ≤ 4611686018427387904 = omega (arith, ints) in grind (arith, nat_tests)
number_back (negsuc n) l h = let s : n ≤ 4611686018427387903 = omega (arith, ints) in grind (arith, nat_tests)

atom_back : (n : ℕ) (t : Atom) → IsModelAtom n t → atom_of (head_word t) (value_word t.value) ≡ t
atom_back n t h =
    let small = op_small t.op in
    let subject : head_word t / 4 ≡ t.subject = omega arith in
    let code : head_word t % 4 ≡ op_code t.op = omega arith in
    ap (λ (x : ℕ). let a : Atom = record { subject = x; op = op_of (head_word t % 4); value = value_of (value_word t.value) } in a) subject
    ∙ (ap (λ (o : Op). let a : Atom = record { subject = t.subject; op = o; value = value_of (value_word t.value) } in a) (op_back t.op (head_word t % 4) code)
    ∙ ap (λ (v : ℤ). let a : Atom = record { subject = t.subject; op = t.op; value = v } in a) (number_back t.value h.low h.high))

atoms_back : (n : ℕ) (c : List Atom) → All (IsModelAtom n) c → atoms_of (atom_words c) ≡ c
atoms_back n [] h = refl
atoms_back n (t ∷ ts) h = ap (λ (a : Atom). a ∷ atoms_of (atom_words ts)) (atom_back n t (All-head (IsModelAtom n) t ts h)) ∙ ap (λ (l : List Atom). t ∷ l) (atoms_back n ts (All-tail (IsModelAtom n) t ts h))

below_back : (m : CpModel) (z : Bound) → IsValid m → IsIncumbent m z → bound_of (word_of z) ≡ z
unfolding IsIncumbent
below_back m (At v) valid shown = (has_word_at v (attained_small m v valid shown)).back
below_back m Infinite valid shown = refl

le_of : (a b : ℕ) → nat_le a b ≡ true → a ≤ b
le_of a b h = grind (arith, nat_tests)

-- a valid model has not many variables
few_variables : (m : CpModel) → IsValid m → length m.variables ≤ most_items
few_variables m valid =
    let size : size_fault m ≡ None = at_place-none places.Model (size_fault m) (or_else-none (at_place places.Model (size_fault m)) _ valid).0 in
    let variables = nat_le (length m.variables) most_items in
    let constraints = nat_le (length m.constraints) most_items in
    let entries = nat_le (entry_count m) most_entries in
    let kept = rule_kept 18 (variables && constraints && entries) _ size in
    le_of (length m.variables) most_items (and_true variables constraints (and_true (variables && constraints) entries kept.0).0).0

-- a clause that can be shared comes back from its words
pub coded_clause : (m : CpModel) (z : Bound) (c : List Atom) → IsValid m → IsIncumbent m z → IsShareable m c → IsCoded z c
coded_clause m z c valid shown fits =
    let few = few_variables m valid in record {
      few = fits.few;
      below_back = below_back m z valid shown;
      atoms_back = atoms_back (length m.variables) c fits.atoms;
      subjects = λ k d h. let s = (fits.atoms k d h).subject in omega arith;
    }

pub clause_back : (row : ℕ) (z : Bound) (c : List Atom) → entry_clause (entry_of row z c) ≡ c
clause_back row z c = take-front c (replicate (most_atoms - length c) blank)

-- The one law of coding: an entry comes back from its words.
pub entry_back : (row : ℕ) (z : Bound) (c : List Atom) (words : List ℕ) → words ≡ entry_words z c → IsCoded z c → entry_from row words ≡ entry_of row z c
entry_back row z c words e coded = ap (entry_from row) e ∙ (ap (λ (b : Bound). entry_of row b (atoms_of (atom_words c))) coded.below_back ∙ ap (entry_of row z) coded.atoms_back)

pub coded_entry : (row : ℕ) (z : Bound) (c : List Atom) → IsCoded z c → IsCodedEntry (entry_of row z c)
coded_entry row z c coded = let same = clause_back row z c in record { is = ap (entry_of row z) (sym same); coded = subst (IsCoded z) (sym same) coded }

pub words_of_entry : (row : ℕ) (z : Bound) (c : List Atom) → entry_words z (entry_clause (entry_of row z c)) ≡ entry_words z c
words_of_entry row z c = ap (entry_words z) (clause_back row z c)

pub length-atom_words : (c : List Atom) → length (atom_words c) ≡ 2 * length c
length-atom_words [] = refl
length-atom_words (t ∷ ts) = let h = length-atom_words ts in omega arith

pub length-entry_words : (z : Bound) (c : List Atom) → length (entry_words z c) ≡ 2 + 2 * length c
length-entry_words z c = let h = length-atom_words c in omega arith

-- two entries of one row with the same words are one
pub same_entry : (d e : Entry) (row : ℕ) → d.row ≡ row → e.row ≡ row → IsCodedEntry d → IsCodedEntry e → entry_words d.below (entry_clause d) ≡ entry_words e.below (entry_clause e) → d ≡ e
same_entry d e row p q c f w =
    let back_d = entry_back row d.below (entry_clause d) _ refl c.coded in
    let back_e = entry_back row e.below (entry_clause e) _ refl f.coded in
    c.is ∙ (ap (λ (r : ℕ). entry_of r d.below (entry_clause d)) p ∙ (sym back_d ∙ (ap (entry_from row) w ∙ (back_e ∙ (ap (λ (r : ℕ). entry_of r e.below (entry_clause e)) (sym q) ∙ sym f.is)))))

-- the words of one atom
pub head_at : (c : List Atom) (i : ℕ) (d : Atom) → i < length c → get_or (atom_words c) (2 * i) 0 ≡ head_word (get_or c i d)
head_at [] i d h = absurd (omega arith)
head_at (t ∷ ts) zero d h = refl
head_at (t ∷ ts) (suc i) d h = ap (λ (n : ℕ). get_or (atom_words (t ∷ ts)) n 0) (let q : 2 * suc i ≡ suc (suc (2 * i)) = omega arith in q) ∙ head_at ts i d (omega arith)

pub number_at : (c : List Atom) (i : ℕ) (d : Atom) → i < length c → get_or (atom_words c) (2 * i + 1) 0 ≡ value_word (get_or c i d).value
number_at [] i d h = absurd (omega arith)
number_at (t ∷ ts) zero d h = refl
number_at (t ∷ ts) (suc i) d h = ap (λ (n : ℕ). get_or (atom_words (t ∷ ts)) n 0) (let q : 2 * suc i + 1 ≡ suc (suc (2 * i + 1)) = omega arith in q) ∙ number_at ts i d (omega arith)

-- each atom comes back by itself
pub atom_back_at : (c : List Atom) (i : ℕ) (d : Atom) → atoms_of (atom_words c) ≡ c → i < length c → atom_of (head_word (get_or c i d)) (value_word (get_or c i d).value) ≡ get_or c i d
atom_back_at [] i d e h = absurd (omega arith)
atom_back_at (t ∷ ts) zero d e h = ap (λ (l : List Atom). get_or l 0 d) e
atom_back_at (t ∷ ts) (suc i) d e h = atom_back_at ts i d (let tails : atoms_of (atom_words ts) ≡ ts = cc in tails) (omega arith)

-- the entry of a clause that holds below an incumbent is sound
pub sound_entry : (m : CpModel) (row : ℕ) (z : Bound) (c : List Atom) → IsShareable m c → HoldsBelow m z c → IsIncumbent m z → IsSoundEntry m (entry_of row z c)
sound_entry m row z c s h i =
    let e = clause_back row z c in
    record { fits = s.few; clause = subst (IsShareable m) (sym e) s; holds = subst (HoldsBelow m z) (sym e) h; incumbent = i }
