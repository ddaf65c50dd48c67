-- How the clauses stand in one list of atoms: one more leaves the others as they were.
use Rattle.std.specs.Prelude.{map, slice_range}
use Rattle.std.specs.List.{All}
use Rattle.std.proofs.Common.{◌≡◌, ℕ, ◌+◌, ◌-◌, ◌≤◌, List, [], ◌∷◌, ◌++◌, length, take, drop, refl, sym, ◌∙◌, ap, arith}
use Rattle.std.proofs.lemmas.List.{map-append, drop-take, take-append-le, take_all}
use Rattle.std.proofs.lemmas.List.Elements.{All-head, All-tail}
use Rattle.std.proofs.Math.Seq.{drop-append_seam}
use Rattle.cps_literal.specs.declared.atom.Atom.{Atom}
use Rattle.cps_rup.specs.declared.arena.AtomRange.{AtomRange}
use Rattle.cps_rup.specs.AtomRanges.{clause_at, IsAtomRange}

part_grown : (atoms more : List Atom) (f t : ℕ) → f ≤ t → t ≤ length atoms → slice_range (atoms ++ more) f t ≡ slice_range atoms f t
part_grown atoms more f t o h =
    sym (drop-take f (t - f) (atoms ++ more)) ∙ ap (λ (l : List Atom). drop f l) (take-append-le (f + (t - f)) atoms more (omega arith)) ∙ drop-take f (t - f) atoms

clauses_grown : (atoms more : List Atom) (ranges : List AtomRange) → All (IsAtomRange (length atoms)) ranges → map (clause_at (atoms ++ more)) ranges ≡ map (clause_at atoms) ranges
clauses_grown atoms more [] h = refl
clauses_grown atoms more (v ∷ vs) h =
    let fits : IsAtomRange (length atoms) v = All-head (IsAtomRange (length atoms)) v vs h in
    ap (λ (c : List Atom). c ∷ map (clause_at (atoms ++ more)) vs) (part_grown atoms more v.from v.to fits.ordered fits.within)
    ∙ ap (λ (cs : List (List Atom)). clause_at atoms v ∷ cs) (clauses_grown atoms more vs (All-tail (IsAtomRange (length atoms)) v vs h))

-- the atoms at the end
part_at_end : (atoms clause : List Atom) (f t : ℕ) → f ≡ length atoms → t ≡ length atoms + length clause → slice_range (atoms ++ clause) f t ≡ clause
part_at_end atoms clause f t e g =
    ap (λ (n : ℕ). take (t - f) (drop n (atoms ++ clause))) e ∙ ap (λ (l : List Atom). take (t - f) l) (drop-append_seam atoms clause) ∙ take_all (t - f) clause (omega arith)

-- one more clause
pub clauses_pushed : (atoms atoms' clause : List Atom) (ranges ranges' : List AtomRange) (range : AtomRange) → atoms' ≡ atoms ++ clause → ranges' ≡ ranges ++ range ∷ [] → range.from ≡ length atoms → range.to ≡ length atoms + length clause → All (IsAtomRange (length atoms)) ranges → map (clause_at atoms') ranges' ≡ map (clause_at atoms) ranges ++ clause ∷ []
clauses_pushed atoms atoms' clause ranges ranges' range e f from to fits =
    ap (λ (l : List Atom). map (clause_at l) ranges') e ∙ ap (λ (rs : List AtomRange). map (clause_at (atoms ++ clause)) rs) f
    ∙ map-append (clause_at (atoms ++ clause)) ranges (range ∷ [])
    ∙ ap (λ (c : List Atom). map (clause_at (atoms ++ clause)) ranges ++ c ∷ []) (part_at_end atoms clause range.from range.to from to)
    ∙ ap (λ (cs : List (List Atom)). cs ++ clause ∷ []) (clauses_grown atoms clause ranges fits)
