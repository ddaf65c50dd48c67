-- Atoms that leave no interval refute it.
use Rattle.std.specs.List.{Contains}
use Rattle.std.proofs.Common.{◌≡◌, ◌<ℤ◌, ◌+ℤ◌, ℕ, ℤ, pos, true, List, [], ◌∷◌, length, sym, subst, arith}
use Rattle.std.proofs.lemmas.Int.{ints}
use Rattle.std.proofs.lemmas.List.Elements.{All-nil, All-cons}
use Rattle.cps_literal.specs.declared.atom.Atom.{Atom}
use Rattle.cps_literal.specs.declared.atom.Op.TheVariants.{Ge, Le}
use Rattle.cps_literal.specs.Truth.{atom_holds}
use Rattle.cps_trail.specs.Trail.{Trail}
use Rattle.cps_instance.specs.Tasks.{subjects_of_body}
use Rattle.cps_propagate.specs.Reasons.{SpeaksOf}
use Rattle.cps_propagate.proofs.Speaking.{speaks_none}
use Rattle.cps_rule.specs.Rules.{IsFact, AreFacts, IsExplained, IsRefuted}
use Rattle.cps_p_interval.specs.declared.interval.Places.{Places}
use Rattle.cps_p_interval.specs.declared.interval.Support.{Support}
use Rattle.cps_p_span.specs.Citing.{Cites}
use Rattle.cps_p_interval.specs.Intervals.{body_of, ArePlaces, IsSupport, IsOpposition}
use Rattle.cps_p_interval.proofs.Bounding.{own_start, own_end, own_size, below_of, least_of, most_of}

-- facts that give three atoms leave no interval
pub opposed : (s : Trail) (p : Places) (u : Support) (last : Atom) (old mid new : List Atom) → old ≡ [] → IsOpposition (length s.first) p u last → Cites s (u.one.subject ∷ u.other.subject ∷ []) old mid (λ xs. (atom_holds xs u.one ≡ true) × (atom_holds xs u.other ≡ true))
    → Cites s (last.subject ∷ []) mid new (λ xs. atom_holds xs last ≡ true) → IsRefuted (body_of p) s new
opposed s p u last old mid new none o f g =
    let is = subjects_of_body (body_of p) in
    record {
      facts = g.facts (f.facts (subst (λ (us : List Atom). AreFacts s us) (sym none) (All-nil (IsFact s))));
      speaks = g.about is (All-cons (Contains is) last.subject [] o.own_third (All-nil (Contains is)))
          (f.about is (All-cons (Contains is) u.one.subject (u.other.subject ∷ []) o.own_one (All-cons (Contains is) u.other.subject [] o.own_other (All-nil (Contains is))))
          (subst (λ (us : List Atom). SpeaksOf (subjects_of_body (body_of p)) us) (sym none) (speaks_none is)));
      excludes = λ xs w h i. (let k = f.gives xs (g.kept xs h) in o.excludes xs k.0 k.1 (g.gives xs h) i);
    }

-- the third is one of the two
pub opposed_twice : (s : Trail) (p : Places) (u : Support) (last : Atom) (old new : List Atom) → old ≡ [] → last ≡ u.one → IsOpposition (length s.first) p u last → Cites s (u.one.subject ∷ u.other.subject ∷ []) old new (λ xs. (atom_holds xs u.one ≡ true) × (atom_holds xs u.other ≡ true))
    → IsRefuted (body_of p) s new
opposed_twice s p u last old new none same o f = opposed s p u last old new new none o f (record {
  facts = λ h. h;
  kept = λ xs h. h;
  about = λ is all before. before;
  gives = λ xs h. subst (λ (v : Atom). atom_holds xs v ≡ true) (sym same) (f.gives xs h).0;
})

-- facts that give two atoms give a third
pub supported : (s : Trail) (p : Places) (target : Atom) (u : Support) (old new : List Atom) → old ≡ [] → IsSupport (length s.first) p target u → Cites s (u.one.subject ∷ u.other.subject ∷ []) old new (λ xs. (atom_holds xs u.one ≡ true) × (atom_holds xs u.other ≡ true))
    → IsExplained (body_of p) s target new
supported s p target u old new none o f =
    let is = subjects_of_body (body_of p) in
    record {
      facts = f.facts (subst (λ (us : List Atom). AreFacts s us) (sym none) (All-nil (IsFact s)));
      speaks = f.about is (All-cons (Contains is) u.one.subject (u.other.subject ∷ []) o.own_one (All-cons (Contains is) u.other.subject [] o.own_other (All-nil (Contains is))))
          (subst (λ (us : List Atom). SpeaksOf (subjects_of_body (body_of p)) us) (sym none) (speaks_none is));
      gives = λ xs w h i. (let k = f.gives xs h in o.gives xs k.0 k.1 i);
    }

-- three bounds that leave no interval
module _ (n : ℕ) (p : Places) (within : ArePlaces n p) where
  pub opposed_below : (one other last : Atom) (a b v : ℤ) → one ≡ record { subject = p.start; op = Ge; value = a } → other ≡ record { subject = p.size; op = Ge; value = b } → last ≡ record { subject = p.end; op = Le; value = v }
      → v <ℤ (a +ℤ b) → IsOpposition n p (record { one = one; other = other }) last
  opposed_below one other last a b v e f g less = record {
    one = below_of n one p.start Ge a e within.start;
    own_one = own_start p one Ge a e;
    other = below_of n other p.size Ge b f within.size;
    own_other = own_size p other Ge b f;
    third = below_of n last p.end Le v g within.end;
    own_third = own_end p last Le v g;
    excludes = λ xs h k m i. (let s = i.1 in absurd (omega (arith, ints, less, least_of xs one p.start a e h, least_of xs other p.size b f k, most_of xs last p.end v g m)));
  }

  -- where the size is not below 0 the start alone is too late
  pub opposed_early : (start last : Atom) (a v : ℤ) → start ≡ record { subject = p.start; op = Ge; value = a } → last ≡ record { subject = p.end; op = Le; value = v } → v <ℤ a → IsOpposition n p (record { one = start; other = start }) last
  opposed_early start last a v e g less = record {
    one = below_of n start p.start Ge a e within.start;
    own_one = own_start p start Ge a e;
    other = below_of n start p.start Ge a e within.start;
    own_other = own_start p start Ge a e;
    third = below_of n last p.end Le v g within.end;
    own_third = own_end p last Le v g;
    excludes = λ xs h k m i. (let r = i.0 in let s = i.1 in absurd (omega (arith, ints, less, least_of xs start p.start a e h, most_of xs last p.end v g m)));
  }

  pub opposed_above : (one other last : Atom) (a b v : ℤ) → one ≡ record { subject = p.start; op = Le; value = a } → other ≡ record { subject = p.size; op = Le; value = b } → last ≡ record { subject = p.end; op = Ge; value = v }
      → (a +ℤ b) <ℤ v → IsOpposition n p (record { one = one; other = other }) last
  opposed_above one other last a b v e f g less = record {
    one = below_of n one p.start Le a e within.start;
    own_one = own_start p one Le a e;
    other = below_of n other p.size Le b f within.size;
    own_other = own_size p other Le b f;
    third = below_of n last p.end Ge v g within.end;
    own_third = own_end p last Ge v g;
    excludes = λ xs h k m i. (let s = i.1 in absurd (omega (arith, ints, less, most_of xs one p.start a e h, most_of xs other p.size b f k, least_of xs last p.end v g m)));
  }

  pub opposed_negative : (u : Atom) (v : ℤ) → u ≡ record { subject = p.size; op = Le; value = v } → v <ℤ pos 0 → IsOpposition n p (record { one = u; other = u }) u
  opposed_negative u v e less = record {
    one = below_of n u p.size Le v e within.size;
    own_one = own_size p u Le v e;
    other = below_of n u p.size Le v e within.size;
    own_other = own_size p u Le v e;
    third = below_of n u p.size Le v e within.size;
    own_third = own_size p u Le v e;
    excludes = λ xs h k m i. (let s = i.0 in absurd (omega (arith, ints, less, most_of xs u p.size v e h)));
  }
