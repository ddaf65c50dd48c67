use Rattle.std.proofs.Common.{◌≡◌, ◌<◌, ◌++◌, ◌∷◌, [], List, true, false, length, take, sym, ◌∙◌, ap, arith}
use Rattle.std.proofs.lemmas.List.{take_all}
use Rattle.cps_literal.specs.declared.atom.Atom.{Atom}
use Rattle.cps_clauses.specs.InForce.{is_dropped, blanked}
use Rattle.cps_clauses.proofs.DroppedClauses.{blanked_dropped, blanked_kept, length-blanked, take_next}
use Rattle.cps_clauses.proofs.clauses.Clauses.without.Goals as goal

-- a clause that was dropped is added without its atoms
pub loop-place-preserved-then-dropped-place : goal.loop-place-preserved-then-dropped-place
loop-place-preserved-then-dropped-place c =
    let b : c.loop-place.place < length (blanked c.args.self.now c.args.dropped.now) = omega (arith, c.loop-place-test.true, c.len-place-end.ensures, length-blanked c.args.self.now c.args.dropped.now) in
    let gone : is_dropped c.args.dropped.now c.loop-place.place ≡ true = c.if-dropped-place.true in
    c.in_ok-push.ensures.ok ∙ ap (λ (cs : List (List Atom)). cs ++ ([] ∷ [])) c.loop-place.invariant
    ∙ ap (λ (k : List Atom). take c.loop-place.place (blanked c.args.self.now c.args.dropped.now) ++ (k ∷ [])) (sym (blanked_dropped c.args.self.now c.args.dropped.now c.loop-place.place gone))
    ∙ sym (take_next (blanked c.args.self.now c.args.dropped.now) c.loop-place.place b)

-- another keeps them
pub loop-place-preserved : goal.loop-place-preserved
loop-place-preserved c =
    let b : c.loop-place.place < length (blanked c.args.self.now c.args.dropped.now) = omega (arith, c.loop-place-test.true, c.len-place-end.ensures, length-blanked c.args.self.now c.args.dropped.now) in
    let keeps : is_dropped c.args.dropped.now c.loop-place.place ≡ false = c.if-dropped-place.false in
    c.in_ok-push-2.ensures.ok ∙ ap (λ (cs : List (List Atom)). cs ++ (c.as_slice.result.now ∷ [])) c.loop-place.invariant
    ∙ ap (λ (k : List Atom). take c.loop-place.place (blanked c.args.self.now c.args.dropped.now) ++ (k ∷ [])) (c.as_slice.ensures ∙ c.in_ok-clause.ensures ∙ c.clause.ensures ∙ sym (blanked_kept c.args.self.now c.args.dropped.now c.loop-place.place keeps))
    ∙ sym (take_next (blanked c.args.self.now c.args.dropped.now) c.loop-place.place b)

pub returns : goal.returns
returns c = c.loop-place.invariant ∙ take_all c.loop-place.place (blanked c.args.self.now c.args.dropped.now) (omega (arith, c.loop-place-test.false, c.len-place-end.ensures, length-blanked c.args.self.now c.args.dropped.now))
