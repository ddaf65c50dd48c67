use Rattle.std.proofs.Common.{ℕ, ◌+◌, ◌≡◌, ◌<◌, Bool, List, false, length, get_or, sym, ◌∙◌, ap, subst, inl, inr, arith}
use Rattle.std.proofs.lemmas.List.{get_or_read}
use Rattle.cps_literal.specs.declared.atom.Atom.{Atom}
use Rattle.cps_clauses.specs.declared.forget.Candidate.{Candidate}
use Rattle.cps_clauses.specs.Bases.{number_at}
use Rattle.cps_clauses.specs.Forgets.{MayGo, learnt_clause}
use Rattle.cps_clauses.proofs.NamedClauses.{AreCandidatesTo, may_go, may_not_go}
use Rattle.cps_clauses.proofs.Candidates.{candidates_none, candidates_more, candidates_skip, candidates_all}
use Rattle.cps_clauses.proofs.forget.candidates.Goals as goal

pub loop-place-init : goal.loop-place-init
loop-place-init c =
    subst (λ (cs : List Candidate). AreCandidatesTo c.args.clauses.now c.args.dropped.now c.args.learnt.now c.args.store.now 0 cs) (sym c.new-found.ensures.items)
    (candidates_none c.args.clauses.now c.args.dropped.now c.args.learnt.now c.args.store.now)

pub bounds-dropped-number : goal.bounds-dropped-number
bounds-dropped-number c = omega (arith, c.requires.within c.loop-place.place 0 c.loop-place-test.true, c.requires.sizes)

pub index-requires : goal.index-requires
index-requires c = omega (arith, c.requires.within c.loop-place.place 0 c.loop-place-test.true, c.len.ensures, c.in_ok-named.ensures.size, c.in_ok-named.named.ok.0)

pub clause-requires : goal.clause-requires
clause-requires c = c.requires.within c.loop-place.place 0 c.loop-place-test.true

pub loop-place-preserved-then-dropped-number : goal.loop-place-preserved-then-dropped-number
loop-place-preserved-then-dropped-number c =
    candidates_skip c.args.clauses.now c.args.dropped.now c.args.learnt.now c.args.store.now c.loop-place.place c.loop-place.found.items
    (may_not_go c.args.clauses.now c.args.dropped.now c.in_ok-named.named.items c.args.learnt.now c.args.store.now c.loop-place.place (λ i l. c.in_ok-named.ensures.named i (omega (arith, l, c.len.ensures))) c.requires.within c.loop-place-test.true
    (inl c.if-dropped-number.true)) c.loop-place.invariant

-- a mark as it was read
read_mark : (marks : List Bool) (number : ℕ) (b : Bool) → number < length marks → b ≡ get_or marks number b → get_or marks number false ≡ b
read_mark marks number b l is = sym (get_or_read marks number b l is false)

pub loop-place-preserved-then-index : goal.loop-place-preserved-then-index
loop-place-preserved-then-index c =
    let here : number_at c.args.learnt.now c.loop-place.place < length c.in_ok-named.named.items = omega (arith, c.requires.within c.loop-place.place 0 c.loop-place-test.true, c.len.ensures, c.in_ok-named.ensures.size) in
    candidates_skip c.args.clauses.now c.args.dropped.now c.args.learnt.now c.args.store.now c.loop-place.place c.loop-place.found.items
    (may_not_go c.args.clauses.now c.args.dropped.now c.in_ok-named.named.items c.args.learnt.now c.args.store.now c.loop-place.place (λ i l. c.in_ok-named.ensures.named i (omega (arith, l, c.len.ensures))) c.requires.within c.loop-place-test.true
    (inr (read_mark c.in_ok-named.named.items (number_at c.args.learnt.now c.loop-place.place) c.index.result.now here c.index.ensures ∙ c.if-index.true))) c.loop-place.invariant

pub loop-place-preserved : goal.loop-place-preserved
loop-place-preserved c =
    let here : number_at c.args.learnt.now c.loop-place.place < length c.in_ok-named.named.items = omega (arith, c.requires.within c.loop-place.place 0 c.loop-place-test.true, c.len.ensures, c.in_ok-named.ensures.size) in
    let free : get_or c.in_ok-named.named.items (number_at c.args.learnt.now c.loop-place.place) false ≡ false = read_mark c.in_ok-named.named.items (number_at c.args.learnt.now c.loop-place.place) c.index.result.now here c.index.ensures ∙ c.if-index.false in
    let may =
    may_go c.args.clauses.now c.args.dropped.now c.in_ok-named.named.items c.args.learnt.now c.args.store.now c.loop-place.place (λ i l. c.in_ok-named.ensures.named i (omega (arith, l, c.len.ensures))) c.requires.within c.loop-place-test.true c.if-dropped-number.false
    free in
    subst (λ (cs : List Candidate). AreCandidatesTo c.args.clauses.now c.args.dropped.now c.args.learnt.now c.args.store.now (c.loop-place.place + 1) cs) (sym c.in_ok-push.ensures.items)
    (candidates_more c.args.clauses.now c.args.dropped.now c.args.learnt.now c.args.store.now c.loop-place.place c.loop-place.found.items _ c.in-Ok.ensures.1 (record {
      may_go = subst (MayGo c.args.clauses.now c.args.dropped.now c.args.learnt.now c.args.store.now) (sym c.in-Ok.ensures.1) may;
      rank_is = omega (arith, ap (λ (ts : List Atom). length ts) c.clause.ensures, ap (λ (n : ℕ). length (learnt_clause c.args.clauses.now c.args.learnt.now n)) c.in-Ok.ensures.1);
    }) c.loop-place.invariant)

pub returns : goal.returns
returns c = candidates_all c.args.clauses.now c.args.dropped.now c.args.learnt.now c.args.store.now c.loop-place.place c.loop-place.found.items c.loop-place-test.false c.loop-place.invariant
