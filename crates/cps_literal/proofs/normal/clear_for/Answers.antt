-- An atom that implies one that is kept is not added; those that imply it go, and below another subject none does.
use Rattle.std.proofs.Common.{arith, refl, sym, ◌++◌, ◌∷◌, [], true≢false, ◌-◌, ◌<◌, length, get_or}
use Rattle.cps_literal.proofs.Normalizing.{none, read_is, included_none, included_pass, included_already, included_remove, included_push, free_below, free_all}
use Rattle.cps_literal.proofs.normal.clear_for.Goals as goal

pub returns-then-implies-clause-implied : goal.returns-then-implies-clause-implied
returns-then-implies-clause-implied c = λ e.
    let s = c.loop-place.invariant.so_far in
    let p : c.loop-place.place - 1 < length c.loop-place.kept.items = omega (arith, s.inside) in
    included_already c.args.kept.now.items c.loop-place.kept.items c.args.atom (get_or c.as_slice.result.now (c.loop-place.place - 1) none) c.loop-place.place (c.loop-place.place - 1) p
    (read_is c.as_slice.result.now c.loop-place.kept.items (c.loop-place.place - 1) c.as_slice.ensures p) (c.if-implies.ensures.0 refl) s

pub loop-place-preserved-then-implies-2 : goal.loop-place-preserved-then-implies-2
loop-place-preserved-then-implies-2 c =
    let s = c.loop-place.invariant.so_far in
    let p : c.loop-place.place - 1 < length c.loop-place.kept.items = omega (arith, s.inside) in
    record {
      so_far = included_remove c.args.kept.now.items c.loop-place.kept.items c.remove.new.self.items c.args.atom (get_or c.as_slice.result.now (c.loop-place.place - 1) none) c.loop-place.place (c.loop-place.place - 1) (omega arith)
          (read_is c.as_slice.result.now c.loop-place.kept.items (c.loop-place.place - 1) c.as_slice.ensures p) (c.if-implies-2.ensures.0 refl) c.remove.ensures.items s;
      len = omega (arith, c.remove.ensures.len);
      capacity = omega (arith, c.remove.ensures.capacity);
    }

pub returns-then-implies-clause-added : goal.returns-then-implies-clause-added
returns-then-implies-clause-added c = λ e. absurd (true≢false (sym e))

pub returns-after-loop-place-clause-added : goal.returns-after-loop-place-clause-added
returns-after-loop-place-clause-added c = λ e.
    let s = c.loop-place.invariant.so_far in
    included_push c.args.kept.now.items c.loop-place.kept.items (c.loop-place.kept.items ++ (c.args.atom ∷ [])) c.args.atom
    (free_all c.args.kept.now.items c.loop-place.kept.items c.args.atom c.loop-place.place (omega (arith, c.loop-place-test.false)) s)
    c.requires.sorted refl c.loop-place.place s

pub returns-then-other-atom-clause-added : goal.returns-then-other-atom-clause-added
returns-then-other-atom-clause-added c = λ e.
    let s = c.loop-place.invariant.so_far in
    let p : c.loop-place.place - 1 < length c.loop-place.kept.items = omega (arith, s.inside, c.loop-place-test.true) in
    let is = read_is c.as_slice.result.now c.loop-place.kept.items (c.loop-place.place - 1) c.as_slice.ensures p in
    included_push c.args.kept.now.items c.loop-place.kept.items (c.loop-place.kept.items ++ (c.args.atom ∷ [])) c.args.atom
    (free_below c.args.kept.now.items c.loop-place.kept.items c.args.atom (get_or c.as_slice.result.now (c.loop-place.place - 1) none) c.loop-place.place (c.loop-place.place - 1) (omega (arith, c.loop-place-test.true)) is
    c.if-other-atom.true c.requires.sorted s)
    c.requires.sorted refl c.loop-place.place s

pub loop-place-init : goal.loop-place-init
loop-place-init c = record {
  so_far = included_none c.args.kept.now.items c.args.atom c.len-place.result (omega (arith, c.len-place.ensures)) c.requires.normal;
  len = omega arith;
  capacity = omega arith;
}

pub loop-place-preserved : goal.loop-place-preserved
loop-place-preserved c =
    let s = c.loop-place.invariant.so_far in
    let p : c.loop-place.place - 1 < length c.loop-place.kept.items = omega (arith, s.inside) in
    record {
      so_far = included_pass c.args.kept.now.items c.loop-place.kept.items c.args.atom (get_or c.as_slice.result.now (c.loop-place.place - 1) none) c.loop-place.place (c.loop-place.place - 1) (omega arith)
          (read_is c.as_slice.result.now c.loop-place.kept.items (c.loop-place.place - 1) c.as_slice.ensures p) (λ i. true≢false (sym (c.if-implies.ensures.1 i))) (λ i. true≢false (sym (c.if-implies-2.ensures.1 i))) s;
      len = c.loop-place.invariant.len;
      capacity = c.loop-place.invariant.capacity;
    }
