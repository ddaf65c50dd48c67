use Rattle.std.specs.Prelude.{◌↔◌}
use Rattle.std.specs.List.{Contains}
use Rattle.std.proofs.Common.{rules, FitsSigned, w32, ◌≡◌, ◌⊎◌, ◌∙◌, ◌*◌, ◌<◌, pos, Bool, true, false, List, replicate, get_or, ap, sym, subst, arith}
use Rattle.std.proofs.lemmas.Int.{to_z-of_z}
use Rattle.std.proofs.lemmas.Result.{IfOk-weaker}
use Rattle.cps_instance.specs.Posting.{atom_of}
use Rattle.cps_search.specs.Assumptions.{is_marked, mark_of}
use Rattle.cps_search.proofs.LiteralMarks.{atom_apart, core_picked, mark_within, marks_written, none_marked}
use Rattle.cps_search.proofs.assumptions.core_by_decisions.Goals as goal

pub mark_all-requires : goal.mark_all-requires
mark_all-requires c = λ k t l.
    let rs = c.args.assumptions.now in
    let here = c.requires.decisions k t l in
    let r = get_or rs here.number (pos 0) in
    let inside : mark_of r < 2 * c.args.variables = mark_within r c.args.variables (c.requires.variables here.number (pos 0) here.within) in
    (r, here.is, omega (arith, inside, c.in_ok-marks.ensures.len, c.deref_mut-2.ensures.len))

pub returns : goal.returns
returns c =
    let rs = c.args.assumptions.now in
    let n = 2 * c.args.variables in
    let r = get_or rs c.args.failed (pos 0) in
    let fits : FitsSigned w32 r = search rules in
    let atom : c.atom_of.result ≡ atom_of r = c.atom_of.ensures ∙ ap atom_of (to_z-of_z w32 r fits) in
    let none = c.deref_mut.result.now in
    let one = c.deref_mut-2.result.now in
    let all = c.deref_mut-3.result.now in
    let kept = c.in_ok-marks.ensures in
    let empty : none ≡ replicate n false = c.deref_mut.ensures.value ∙ kept.items_if_clones_equal (λ x h. h) in
    let marked : one ≡ c.mark.new.marks = c.deref_mut-2.ensures.value ∙ marks_written c.in_ok-marks.marks.items c.mark.new.marks c.in_ok-marks.marks.len (omega (arith, c.mark.ensures.same_length, c.deref_mut.ensures.len)) in
    let whole : all ≡ c.mark_all.new.marks = c.deref_mut-3.ensures.value ∙ marks_written _ c.mark_all.new.marks c.in_ok-marks.marks.len (omega (arith, c.mark_all.ensures.same_length, c.deref_mut-2.ensures.len)) in
    IfOk-weaker c.pick.result _ _
    (λ core picked. core_picked rs c.args.failed c.args.decisions.now none one all core.items
    (λ q. ap (λ (ms : List Bool). is_marked ms q) empty ∙ none_marked n (mark_of q))
    (ap (λ (ms : List Bool). is_marked ms r) marked ∙ c.mark.ensures.here r atom)
    (λ q other. ap (λ (ms : List Bool). is_marked ms q) marked ∙ c.mark.ensures.others q (λ e. other (atom_apart q r (sym e ∙ atom))))
    (λ q. subst (λ (ms : List Bool). is_marked ms q ≡ true ↔ ((is_marked one q ≡ true) ⊎ Contains c.args.decisions.now (atom_of q))) (sym whole) (c.mark_all.ensures.marks q))
    picked) c.pick.ensures
