use Rattle.std.specs.Prelude.{IfOk, IfSome, IsNone, Option, Some, None, Result, Ok, Err}
use Rattle.std.specs.List.{All, Any}
use Rattle.cps_conflict.specs.Conflicts.{NotFalseAtBottom}
use Rattle.cps_trail.specs.Trail.{IsFalseNow}
use Rattle.std.proofs.Common.{◌≡◌, refl, subst, sym}
use Rattle.cps_search.specs.Lessons.{GoesBack}
use Rattle.cps_search.specs.Shelves.{in_force_on}
use Rattle.cps_search.specs.Giving.{IsGivenConflict, IsReasonOfOne}
use Rattle.cps_search.specs.Lessons.{IsTaught, IsNewTo}
use Rattle.cps_search.specs.Exhausting.{IsConflictAtBottom}
use Rattle.cps_search.specs.Searches.{Search, IsSoundSearch, NoFreeBelow}
use Rattle.cps_search.specs.Searching.{search_of}
use Rattle.cps_search.specs.Stepping.{IsAnalysed}
use Rattle.cps_search.proofs.Results.{ok_if, if_ok_weaker}
use Rattle.cps_search.specs.Moves.{moved}
use Rattle.cps_search.proofs.SoundTurns.{analysed, none_left, rest_at, sound_went_back}
use Rattle.cps_search.proofs.ConflictStores.{given_false}
use Rattle.cps_search.proofs.searcher.Searcher.analyse.Goals as goal

-- what four facts on each lesson give
each_lesson : {A E : Type 0} (r : Result (Option A) E) (P Q R S T : A → Type 0) → ((x : A) → P x → Q x → R x → S x → T x) → IfOk r (λ o. IfSome o P) → IfOk r (λ o. IfSome o Q) → IfOk r (λ o. IfSome o R) → IfOk r (λ o. IfSome o S) → IfOk r (λ o. IfSome o T)
each_lesson (Ok (Some x)) P Q R S T f p q r s = f x p q r s
each_lesson (Ok None) P Q R S T f p q r s = tt
each_lesson (Err e) P Q R S T f p q r s = tt

pub analyse-requires-clause-subjects : goal.analyse-requires-clause-subjects
analyse-requires-clause-subjects g c =
    let s = search_of c.self.inside in
    let conflict : IsGivenConflict s.tasks (in_force_on s.base) s.store c.args.conflict.now = subst (λ (x : Search). IsGivenConflict x.tasks (in_force_on x.base) x.store c.args.conflict.now) (sym c.self.view_is) c.requires.conflict in
    (given_false s.tasks (in_force_on s.base) s.store c.args.conflict.now conflict).1

pub analyse-requires-clause-conflict : goal.analyse-requires-clause-conflict
analyse-requires-clause-conflict g c =
    let s = search_of c.self.inside in
    let conflict : IsGivenConflict s.tasks (in_force_on s.base) s.store c.args.conflict.now = subst (λ (x : Search). IsGivenConflict x.tasks (in_force_on x.base) x.store c.args.conflict.now) (sym c.self.view_is) c.requires.conflict in
    (given_false s.tasks (in_force_on s.base) s.store c.args.conflict.now conflict).0

pub analyse-requires-clause-given : goal.analyse-requires-clause-given
analyse-requires-clause-given g c = (subst (λ (x : Search). IsSoundSearch x) (sym c.self.view_is) c.requires.sound).given

pub returns-clause-back : goal.returns-clause-back
returns-clause-back g c =
    let e = c.analyse.ensures in
    ok_if c.analyse.result _ (e.back.0, subst (λ (x : Search). GoesBack x.store c.analyse.new.store e.back.0) c.self.view_is e.back.1)

pub returns-clause-sound : goal.returns-clause-sound
returns-clause-sound g c =
    let s = search_of c.self.inside in
    let sound : IsSoundSearch s = subst (λ (x : Search). IsSoundSearch x) (sym c.self.view_is) c.requires.sound in
    let n = c.analyse.new in
    let e = c.analyse.ensures in
    ok_if c.analyse.result _ (sound_went_back s n.store c.self.inside.engine.recall n.rested.tasks n.rested.clauses e.back.0 refl sound e.back.1 e.rested)

pub returns-clause-taught : goal.returns-clause-taught
returns-clause-taught g c =
    let s = search_of c.self.inside in
    let sound : IsSoundSearch s = subst (λ (x : Search). IsSoundSearch x) (sym c.self.view_is) c.requires.sound in
    let conflict : IsGivenConflict s.tasks (in_force_on s.base) s.store c.args.conflict.now = subst (λ (x : Search). IsGivenConflict x.tasks (in_force_on x.base) x.store c.args.conflict.now) (sym c.self.view_is) c.requires.conflict in
    let n = c.analyse.new in
    let e = c.analyse.ensures in
    subst (λ (x : Search). IfOk c.analyse.result (λ o. IfSome o (λ l. IsAnalysed x n.store l.clause l.assert l.back_level))) c.self.view_is
    (each_lesson c.analyse.result (λ l. IsTaught (IsReasonOfOne s.tasks s.base.clauses n.store) n.store c.args.conflict.now l.clause l.assert l.back_level) (λ l. All (IsFalseNow s.store) l.clause) (λ l. IsNewTo s.store l.clause) (λ _. Any (NotFalseAtBottom s.store) c.args.conflict.now)
    (λ l. IsAnalysed s n.store l.clause l.assert l.back_level)
    (λ l. analysed s n.store c.self.inside.engine.recall n.rested.tasks n.rested.clauses e.back.0 c.args.conflict.now refl sound e.back.1 e.rested e.sound_before e.sound conflict e.level l.clause l.assert l.back_level) e.taught e.before e.new e.open_at_bottom)

pub returns-clause-none : goal.returns-clause-none
returns-clause-none g c =
    let s = search_of c.self.inside in
    let sound : IsSoundSearch s = subst (λ (x : Search). IsSoundSearch x) (sym c.self.view_is) c.requires.sound in
    let conflict : IsGivenConflict s.tasks (in_force_on s.base) s.store c.args.conflict.now = subst (λ (x : Search). IsGivenConflict x.tasks (in_force_on x.base) x.store c.args.conflict.now) (sym c.self.view_is) c.requires.conflict in
    let n = c.analyse.new in
    let e = c.analyse.ensures in
    subst (λ (x : Search). IfOk c.analyse.result (λ o. IsNone o → NoFreeBelow x.instance.model x.z)) c.self.view_is
    (if_ok_weaker c.analyse.result _ _
    (λ o bottom none. none_left s n.store c.self.inside.engine.recall n.rested.tasks n.rested.clauses e.back.0 c.args.conflict.now refl sound e.back.1 e.rested e.sound_before e.sound conflict (bottom none) (given_false s.tasks (in_force_on s.base) s.store c.args.conflict.now conflict).1 e.conflict) e.none)

pub returns-clause-bottom : goal.returns-clause-bottom
returns-clause-bottom g c =
    let s = search_of c.self.inside in
    let conflict : IsGivenConflict s.tasks (in_force_on s.base) s.store c.args.conflict.now = subst (λ (x : Search). IsGivenConflict x.tasks (in_force_on x.base) x.store c.args.conflict.now) (sym c.self.view_is) c.requires.conflict in
    subst (λ (x : Search). IfOk c.analyse.result (λ o. IsNone o → IsConflictAtBottom x)) c.self.view_is
    (if_ok_weaker c.analyse.result _ _ (λ o bottom none. record { conflict = c.args.conflict.now; by_one = conflict; bottom = bottom none }) c.analyse.ensures.bottom)

pub returns-clause-is : goal.returns-clause-is
returns-clause-is g c =
    let s = search_of c.self.inside in
    let n = c.analyse.new in
    let rest = rest_at s c.self.inside.engine.recall n.rested.tasks n.rested.clauses in
    ok_if c.analyse.result _ (subst (λ (x : Search). moved s n.store rest ≡ moved x n.store rest) c.self.view_is refl)
