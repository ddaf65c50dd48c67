-- One turn more, of a worker that has not ended, and that it leaves less to do.
use Rattle.std.proofs.Common.{◌∙◌, ℕ, IsTrue, refl, sym, subst, false, true}
use Rattle.cps_crew.specs.Workers.{HasTurned}
use Rattle.cps_crew.proofs.MemberRuns.{has_kept, lighter_in, none_taken, still_runs, turned_on}
use Rattle.cps_search.proofs.Keeps.{keeps_none, keeps_then}
use Rattle.cps_crew.proofs.member.run.Goals as goal

pub turns-init : goal.turns-init
turns-init g c = record {
  running = c.requires.running;
  turns = none_taken (g.Q.Port.rows c.args.port.now) (g.W.Member.known c.args.worker.now) (g.Q.Port.part c.args.port.now);
  kind = refl;
  keeps = keeps_none _ _ _ g.met.Q.Port.unmoved _;
  pool = refl;
  is_read = refl;
}

pub turn-requires-clause-memory : goal.turn-requires-clause-memory
turn-requires-clause-memory g c =
    let kept = has_kept (g.Q.Port.rows c.args.port.now) (g.W.Member.known c.args.worker.now) (g.W.Member.known c.turns.worker) (g.Q.Port.part c.args.port.now) (g.Q.Port.part c.turns.port) c.turns.invariant.turns in
    kept.refused ∙ c.requires.memory

pub turn-requires-clause-model : goal.turn-requires-clause-model
turn-requires-clause-model g c =
    let kept = has_kept (g.Q.Port.rows c.args.port.now) (g.W.Member.known c.args.worker.now) (g.W.Member.known c.turns.worker) (g.Q.Port.part c.args.port.now) (g.Q.Port.part c.turns.port) c.turns.invariant.turns in
    c.turns.invariant.keeps.model ∙ c.requires.model ∙ sym kept.model

pub turn-requires-clause-pool : goal.turn-requires-clause-pool
turn-requires-clause-pool g c =
    let kept = has_kept (g.Q.Port.rows c.args.port.now) (g.W.Member.known c.args.worker.now) (g.W.Member.known c.turns.worker) (g.Q.Port.part c.args.port.now) (g.Q.Port.part c.turns.port) c.turns.invariant.turns in
    c.turns.invariant.pool ∙ c.requires.pool ∙ sym kept.model

pub turn-requires-clause-reads : goal.turn-requires-clause-reads
turn-requires-clause-reads g c = let i = c.turns.invariant in λ near. subst IsTrue (sym i.is_read) (c.requires.reads (sym i.kind ∙ near))

pub turn-requires-clause-imported : goal.turn-requires-clause-imported
turn-requires-clause-imported g c =
    let kept = has_kept (g.Q.Port.rows c.args.port.now) (g.W.Member.known c.args.worker.now) (g.W.Member.known c.turns.worker) (g.Q.Port.part c.args.port.now) (g.Q.Port.part c.turns.port) c.turns.invariant.turns in
    kept.moves.imports c.requires.imported

pub turns-preserved : goal.turns-preserved
turns-preserved g c =
    let i = c.turns.invariant in
    let k = c.in_ok-over.ensures in
    let s = g.W.Member.known c.turns.worker in
    let t = g.W.Member.known c.turn.new.self in
    let p = g.Q.Port.part c.turns.port in
    let q = g.Q.Port.part c.turn.new.port in
    let rows = g.Q.Port.rows c.args.port.now in
    let turn = subst (λ (n : ℕ). HasTurned n s t p q false) i.keeps.rows (subst (HasTurned (g.Q.Port.rows c.turns.port) s t p q) c.if-over.false k.turn) in
    record {
      running = still_runs rows s t p q turn;
      turns = turned_on rows (g.W.Member.known c.args.worker.now) s t (g.Q.Port.part c.args.port.now) p q i.turns turn;
      kind = k.kind ∙ i.kind;
      keeps = keeps_then _ _ _ g.met.Q.Port.moved_on _ _ _ i.keeps k.keeps;
      pool = k.pool ∙ i.pool;
      is_read = k.is_read ∙ i.is_read;
    }

pub turns-smaller : goal.turns-smaller
turns-smaller g c =
    let s = g.W.Member.known c.turns.worker in
    let t = g.W.Member.known c.turn.new.self in
    let p = g.Q.Port.part c.turns.port in
    let q = g.Q.Port.part c.turn.new.port in
    let turn = subst (λ (n : ℕ). HasTurned n s t p q false) c.turns.invariant.keeps.rows (subst (HasTurned (g.Q.Port.rows c.turns.port) s t p q) c.if-over.false c.in_ok-over.ensures.turn) in
    lighter_in (g.Q.Port.rows c.args.port.now) s t p q turn

pub returns-then-over-clause-runs : goal.returns-then-over-clause-runs
returns-then-over-clause-runs g c =
    let i = c.turns.invariant in
    let s = g.W.Member.known c.turns.worker in
    let t = g.W.Member.known c.turn.new.self in
    let p = g.Q.Port.part c.turns.port in
    let q = g.Q.Port.part c.turn.new.port in
    record {
      before = s;
      part = p;
      turns = i.turns;
      last = subst (λ (n : ℕ). HasTurned n s t p q true) i.keeps.rows (subst (HasTurned (g.Q.Port.rows c.turns.port) s t p q) c.if-over.true c.in_ok-over.ensures.turn);
    }

pub returns-then-over-clause-keeps : goal.returns-then-over-clause-keeps
returns-then-over-clause-keeps g c = keeps_then _ _ _ g.met.Q.Port.moved_on _ _ _ c.turns.invariant.keeps c.in_ok-over.ensures.keeps
