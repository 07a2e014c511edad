-- `pool::join_pool` meets its contract. Assumes nothing.
use Rattle.std.proofs.Common.{◌≤◌, sym, ◌∙◌, subst, arith}
use Rattle.pool.specs.declared.Pool.{Pool}
use Rattle.pool.specs.Pool.{empty_pool, pool_of}
use Rattle.pool.proofs.Steps.{Kept, empty-start, kept-joined, kept-one, kept-full, kept-done}
use Rattle.pool.proofs.join_pool.Goals as goal
use Rattle.pool.proofs.join_pool.Goals.{then-touches, else-touches}

pub loop-q-init : goal.loop-q-init
unfolding empty_pool pool_of
loop-q-init c =
    let P : Pool → Type 0 = λ (q : Pool). (0 ≤ 0) × Kept c.in_use-q-items.result.now c.args.run c.args.run q.runs 0 0 in
    subst P (sym c.empty-next.ensures) (empty-start _ _)

pub loop-q-preserved : goal.loop-q-preserved
loop-q-preserved c =
    elim c.if-touches.branch [
      | then-touches w ↦ rw (w.run-is, w.next-is, w.used-is, w.joined-run.ensures) (omega arith, kept-joined _ _ _ _ _ _ c.loop-q.invariant.1 c.loop-q-test.true (sym c.touches.ensures ∙ w.if-touches.true))
      | else-touches w ↦ rw (w.run-is, w.next-is, w.used-is) (omega arith, kept-one _ _ _ _ _ _ c.loop-q.invariant.1 c.loop-q-test.true (omega arith) (sym c.touches.ensures ∙ w.if-touches.false))
    ]

pub returns-then-used-eq-MAX_RUNS : goal.returns-then-used-eq-MAX_RUNS
returns-then-used-eq-MAX_RUNS c =
    sym (kept-full _ _ _ _ _ _ c.loop-q.invariant.1 _ c.in_use-q-items.ensures.runs c.loop-q-test.false (omega arith))

pub returns : goal.returns
returns c =
    sym (kept-done _ _ _ _ _ _ c.loop-q.invariant.1 _ c.in_use-q-items.ensures.runs c.loop-q-test.false (omega arith))
