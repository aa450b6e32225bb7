-- `index::work::start` meets its contract.
use native.Mathlib.Omega.{arith}
use Rattle.index.proofs.Words.{heads_fit, ready_clear}
use Rattle.index.proofs.work.start.Goals as goal

pub clear-requires : goal.clear-requires
clear-requires c = omega (arith, heads_fit _ _ _ c.heads_for-heads.ensures c.if-heads-eq0.false)

pub returns : goal.returns
returns c = let m = c.heads_for-heads.ensures in
    let called = c.clear in
    (m, ready_clear _ _ _ _ called.auto.w m called.ensures)
