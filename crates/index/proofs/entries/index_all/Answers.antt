-- `index::entries::index_all` meets its contract.
use mathlib.Core.Path.{refl, ◌∙◌}
use native.Mathlib.Omega.{arith}
use Rattle.index.specs.WorkLaws.{keyed_start}
use Rattle.index.proofs.Entering.{keyed_none, keyed_all}
use Rattle.index.proofs.entries.index_all.Goals as goal

pub returns-then-heads-eq0 : goal.returns-then-heads-eq0
returns-then-heads-eq0 c = (rw c.count-n.ensures at c.start-heads.ensures.0, keyed_none c.if-heads-eq0.true)

pub loop-i-init : goal.loop-i-init
loop-i-init c = (keyed_start (rw c.count-n.ensures at c.start-heads.ensures.1), refl)

pub enter-requires : goal.enter-requires
enter-requires c = (c.loop-i.invariant.0, omega (arith, c.count-n.ensures))

pub loop-i-preserved : goal.loop-i-preserved
loop-i-preserved c = let called = c.enter in (called.ensures.indexed, called.auto.work ∙ c.loop-i.invariant.1)

pub returns : goal.returns
returns c = (rw c.count-n.ensures at c.start-heads.ensures.0, keyed_all c.loop-i.invariant.0 (omega (arith, c.count-n.ensures)))
