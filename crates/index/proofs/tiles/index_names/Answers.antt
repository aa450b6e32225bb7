-- `index::tiles::index_names` meets its contract.
use mathlib.Core.Path.{refl}
use native.Mathlib.Omega.{arith}
use Rattle.index.specs.WorkLaws.{keyed_start}
use Rattle.index.proofs.Entering.{keyed_none, keyed_all}
use borrow.Author.Rules.{rules}
use Rattle.index.proofs.tiles.index_names.Goals as goal

pub returns-then-heads-eq0 : goal.returns-then-heads-eq0
returns-then-heads-eq0 c = keyed_none c.if-heads-eq0.true

pub loop-i-init : goal.loop-i-init
loop-i-init c = (keyed_start (rw c.tile_count-n.ensures at c.start-heads.ensures.1), refl)

pub enter_name-requires : goal.enter_name-requires
enter_name-requires c = (omega (arith, c.if-heads-eq0.false), c.loop-i.invariant.0, omega (arith, c.tile_count-n.ensures))

pub loop-i-preserved : goal.loop-i-preserved
loop-i-preserved c = (c.enter_name.ensures, search rules)

pub returns : goal.returns
returns c = keyed_all c.loop-i.invariant.0 (omega (arith, c.tile_count-n.ensures))
