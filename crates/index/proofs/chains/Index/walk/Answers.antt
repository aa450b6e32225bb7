-- `index::chains::Index::walk` meets its contract.
use Rattle.std.proofs.Common.{◌≡◌, ◌-◌, ◌%◌, false, sym, ◌∙◌, arith}
use mathlib.Core.Path.{refl}
use Rattle.index.specs.Chains.{row_range}
use Rattle.index.proofs.Walks.{print-differs, walking_row, walking_print, walking_on, walking_less, walks}
use Rattle.index.proofs.chains.Index.walk.Goals as goal
use Rattle.index.proofs.chains.Index.walk.Goals.{else-x-print-via-then-x-print+else-does_pass, else-x-print-via-else-x-print}

pub loop-x-init : goal.loop-x-init
loop-x-init g c = search (rw c.place.ensures.0 at c.word_at-x.ensures, walks)

pub overflow_sub-k : goal.overflow_sub-k
overflow_sub-k g c = omega (arith, walking_row c.loop-x.invariant c.loop-x-test.true)

pub returns-then-does_pass : goal.returns-then-does_pass
returns-then-does_pass g c = search walks

pub word_at-x-requires-in-loop-x : goal.word_at-x-requires-in-loop-x
word_at-x-requires-in-loop-x g c = omega (arith, walking_row c.loop-x.invariant c.loop-x-test.true)

-- the row that is left behind does not pass
fails : (g : _) (c : goal.After-word_at-x-in-loop-x g) → false ≡ g.R.Asked.passes c.args.rows.now (c.loop-x.x % row_range - 1)
fails g c = elim c.else-x-print.branch [
  | else-x-print-via-then-x-print+else-does_pass w ↦ sym w.if-does_pass.false ∙ w.does_pass.ensures
  | else-x-print-via-else-x-print w ↦ print-differs _ _ _ (rw (← c.print-print.ensures.0) at (walking_print c.loop-x.invariant c.loop-x-test.true)) w.if-x-print.false
]

pub loop-x-smaller : goal.loop-x-smaller
loop-x-smaller g c = walking_less c.loop-x.invariant c.loop-x-test.true (fails g c) refl c.word_at-x-in-loop-x.ensures

pub loop-x-preserved : goal.loop-x-preserved
loop-x-preserved g c = walking_on c.loop-x.invariant c.loop-x-test.true (fails g c) refl c.word_at-x-in-loop-x.ensures

pub returns : goal.returns
returns g c = search walks
