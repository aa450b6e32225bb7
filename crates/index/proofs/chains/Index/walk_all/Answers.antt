-- `index::chains::Index::walk_all` meets its contract.
use mathlib.Core.Path.{refl}
use Rattle.std.proofs.Common.{◌≡◌, ◌-◌, ◌%◌, cond, sym, ◌∙◌, arith}
use Rattle.index.specs.Chains.{row_range}
use Rattle.index.proofs.Walks.{print-differs}
use Rattle.index.proofs.Shelving.{shelving_start, shelving_row, shelving_print, shelving_on, shelving_less, shelvings}
use Rattle.index.proofs.chains.Index.walk_all.Goals as goal
use Rattle.index.proofs.chains.Index.walk_all.Goals.{then-x-print+then-does_pass, else-x-print, else-x-print-via-then-x-print+else-does_pass, else-x-print-via-else-x-print}

pub loop-x-init : goal.loop-x-init
loop-x-init g c = shelving_start c.requires.0 (rw c.place.ensures.0 at c.word_at-x.ensures) refl

pub overflow_sub-k : goal.overflow_sub-k
overflow_sub-k g c = omega (arith, shelving_row c.loop-x.invariant c.loop-x-test.true)

pub word_at-x-requires-in-loop-x : goal.word_at-x-requires-in-loop-x
word_at-x-requires-in-loop-x g c = omega (arith, shelving_row c.loop-x.invariant c.loop-x-test.true)

-- the best row after one more
better : (g : _) (c : goal.After-word_at-x-in-loop-x g)
    → c.if-x-print.best ≡ cond (g.R.Asked.passes c.args.rows.now (c.loop-x.x % row_range - 1)) (c.loop-x.x % row_range - 1) c.loop-x.best
better g c =
    let untold = rw (← c.print-print.ensures.0) at (shelving_print c.loop-x.invariant c.loop-x-test.true) in
    elim c.if-x-print.branch [
      | then-x-print+then-does_pass w ↦ w.best-is ∙ simp (sym w.does_pass.ensures ∙ w.if-does_pass.true)
      | else-x-print w ↦ elim w.else-x-print.branch [
        | else-x-print-via-then-x-print+else-does_pass v ↦ w.best-is ∙ simp (sym v.does_pass.ensures ∙ v.if-does_pass.false)
        | else-x-print-via-else-x-print v ↦ w.best-is ∙ simp (sym (print-differs _ _ _ untold v.if-x-print.false))
      ]
    ]

pub loop-x-smaller : goal.loop-x-smaller
loop-x-smaller g c = shelving_less c.loop-x.invariant c.loop-x-test.true c.word_at-x-in-loop-x.ensures (better g c)

pub loop-x-preserved : goal.loop-x-preserved
loop-x-preserved g c = shelving_on c.loop-x.invariant c.loop-x-test.true c.word_at-x-in-loop-x.ensures (better g c)

pub returns : goal.returns
returns g c = search shelvings
