-- `judge::matrices/of_351` meets its contract.
use Rattle.judge.proofs.Laws.{gates}
use Rattle.pack.specs.Tables.{matrix_of}
use Rattle.rules.specs.Matrices.{of351}
use Rattle.judge.proofs.matrices.of_351.Goals as goal

pub returns-then-n-k : goal.returns-then-n-k
unfolding of351 matrix_of
returns-then-n-k c = simp (← c.slice_of-matrices.ensures, ← c.slice_of-names.ensures) (search gates)

pub returns-then-is_free : goal.returns-then-is_free
unfolding of351 matrix_of
returns-then-is_free c = simp (← c.slice_of-matrices.ensures, ← c.slice_of-names.ensures, ← c.slice_of.ensures) (search gates)

pub returns-then-has_tile : goal.returns-then-has_tile
unfolding of351 matrix_of
returns-then-has_tile c = simp (← c.slice_of-matrices.ensures, ← c.slice_of-names.ensures, ← c.slice_of.ensures) (search gates)

pub returns : goal.returns
unfolding of351 matrix_of
returns c = simp (← c.slice_of-matrices.ensures, ← c.slice_of-names.ensures, ← c.slice_of.ensures) (search gates)
