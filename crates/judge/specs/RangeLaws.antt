-- 551: a tile whose name and zoom have a matrix row is inside the range.
use Rattle.std.specs.Prelude.{ℕ, ◌<◌, ◌≡◌, true, false, ℤ, pos, negsuc, None}
use Rattle.std.proofs.Math.Bool.{and-eq-true_iff}
use Rattle.std.proofs.Common.{arith, le-ltb}
use Rattle.std.specs.Int.Signed.{lt_z}
use Rattle.octets.specs.Numbers.{eq_z}
use Rattle.octets.specs.NumberLaws.{eq_z_true}
use Rattle.octets.specs.Search.{first}
use Rattle.octets.proofs.SearchLaws.{first-lowest, any_some}
use Rattle.pack.specs.Rows.{Rows, Matrix, Tile}
use Rattle.rules.specs.Matrices.{matrix_named, at_level}
use Rattle.rules.specs.Tiles.{at_most, at_least, of551}

irreflexive : (z : ℤ) → lt_z z z ≡ false
irreflexive (pos n) = le-ltb n n (omega arith)
irreflexive (negsuc n) = le-ltb n n (omega arith)

module _ (t : Tile) (q : Matrix) (e : at_level t.name t.zoom q ≡ true) where
  parts : (matrix_named t.name q ≡ true) × (eq_z t.zoom q.zoom ≡ true)
  unfolding at_level
  parts = (and-eq-true_iff (matrix_named t.name q) (eq_z t.zoom q.zoom)).0 e

  level-most : at_most t q ≡ true
  unfolding at_most
  level-most = simp (parts.0, ← eq_z_true t.zoom q.zoom parts.1, irreflexive t.zoom)

  level-least : at_least t q ≡ true
  unfolding at_least
  level-least = simp (parts.0, ← eq_z_true t.zoom q.zoom parts.1, irreflexive t.zoom)

pub inside_551 : (ms : Rows Matrix) (t : Tile) (k : ℕ) → k ≡ first (λ j. at_level t.name t.zoom (ms.row j)) ms.count → k < ms.count → None ≡ of551 ms t
unfolding of551
inside_551 ms t k f l =
    let e = rw (← f) at ((first-lowest (λ j. at_level t.name t.zoom (ms.row j)) ms.count).here (rw f at l)) in
    simp (
      any_some (λ j. matrix_named t.name (ms.row j)) ms.count k l (parts t (ms.row k) e).0,
      any_some (λ j. at_most t (ms.row j)) ms.count k l (level-most t (ms.row k) e),
      any_some (λ j. at_least t (ms.row j)) ms.count k l (level-least t (ms.row k) e),
    )
