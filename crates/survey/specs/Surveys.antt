-- A look over a pack before its report: of which codes there is no finding, so that their rows need not be judged one by one.
use Rattle.std.specs.Prelude.{ℕ, ◌<◌, ◌≡◌, Bool, false, None, cond, not, ◌&&◌, eqb}
use Rattle.pack.specs.Rows.{Rows, Content, Matrix, Tile, Pack}
use Rattle.rules.specs.Judgments.{lowest, first_row, Judgment}
use Rattle.rules.specs.Matrices.{at_level, breaks351, of431}
use Rattle.rules.specs.Tiles.{of441, off561, off571, placed}
use Rattle.survey.specs.declared.Survey.{Survey}

-- what is judged of each row: 351 but for its gates, 431, 441, 561 and 571
unfoldable pub step_at : Rows Matrix → ℕ → Judgment
step_at ms i = lowest (breaks351 (ms.row i)) ms ms.count

unfoldable pub named_at : Rows Content → Rows Matrix → ℕ → Judgment
named_at cs ms i = of431 cs (ms.row i)

unfoldable pub level_at : Rows Matrix → Rows Tile → ℕ → Judgment
level_at ms ts i = of441 ms (ts.row i)

unfoldable pub placed_at : (Tile → Matrix → Bool) → Rows Matrix → Rows Tile → ℕ → Judgment
placed_at off ms ts i = placed off ms (ts.row i) (first_row (at_level (ts.row i).name (ts.row i).zoom) ms)

-- whether a finding has been seen: where none has, all n rows are clean
pub record Quiet (f : ℕ → Judgment) (n : ℕ) (seen : Bool) : Type 0 where
  pub clean : seen ≡ false → (i : ℕ) → i < n → f i ≡ None

pub record Surveyed (p : Pack) (s : Survey) : Type 0 where
  pub steps : Quiet (step_at p.matrices) p.matrices.count s.steps
  pub names : Quiet (named_at p.contents p.matrices) p.matrices.count s.names
  pub levels : Quiet (level_at p.matrices p.tiles) p.tiles.count s.levels
  pub columns : Quiet (placed_at off561 p.matrices p.tiles) p.tiles.count s.columns
  pub rows : Quiet (placed_at off571 p.matrices p.tiles) p.tiles.count s.rows

-- a code of a table has no finding on a row, as far as the survey tells
unfoldable pub quiet_tile : Survey → ℕ → Bool
quiet_tile s code =
    cond (eqb code 341) (not s.names && not s.levels)
    (cond (eqb code 441) (not s.levels)
    (cond (eqb code 551) (not s.levels)
    (cond (eqb code 561) (not s.columns)
    (cond (eqb code 571) (not s.rows) false))))

unfoldable pub quiet_matrix : Survey → ℕ → Bool
quiet_matrix s code = cond (eqb code 351) (not s.steps) (cond (eqb code 431) (not s.names) false)

unfoldable pub quiet_by : Survey → ℕ → ℕ → Bool
quiet_by s code table = cond (eqb table 5) (quiet_tile s code) (cond (eqb table 4) (quiet_matrix s code) false)
