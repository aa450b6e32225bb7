-- Which index a code goes by: its plan. The lent octets are two parts; what each holds of the tables is laid down by the plan.
use Rattle.std.specs.Prelude.{ℕ, ◌/◌, List, cond, eqb, length}
use Rattle.octets.specs.Slices.{nth}
use Rattle.index.specs.declared.Kind.TheVariants.{Level, MatrixName, TilesName, SetName}
use Rattle.pack.specs.Rows.{Pack, Matrix}
use Rattle.pack.specs.Tables.{tile_count, tiles_in}
use Rattle.pack.specs.declared.Form.{Form}
use Rattle.rules.specs.Judgments.{Judgment}
use Rattle.rules.specs.Matrices.{of351}
use Rattle.index.specs.Keys.{Indexes, Shelves}
use Rattle.index.specs.TileKeys.{TileNames}
use Rattle.judge.specs.declared.Plan.{Plan}
use Rattle.judge.specs.declared.Plan.TheVariants.{Plain, Names, Sets, Levels, Steps, Sizes, Ranges}

unfoldable pub plan_of : ℕ → Plan
plan_of code =
    cond (eqb code 341) Names
    (cond (eqb code 351) Steps
    (cond (eqb code 391) Names
    (cond (eqb code 392) Sets
    (cond (eqb code 401) Sets
    (cond (eqb code 431) Names
    (cond (eqb code 432) Levels
    (cond (eqb code 441) Levels
    (cond (eqb code 451) Sets
    (cond (eqb code 452) Sets
    (cond (eqb code 531) Sizes
    (cond (eqb code 551) Ranges
    (cond (eqb code 561) Levels
    (cond (eqb code 571) Levels Plain)))))))))))))

-- what the first part w holds of the tables, with so many heads
abbrev pub Prepared : Plan → List (List ℕ) → List ℕ → ℕ → Type 0
Prepared Plain ts w heads = Unit {0}
Prepared Names ts w heads = Indexes TilesName (nth ts 1) (nth ts 6) w heads (length (nth ts 1) / 40)
Prepared Sets ts w heads = Indexes SetName (nth ts 2) (nth ts 6) w heads (length (nth ts 2) / 48)
Prepared Levels ts w heads = Indexes Level (nth ts 3) (nth ts 6) w heads (length (nth ts 3) / 64)
Prepared Steps ts w heads = Shelves Level (nth ts 3) (nth ts 6) w heads (length (nth ts 3) / 64)
Prepared Sizes ts w heads = Shelves MatrixName (nth ts 3) (nth ts 6) w heads (length (nth ts 3) / 64)
Prepared Ranges ts w heads = Indexes Level (nth ts 3) (nth ts 6) w heads (length (nth ts 3) / 64)

-- what the second part holds
abbrev pub PreparedMore : Plan → Form → List (List ℕ) → List ℕ → ℕ → Type 0
PreparedMore Plain f ts w heads = Unit {0}
PreparedMore Names f ts w heads = Unit {0}
PreparedMore Sets f ts w heads = Unit {0}
PreparedMore Levels f ts w heads = Unit {0}
PreparedMore Steps f ts w heads = TileNames (tiles_in f ts (nth ts 6)) w heads (tile_count f ts)
PreparedMore Sizes f ts w heads = Unit {0}
PreparedMore Ranges f ts w heads = Shelves MatrixName (nth ts 3) (nth ts 6) w heads (length (nth ts 3) / 64)

-- 351, the rule that goes by both, on a whole pack
abbrev pub stepped : Pack → Matrix → Judgment
stepped p m = of351 p.matrices p.tiles p.extensions m
