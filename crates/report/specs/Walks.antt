-- What the walks over rows add. 541 by what the index finds: of the tile rows before row i, the lowest with its address.
use Rattle.std.specs.Prelude.{ℕ, ◌<◌, ◌≡◌, List}
use Rattle.octets.specs.Gather.{gather}
use Rattle.pack.specs.Rows.{Rows, Tile}
use Rattle.rules.specs.Judgments.{Judgment}
use Rattle.rules.specs.Tiles.{of541}
use Rattle.findings.specs.Findings.{Finding, found}
use Rattle.report.specs.Buffers.{Added}
use Rattle.report.specs.declared.Tally.{Tally}

unfoldable pub at541 : Rows Tile → ℕ → List Finding
at541 ts i = found 541 i (of541 ts (ts.row i) i)

-- a walk over the first n rows that adds what a rule says of each, where `says i v` holds of what it may say of row i: whatever f is that it says, the findings of f have been added
pub record Gathers (says : ℕ → Judgment → Type 0) (code n : ℕ) (b : List ℕ) (t : Tally) (b' : List ℕ) (t' : Tally) : Type 0 where
  pub added : (f : ℕ → Judgment) → ((i : ℕ) (v : Judgment) → i < n → says i v → v ≡ f i) → Added (gather n (λ i. found code i (f i))) b t b' t'
