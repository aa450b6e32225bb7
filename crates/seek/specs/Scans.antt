-- By what a search for an address passes tiles: entry i of two columns is x and y; column and row of tile row i are; those of tile i are, wherever it stands.
use Rattle.std.specs.Prelude.{ℕ, ◌+◌, ◌*◌, List, Bool, ◌&&◌}
use Rattle.octets.specs.Octets.{le64}
use Rattle.octets.specs.Numbers.{signed, eq_z}
use Rattle.pack.specs.Tables.{tile_in}
use Rattle.pack.specs.declared.Form.{Form}

unfoldable pub is_entry : List ℕ → List ℕ → ℕ → ℕ → ℕ → Bool
is_entry columns rows x y i = eq_z (signed x) (signed (le64 columns (8 * i))) && eq_z (signed y) (signed (le64 rows (8 * i)))

unfoldable pub is_row : List ℕ → ℕ → ℕ → ℕ → Bool
is_row t x y i = eq_z (signed x) (signed (le64 t (32 * i + 16))) && eq_z (signed y) (signed (le64 t (32 * i + 24)))

unfoldable pub is_place : Form → List (List ℕ) → ℕ → ℕ → ℕ → Bool
is_place f ts x y i = eq_z (signed x) (signed (tile_in f ts i).column) && eq_z (signed y) (signed (tile_in f ts i).row)
