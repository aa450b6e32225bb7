-- Tiles in "four columns of signed 64-bit numbers": an entry of each is a tile. A column is octets, eight an entry; what stands past the last whole entry is not read.
use Rattle.std.specs.Prelude.{ℕ, ◌/◌, ◌%◌, min, List, length}
use Rattle.octets.specs.Octets.{le64}
use Rattle.octets.specs.declared.Name.{Name}
use Rattle.pack.specs.declared.TileRow.{TileRow}

-- how many entries a column has
unfoldable pub entries : List ℕ → ℕ
entries c = length c / 8

-- "the first holds the name's start times 2^32 plus its length"
abbrev pub name_of : ℕ → Name
name_of first = record { start = first / 4294967296; len = first % 4294967296 }

-- the others have zoom_level, tile_column and tile_row, as they stand in table 5
unfoldable pub entry_at : List ℕ → List ℕ → List ℕ → List ℕ → ℕ → TileRow
entry_at firsts zooms columns rows at = record { name = name_of (le64 firsts at); zoom = le64 zooms at; column = le64 columns at; row = le64 rows at }

-- how many tiles four columns have: as many as the shortest has entries
unfoldable pub entry_count : List ℕ → List ℕ → List ℕ → List ℕ → ℕ
entry_count firsts zooms columns rows = min (min (entries firsts) (entries zooms)) (min (entries columns) (entries rows))
