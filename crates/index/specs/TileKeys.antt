-- Tiles by their addresses, and by their names. Nothing is known of where they stand.
use Rattle.std.specs.Prelude.{ℕ, List, Bool, ℤ, pos}
use Rattle.octets.specs.Numbers.{signed}
use Rattle.octets.specs.Texts.{spell}
use Rattle.octets.specs.declared.Name.{Name}
use Rattle.pack.specs.Rows.{Rows, Tile}
use Rattle.pack.specs.declared.TileRow.{TileRow}
use Rattle.rules.specs.Matrices.{tile_named}
use Rattle.rules.specs.Tiles.{at_address}
use Rattle.index.specs.Hashes.{key_mix}
use Rattle.index.specs.Work.{Keyed, Entered}

-- ---- the key of tile k: its address, or its name alone
abbrev pub address_at : Rows Tile → ℕ → (List ℕ × ℤ × ℤ × ℤ)
address_at ts k = ((ts.row k).name, (ts.row k).zoom, (ts.row k).column, (ts.row k).row)

abbrev pub name_at : Rows Tile → ℕ → (List ℕ × ℤ × ℤ × ℤ)
name_at ts k = ((ts.row k).name, pos 0, pos 0, pos 0)

-- tile k answers to the key a, in the words of the rules
abbrev pub is_at : Rows Tile → (List ℕ × ℤ × ℤ × ℤ) → ℕ → Bool
is_at ts a k = at_address a.0 a.1 a.2 a.3 (ts.row k)

abbrev pub has_name : Rows Tile → (List ℕ × ℤ × ℤ × ℤ) → ℕ → Bool
has_name ts a k = tile_named a.0 (ts.row k)

-- a key as the code has it
abbrev pub address_of : List ℕ → TileRow → (List ℕ × ℤ × ℤ × ℤ)
address_of names a = (spell names a.name, signed a.zoom, signed a.column, signed a.row)

abbrev pub name_of : List ℕ → Name → (List ℕ × ℤ × ℤ × ℤ)
name_of names x = (spell names x, pos 0, pos 0, pos 0)

-- ---- what a walk asks of tile k: whether it is at the address of a, or has the name x
abbrev pub addressed : Rows Tile → List ℕ → TileRow → ℕ → Bool
addressed ts names a = is_at ts (address_of names a)

abbrev pub named : Rows Tile → List ℕ → Name → ℕ → Bool
named ts names x = has_name ts (name_of names x)

-- ---- w indexes the first n tiles, where it has heads: of the tiles with one key the lowest
abbrev pub Addresses : Rows Tile → List ℕ → ℕ → ℕ → Type 0
Addresses ts w m n = Keyed (address_at ts) (is_at ts) key_mix w m ts.count n

abbrev pub TileNames : Rows Tile → List ℕ → ℕ → ℕ → Type 0
TileNames ts w m n = Keyed (name_at ts) (has_name ts) key_mix w m ts.count n

-- tile i has been entered, and r is the lowest tile below it with its address, or i
abbrev pub AddressEntered : Rows Tile → List ℕ → ℕ → ℕ → ℕ → Type 0
AddressEntered ts w m i r = Entered (address_at ts) (is_at ts) key_mix w m ts.count i r
