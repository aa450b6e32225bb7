-- A pack: what the tables of a listing say. Every rule is on this alone: no octet of a listing, no offset and no buffer stands in it.
use Rattle.std.specs.Prelude.{ℕ, List, [], ◌∷◌, get_or, ℤ, Float}
use Rattle.octets.specs.Texts.{Nullable}
use Rattle.doubles.specs.declared.Extent.{Extent}

-- some rows: how many there are, and the row at each number. Past the last stands a fixed blank, which no rule looks at
pub record Rows (A : Type 0) : Type 0 where
  pub count : ℕ
  pub row : ℕ → A

-- 1: reference systems
pub record Reference : Type 0 where
  pub srs_id : ℤ
  pub coordsys_id : ℤ
  pub organization : List ℕ
  pub definition : List ℕ

-- 2: contents. "The contents flag is 1 where srs_id is present; 0 means NULL"
pub record Content : Type 0 where
  pub name : List ℕ
  pub data_type : List ℕ
  pub last_change : List ℕ
  pub srs_id : Nullable ℤ

-- 3: matrix sets. "Four corner values travel together as one extent"
pub record MatrixSet : Type 0 where
  pub name : List ℕ
  pub srs_id : ℤ
  pub extent : Extent

-- 4: matrices
pub record Matrix : Type 0 where
  pub name : List ℕ
  pub zoom : ℤ
  pub width : ℤ
  pub height : ℤ
  pub tile_width : ℤ
  pub tile_height : ℤ
  pub pixel_x : Float
  pub pixel_y : Float

-- 5: tiles
pub record Tile : Type 0 where
  pub name : List ℕ
  pub zoom : ℤ
  pub column : ℤ
  pub row : ℤ

-- 6: extensions. "NULL, allowed only for table_name and column_name in table 6"
pub record Extension : Type 0 where
  pub table : Nullable (List ℕ)
  pub column : Nullable (List ℕ)
  pub name : List ℕ
  pub scope : List ℕ

pub record Pack : Type 0 where
  pub references : Rows Reference
  pub contents : Rows Content
  pub sets : Rows MatrixSet
  pub matrices : Rows Matrix
  pub tiles : Rows Tile
  pub extensions : Rows Extension

-- how many rows a table has, by its number
unfoldable pub rows_in : Pack → ℕ → ℕ
rows_in p k =
    get_or
    (0 ∷ p.references.count ∷ p.contents.count ∷ p.sets.count ∷ p.matrices.count ∷ p.tiles.count ∷ p.extensions.count ∷ [])
    k 0
