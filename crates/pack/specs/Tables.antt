-- What the octets of the tables mean: "fields in order". A row is first what the code reads, numbers and places of texts;
-- what that means, with the names, is a row of the pack. Tiles may stand in columns as well.
use Rattle.std.specs.Prelude.{ℕ, ◌+◌, ◌*◌, ◌/◌, List, [], ◌∷◌, false, cond, ltb, eqb, length, pos, Float, None}
use Rattle.std.specs.Float.{fin, binary64}
use Rattle.std.specs.Float.Ieee.{of_bits}
use Rattle.octets.specs.Octets.{le32, le64}
use Rattle.octets.specs.Numbers.{signed}
use Rattle.octets.specs.Slices.{nth}
use Rattle.octets.specs.Texts.{There, Null, text_at, name_at, spell, reads, octets_of}
use Rattle.octets.specs.declared.Name.{Name}
use Rattle.doubles.specs.declared.Extent.{Extent}
use Rattle.listing.specs.Listing.{tables_of}
use Rattle.pack.specs.Rows.{Rows, Reference, Content, MatrixSet, Matrix, Tile, Extension, Pack}
use Rattle.pack.specs.Columns.{entry_at, entry_count}
use Rattle.pack.specs.declared.Form.{Form}
use Rattle.pack.specs.declared.Form.TheVariants as form
use Rattle.pack.specs.declared.ReferenceRow.{ReferenceRow}
use Rattle.pack.specs.declared.ContentsRow.{ContentsRow}
use Rattle.pack.specs.declared.SetRow.{SetRow}
use Rattle.pack.specs.declared.MatrixRow.{MatrixRow}
use Rattle.pack.specs.declared.TileRow.{TileRow}
use Rattle.pack.specs.declared.ExtensionRow.{ExtensionRow}

-- ---- what stands at a place
-- a double, IEEE 754 binary64
abbrev pub double_at : List ℕ → ℕ → Float
double_at s at = of_bits binary64 (le64 s at)

-- 1: srs_id i64, organization_coordsys_id i64, organization text, definition text
unfoldable pub reference_at : List ℕ → ℕ → ReferenceRow
reference_at s at = record {
  srs_id = le64 s at;
  coordsys_id = le64 s (at + 8);
  organization = name_at s (at + 16);
  definition = name_at s (at + 24);
}

-- 2: table_name, data_type, last_change texts, srs_id i64, flag u32, spare u32
unfoldable pub contents_at : List ℕ → ℕ → ContentsRow
contents_at s at = record {
  name = name_at s at;
  data_type = name_at s (at + 8);
  last_change = name_at s (at + 16);
  srs_id = le64 s (at + 24);
  flag = le32 s (at + 32);
}

-- 3: table_name text, srs_id i64, min_x, min_y, max_x, max_y doubles
unfoldable pub extent_at : List ℕ → ℕ → Extent
extent_at s at = record {
  min_x = double_at s at;
  min_y = double_at s (at + 8);
  max_x = double_at s (at + 16);
  max_y = double_at s (at + 24);
}

unfoldable pub set_at : List ℕ → ℕ → SetRow
set_at s at = record { name = name_at s at; srs_id = le64 s (at + 8); extent = extent_at s (at + 16) }

-- 4: table_name text, zoom_level, matrix_width, matrix_height, tile_width, tile_height i64, pixel_x_size, pixel_y_size doubles
unfoldable pub matrix_at : List ℕ → ℕ → MatrixRow
matrix_at s at = record {
  name = name_at s at;
  zoom = le64 s (at + 8);
  width = le64 s (at + 16);
  height = le64 s (at + 24);
  tile_width = le64 s (at + 32);
  tile_height = le64 s (at + 40);
  pixel_x = double_at s (at + 48);
  pixel_y = double_at s (at + 56);
}

-- 5: table_name text, zoom_level, tile_column, tile_row i64
unfoldable pub tile_at : List ℕ → ℕ → TileRow
tile_at s at = record { name = name_at s at; zoom = le64 s (at + 8); column = le64 s (at + 16); row = le64 s (at + 24) }

-- 6: table_name, column_name, extension_name, scope texts
unfoldable pub extension_at : List ℕ → ℕ → ExtensionRow
extension_at s at = record { table = text_at s at; column = text_at s (at + 8); name = text_at s (at + 16); scope = text_at s (at + 24) }

-- ---- past the last row
abbrev pub no_name : Name
no_name = record { start = 0; len = 0 }

abbrev pub zero_double : Float
zero_double = fin false 0 (pos 0)

abbrev pub no_reference : ReferenceRow
no_reference = record { srs_id = 0; coordsys_id = 0; organization = no_name; definition = no_name }

abbrev pub no_contents : ContentsRow
no_contents = record { name = no_name; data_type = no_name; last_change = no_name; srs_id = 0; flag = 0 }

abbrev pub no_extent : Extent
no_extent = record { min_x = zero_double; min_y = zero_double; max_x = zero_double; max_y = zero_double }

abbrev pub no_set : SetRow
no_set = record { name = no_name; srs_id = 0; extent = no_extent }

abbrev pub no_matrix : MatrixRow
no_matrix = record { name = no_name; zoom = 0; width = 0; height = 0; tile_width = 0; tile_height = 0; pixel_x = zero_double; pixel_y = zero_double }

abbrev pub no_tile : TileRow
no_tile = record { name = no_name; zoom = 0; column = 0; row = 0 }

abbrev pub no_extension : ExtensionRow
no_extension = record { table = None; column = None; name = None; scope = None }

-- ---- row i of a table's octets
unfoldable pub reference_row : List ℕ → ℕ → ReferenceRow
reference_row t i = cond (ltb i (length t / 32)) (reference_at t (32 * i)) no_reference

unfoldable pub contents_row : List ℕ → ℕ → ContentsRow
contents_row t i = cond (ltb i (length t / 40)) (contents_at t (40 * i)) no_contents

unfoldable pub set_row : List ℕ → ℕ → SetRow
set_row t i = cond (ltb i (length t / 48)) (set_at t (48 * i)) no_set

unfoldable pub matrix_row : List ℕ → ℕ → MatrixRow
matrix_row t i = cond (ltb i (length t / 64)) (matrix_at t (64 * i)) no_matrix

unfoldable pub tile_row : List ℕ → ℕ → TileRow
tile_row t i = cond (ltb i (length t / 32)) (tile_at t (32 * i)) no_tile

unfoldable pub extension_row : List ℕ → ℕ → ExtensionRow
extension_row t i = cond (ltb i (length t / 32)) (extension_at t (32 * i)) no_extension

-- ---- tile i, wherever tiles stand
-- entry i of four columns
unfoldable pub entry_row : List ℕ → List ℕ → List ℕ → List ℕ → ℕ → TileRow
entry_row firsts zooms columns rows i = cond (ltb i (entry_count firsts zooms columns rows)) (entry_at firsts zooms columns rows (8 * i)) no_tile

-- ts are the seven tables; where tiles stand in columns, the first column is in the place of table 5, and the other three follow behind table 7
unfoldable pub tile_count : Form → List (List ℕ) → ℕ
tile_count form.Rows ts = length (nth ts 4) / 32
tile_count form.Columns ts = entry_count (nth ts 4) (nth ts 7) (nth ts 8) (nth ts 9)

unfoldable pub tile_in : Form → List (List ℕ) → ℕ → TileRow
tile_in form.Rows ts i = tile_row (nth ts 4) i
tile_in form.Columns ts i = entry_row (nth ts 4) (nth ts 7) (nth ts 8) (nth ts 9) i

-- the tables of a listing, with tiles in four slices
unfoldable pub with_tiles : List (List ℕ) → List ℕ → List ℕ → List ℕ → List ℕ → List (List ℕ)
with_tiles ts a b c d = nth ts 0 ∷ nth ts 1 ∷ nth ts 2 ∷ nth ts 3 ∷ a ∷ nth ts 5 ∷ nth ts 6 ∷ b ∷ c ∷ d ∷ []

-- ---- what a row means, with the octets of the names
unfoldable pub reference_of : List ℕ → ReferenceRow → Reference
reference_of names r = record {
  srs_id = signed r.srs_id;
  coordsys_id = signed r.coordsys_id;
  organization = spell names r.organization;
  definition = spell names r.definition;
}

unfoldable pub content_of : List ℕ → ContentsRow → Content
content_of names r = record {
  name = spell names r.name;
  data_type = spell names r.data_type;
  last_change = spell names r.last_change;
  srs_id = cond (eqb r.flag 1) (There (signed r.srs_id)) Null;
}

unfoldable pub set_of : List ℕ → SetRow → MatrixSet
set_of names r = record { name = spell names r.name; srs_id = signed r.srs_id; extent = r.extent }

unfoldable pub matrix_of : List ℕ → MatrixRow → Matrix
matrix_of names r = record {
  name = spell names r.name;
  zoom = signed r.zoom;
  width = signed r.width;
  height = signed r.height;
  tile_width = signed r.tile_width;
  tile_height = signed r.tile_height;
  pixel_x = r.pixel_x;
  pixel_y = r.pixel_y;
}

unfoldable pub tile_of : List ℕ → TileRow → Tile
tile_of names r = record { name = spell names r.name; zoom = signed r.zoom; column = signed r.column; row = signed r.row }

unfoldable pub extension_of : List ℕ → ExtensionRow → Extension
extension_of names r = record {
  table = reads names r.table;
  column = reads names r.column;
  name = octets_of names r.name;
  scope = octets_of names r.scope;
}

-- ---- the rows of a table
abbrev pub references_of : List ℕ → List ℕ → Rows Reference
references_of t names = record { count = length t / 32; row = λ i. reference_of names (reference_row t i) }

abbrev pub contents_of : List ℕ → List ℕ → Rows Content
contents_of t names = record { count = length t / 40; row = λ i. content_of names (contents_row t i) }

abbrev pub sets_of : List ℕ → List ℕ → Rows MatrixSet
sets_of t names = record { count = length t / 48; row = λ i. set_of names (set_row t i) }

abbrev pub matrices_of : List ℕ → List ℕ → Rows Matrix
matrices_of t names = record { count = length t / 64; row = λ i. matrix_of names (matrix_row t i) }

abbrev pub tiles_in : Form → List (List ℕ) → List ℕ → Rows Tile
tiles_in f ts names = record { count = tile_count f ts; row = λ i. tile_of names (tile_in f ts i) }

abbrev pub extensions_of : List ℕ → List ℕ → Rows Extension
extensions_of t names = record { count = length t / 32; row = λ i. extension_of names (extension_row t i) }

-- ---- the pack of the tables, and that of a listing
abbrev pub pack_in : Form → List (List ℕ) → Pack
pack_in f ts = record {
  references = references_of (nth ts 0) (nth ts 6);
  contents = contents_of (nth ts 1) (nth ts 6);
  sets = sets_of (nth ts 2) (nth ts 6);
  matrices = matrices_of (nth ts 3) (nth ts 6);
  tiles = tiles_in f ts (nth ts 6);
  extensions = extensions_of (nth ts 5) (nth ts 6);
}

unfoldable pub pack_of : List ℕ → Pack
pack_of s = pack_in form.Rows (tables_of s)
