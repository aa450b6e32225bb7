-- The formats of a listing, by their numbers: what the header has, and what each table has. This is all in which they differ, but for reason 8 (Refusals).
-- Tables are numbered from 1, rows from 0; there is no table 0, and past the last table stand zeros.
use Rattle.std.specs.Prelude.{ℕ, ◌+◌, ◌≡◌, [], ◌∷◌, get_or}
use Rattle.listing.specs.declared.Format.{Format}
use Rattle.listing.specs.declared.Shape.{Shape}
use Rattle.listing.specs.declared.Format.TheVariants.{Edition1, Metadata}

-- ---- the listing of document 01, edition 1
-- the octets of a row of a table
unfoldable pub row : ℕ → ℕ
row k = get_or (0 ∷ 32 ∷ 40 ∷ 48 ∷ 64 ∷ 32 ∷ 32 ∷ 1 ∷ []) k 0

-- the most rows of a table
unfoldable pub most : ℕ → ℕ
most k = get_or (0 ∷ 256 ∷ 256 ∷ 256 ∷ 4096 ∷ 262144 ∷ 1024 ∷ 1048576 ∷ []) k 0

-- where the texts of a row stand, how many there are, and how many of them, the first, may be NULL
unfoldable pub text_base : ℕ → ℕ
text_base k = get_or (0 ∷ 16 ∷ 0 ∷ 0 ∷ 0 ∷ 0 ∷ 0 ∷ []) k 0

unfoldable pub text_count : ℕ → ℕ
text_count k = get_or (0 ∷ 2 ∷ 3 ∷ 1 ∷ 1 ∷ 1 ∷ 4 ∷ []) k 0

unfoldable pub null_count : ℕ → ℕ
null_count k = get_or (0 ∷ 0 ∷ 0 ∷ 0 ∷ 0 ∷ 0 ∷ 2 ∷ []) k 0

-- ---- the sibling listing of 2026-05: "tables are numbered 11 to 13", here 1 to 3
-- "11: at most 256 rows of 16, 12: at most 4,096 rows of 64, 13: names as before"
unfoldable pub metadata_row : ℕ → ℕ
metadata_row k = get_or (0 ∷ 16 ∷ 64 ∷ 1 ∷ 0 ∷ 0 ∷ 0 ∷ 0 ∷ []) k 0

unfoldable pub metadata_most : ℕ → ℕ
metadata_most k = get_or (0 ∷ 256 ∷ 4096 ∷ 1048576 ∷ 0 ∷ 0 ∷ 0 ∷ 0 ∷ []) k 0

-- "id i64, md_scope text"; "reference_scope, table_name, column_name and timestamp texts": of these "table and column names may be NULL"
unfoldable pub metadata_base : ℕ → ℕ
metadata_base k = get_or (0 ∷ 8 ∷ 0 ∷ 0 ∷ 0 ∷ 0 ∷ 0 ∷ []) k 0

unfoldable pub metadata_texts : ℕ → ℕ
metadata_texts k = get_or (0 ∷ 1 ∷ 4 ∷ 0 ∷ 0 ∷ 0 ∷ 0 ∷ []) k 0

unfoldable pub metadata_null_from : ℕ → ℕ
metadata_null_from k = get_or (0 ∷ 0 ∷ 1 ∷ 0 ∷ 0 ∷ 0 ∷ 0 ∷ []) k 0

unfoldable pub metadata_null_end : ℕ → ℕ
metadata_null_end k = get_or (0 ∷ 0 ∷ 3 ∷ 0 ∷ 0 ∷ 0 ∷ 0 ∷ []) k 0

-- ---- any format
-- the version that the header states, and the octets of the header
abbrev pub edition : Format → ℕ
edition Edition1 = 1
edition Metadata = 1

abbrev pub header_size : Format → ℕ
header_size Edition1 = 64
header_size Metadata = 32

-- the most octets of all: header and all tables at their most
abbrev pub longest : Format → ℕ
longest Edition1 = 9762880
longest Metadata = 1314848

-- how many tables there are, the last of which holds the names; and the number by which a refusal names one
abbrev pub table_count : Format → ℕ
table_count Edition1 = 7
table_count Metadata = 3

abbrev pub table_number : Format → ℕ → ℕ
table_number Edition1 k = k
table_number Metadata k = 10 + k

-- of each table: the octets of a row, the most rows
abbrev pub row_in : Format → ℕ → ℕ
row_in Edition1 k = row k
row_in Metadata k = metadata_row k

abbrev pub most_in : Format → ℕ → ℕ
most_in Edition1 k = most k
most_in Metadata k = metadata_most k

-- where the texts of a row stand, how many there are, and which of them may be NULL: from one on, and before another
abbrev pub base_in : Format → ℕ → ℕ
base_in Edition1 k = text_base k
base_in Metadata k = metadata_base k

abbrev pub texts_in : Format → ℕ → ℕ
texts_in Edition1 k = text_count k
texts_in Metadata k = metadata_texts k

abbrev pub null_from : Format → ℕ → ℕ
null_from Edition1 k = 0
null_from Metadata k = metadata_null_from k

abbrev pub null_end : Format → ℕ → ℕ
null_end Edition1 k = null_count k
null_end Metadata k = metadata_null_end k

-- all of these as one value
pub record ShapeOf (f : Format) (k : ℕ) (x : Shape) : Type 0 where
  pub row : x.row ≡ row_in f k
  pub most : x.most ≡ most_in f k
  pub base : x.base ≡ base_in f k
  pub texts : x.texts ≡ texts_in f k
  pub null_from : x.null_from ≡ null_from f k
  pub null_end : x.null_end ≡ null_end f k

abbrev pub shape_in : Format → ℕ → Shape
shape_in f k = record { row = row_in f k; most = most_in f k; base = base_in f k; texts = texts_in f k; null_from = null_from f k; null_end = null_end f k }
