-- The tiles of a listing in columns: what the fill writes, what a call reads, and the tile rows that columns spell.
use Rattle.std.specs.Prelude.{ℕ, zero, suc, ◌+◌, ◌*◌, ◌/◌, ◌≡◌, List, [], ◌∷◌, ◌++◌, Ok, Err}
use Rattle.octets.specs.Octets.{part, word, filled}
use Rattle.octets.specs.Gather.{gather}
use Rattle.octets.specs.Slices.{nth}
use Rattle.listing.specs.Listing.{table, tables_of, rows}
use Rattle.listing.specs.Refusals.{Checked}
use Rattle.pack.specs.Rows.{Pack}
use Rattle.pack.specs.Tables.{tile_row, with_tiles, pack_in}
use Rattle.pack.specs.declared.TileRow.{TileRow}
use Rattle.pack.specs.declared.Form.TheVariants as form
use Rattle.columns.specs.Refusals.{fill_answer}

-- ---- the fill
-- the number of a tile row in column k: "the first holds the name's start times 2^32 plus its length"
abbrev pub number_in : ℕ → TileRow → ℕ
number_in zero r = 4294967296 * r.name.start + r.name.len
number_in (suc zero) r = r.zoom
number_in (suc (suc zero)) r = r.column
number_in (suc (suc (suc k))) r = r.row

-- a number as an entry: eight octets, lowest first
abbrev pub entry : ℕ → List ℕ
entry v = word v ++ word (v / 4294967296)

-- the entries of column k for the first n of the tile rows t, and for all of them
unfoldable pub entries_of : List ℕ → ℕ → ℕ → List ℕ
entries_of t k n = gather n (λ i. entry (number_in k (tile_row t i)))

unfoldable pub column : List ℕ → ℕ → List ℕ
column t k = entries_of t k (rows 5 t)

-- what is put into it: nothing where the fill is refused
abbrev pub given : Checked → List ℕ → ℕ → List ℕ
given (Ok tt) t k = column t k
given (Err e) t k = []

-- s is the listing, bs are the four columns before the fill and cs after it. "Entries past the tile count keep their values"; nothing is written on a refusal
pub record FillOf (s : List ℕ) (bs : List (List ℕ)) (r : Checked) (cs : List (List ℕ)) : Type 0 where
  pub answer : r ≡ fill_answer s bs
  pub firsts : nth cs 0 ≡ filled (given (fill_answer s bs) (table s 5) 0) (nth bs 0)
  pub zooms : nth cs 1 ≡ filled (given (fill_answer s bs) (table s 5) 1) (nth bs 1)
  pub columns : nth cs 2 ≡ filled (given (fill_answer s bs) (table s 5) 2) (nth bs 2)
  pub rows : nth cs 3 ≡ filled (given (fill_answer s bs) (table s 5) 3) (nth bs 3)

-- ---- what a report or a lookup reads: of each column as many entries as table 5 has rows
unfoldable pub read : List ℕ → List (List ℕ) → ℕ → List ℕ
read s cs k = part (nth cs k) 0 (8 * rows 5 (table s 5))

unfoldable pub column_tables : List ℕ → List (List ℕ) → List (List ℕ)
column_tables s cs = with_tiles (tables_of s) (read s cs 0) (read s cs 1) (read s cs 2) (read s cs 3)

unfoldable pub column_pack : List ℕ → List (List ℕ) → Pack
column_pack s cs = pack_in form.Columns (column_tables s cs)

-- ---- "the tile rows they spell": of each entry of the first column the start and then the length, and the other three entries as they are
unfoldable pub spelled_row : List (List ℕ) → ℕ → List ℕ
spelled_row cs i = part (nth cs 0) (8 * i + 4) 4 ++ (part (nth cs 0) (8 * i) 4 ++ gather 3 (λ k. part (nth cs (suc k)) (8 * i) 8))

unfoldable pub spelled_rows : List (List ℕ) → ℕ → List ℕ
spelled_rows cs n = gather n (spelled_row cs)

-- the tables of a listing with those rows for its table 5
unfoldable pub respelled : List ℕ → List (List ℕ) → List (List ℕ)
respelled s cs = table s 1 ∷ table s 2 ∷ table s 3 ∷ table s 4 ∷ spelled_rows cs (rows 5 (table s 5)) ∷ table s 6 ∷ table s 7 ∷ []
