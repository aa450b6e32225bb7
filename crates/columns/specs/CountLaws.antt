-- Columns have no more tiles than table 5 has rows, so no entry has the number that means none.
use Prim.Native.Nat.{ℕ, zero, suc, ◌*◌, ◌/◌, ◌≤◌}
use Rattle.std.specs.Prelude.{◌≡◌, List, true, length}
use native.Mathlib.Omega.{arith}
use Rattle.octets.specs.RunLaws.{part-most}
use Rattle.octets.specs.Slices.{nth}
use Rattle.listing.specs.Listing.{table, tables_of, rows, row}
use Rattle.listing.specs.Refusals.{is_accepted}
use Rattle.pack.specs.Columns.{entries, entry_count}
use Rattle.pack.specs.Rows.{rows_in}
use Rattle.pack.specs.Tables.{tile_count, with_tiles, pack_of}
use Rattle.pack.specs.PackLaws.{rows-numbered}
use Rattle.columns.specs.Refusals.{column_outcome}
use Rattle.columns.specs.Tiles.{read, column_tables, column_pack}
use Rattle.columns.specs.ColumnRefusalLaws.{accepted_listing}

module _ (s : List ℕ) (cs : List (List ℕ)) where
  rows_fewer : (k : ℕ) → rows_in (column_pack s cs) k ≤ rows_in (pack_of s) k
  unfolding column_pack column_tables with_tiles pack_of tables_of nth rows_in tile_count entry_count entries read rows row
  rows_fewer zero = omega arith
  rows_fewer (suc zero) = omega arith
  rows_fewer (suc (suc zero)) = omega arith
  rows_fewer (suc (suc (suc zero))) = omega arith
  rows_fewer (suc (suc (suc (suc zero)))) = omega arith
  rows_fewer (suc (suc (suc (suc (suc zero))))) = omega (arith, part-most (nth cs 0) 0 (8 * (length (table s 5) / 32)))
  rows_fewer (suc (suc (suc (suc (suc (suc zero)))))) = omega arith
  rows_fewer (suc (suc (suc (suc (suc (suc (suc k))))))) = omega arith

  pub columns-numbered : is_accepted (column_outcome s cs) ≡ true → (k : ℕ) → rows_in (column_pack s cs) k ≤ 4294967295
  columns-numbered a k = omega (arith, rows_fewer k, rows-numbered s (accepted_listing s cs a) k)
