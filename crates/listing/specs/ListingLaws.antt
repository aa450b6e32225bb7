-- What an accepted listing of edition 1 is: FormatLaws, and the octets of its header.
use Prim.Native.Nat.{ℕ, zero, suc, ◌+◌, ◌*◌, ◌<◌, ◌≤◌}
use Rattle.std.specs.Prelude.{◌≡◌, List, ◌++◌, true, length, take, get_or}
use Rattle.std.proofs.Math.Path.{sym}
use Rattle.std.proofs.Common.{◌∙◌, subst, append_assoc, arith}
use Rattle.octets.specs.Octets.{le32}
use Rattle.octets.specs.Gather.{gather}
use Rattle.octets.specs.GatherLaws.{gather-agree}
use Rattle.listing.specs.Listing.{row, most, version, total, count, offset, start, table, rows}
use Rattle.listing.specs.TableLaws.{row_some_in, tables-seven}
use Rattle.listing.specs.Header.{start_of, two, pair, pairs, header}
use Rattle.listing.specs.HeaderLaws.{start-read, pairs-back}
use Rattle.listing.specs.Refusals.{Reason, reasons_in, outcome, is_accepted}
use Rattle.listing.specs.ReasonLaws.{Free}
use Rattle.listing.specs.RefusalLaws.{reasons_in_lem, accepted-exactly}
use Rattle.listing.specs.FormatLaws.{count-most_in, offset_start_in, final_end_in, table_length_in, table-rows_in, header_and_tables_in, header_room_in, version_in, total_in}
use Rattle.listing.specs.declared.Format.TheVariants.{Edition1}

pub row-some : (k : ℕ) → 1 ≤ k → k ≤ 7 → 0 < row k
row-some = row_some_in Edition1

module _ (s : List ℕ) (a : is_accepted (outcome s) ≡ true) where
  free : Free (reasons_in Edition1 s)
  free = subst (λ (xs : List Reason). Free xs) (reasons_in_lem s) ((accepted-exactly s).0 a)

  pub count_most : (k : ℕ) → 1 ≤ k → k ≤ 7 → count s k ≤ most k
  count_most = count-most_in Edition1 s free

  -- the tables follow the header and each other without gaps
  pub offset-start : (k : ℕ) → 1 ≤ k → k ≤ 7 → offset s k ≡ start Edition1 s k
  offset-start = offset_start_in Edition1 s free

  pub final_end : start Edition1 s 8 ≡ length s
  final_end = final_end_in Edition1 s free

  -- whole rows, as many as the header says
  pub table-length : (k : ℕ) → k ≤ 7 → length (table s k) ≡ row k * count s k
  unfolding table
  table-length = table_length_in Edition1 s free

  pub table-rows : (k : ℕ) → 1 ≤ k → k ≤ 7 → rows k (table s k) ≡ count s k
  unfolding rows table
  table-rows = table-rows_in Edition1 s free

  -- the header and the tables are the listing
  pub header_and_tables : take 64 s ++ gather 8 (table s) ≡ s
  unfolding table
  header_and_tables = header_and_tables_in Edition1 s free

  pub listing_whole : s ≡ take 64 s ++ table s 1 ++ table s 2 ++ table s 3 ++ table s 4 ++ table s 5 ++ table s 6 ++ table s 7
  listing_whole = sym header_and_tables ∙ simp ((tables-seven s).none, append_assoc)

  -- the header is whole, of version 1, and says the length
  pub header-room : 64 ≤ length s
  header-room = header_room_in Edition1 s free

  pub version-one : version s ≡ 1
  version-one = version_in Edition1 s free

  pub total-length : total s ≡ length s
  total-length = total_in Edition1 s free

  -- and its octets are those that its counts make
  pub header-back : ((k : ℕ) → get_or s k 0 < 256) → header 1 (count s) (λ k. row k * count s k) ≡ take 64 s
  unfolding pairs two version total count offset
  header-back p = gather-agree 8 (pair 1 (count s) (λ k. row k * count s k)) (λ k. two (le32 s (8 * k)) (le32 s (8 * k + 4))) same ∙ pairs-back 8 s p header-room
    where
      same : (k : ℕ) → k < 8 → pair 1 (count s) (λ k. row k * count s k) k ≡ two (le32 s (8 * k)) (le32 s (8 * k + 4))
      same zero l =
          let e : le32 s 0 ≡ 1 = version-one in
          let f : le32 s 4 ≡ start_of (λ k. row k * count s k) 8 = total-length ∙ sym final_end ∙ start-read s 8 in
          rw (e, f)
      same (suc k) l =
          let f : le32 s (8 * suc k + 4) ≡ start_of (λ k. row k * count s k) (suc k) = offset-start (suc k) (omega arith) (omega arith) ∙ start-read s (suc k) in
          rw f
