-- The laws of the parts: how long they are, and that the reader finds each of them in the listing that they make.
use Prim.Native.Nat.{ℕ, zero, suc, ◌+◌, ◌*◌, ◌^◌, ◌<◌, ◌≤◌}
use Rattle.std.specs.Prelude.{◌≡◌, true, ltb, get_or}
use Rattle.std.proofs.Math.Path.{sym, ap, fun_ext}
use Rattle.std.proofs.Common.{◌∙◌, subst, lt_of_not-le, ltb-false, length-append}
use mathlib.Core.List.{List, [], ◌++◌, append_assoc}
use Rattle.std.proofs.Math.Nat.{zero-mul, mul-le-mul_left}
use Rattle.std.proofs.Math.Decide.{dec_le}
use native.Mathlib.Omega.{arith}
use Rattle.std.proofs.Math.ListN.{length}
use Rattle.octets.specs.Octets.{part}
use Rattle.octets.specs.BufferLaws.{part-between}
use Rattle.octets.specs.Search.{first}
use Rattle.octets.proofs.SearchLaws.{first-lowest}
use Rattle.octets.specs.Gather.{gather}
use Rattle.octets.specs.GatherLaws.{gather-around}
use Rattle.listing.specs.Listing.{row, most, count, offset, start, table, rows}
use Rattle.listing.specs.TableLaws.{Seven, Short, tables-seven}
use Rattle.listing.specs.ListingLaws.{table-length, table-rows, count_most, header_and_tables, header-back}
use Rattle.listing.specs.Header.{start_of, header}
use Rattle.listing.specs.HeaderLaws.{start-gather, start-agree, start-read, start_grows, header-length, count-read, offset_read, header-agree}
use Rattle.listing.specs.Refusals.{outcome, is_accepted}
use Rattle.listing.specs.declared.Format.TheVariants.{Edition1}
use Rattle.writer.specs.Parts.{size_of, count_of, joined, written}

-- each part is whole rows, at most its most, and there is none at 0
pub record Sized (ps : ℕ → List ℕ) : Type 0 where
  pub none : ps 0 ≡ []
  pub whole : (k : ℕ) → 1 ≤ k → k ≤ 7 → length (ps k) ≡ row k * rows k (ps k)
  pub few : (k : ℕ) → 1 ≤ k → k ≤ 7 → rows k (ps k) ≤ most k

-- ---- how long they are
most-small : (k : ℕ) → k ≤ 7 → most k ≤ 4294967295
unfolding first most
most-small k h = ltb-false 4294967295 (most k) ((first-lowest (λ j. ltb 4294967295 (most j)) 8).below k (omega arith))

pub written-length : (ps : ℕ → List ℕ) → length (written ps) ≡ start_of (size_of ps) 8
unfolding written size_of joined
written-length ps = length-append (header 1 (count_of ps) (size_of ps)) (gather 8 ps) ∙ ap (λ (n : ℕ). n + length (gather 8 ps)) (header-length 1 (count_of ps) (size_of ps)) ∙ sym (start-gather ps 8)

-- each part stands at its start, behind any header of 64 octets
pub part-joined : (h : List ℕ) (ps : ℕ → List ℕ) (k : ℕ) → k ≤ 7 → length h ≡ 64 → part (h ++ joined ps 8) (start_of (size_of ps) k) (size_of ps k) ≡ ps k
unfolding size_of joined
part-joined h ps k l e =
    let g = gather-around k 8 ps (omega arith) in
    let q : start_of (size_of ps) k ≡ length (h ++ gather k ps) = start-gather ps k ∙ sym (length-append h (gather k ps) ∙ ap (λ (n : ℕ). n + length (gather k ps)) e) in
    ap (λ (n : ℕ). part (h ++ gather 8 ps) n (length (ps k))) q
    ∙ ap (λ (xs : List ℕ). part (h ++ xs) (length (h ++ gather k ps)) (length (ps k))) g.1
    ∙ ap (λ (xs : List ℕ). part xs (length (h ++ gather k ps)) (length (ps k))) (sym (append_assoc h (gather k ps) (ps k ++ g.0)))
    ∙ part-between (h ++ gather k ps) (ps k) g.0

module _ (ps : ℕ → List ℕ) (w : Sized ps) where
  size-most : (k : ℕ) → 1 ≤ k → k ≤ 7 → size_of ps k ≤ row k * most k
  unfolding size_of
  size-most k l h = omega (arith, w.whole k l h, mul-le-mul_left (row k) (w.few k l h))

  size_none : size_of ps 0 ≡ 0
  unfolding size_of
  size_none = ap length w.none

  -- "2 can't occur": the sum of all tables at their most
  pub start-most : start_of (size_of ps) 8 ≤ 9762880
  unfolding start_of row most
  start-most =
      omega (
        arith,
        size_none,
        size-most 1 (omega arith) (omega arith),
        size-most 2 (omega arith) (omega arith),
        size-most 3 (omega arith) (omega arith),
        size-most 4 (omega arith) (omega arith),
        size-most 5 (omega arith) (omega arith),
        size-most 6 (omega arith) (omega arith),
        size-most 7 (omega arith) (omega arith),
      )

  pub count_small : (k : ℕ) → 1 ≤ k → k ≤ 7 → count_of ps k < 2 ^ 32
  unfolding count_of
  count_small k l h = omega (arith, w.few k l h, most-small k h)

  pub start_small : (k : ℕ) → k ≤ 8 → start_of (size_of ps) k < 2 ^ 32
  start_small k h = omega (arith, start_grows (size_of ps) k 8 h, start-most)

  pub size_small : (k : ℕ) → k ≤ 7 → size_of ps k < 2 ^ 32
  unfolding start_of
  size_small k h = omega (arith, start_small (suc k) (omega arith))

  pub sized-short : Short ps
  unfolding size_of
  sized-short = record { short = size_small }

-- ---- the reader finds them
module _ (ps : ℕ → List ℕ) (v : Seven ps) (w : Sized ps) where
  pub written-most : length (written ps) ≤ 9762880
  written-most = omega (arith, written-length ps, start-most ps w)

  pub count-written : (k : ℕ) → 1 ≤ k → k ≤ 7 → count (written ps) k ≡ count_of ps k
  unfolding written joined
  count-written k l h = count-read 1 (count_of ps) (size_of ps) k (gather 8 ps) l h (count_small ps w k l h)

  pub offset-written : (k : ℕ) → 1 ≤ k → k ≤ 7 → offset (written ps) k ≡ start_of (size_of ps) k
  unfolding written joined
  offset-written k l h = offset_read 1 (count_of ps) (size_of ps) k (gather 8 ps) l h (start_small ps w k (omega arith))

  taken : (k : ℕ) → k < 8 → row k * count (written ps) k ≡ size_of ps k
  unfolding row size_of count_of
  taken zero l = zero-mul (count (written ps) 0) ∙ sym (ap length v.none)
  taken (suc k) l = ap (λ (n : ℕ). row (suc k) * n) (count-written (suc k) (omega arith) (omega arith)) ∙ sym (w.whole (suc k) (omega arith) (omega arith))

  pub start-written : (k : ℕ) → k ≤ 8 → start Edition1 (written ps) k ≡ start_of (size_of ps) k
  start-written k h = start-read (written ps) k ∙ start-agree (λ j. row j * count (written ps) j) (size_of ps) k (λ j l. taken j (omega arith))

  inside : (k : ℕ) → 1 ≤ k → k ≤ 7 → table (written ps) k ≡ ps k
  unfolding table written
  inside k l h =
      ap (λ (n : ℕ). part (written ps) (offset (written ps) k) n) (taken k (omega arith))
      ∙ ap (λ (n : ℕ). part (written ps) n (size_of ps k)) (offset-written k l h)
      ∙ part-joined (header 1 (count_of ps) (size_of ps)) ps k h (header-length 1 (count_of ps) (size_of ps))

  pub tables-written : table (written ps) ≡ ps
  tables-written = fun_ext (λ k. elim (dec_le 1 k) [
    | yes l ↦ elim (dec_le k 7) [
      | yes h ↦ inside k l h
      | no g ↦ let m : 8 ≤ k = lt_of_not-le g in (tables-seven (written ps)).past k m ∙ sym (v.past k m)
    ]
    | no g ↦
        let z : k ≡ 0 = omega (arith, lt_of_not-le g) in
        subst (λ (j : ℕ). table (written ps) j ≡ ps j) (sym z) ((tables-seven (written ps)).none ∙ sym v.none)
  ])

-- ---- the tables of an accepted listing
module _ (s : List ℕ) (a : is_accepted (outcome s) ≡ true) where
  pub tables-sized : Sized (table s)
  tables-sized = record {
    none = (tables-seven s).none;
    whole = λ k l h. table-length s a k h ∙ ap (λ (n : ℕ). row k * n) (sym (table-rows s a k l h));
    few = λ k l h. subst (λ (n : ℕ). n ≤ most k) (sym (table-rows s a k l h)) (count_most s a k l h);
  }

  sizes : (k : ℕ) → k < 8 → size_of (table s) k ≡ row k * count s k
  unfolding size_of
  sizes k l = table-length s a k (omega arith)

  counts : (k : ℕ) → 1 ≤ k → k < 8 → count_of (table s) k ≡ count s k
  unfolding count_of
  counts k l h = table-rows s a k l (omega arith)

  alike : header 1 (count_of (table s)) (size_of (table s)) ≡ header 1 (count s) (λ k. row k * count s k)
  alike = header-agree 1 (count_of (table s)) (count s) (size_of (table s)) (λ k. row k * count s k) counts sizes

  -- they make the same octets again
  pub written_back : ((k : ℕ) → get_or s k 0 < 256) → written (table s) ≡ s
  unfolding written joined
  written_back p = ap (λ (h : List ℕ). h ++ gather 8 (table s)) (alike ∙ header-back s a p) ∙ header_and_tables s a
