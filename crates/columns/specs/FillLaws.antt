-- The laws of the fill: an entry is two words of a tile row, and a column is filled entry by entry.
use Prim.Native.Nat.{ℕ, zero, suc, ◌+◌, ◌*◌, ◌/◌, ◌%◌, ◌^◌, ◌<◌, ◌≤◌}
use Rattle.std.specs.Prelude.{◌≡◌, refl, Bool, true, false, ◌||◌, length}
use Rattle.std.proofs.Math.Path.{sym, ap}
use Rattle.std.proofs.Common.{◌∙◌, le_antisymm, le-div_iff_mul-le, lt-ltb}
use mathlib.Core.List.{List, [], ◌∷◌, ◌++◌}
use Rattle.std.proofs.lemmas.Bool.{false≢true}
use Rattle.std.proofs.Math.Nat.{add-mul-div_right, add-mul-mod_self_left}
use native.Mathlib.Omega.{arith}
use Rattle.std.proofs.lemmas.List.Edits.{sets}
use Rattle.octets.specs.Octets.{le32, le64, word, filled}
use Rattle.octets.specs.BufferLaws.{length-filled, filled_none, filled_more}
use Rattle.octets.specs.GatherLaws.{gather-one, gather_even}
use Rattle.octets.specs.Slices.{nth}
use Rattle.listing.specs.Listing.{row, rows}
use Rattle.listing.specs.Refusals.{Checked, checked}
use Rattle.pack.specs.Tables.{tile_at, tile_row}
use Rattle.columns.specs.Refusals.{short_reason}
use Rattle.columns.specs.Tiles.{number_in, entry, entries_of, column, given}

-- four columns of so many octets have an entry for each of the n tile rows t
pub record Room (t : List ℕ) (n a b c d : ℕ) : Type 0 where
  pub count : n ≡ rows 5 t
  pub firsts : 8 * n ≤ a
  pub zooms : 8 * n ≤ b
  pub columns : 8 * n ≤ c
  pub rows : 8 * n ≤ d

-- what the fill does with the tile rows t of an accepted listing
pub record FilledAs (t : List ℕ) (bs : List (List ℕ)) (r : Checked) (cs : List (List ℕ)) : Type 0 where
  pub answer : r ≡ checked (short_reason (rows 5 t) bs ∷ [])
  pub firsts : nth cs 0 ≡ filled (given r t 0) (nth bs 0)
  pub zooms : nth cs 1 ≡ filled (given r t 1) (nth bs 1)
  pub columns : nth cs 2 ≡ filled (given r t 2) (nth bs 2)
  pub rows : nth cs 3 ≡ filled (given r t 3) (nth bs 3)

-- column k after i of n rows: b is the column before, c as it is then
pub record Filling (t : List ℕ) (k n i : ℕ) (b c : List ℕ) : Type 0 where
  pub room : 8 * n ≤ length b
  pub within : i ≤ n
  pub is : c ≡ filled (entries_of t k i) b

-- none of four
pub or-none : (x y z w : Bool) → (x || (y || (z || w))) ≡ false → (x ≡ false) × (y ≡ false) × (z ≡ false) × (w ≡ false)
or-none true y z w e = absurd (false≢true (sym e))
or-none false true z w e = absurd (false≢true (sym e))
or-none false false true w e = absurd (false≢true (sym e))
or-none false false false w e = (refl, refl, refl, e)

-- ---- the words of an entry
-- a word has no more of a number than its lowest 32 bits
digit : (low high b m : ℕ) → 0 < b → (low + m * 256 * high * b) / b % 256 ≡ low / b % 256
digit low high b m l =
    let e : low / b + m * 256 * high ≡ low / b + 256 * (m * high) = omega arith in
    ap (λ (n : ℕ). n % 256) (add-mul-div_right low (m * 256 * high) l ∙ e) ∙ add-mul-mod_self_left (low / b) 256 (m * high)

pub word_low : (low high : ℕ) → word (low + 4294967296 * high) ≡ word low
word_low low high =
    let a : (low + 4294967296 * high) % 256 ≡ low % 256 = ap (λ (n : ℕ). n % 256) a₀ ∙ add-mul-mod_self_left low 256 (16777216 * high) in
    let b : (low + 4294967296 * high) / 256 % 256 ≡ low / 256 % 256 = ap (λ (n : ℕ). n / 256 % 256) b₀ ∙ digit low high 256 65536 (omega arith) in
    let c : (low + 4294967296 * high) / 65536 % 256 ≡ low / 65536 % 256 = ap (λ (n : ℕ). n / 65536 % 256) c₀ ∙ digit low high 65536 256 (omega arith) in
    let d : (low + 4294967296 * high) / 16777216 % 256 ≡ low / 16777216 % 256 = ap (λ (n : ℕ). n / 16777216 % 256) d₀ ∙ digit low high 16777216 1 (omega arith) in
    rw (a, b, c, d)
  where
    a₀ : low + 4294967296 * high ≡ low + 256 * (16777216 * high)
    a₀ = omega arith

    b₀ : low + 4294967296 * high ≡ low + 65536 * 256 * high * 256
    b₀ = omega arith

    c₀ : low + 4294967296 * high ≡ low + 256 * 256 * high * 65536
    c₀ = omega arith

    d₀ : low + 4294967296 * high ≡ low + 1 * 256 * high * 16777216
    d₀ = omega arith

-- "the first holds the name's start times 2^32 plus its length": two words, the lower half first
pub entry-words : (low high : ℕ) → low < 2 ^ 32 → entry (low + 4294967296 * high) ≡ word low ++ word high
entry-words low high l =
    let e : (low + 4294967296 * high) / 4294967296 ≡ high = omega arith in
    ap (λ (w : List ℕ). w ++ word ((low + 4294967296 * high) / 4294967296)) (word_low low high) ∙ ap (λ (n : ℕ). word low ++ word n) e

entry_length : (v : ℕ) → length (entry v) ≡ 8
entry_length v = refl

pub entries-length : (t : List ℕ) (k n : ℕ) → length (entries_of t k n) ≡ n * 8
unfolding entries_of
entries-length t k n = gather_even n 8 (λ i. entry (number_in k (tile_row t i))) (λ i. refl)

-- row i of the tile rows is there
pub tile-inside : (t : List ℕ) (n i : ℕ) → n ≡ rows 5 t → i < n → 32 * i + 32 ≤ length t
unfolding rows row
tile-inside t n i e l = omega (arith, (le-div_iff_mul-le {k = 32} {x = i + 1} {y = length t} (omega arith)).0 (omega arith))

-- ---- one column, entry by entry
module _ (t : List ℕ) (k n : ℕ) (b : List ℕ) where
  pub filling_none : 8 * n ≤ length b → Filling t k n 0 b b
  unfolding entries_of
  filling_none h = record { room = h; within = omega arith; is = filled_none b }

  module _ (i : ℕ) (c : List ℕ) (h : Filling t k n i b c) where
    pub filling_length : length c ≡ length b
    filling_length = ap length h.is ∙ length-filled (entries_of t k i) b (omega (arith, entries-length t k i, h.room, h.within))

    pub filling_room : i < n → 8 * i + 8 ≤ length c
    filling_room l = omega (arith, filling_length, h.room)

    pub filling_whole : n ≡ rows 5 t → n ≤ i → c ≡ filled (column t k) b
    unfolding column
    filling_whole e l = h.is ∙ ap (λ (j : ℕ). filled (entries_of t k j) b) (le_antisymm h.within l ∙ e)

    filling_next : (v : ℕ) (d : List ℕ) → i < n → d ≡ sets c (8 * i) (entry v) → v ≡ number_in k (tile_row t i) → Filling t k n (i + 1) b d
    unfolding entries_of
    filling_next v d l e f = record {
      room = h.room;
      within = omega arith;
      is = filled_more (entries_of t k i) (entry v) b c d (8 * i) h.is (omega (arith, entries-length t k i)) (omega (arith, h.room, entry_length v)) e
          ∙ ap (λ (xs : List ℕ). filled xs b) (ap (λ (w : ℕ). entries_of t k i ++ entry w) f ∙ sym (gather-one i (λ j. entry (number_in k (tile_row t j)))));
    }

-- ---- the numbers of row i, each by its two words: the start of a name stands before its length
-- the three after the name
pub number_at : (t : List ℕ) (at k : ℕ) → k < 3 → number_in (suc k) (tile_at t at) ≡ le64 t (at + 8 * suc k)
unfolding tile_at
number_at t at zero l = refl
number_at t at (suc zero) l = refl
number_at t at (suc (suc zero)) l = refl
number_at t at (suc (suc (suc k))) l = absurd (omega (arith, l))

module _ (t : List ℕ) (n i : ℕ) (e : n ≡ rows 5 t) (l : i < n) where
  pub tile-there : tile_row t i ≡ tile_at t (32 * i)
  unfolding tile_row rows row
  tile-there = simp (lt-ltb i (length t / 32) (omega (arith, e, l)))

  module _ (b c d : List ℕ) where
    pub firsts_more : Filling t 0 n i b c → d ≡ sets c (8 * i) (entry (le32 t (32 * i + 4) + 4294967296 * le32 t (32 * i + 0))) → Filling t 0 n (i + 1) b d
    unfolding tile_at
    firsts_more h f =
        let z : 32 * i + 0 ≡ 32 * i = omega arith in
        filling_next t 0 n b i c h (le32 t (32 * i + 4) + 4294967296 * le32 t (32 * i + 0)) d l f (simp z (omega arith) ∙ ap (number_in 0) (sym tile-there))

    pub numbers_more : (k : ℕ) → k < 3 → Filling t (suc k) n i b c → d ≡ sets c (8 * i) (entry (le32 t (32 * i + 8 * suc k) + 4294967296 * le32 t (32 * i + (8 * suc k + 4)))) → Filling t (suc k) n (i + 1) b d
    unfolding le64
    numbers_more k m h f =
        let z : 32 * i + (8 * suc k + 4) ≡ 32 * i + 8 * suc k + 4 = omega arith in
        filling_next t (suc k) n b i c h (le32 t (32 * i + 8 * suc k) + 4294967296 * le32 t (32 * i + (8 * suc k + 4))) d l f
        (ap (λ (at : ℕ). le32 t (32 * i + 8 * suc k) + 4294967296 * le32 t at) z ∙ sym (ap (number_in (suc k)) tile-there ∙ number_at t (32 * i) k m))
