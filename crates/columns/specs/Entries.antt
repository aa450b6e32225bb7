-- Entries of the first column as the code meets them: those that spell a text of ASCII octets are passed a block at a time, others whose text is clear one by one, and repetitions of the last of these a block at a time.
use Rattle.std.specs.Prelude.{ℕ, ◌+◌, ◌*◌, ◌/◌, ◌%◌, ◌<◌, ◌≤◌, ◌≡◌, List, Bool, false, not, ltb, eqb}
use Rattle.octets.specs.Octets.{le32, le64}
use Rattle.octets.specs.SearchLaws.{Seeking}
use Rattle.utf8.specs.MarkLaws.{Clear}

-- where the text of a number ends
abbrev pub end_of : ℕ → ℕ
end_of v = v / 4294967296 + v % 4294967296

-- the text of entry i ends past some ASCII octets with which the names begin
unfoldable pub is_past : List ℕ → ℕ → ℕ → Bool
is_past c plain i = ltb plain (end_of (le64 c (8 * i)))

-- entry i is another number
unfoldable pub is_other : List ℕ → ℕ → ℕ → Bool
is_other c v i = not (eqb (le64 c (8 * i)) v)

-- no text of the entries from start up to end ends past r
abbrev pub Within : List ℕ → ℕ → ℕ → ℕ → Type 0
Within c start end r = (k : ℕ) → start ≤ k → k < end → end_of (le64 c (8 * k)) ≤ r

-- since the latest of them starts at a, and the longest has length b
pub record Reaching (c : List ℕ) (start end a b : ℕ) : Type 0 where
  pub low : start ≤ end
  pub latest : (k : ℕ) → start ≤ k → k < end → le32 c (8 * k + 4) ≤ a
  pub longest : (k : ℕ) → start ≤ k → k < end → le32 c (8 * k) ≤ b

-- the text of entry i is clear
abbrev pub ClearEntry : List ℕ → List ℕ → ℕ → Type 0
ClearEntry names c i = Clear names (le64 c (8 * i) / 4294967296) (le64 c (8 * i) % 4294967296)

-- every entry from start up to r has a clear text: a search by what an entry spells has not met on the way what no such entry has
pub record Cleared (names c : List ℕ) (start n r : ℕ) : Type 0 where
  pub low : start ≤ r
  pub on : (q : ℕ → Bool) → ((i : ℕ) → ClearEntry names c i → q (le64 c (8 * i)) ≡ false) → Seeking (λ i. q (le64 c (8 * i))) start n → Seeking (λ i. q (le64 c (8 * i))) r n

-- number k stands in a block of 64, from a start on and before n, of which a test says no: `says i b` where it may answer b of the block that begins at i
pub record Denied (says : ℕ → Bool → Type 0) (start n k : ℕ) : Type 0 where
  pub at : ℕ
  pub low : start ≤ at
  pub high : at + 64 ≤ n
  pub before : at ≤ k
  pub past : k < at + 64
  pub no : says at false

-- and so does every number from the start up to r
pub record Blocks (says : ℕ → Bool → Type 0) (start n r : ℕ) : Type 0 where
  pub low : start ≤ r
  pub high : r ≤ n
  pub denied : (k : ℕ) → start ≤ k → k < r → Denied says start n k
