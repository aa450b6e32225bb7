-- The mix of a key: a name and three numbers, 0 for those that the key does not have. Nothing rests on how it spreads the keys, only the speed does.
use Rattle.std.specs.Prelude.{ℕ, zero, suc, ◌+◌, ◌-◌, ◌*◌, ◌/◌, ◌%◌, List, cond, leb, ltb, ℤ, length, get_or}
use Rattle.std.specs.Int.Bits.{bit_xor}
use Rattle.std.specs.Int.{w64}
use Rattle.std.proofs.Common.{of_z}
use Rattle.octets.specs.Octets.{le32, le64}
use Rattle.index.specs.Work.{mix_range}

-- ---- numbers: each half of a 64-bit pattern has a multiplier of its own, so that numbers at even steps have sums apart
abbrev pub half_range : ℕ
half_range = 4294967296

abbrev pub lower : ℕ → ℕ
lower x = x % half_range

abbrev pub upper : ℕ → ℕ
upper x = x / half_range

-- a pattern put to what is mixed already
unfoldable pub joined : ℕ → ℕ → ℕ
joined h x = lower (bit_xor h x) * 1266295873 + upper (bit_xor h x) * 1126869067

-- three patterns
unfoldable pub sum_of : ℕ → ℕ → ℕ → ℕ
sum_of z c r = lower z * 688268543 + upper z * 675917051 + lower c * 726027349 + upper c * 598323107 + lower r * 659491247 + upper r * 619448981

-- a pattern stirred down to a mix: the middle of the product of its lower half and of its upper 31 digits, with a 1 before them so that it is never small
unfoldable pub stirred : ℕ → ℕ
stirred x = lower x * (x / 8589934592 + 2147483648) / 65536 % mix_range

-- ---- names
-- the first count words of eight octets from a place, put to h one after the other
unfoldable pub words_onto : List ℕ → ℕ → ℕ → ℕ → ℕ
words_onto x h at zero = h
words_onto x h at (suc k) = joined (words_onto x h at k) (le64 x (at + 8 * k))

-- how many words are mixed of a name of n octets: as many as it fills, 16 at the most
unfoldable pub word_count : ℕ → ℕ
word_count n = cond (ltb n 128) ((n + 7) / 8) 16

-- the first half of so many words, and the other half from the end: every octet of a name of up to 128, the first and the last 64 of a longer one
unfoldable pub words_mix : List ℕ → ℕ → ℕ
words_mix x w = words_onto x (words_onto x (length x) 0 (w / 2)) (length x - 8 * (w - w / 2)) (w - w / 2)

-- a name by its length and its words; one that fills none by its first and last four octets, or by each octet
unfoldable pub name_mix : List ℕ → ℕ
name_mix x =
    cond (leb 8 (length x)) (words_mix x (word_count (length x)))
    (cond (leb 4 (length x)) (joined (length x) (le32 x 0 + half_range * le32 x (length x - 4)))
    (joined (length x) (get_or x 0 0 + 256 * get_or x 1 0 + 65536 * get_or x 2 0)))

-- ---- keys
-- the 64-bit pattern of a whole number
abbrev pub pattern : ℤ → ℕ
pattern z = of_z w64 z

-- 16 columns of 16 rows of 16 levels are a block
abbrev pub side : ℕ
side = 16

-- where an address stands in its block, at even steps: tiles next to each other have heads that are near, which is quick
unfoldable pub in_block : ℕ → ℕ → ℕ → ℕ
in_block z c r = ((z % side * side + r % side) * side + c % side) * 65537

-- the mix of a name and three patterns: that of a block is as good as drawn
unfoldable pub mixed : List ℕ → ℕ → ℕ → ℕ → ℕ
mixed x z c r = (stirred (bit_xor (name_mix x) (sum_of (z / side) (c / side) (r / side))) + in_block z c r) % mix_range

-- the mix of a key, from which its place among the heads and its print are taken
unfoldable pub key_mix : (List ℕ × ℤ × ℤ × ℤ) → ℕ
key_mix a = mixed a.0 (pattern a.1) (pattern a.2) (pattern a.3)
