-- Numbers in octets, little-endian, a part of some octets, and a buffer that is written. Each is total: what would stand past the end is 0, or no octets.
use Rattle.std.specs.Prelude.{ℕ, ◌+◌, ◌*◌, ◌/◌, ◌%◌, List, [], ◌∷◌, ◌++◌, cond, length, get_or, take, drop, leb}

-- the u32 at a place
unfoldable pub le32 : List ℕ → ℕ → ℕ
le32 s at =
    cond (leb (at + 4) (length s))
    (get_or s at 0 + 256 * get_or s (at + 1) 0 + 65536 * get_or s (at + 2) 0 + 16777216 * get_or s (at + 3) 0)
    0

-- the u64 at a place
unfoldable pub le64 : List ℕ → ℕ → ℕ
le64 s at = le32 s at + 4294967296 * le32 s (at + 4)

-- the len octets from start
unfoldable pub part : List ℕ → ℕ → ℕ → List ℕ
part s start len = cond (leb (start + len) (length s)) (take len (drop start s)) []

-- the four octets of a u32, lowest first
abbrev pub word : ℕ → List ℕ
word w = w % 256 ∷ w / 256 % 256 ∷ w / 65536 % 256 ∷ w / 16777216 % 256 ∷ []

-- a buffer with octets put at its front: what stands past them keeps its value
unfoldable pub filled : List ℕ → List ℕ → List ℕ
filled xs b = xs ++ drop (length xs) b
