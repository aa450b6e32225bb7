-- The header that is written: "the header has 64 octets: version, total length, then seven pairs of count and offset".
use Rattle.std.specs.Prelude.{ℕ, zero, suc, ◌+◌, List, ◌++◌, get_or}
use Rattle.octets.specs.Octets.{word}
use Rattle.octets.specs.Gather.{gather}

-- a number for each table, as a list has them
abbrev pub listed : List ℕ → ℕ → ℕ
listed xs k = get_or xs k 0

-- where a table starts, by the octets that each takes: "the first offset is 64, each next one is the end of the table before"
unfoldable pub start_of : (ℕ → ℕ) → ℕ → ℕ
start_of size zero = 64
start_of size (suc k) = start_of size k + size k

-- two words, one after the other
unfoldable pub two : ℕ → ℕ → List ℕ
two x y = word x ++ word y

-- pair 0 is version and total length, pair k the count and offset of table k
abbrev pub pair : ℕ → (ℕ → ℕ) → (ℕ → ℕ) → ℕ → List ℕ
pair version count size zero = two version (start_of size 8)
pair version count size (suc k) = two (count (suc k)) (start_of size (suc k))

-- the first k pairs
unfoldable pub pairs : ℕ → (ℕ → ℕ) → (ℕ → ℕ) → ℕ → List ℕ
pairs version count size k = gather k (pair version count size)

-- by the version, the count of each table, and the octets that it takes
abbrev pub header : ℕ → (ℕ → ℕ) → (ℕ → ℕ) → List ℕ
header version count size = pairs version count size 8
