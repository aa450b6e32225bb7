-- An index in lent octets: m heads and then a link for each row, all of them u32 words. A word is a row and one with the print of the row's key, or 0 for none.
use Rattle.std.specs.Prelude.{ℕ, ◌+◌, ◌-◌, ◌*◌, ◌/◌, ◌%◌, ◌<◌, ◌≤◌, ◌≡◌, List, Bool, true, cond, ◌&&◌, eqb, ltb, length}
use Rattle.std.proofs.lemmas.List.Edits.{sets}
use Rattle.octets.specs.Octets.{le32, word}
use Rattle.octets.specs.Search.{first}
use Rattle.index.specs.Chains.{row_range, print_range, Index, Asks}

-- word j
unfoldable pub word_at : List ℕ → ℕ → ℕ
word_at w j = le32 w (4 * j)

-- w with x for its word j
unfoldable pub put_word : List ℕ → ℕ → ℕ → List ℕ
put_word w j x = sets w (4 * j) (word x)

-- a mix is a u32
abbrev pub mix_range : ℕ
mix_range = 4294967296

-- its place among m heads, and its print
unfoldable pub place_of : ℕ → ℕ → ℕ
place_of m y = y * m / mix_range

unfoldable pub print_of : ℕ → ℕ
print_of y = y % print_range

-- w, of m heads, with row i, of mix y, put before the rows on the chain of hash h
unfoldable pub pushed : List ℕ → ℕ → ℕ → ℕ → ℕ → List ℕ
pushed w m h y i = put_word (put_word w (m + i) (word_at w h)) h (i + 1 + row_range * print_of y)

-- row i, for whose key a walk has found r: put there where it is the first of its key
unfoldable pub settled : List ℕ → ℕ → ℕ → ℕ → ℕ → ℕ → List ℕ
settled w m h y i r = cond (ltb r i) w (pushed w m h y i)

-- w, of m heads and as many links as there are rows, indexes the first n rows
pub record Indexed (fits : ℕ → ℕ → Bool) (hash print : ℕ → ℕ) (w : List ℕ) (m rows n : ℕ) : Type 0 where
  pub some : 0 < m
  pub few : m < mix_range
  pub room : 4 * (m + rows) ≤ length w
  pub small : rows < row_range - 1
  pub index : Index fits hash print m (word_at w) (λ k. word_at w (m + k)) n

-- how many heads an index has more than rows, where there is room
abbrev pub spare_heads : ℕ
spare_heads = 16384

-- some more heads than there are rows, so that the chains of a small table are short, or as many as the words have room for beside the links.
-- None where there is no room for a link for each row and a head, or where a row and one has more than 19 bits
unfoldable pub heads_for : ℕ → ℕ → ℕ
heads_for words rows =
    cond (ltb rows (row_range - 1) && ltb rows words) (cond (ltb (words - rows) (rows + spare_heads)) (words - rows) (rows + spare_heads)) 0

-- w is ready for an index of m heads: whatever the keys, it indexes no row yet. With no head there is no index
pub record Ready (w : List ℕ) (m rows : ℕ) : Type 0 where
  pub there : (fits : ℕ → ℕ → Bool) (hash print : ℕ → ℕ) → (m ≡ 0 → ⊥) → Indexed fits hash print w m rows 0

-- a walk from head h finds the lowest of the first n rows that passes: w indexes them by some keys, and the test asks for one, of print p
pub record Leads (test : ℕ → Bool) (w : List ℕ) (m h p n : ℕ) : Type 0 where
  pub fits : ℕ → ℕ → Bool
  pub hash : ℕ → ℕ
  pub print : ℕ → ℕ
  pub rows : ℕ
  pub asks : Asks fits hash test h
  pub printed : (k : ℕ) → test k ≡ true → print k ≡ p
  pub below : h < m
  pub inside : n ≤ rows
  pub indexed : Indexed fits hash print w m rows n

-- the head of a mix leads to the rows that pass
abbrev pub LeadsBy : (ℕ → Bool) → List ℕ → ℕ → ℕ → ℕ → Type 0
LeadsBy test w m y n = Leads test w m (place_of m y) (print_of y) n × ((m < mix_range) × (y < mix_range))

-- every row below n is on the chain of its hash; those that pass have hash h and print p
pub record Shelf (test : ℕ → Bool) (w : List ℕ) (m h p n : ℕ) : Type 0 where
  pub hash : ℕ → ℕ
  pub print : ℕ → ℕ
  pub blind : (k : ℕ) → test k ≡ true → hash k ≡ h
  pub printed : (k : ℕ) → test k ≡ true → print k ≡ p
  pub below : h < m
  pub indexed : Indexed eqb hash print w m n n

-- the chain of a mix holds every row that passes
abbrev pub HoldsBy : (ℕ → Bool) → List ℕ → ℕ → ℕ → ℕ → Type 0
HoldsBy test w m y n = Shelf test w m (place_of m y) (print_of y) n × ((m < mix_range) × (y < mix_range))

-- Rows that have keys, `passes a k` for row k answering to the key a. With no head there is no index; else w indexes the first n rows
pub record Keyed {K : Type 0} (key : ℕ → K) (passes : K → ℕ → Bool) (mixOf : K → ℕ) (w : List ℕ) (m rows n : ℕ) : Type 0 where
  pub there : (m ≡ 0 → ⊥) → Indexed (λ x k. passes (key x) k) (λ k. place_of m (mixOf (key k))) (λ k. print_of (mixOf (key k))) w m rows n

-- row i has been entered: r is the lowest row below i that answers to its key, or i
pub record Entered {K : Type 0} (key : ℕ → K) (passes : K → ℕ → Bool) (mixOf : K → ℕ) (w : List ℕ) (m rows i r : ℕ) : Type 0 where
  pub found : r ≡ first (passes (key i)) i
  pub indexed : Keyed key passes mixOf w m rows (i + 1)
