-- A chained index of rows by their keys. Rows are numbers, and nothing is known of what they hold:
-- `fits x k` says that row k answers to the key of row x, and `hash k` is a function of the key of row k.
use Rattle.std.specs.Prelude.{ℕ, zero, suc, ◌+◌, ◌*◌, ◌<◌, ◌≤◌, ◌≡◌, Bool, true, cond, ◌&&◌, eqb}
use Rattle.octets.specs.Search.{first}

-- what a word of the index is made of: a row and one, of 19 bits, and above it the print of the row's key, of 13 bits. 0 is none
abbrev pub row_range : ℕ
row_range = 524288

abbrev pub print_range : ℕ
print_range = 8192

-- row k is entered: it is the lowest row that answers to its own key. Rows like an earlier one are not, so that many equal rows stay cheap
unfoldable pub is_entry : (ℕ → ℕ → Bool) → ℕ → Bool
is_entry fits k = eqb (first (fits k) (suc k)) k

-- the highest of the rows below n that is entered and has the hash h, and one; 0 where there is none
unfoldable pub newest : (ℕ → ℕ → Bool) → (ℕ → ℕ) → ℕ → ℕ → ℕ
newest fits hash h zero = zero
newest fits hash h (suc n) = cond (is_entry fits n && eqb (hash n) h) (suc n) (newest fits hash h n)

-- a row and one as it is stored: with the print of the row's key, so that few rows are compared in vain
unfoldable pub marked : (ℕ → ℕ) → ℕ → ℕ
marked print zero = zero
marked print (suc k) = suc k + row_range * print k

-- heads and next index the rows below n: heads has the newest row of each hash below m, and next, for each row entered, the next older one of its hash
pub record Index (fits : ℕ → ℕ → Bool) (hash print : ℕ → ℕ) (m : ℕ) (heads next : ℕ → ℕ) (n : ℕ) : Type 0 where
  pub head : (h : ℕ) → h < m → heads h ≡ marked print (newest fits hash h n)
  pub link : (k : ℕ) → k < n → is_entry fits k ≡ true → next k ≡ marked print (newest fits hash (hash k) k)

-- a test that asks for one key, of hash h: each row that passes has that hash, and the rows that answer to its key are those that pass
pub record Asks (fits : ℕ → ℕ → Bool) (hash : ℕ → ℕ) (test : ℕ → Bool) (h : ℕ) : Type 0 where
  pub blind : (k : ℕ) → test k ≡ true → hash k ≡ h
  pub alike : (k : ℕ) → test k ≡ true → (j : ℕ) → fits k j ≡ test j

-- a walk for the lowest of the rows below n that passes has come to the word j: that row, if there is one, is below j,
-- and row j - 1, where j is not 0, is entered and has the hash
pub record Walk (fits : ℕ → ℕ → Bool) (hash : ℕ → ℕ) (test : ℕ → Bool) (h n j : ℕ) : Type 0 where
  pub low : j ≤ n
  pub rest : first test n < n → first test n < j
  pub chain : newest fits hash h j ≡ j
