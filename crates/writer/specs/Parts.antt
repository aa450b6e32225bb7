-- The parts of a listing, by the numbers of their tables, and the listing that they make.
use Rattle.std.specs.Prelude.{ℕ, ◌≡◌, ◌≤◌, List, [], ◌∷◌, ◌++◌, length}
use Rattle.octets.specs.Gather.{gather}
use Rattle.listing.specs.Listing.{rows}
use Rattle.listing.specs.Header.{header}

-- the octets of a part, and its rows
unfoldable pub size_of : (ℕ → List ℕ) → ℕ → ℕ
size_of ps k = length (ps k)

unfoldable pub count_of : (ℕ → List ℕ) → ℕ → ℕ
count_of ps k = rows k (ps k)

-- the first k parts, one after the other (there is no table 0)
unfoldable pub joined : (ℕ → List ℕ) → ℕ → List ℕ
joined ps k = gather k ps

-- "turns six row tables and the name octets, each lent, into one listing": the header, from their counts, and then the parts
unfoldable pub written : (ℕ → List ℕ) → List ℕ
written ps = header 1 (count_of ps) (size_of ps) ++ joined ps 8

-- ---- as the code has them: a number for each table in an array
abbrev pub numbers : (ℕ → ℕ) → List ℕ
numbers f = 0 ∷ f 1 ∷ f 2 ∷ f 3 ∷ f 4 ∷ f 5 ∷ f 6 ∷ f 7 ∷ []

-- xs is so: of table k stands a number of which `says k` holds
pub record Numbers (says : ℕ → ℕ → Type 0) (xs : List ℕ) : Type 0 where
  pub of : ℕ → ℕ
  pub is : xs ≡ numbers of
  pub said : (k : ℕ) → 1 ≤ k → k ≤ 7 → says k (of k)
