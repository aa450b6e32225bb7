-- The characters that document 01 names by their ranges in rules 151 and 621, as ASCII octets.
use Rattle.std.specs.Prelude.{ℕ, Bool, ◌&&◌, leb}

-- a number from low to high
unfoldable pub between : ℕ → ℕ → ℕ → Bool
between low high n = leb low n && leb n high

-- "0-9"
abbrev pub digit : ℕ → Bool
digit c = between 48 57 c

-- "A-Z"
abbrev pub capital : ℕ → Bool
capital c = between 65 90 c

-- "a-z"
abbrev pub small : ℕ → Bool
small c = between 97 122 c
