-- Rule 621: "extension_name is not one or more of a-z A-Z 0-9, an underscore, then one or more of those or underscores".
use Rattle.std.specs.Prelude.{ℕ, ◌+◌, List, Bool, not, ◌&&◌, ◌||◌, length, get_or, eqb, ltb}
use Rattle.octets.specs.Search.{first, any}
use Rattle.spelling.specs.Characters.{digit, capital, small}

-- "of a-z A-Z 0-9"
unfoldable pub alphanumeric : ℕ → Bool
alphanumeric c = small c || (capital c || digit c)

-- "an underscore"
abbrev pub underscore : ℕ → Bool
underscore c = eqb c 95

-- "those or underscores"
unfoldable pub name_octet : ℕ → Bool
name_octet c = underscore c || alphanumeric c

unfoldable pub underscore_at : List ℕ → ℕ → Bool
underscore_at s i = underscore (get_or s i 0)

-- the octet at a place may stand nowhere in an extension's name
unfoldable pub strange_at : List ℕ → ℕ → Bool
strange_at s i = not (name_octet (get_or s i 0))

-- the place of the first underscore, the length where there is none
abbrev pub first_underscore : List ℕ → ℕ
first_underscore s = first (underscore_at s) (length s)

-- a place with something before it and something after it, of n
unfoldable pub inside : ℕ → ℕ → Bool
inside k n = ltb 0 k && ltb (k + 1) n

-- "one or more" before the first underscore, which are no underscores, and "one or more" after it
unfoldable pub is_extension_name : List ℕ → Bool
is_extension_name s = inside (first_underscore s) (length s) && not (any (strange_at s) (length s))
