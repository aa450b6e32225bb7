-- Rules 111 to 113: "EPSG in any letter case", "NONE in any letter case". Letter case is ASCII.
use Rattle.std.specs.Prelude.{ℕ, ◌-◌, List, Bool, cond, not, ◌&&◌, length, get_or, eqb}
use Rattle.octets.specs.Search.{any}
use Rattle.spelling.specs.Characters.{small}

-- the capital of a small letter; any other octet is itself
unfoldable pub upper : ℕ → ℕ
upper c = cond (small c) (c - 32) c

-- the octet at a place, as a capital, is not the word's
unfoldable pub unlike : List ℕ → List ℕ → ℕ → Bool
unlike s word i = not (eqb (upper (get_or s i 0)) (get_or word i 0))

-- a text is a word, given in capitals, "in any letter case": as long, and unlike it at no place
unfoldable pub in_any_case : List ℕ → List ℕ → Bool
in_any_case s word = eqb (length s) (length word) && not (any (unlike s word) (length s))
