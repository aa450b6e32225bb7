-- Several octet strings as one value: what an array of slices means is a list of their octets.
use Rattle.std.specs.Prelude.{ℕ, List, [], get_or}

-- the octets at a place of the list, none past its end
unfoldable pub nth : List (List ℕ) → ℕ → List ℕ
nth xs k = get_or xs k []
