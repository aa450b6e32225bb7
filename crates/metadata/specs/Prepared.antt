-- What the lent octets hold while metadata are judged.
use Rattle.std.specs.Prelude.{ℕ, ◌/◌, List, length}
use Rattle.octets.specs.Slices.{nth}
use Rattle.index.specs.declared.Kind.TheVariants.{ContentName}
use Rattle.index.specs.Keys.{Indexes}

-- an index of the contents by name
unfoldable pub Prepared : List (List ℕ) → List ℕ → ℕ → Type 0
Prepared ts w heads = Indexes ContentName (nth ts 0) (nth ts 1) w heads (length (nth ts 0) / 40)
