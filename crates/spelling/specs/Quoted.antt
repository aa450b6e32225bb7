-- A text that document 01 quotes, as its octets. Every character that it quotes is ASCII.
use Rattle.std.specs.Prelude.{ℕ, List, [], ◌∷◌}
use Prim.Native.Char.{code}
use Prim.Native.String.{String, [] as ending, ◌∷◌ as ◌then◌}

unfoldable pub quoted : String → List ℕ
quoted ending = []
quoted (c then s) = code c ∷ quoted s
