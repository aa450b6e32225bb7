-- What the lent octets hold is a fact, of which there is one proof at most: so a value can have it as an invariant.
use Rattle.std.specs.Prelude.{ℕ, List}
use Rattle.judge.specs.PlanLaws.{Keyed-prop}
use Rattle.metadata.specs.Prepared.{Prepared}

pub Prepared-prop : (ts : List (List ℕ)) (w : List ℕ) (heads : ℕ) → IsProp (Prepared ts w heads)
unfolding Prepared
Prepared-prop ts w heads = Keyed-prop _ _ _ _ _ _ _
