-- What lies behind an element of an array.
use Rattle.std.specs.Prelude.{ℕ, zero, suc, ◌≡◌, refl, List, [], ◌∷◌, map, get_or}

pub behind : {A B : Type 0} (f : A → B) (xs : List A) (k : ℕ) (none : A) → get_or (map f xs) k (f none) ≡ f (get_or xs k none)
behind f [] k none = refl
behind f (x ∷ xs) zero none = refl
behind f (x ∷ xs) (suc k) none = behind f xs k none
