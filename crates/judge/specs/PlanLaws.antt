-- What the lent octets hold is a fact, of which there is one proof at most: so a value can have it as an invariant.
use Rattle.std.specs.Prelude.{ℕ, ◌≡◌, List, Bool}
use Rattle.std.specs.Coded.{le_prop, Unit-prop, Coded-set, coded_ℕ}
use Rattle.pack.specs.declared.Form.{Form}
use Rattle.index.specs.Chains.{Index}
use Rattle.index.specs.Work.{Indexed, Keyed}
use Rattle.judge.specs.declared.Plan.{Plan}
use Rattle.judge.specs.declared.Plan.TheVariants.{Plain, Names, Sets, Levels, Steps, Sizes, Ranges}
use Rattle.judge.specs.Plans.{Prepared, PreparedMore}

ℕ-set : (a b : ℕ) → IsProp (a ≡ b)
ℕ-set a b = Coded-set coded_ℕ a b

module _ (fits : ℕ → ℕ → Bool) (hash print : ℕ → ℕ) (m : ℕ) where
  Index-prop : (heads next : ℕ → ℕ) (n : ℕ) → IsProp (Index fits hash print m heads next n)
  Index-prop heads next n = hlevel (ℕ-set, le_prop)

  Indexed-prop : (w : List ℕ) (rows n : ℕ) → IsProp (Indexed fits hash print w m rows n)
  Indexed-prop w rows n = hlevel (Index-prop, le_prop)

pub Keyed-prop : {K : Type 0} (key : ℕ → K) (passes : K → ℕ → Bool) (mixOf : K → ℕ) (w : List ℕ) (m rows n : ℕ) → IsProp (Keyed key passes mixOf w m rows n)
Keyed-prop key passes mixOf w m rows n = hlevel Indexed-prop

pub Prepared-prop : (p : Plan) (ts : List (List ℕ)) (w : List ℕ) (heads : ℕ) → IsProp (Prepared p ts w heads)
Prepared-prop Plain ts w heads = Unit-prop
Prepared-prop Names ts w heads = Keyed-prop _ _ _ _ _ _ _
Prepared-prop Sets ts w heads = Keyed-prop _ _ _ _ _ _ _
Prepared-prop Levels ts w heads = Keyed-prop _ _ _ _ _ _ _
Prepared-prop Steps ts w heads = Keyed-prop _ _ _ _ _ _ _
Prepared-prop Sizes ts w heads = Keyed-prop _ _ _ _ _ _ _
Prepared-prop Ranges ts w heads = Keyed-prop _ _ _ _ _ _ _

pub PreparedMore-prop : (p : Plan) (f : Form) (ts : List (List ℕ)) (w : List ℕ) (heads : ℕ) → IsProp (PreparedMore p f ts w heads)
PreparedMore-prop Plain f ts w heads = Unit-prop
PreparedMore-prop Names f ts w heads = Unit-prop
PreparedMore-prop Sets f ts w heads = Unit-prop
PreparedMore-prop Levels f ts w heads = Unit-prop
PreparedMore-prop Steps f ts w heads = Keyed-prop _ _ _ _ _ _ _
PreparedMore-prop Sizes f ts w heads = Unit-prop
PreparedMore-prop Ranges f ts w heads = Keyed-prop _ _ _ _ _ _ _
