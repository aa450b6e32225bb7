-- The laws of rows that have keys, in lent octets: what leads to a key, and how a row is entered. They know no kind of key.
use Prim.Native.Nat.{ℕ, ◌+◌, ◌*◌, ◌<◌, ◌≤◌}
use mathlib.Core.Path.{◌≡◌, sym, ap}
use mathlib.Core.List.{List}
use mathlib.Core.Bool.{Bool, true, false}
use native.Mathlib.Omega.{arith}
use native.Mathlib.Nat.{mod-lt, mul_comm, div-lt_iff_lt-mul, mul-lt-mul_of_pos_right}
use borrow.Author.Tests.{ltb-true, ltb-false}
use lib.Dec.{ltb}
use lib.ListN.{length}
use Rattle.octets.specs.Search.{first}
use Rattle.octets.proofs.SearchLaws.{first-lowest}
use Rattle.index.specs.Chains.{print_range}
use Rattle.index.specs.ChainLaws.{by_test, entry_new, entry_old, entry-never, asks-by}
use Rattle.index.specs.Work.{mix_range, place_of, print_of, pushed, settled, LeadsBy, Keyed, Entered}
use Rattle.index.proofs.Words.{indexed_old, indexed_new}

-- a mix is a u32, so its place is among the heads
pub place-below : (m y : ℕ) → y < mix_range → 0 < m → place_of m y < m
unfolding place_of
place-below m y l s = (div-lt_iff_lt-mul {k = mix_range} (omega arith)).1 (rw (mul_comm m mix_range) (mul-lt-mul_of_pos_right l s))

pub print-small : (y : ℕ) → print_of y < print_range
unfolding print_of
print-small y = mod-lt y (omega arith)

pub heads_there : {m : ℕ} → 0 < m → m ≡ 0 → ⊥
heads_there l e = omega (arith, l, e)

module _ {K : Type 0} {key : ℕ → K} {passes : K → ℕ → Bool} {mixOf : K → ℕ} {w : List ℕ} {m rows : ℕ} where
  -- with no head
  pub keyed_none : {n : ℕ} → m ≡ 0 → Keyed key passes mixOf w m rows n
  keyed_none e = record { there = λ s. absurd (s e) }

  -- a is the key of row i, and r what a search for it has found
  pub entered-none : {i r : ℕ} {a : K} → m ≡ 0 → a ≡ key i → r ≡ first (passes a) i → Entered key passes mixOf w m rows i r
  entered-none z e f = record { found = rw e at f; indexed = keyed_none z }

  module _ {n : ℕ} (x : Keyed key passes mixOf w m rows n) where
    -- where a row that answers to a key has it, the mix of the key leads to those that do
    pub leads_by : {a : K} {y : ℕ} → ((k : ℕ) → passes a k ≡ true → a ≡ key k) → (m ≡ 0 → ⊥) → (y ≡ mixOf a) × (y < mix_range) → n ≤ rows → LeadsBy (passes a) w m y n
    leads_by {a} {y} sound s mixed i = (
      record {
        fits = λ x k. passes (key x) k;
        hash = λ k. place_of m (mixOf (key k));
        print = λ k. print_of (mixOf (key k));
        rows = rows;
        asks = rw mixed.0 (asks-by key passes (λ b. place_of m (mixOf b)) a sound);
        printed = λ k t. rw mixed.0 (ap (λ (b : K). print_of (mixOf b)) (sym (sound k t)));
        below = place-below m y mixed.1 (x.there s).some;
        inside = i;
        indexed = x.there s;
      },
      ((x.there s).few, mixed.1),
    )

    -- row n may be put on its chain
    pub may_settle : {y : ℕ} → (m ≡ 0 → ⊥) → y < mix_range → n < rows → (0 < m) × (m < mix_range) × (y < mix_range) × (4 * (m + n) + 4 ≤ length w)
    may_settle s b l = ((x.there s).some, (x.there s).few, b, omega (arith, (x.there s).room))

    pub keyed_all : {k : ℕ} → n ≡ k → Keyed key passes mixOf w m rows k
    keyed_all e = rw e at x

    -- an earlier row answers to the key of row n
    keyed_old : first (passes (key n)) n < n → Keyed key passes mixOf w m rows (n + 1)
    keyed_old l = record { there = λ s. indexed_old _ _ _ w m rows n (x.there s) (entry_old (λ x k. passes (key x) k) n l) }

    -- none does, but row n itself
    keyed_new : {y : ℕ} → n < rows → passes (key n) n ≡ true → first (passes (key n)) n ≡ n → y ≡ mixOf (key n) → y < mix_range
        → Keyed key passes mixOf (pushed w m (place_of m y) y n) m rows (n + 1)
    keyed_new {y} l t e q b = record {
      there = λ s. indexed_new _ _ _ w m rows n (x.there s) (λ k. print-small (mixOf (key k))) l (entry_new (λ x k. passes (key x) k) n t e)
          (place_of m y) y (ap (place_of m) q) (ap print_of q) (place-below m y b (x.there s).some);
    }

    keyed_settled : {y r : ℕ} → n < rows → passes (key n) n ≡ true → r ≡ first (passes (key n)) n → y ≡ mixOf (key n) → y < mix_range
        → Keyed key passes mixOf (settled w m (place_of m y) y n r) m rows (n + 1)
    unfolding settled
    keyed_settled {r = r} l t e q b =
        by_test (ltb r n)
        (λ o. simp o (keyed_old (omega (arith, ltb-true r n o))))
        (λ o. simp o (keyed_new l t (omega (arith, ltb-false r n o, (first-lowest (passes (key n)) n).most)) q b))

    -- row n answers to its key, and is settled
    pub entered : {w' : List ℕ} {y r : ℕ} {a : K} → n < rows → passes a n ≡ true → a ≡ key n → r ≡ first (passes a) n → (y ≡ mixOf a) × (y < mix_range)
        → w' ≡ settled w m (place_of m y) y n r → Entered key passes mixOf w' m rows n r
    entered l t e f mixed o = record { found = rw e at f; indexed = rw o (keyed_settled l (rw e at t) (rw e at f) (rw e at mixed.0) mixed.1) }

    -- it does not, and is left out
    pub entered-never : {r : ℕ} {a : K} → passes a n ≡ false → a ≡ key n → r ≡ first (passes a) n → Entered key passes mixOf w m rows n r
    entered-never t e f = record {
      found = rw e at f;
      indexed = record { there = λ s. indexed_old _ _ _ w m rows n (x.there s) (entry-never (λ x k. passes (key x) k) n (rw e at t)) };
    }
