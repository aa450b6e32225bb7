-- The laws of a search that every loop cites. They know nothing of what is searched.
use Prim.Native.Nat.{ℕ, zero, suc, ◌+◌, ◌≤◌, ◌<◌, zero-le}
use Rattle.std.specs.Prelude.{◌≡◌, Bool}
use Rattle.std.proofs.Math.Path.{refl, subst}
use Rattle.std.proofs.Common.{sym, ap, ◌∙◌, ⊎_elim, le_refl, le_antisymm, le_of_suc-le-suc, eq-or-lt_of_le, not-suc-le-zero, add-one-le, arith, rules}
use Rattle.std.proofs.Math.Bool.{true, false}
use Rattle.std.proofs.Math.Numerals.{add-one}
use borrow.Author.Tests.{lt-ltb, le-ltb}
use Rattle.std.proofs.Math.Dec.{ltb}
use Rattle.octets.specs.Search.{first, any}

-- a search below n that has come to i: the test holds at no index below i
pub record Seeking (p : ℕ → Bool) (i n : ℕ) : Type 0 where
  pub within : i ≤ n
  pub none : first p i ≡ i

module _ (p : ℕ → Bool) where
  more : (i : ℕ) → first p i ≡ i → p i ≡ false → first p (i + 1) ≡ i + 1
  unfolding first
  more i h e = rw add-one (simp (h, e, le-ltb i i (le_refl i)))

  -- a search starts at 0
  pub seek-start : (n : ℕ) → Seeking p 0 n
  unfolding first
  seek-start n = record { within = zero-le; none = refl }

  -- goes on past i, where the test, whose outcome is b, fails
  pub seek-more : (i n : ℕ) (b : Bool) → Seeking p i n → i < n → b ≡ p i → b ≡ false → Seeking p (i + 1) n
  seek-more i n b k l e f = record { within = add-one-le l; none = more i k.none (sym e ∙ f) }

  -- starts at 1 where the test fails at 0, as that of a table does
  pub seek-one : (n : ℕ) → p 0 ≡ false → 1 ≤ n → Seeking p 1 n
  seek-one n e l = seek-more 0 n false (seek-start n) l (sym e) refl

  -- the same two for a place that a cursor holds
  pub cursor_start : (i n : ℕ) → i ≡ 0 → Seeking p i n
  cursor_start i n e = subst (λ (j : ℕ). Seeking p j n) (sym e) (seek-start n)

  pub cursor_more : (i j n m : ℕ) (b : Bool) → Seeking p i n → i < n → b ≡ p i → b ≡ false → j ≡ i + 1 → m ≡ n → Seeking p j m
  cursor_more i j n m b k l e f d q =
      subst (λ (o : ℕ). Seeking p j o) (sym q) (subst (λ (o : ℕ). Seeking p o n) (sym d) (seek-more i n b k l e f))

  -- whether it has found one
  pub finds : (n k : ℕ) → k ≡ first p n → k < n → any p n ≡ true
  unfolding any
  finds n k e l = simp (← e) (lt-ltb k n l)

  pub misses : (n k : ℕ) → k ≡ first p n → n ≤ k → any p n ≡ false
  unfolding any
  misses n k e l = simp (← e) (le-ltb k n l)

  -- or has come to n
  pub seek-end : (i n m : ℕ) → Seeking p i n → n ≤ i → n ≡ m → n ≡ first p m
  seek-end i n m k l q =
      subst (λ (m : ℕ). n ≡ first p m) q (sym (subst (λ (m : ℕ). first p m ≡ m) (le_antisymm k.within l) k.none))

  pub any-end : (i n m : ℕ) → Seeking p i n → n ≤ i → n ≡ m → false ≡ any p m
  unfolding any
  any-end i n m k l q = subst (λ (m : ℕ). false ≡ ltb (first p m) m) q (sym (simp (← seek-end i n n k l refl, le-ltb n n (le_refl n))))

pub ruleset cursors = (cursor_start, cursor_more, rules)

-- ---- what `first` says, for a reader who does not want to trust its definition: none below it, and itself one unless it is n
pub record Lowest (p : ℕ → Bool) (n r : ℕ) : Type 0 where
  pub most : r ≤ n
  pub below : (k : ℕ) → k < r → p k ≡ false
  pub here : r < n → p r ≡ true

-- tests that agree below n find the same
pub first-agree : (p q : ℕ → Bool) (n : ℕ) → ((i : ℕ) → i < n → p i ≡ q i) → first p n ≡ first q n
unfolding first
first-agree p q zero h = refl
first-agree p q (suc n) h =
    let e : first p n ≡ first q n = first-agree p q n (λ i l. h i (omega arith)) in
    let f : p n ≡ q n = h n (omega arith) in
    simp (e, f)

pub any-agree : (p q : ℕ → Bool) (n : ℕ) → ((i : ℕ) → i < n → p i ≡ q i) → any p n ≡ any q n
unfolding any
any-agree p q n h = ap (λ (r : ℕ). ltb r n) (first-agree p q n h)
