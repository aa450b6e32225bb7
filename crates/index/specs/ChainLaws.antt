-- The laws of a chained index, for any `fits` and any `hash`: what a walk finds, and how a row is entered.
use Rattle.std.specs.Prelude.{ℕ, zero, suc, ◌+◌, ◌*◌, ◌/◌, ◌%◌, ◌<◌, ◌≤◌, ◌≡◌, Bool, true, false, cond, ◌&&◌, ltb}
use Rattle.std.proofs.Math.Path.{refl}
use Rattle.std.proofs.Common.{sym, ap, ◌∙◌, ⊎_elim, eq-or-lt_of_le}
use Rattle.std.proofs.lemmas.Bool.{false≢true}
use Rattle.std.proofs.Math.Bool.{and-eq-true_iff}
use native.Mathlib.Omega.{arith}
use borrow.Author.Tests.{eqb-true, eqb-false, eq-eqb, ltb-true, ltb-false}
use Rattle.std.proofs.Math.Dec.{eqb}
use Rattle.octets.specs.Search.{first}
use Rattle.octets.proofs.SearchLaws.{first-lowest}
use Rattle.octets.specs.SearchLaws.{Lowest}
use Rattle.index.specs.Chains.{row_range, print_range, is_entry, newest, marked, Index, Asks, Walk}

-- by cases on a test
pub by_test : {A : Type 0} (b : Bool) → (b ≡ true → A) → (b ≡ false → A) → A
by_test true t f = t refl
by_test false t f = f refl

-- ---- the lowest row that passes a test
module _ (p : ℕ → Bool) where
  differ : (j k : ℕ) → p j ≡ true → p k ≡ false → j ≡ k → ⊥
  differ j k t f e = false≢true (sym f ∙ ap p (sym e) ∙ t)

  no_lower : (n r s : ℕ) → Lowest p n r → Lowest p n s → r < s → ⊥
  no_lower n r s a b l = differ r r (a.here (omega (arith, b.most))) (b.below r l) refl

  -- there is only one
  pub lowest-is : (n r : ℕ) → Lowest p n r → first p n ≡ r
  lowest-is n r a =
      let b : Lowest p n (first p n) = first-lowest p n in
      by_test (ltb r (first p n))
      (λ t. absurd (no_lower n r (first p n) a b (ltb-true r (first p n) t)))
      (λ t. ⊎_elim (λ e. e) (λ l. absurd (no_lower n (first p n) r b a l)) (eq-or-lt_of_le (ltb-false r (first p n) t)))

  -- of the first k rows it is the lowest of the first n, or there is none
  pub first-within : (k n : ℕ) → k ≤ n → first p k ≡ cond (ltb (first p n) k) (first p n) k
  first-within k n l = lowest-is k _ (by_test (ltb (first p n) k) inside outside)
    where
      a : Lowest p n (first p n)
      a = first-lowest p n

      inside : ltb (first p n) k ≡ true → Lowest p k (cond (ltb (first p n) k) (first p n) k)
      inside t = simp t (record { most = omega (arith, ltb-true (first p n) k t); below = a.below; here = λ m. a.here (omega arith) })

      outside : ltb (first p n) k ≡ false → Lowest p k (cond (ltb (first p n) k) (first p n) k)
      outside t = simp t (record { most = omega arith; below = λ j m. a.below j (omega (arith, ltb-false (first p n) k t)); here = λ m. absurd (omega arith) })

-- ---- rows that are entered
module _ (fits : ℕ → ℕ → Bool) (k : ℕ) where
  entry-lowest : is_entry fits k ≡ true → Lowest (fits k) (suc k) k
  unfolding is_entry
  entry-lowest e = rw (eqb-true (first (fits k) (suc k)) k e) at (first-lowest (fits k) (suc k))

  lowest-entry : Lowest (fits k) (suc k) k → is_entry fits k ≡ true
  unfolding is_entry
  lowest-entry a = eq-eqb _ _ (lowest-is (fits k) (suc k) k a)

  -- row k answers to its key, and no earlier row does
  pub entry_new : fits k k ≡ true → first (fits k) k ≡ k → is_entry fits k ≡ true
  entry_new t e = lowest-entry (record { most = omega arith; below = λ j l. (first-lowest (fits k) k).below j (omega arith); here = λ l. t })

  -- an earlier row does
  pub entry_old : first (fits k) k < k → is_entry fits k ≡ false
  entry_old l =
      by_test (is_entry fits k)
      (λ e. absurd (differ (fits k) (first (fits k) k) (first (fits k) k) ((first-lowest (fits k) k).here l) ((entry-lowest e).below (first (fits k) k) l) refl))
      (λ e. e)

  -- row k does not
  pub entry-never : fits k k ≡ false → is_entry fits k ≡ false
  entry-never f = by_test (is_entry fits k) (λ e. absurd (differ (fits k) k k ((entry-lowest e).here (omega arith)) f refl)) (λ e. e)

-- ---- the newest of a hash
module _ (fits : ℕ → ℕ → Bool) (hash : ℕ → ℕ) (h : ℕ) where
  newest-hit : (n : ℕ) → (is_entry fits n && eqb (hash n) h) ≡ true → newest fits hash h (suc n) ≡ suc n
  unfolding newest
  newest-hit n e = simp e

  newest-miss : (n : ℕ) → (is_entry fits n && eqb (hash n) h) ≡ false → newest fits hash h (suc n) ≡ newest fits hash h n
  unfolding newest
  newest-miss n e = simp e

  pub newest-le : (n : ℕ) → newest fits hash h n ≤ n
  newest-le zero = unfold newest in omega arith
  newest-le (suc n) =
      by_test (is_entry fits n && eqb (hash n) h)
      (λ e. omega (arith, newest-hit n e))
      (λ e. omega (arith, newest-miss n e, newest-le n))

  pub newest-newest : (n : ℕ) → newest fits hash h (newest fits hash h n) ≡ newest fits hash h n
  newest-newest zero = unfold newest in refl
  newest-newest (suc n) =
      by_test (is_entry fits n && eqb (hash n) h)
      (λ e. rw (newest-hit n e) (newest-hit n e))
      (λ e. rw (newest-miss n e) (newest-newest n))

  -- a row that is entered and has the hash is not above it
  pub entry-below : (k n : ℕ) → k < n → is_entry fits k ≡ true → hash k ≡ h → k < newest fits hash h n
  entry-below k zero l e q = absurd (omega arith)
  entry-below k (suc n) l e q =
      by_test (is_entry fits n && eqb (hash n) h)
      (λ t. omega (arith, newest-hit n t))
      (λ t.
      ⊎_elim
      (λ o. absurd (false≢true (sym t ∙ rw (← o, e, eq-eqb (hash k) h q))))
      (λ b. rw (newest-miss n t) (entry-below k n b e q))
      (eq-or-lt_of_le {n = k} {m = n} (omega arith)))

  -- a row on the chain is entered and has the hash
  module _ (k : ℕ) (e : newest fits hash h (suc k) ≡ suc k) where
    on_chain : (is_entry fits k && eqb (hash k) h) ≡ true
    on_chain = by_test (is_entry fits k && eqb (hash k) h) (λ t. t) (λ f. absurd (omega (arith, newest-miss k f, newest-le k)))

    pub chain-entry : is_entry fits k ≡ true
    chain-entry = ((and-eq-true_iff (is_entry fits k) (eqb (hash k) h)).0 on_chain).0

    pub chain-hash : hash k ≡ h
    chain-hash = eqb-true (hash k) h ((and-eq-true_iff (is_entry fits k) (eqb (hash k) h)).0 on_chain).1

-- ---- a walk
-- where rows have keys and passing is a matter of the key alone, a test for a key asks for it
pub asks-by : {K : Type 0} (key : ℕ → K) (passes : K → ℕ → Bool) (hashOf : K → ℕ) (a : K) → ((k : ℕ) → passes a k ≡ true → a ≡ key k)
    → Asks (λ x k. passes (key x) k) (λ k. hashOf (key k)) (passes a) (hashOf a)
asks-by key passes hashOf a e = record {
  blind = λ k t. ap hashOf (sym (e k t));
  alike = λ k t j. ap (λ (b : _). passes b j) (sym (e k t));
}

module _ (fits : ℕ → ℕ → Bool) (hash : ℕ → ℕ) (test : ℕ → Bool) (h : ℕ) (f : Asks fits hash test h) (n : ℕ) where
  -- the lowest row that passes is entered
  first_entry : first test n < n → is_entry fits (first test n) ≡ true
  first_entry l =
      let r : ℕ = first test n in
      let a : Lowest test n r = first-lowest test n in
      let t : test r ≡ true = a.here l in
      lowest-entry fits r (record { most = omega arith; below = λ j b. f.alike r t j ∙ a.below j b; here = λ _. f.alike r t r ∙ t })

  -- below b, it is on the chain from the newest below b
  first-chain : (b : ℕ) → (first test n < n → first test n < b) → first test n < n → first test n < newest fits hash h b
  first-chain b g l = entry-below fits hash h (first test n) b (g l) (first_entry l) (f.blind (first test n) ((first-lowest test n).here l))

  walk_from : (b j : ℕ) → b ≤ n → (first test n < n → first test n < b) → j ≡ newest fits hash h b → Walk fits hash test h n j
  walk_from b j l g e = record {
    low = omega (arith, newest-le fits hash h b);
    rest = rw e (first-chain b g);
    chain = rw e (newest-newest fits hash h b);
  }

  pub walk_start : (j : ℕ) → j ≡ newest fits hash h n → Walk fits hash test h n j
  walk_start j e = walk_from n j (omega arith) (λ l. l) e

  -- row k, one below j, passes: it is entered, so it is the lowest
  pub walk-found : (j k : ℕ) → j ≡ suc k → Walk fits hash test h n j → test k ≡ true → k ≡ first test n
  walk-found j k s w t =
      let a : Lowest (fits k) (suc k) k = entry-lowest fits k (chain-entry fits hash h k (rw s at w.chain)) in
      sym (lowest-is test n k (record { most = omega (arith, w.low); below = λ i b. sym (f.alike k t i) ∙ a.below i b; here = λ _. t }))

  -- that row is entered
  pub walk-entry : (j k : ℕ) → j ≡ suc k → Walk fits hash test h n j → is_entry fits k ≡ true
  walk-entry j k s w = chain-entry fits hash h k (rw s at w.chain)

  -- it fails, and v is what next has for it
  pub walk-on : (j k v : ℕ) → j ≡ suc k → Walk fits hash test h n j → test k ≡ false → (is_entry fits k ≡ true → v ≡ newest fits hash (hash k) k)
      → Walk fits hash test h n v × (v < j)
  walk-on j k v s w o l =
      let c : newest fits hash h (suc k) ≡ suc k = rw s at w.chain in
      let e : v ≡ newest fits hash h k = rw (← chain-hash fits hash h k c) (l (chain-entry fits hash h k c)) in (
        walk_from k v (omega (arith, w.low))
            (λ b. ⊎_elim (λ q. absurd (differ test (first test n) k ((first-lowest test n).here b) o q)) (λ q. q) (eq-or-lt_of_le (omega (arith, w.rest b))))
            e,
        omega (arith, newest-le fits hash h k),
      )

  pub walk_end : Walk fits hash test h n 0 → n ≡ first test n
  walk_end w = sym (lowest-is test n n (record { most = omega arith; below = all; here = λ l. absurd (omega arith) }))
    where
      none : n ≤ first test n
      none = by_test (ltb (first test n) n) (λ t. absurd (omega (arith, w.rest (ltb-true _ _ t)))) (λ t. ltb-false _ _ t)

      all : (k : ℕ) → k < n → test k ≡ false
      all k l = (first-lowest test n).below k (omega (arith, none))

-- ---- the index
module _ (fits : ℕ → ℕ → Bool) (hash print : ℕ → ℕ) (m : ℕ) (heads next : ℕ → ℕ) where
  pub index-none : ((h : ℕ) → h < m → heads h ≡ 0) → Index fits hash print m heads next 0
  unfolding newest marked
  index-none z = record { head = z; link = λ k h. absurd (omega arith) }

  -- row n is not entered
  pub index_old : (n : ℕ) → Index fits hash print m heads next n → is_entry fits n ≡ false → Index fits hash print m heads next (suc n)
  index_old n i o = record {
    head = λ h b. i.head h b ∙ ap (marked print) (sym (newest-miss fits hash h n (ap (λ (t : Bool). t && eqb (hash n) h) o)));
    link = λ k b w. i.link k (before k b w) w;
  }
    where
      before : (k : ℕ) → k < suc n → is_entry fits k ≡ true → k < n
      before k b w = ⊎_elim (λ e. absurd (differ (is_entry fits) k n w o e)) (λ l. l) (eq-or-lt_of_le (omega arith))

  -- row n is: it is the head of its hash, and is linked to the head before it
  pub index_new : (heads' next' : ℕ → ℕ) (n : ℕ) → Index fits hash print m heads next n → is_entry fits n ≡ true → hash n < m
      → heads' (hash n) ≡ marked print (suc n) → ((h : ℕ) → h < m → (h ≡ hash n → ⊥) → heads' h ≡ heads h)
      → next' n ≡ heads (hash n) → ((k : ℕ) → k < n → next' k ≡ next k)
      → Index fits hash print m heads' next' (suc n)
  index_new heads' next' n i w b h-n h-other n-n n-other = record { head = head'; link = link' }
    where
      head' : (h : ℕ) → h < m → heads' h ≡ marked print (newest fits hash h (suc n))
      head' h l =
          by_test (eqb (hash n) h)
          (λ t. rw (← eqb-true (hash n) h t) h-n ∙ ap (marked print) (sym (newest-hit fits hash h n (rw (w, t)))))
          (λ t. h-other h l (λ q. eqb-false (hash n) h t (sym q)) ∙ i.head h l ∙ ap (marked print) (sym (newest-miss fits hash h n (rw (w, t)))))

      link' : (k : ℕ) → k < suc n → is_entry fits k ≡ true → next' k ≡ marked print (newest fits hash (hash k) k)
      link' k l wk =
          ⊎_elim
          (λ e. rw e (n-n ∙ i.head (hash n) b))
          (λ l'. n-other k l' ∙ i.link k l' wk)
          (eq-or-lt_of_le {n = k} {m = n} (omega arith))

-- ---- what is stored of a row
module _ (print : ℕ → ℕ) where
  marked-some : (k : ℕ) → marked print (suc k) ≡ suc k + row_range * print k
  unfolding marked
  marked-some k = refl

  pub marked-zero : marked print 0 ≡ 0
  unfolding marked
  marked-zero = refl

  -- what is 0 is none
  pub marked-none : (j : ℕ) → marked print j ≡ 0 → j ≡ 0
  marked-none zero e = refl
  marked-none (suc k) e = absurd (omega (arith, marked-some k))

  pub marked_row : (j x : ℕ) → x ≡ marked print j → j < row_range → x % row_range ≡ j
  marked_row zero x e l = omega (arith, e ∙ marked-zero)
  marked_row (suc k) x e l = omega (arith, marked-some k)

  pub marked-print : (k x : ℕ) → x ≡ marked print (suc k) → suc k < row_range → x / row_range ≡ print k
  marked-print k x e l = omega (arith, marked-some k)

  -- what is stored is a u32
  pub marked-small : (j : ℕ) → j < row_range → ((k : ℕ) → print k < print_range) → marked print j < 4294967296
  marked-small zero l b = omega (arith, marked-zero)
  marked-small (suc k) l b = omega (arith, marked-some k, b k)
