-- The laws of a walk past every row of a hash, in lent octets, in the shape in which goals ask for them.
use Prim.Native.Nat.{ℕ, suc, ◌+◌, ◌-◌, ◌*◌, ◌/◌, ◌%◌, ◌<◌, ◌≤◌}
use mathlib.Core.Path.{◌≡◌, refl, sym, ap, ◌∙◌}
use mathlib.Core.List.{List}
use mathlib.Core.Bool.{Bool, true, false, cond, false≢true}
use mathlib.Core.Logic.{⊎_elim}
use native.Mathlib.Nat.{eq-or-lt_of_le}
use native.Mathlib.Omega.{arith}
use borrow.Author.Rules.{rules}
use borrow.Author.Tests.{eq-eqb, eqb-true, ltb-true, ltb-false}
use lib.Dec.{eqb, ltb}
use lib.ListN.{length}
use Rattle.octets.specs.Search.{first}
use Rattle.index.specs.Chains.{row_range, is_entry, newest, marked}
use Rattle.index.specs.ChainLaws.{by_test, lowest-is, entry_new, newest-le, newest-newest, entry-below, chain-hash, marked-zero, marked-none, marked_row, marked-print}
use Rattle.index.specs.Work.{mix_range, word_at, place_of, print_of, Shelf, HoldsBy, Keyed}
use Rattle.index.proofs.Entering.{place-below}

-- no row below k is row k
pub first_itself : (k : ℕ) → first (eqb k) k ≡ k
first_itself k = lowest-is (eqb k) k k (record { most = omega arith; below = λ j l. by_test (eqb k j) (λ t. absurd (omega (arith, eqb-true k j t))) (λ t. t); here = λ l. absurd (omega arith) })

-- so every row is entered
entry-all : (k : ℕ) → is_entry eqb k ≡ true
entry-all k = entry_new eqb k (eq-eqb k k refl) (first_itself k)

-- a walk has come to the word x, which is row j - 1, or none where j is 0; best is the lowest row from j on that passes, or n
pub record Shelving (test : ℕ → Bool) (w : List ℕ) (m h p n x best : ℕ) : Type 0 where
  pub shelf : Shelf test w m h p n
  pub j : ℕ
  pub word : x ≡ marked shelf.print j
  pub low : j ≤ n
  pub chain : newest eqb shelf.hash h j ≡ j
  pub most : best ≤ n
  pub here : best < n → test best ≡ true
  pub least : (k : ℕ) → j ≤ k → k < n → test k ≡ true → best ≤ k

module _ {test : ℕ → Bool} {w : List ℕ} {m h p n : ℕ} where
  -- a row that passes is below the newest of the hash
  on-shelf : (s : Shelf test w m h p n) (b k : ℕ) → k < b → test k ≡ true → k < newest eqb s.hash h b
  on-shelf s b k l t = entry-below eqb s.hash h k b l (entry-all k) (s.blind k t)

  pub shelving_start : {x best : ℕ} → Shelf test w m h p n → x ≡ word_at w h → best ≡ n → Shelving test w m h p n x best
  shelving_start s e q = record {
    shelf = s;
    j = newest eqb s.hash h n;
    word = e ∙ s.indexed.index.head h s.below;
    low = newest-le eqb s.hash h n;
    chain = newest-newest eqb s.hash h n;
    most = omega arith;
    here = λ l. absurd (omega arith);
    least = λ k a l t. absurd (omega (arith, on-shelf s n k l t));
  }

  row_of : {x best : ℕ} (s : Shelving test w m h p n x best) → x % row_range ≡ s.j
  row_of {x} s = marked_row s.shelf.print s.j x s.word (omega (arith, s.low, s.shelf.indexed.small))

  module _ {x best : ℕ} (s : Shelving test w m h p n x best) where
    module _ (o : x ≡ 0 → ⊥) where
      some : s.j ≡ 0 → ⊥
      some e = o (s.word ∙ rw e (marked-zero s.shelf.print))

      at : s.j ≡ suc (x % row_range - 1)
      at = omega (arith, row_of s, some)

      -- the row that it has come to is there, and so is its link
      pub shelving_row : (0 < x % row_range) × (x % row_range - 1 < n) × (4 * (m + (x % row_range - 1)) + 4 ≤ length w)
      shelving_row = (omega (arith, at, row_of s), omega (arith, at, s.low), omega (arith, at, s.low, s.shelf.indexed.room))

      -- where it passes, its print is p
      pub shelving_print : test (x % row_range - 1) ≡ true → x / row_range ≡ p
      shelving_print t =
          marked-print s.shelf.print (x % row_range - 1) x (rw at at s.word) (omega (arith, at, s.low, s.shelf.indexed.small))
          ∙ s.shelf.printed (x % row_range - 1) t

      abbrev next : ℕ
      next = newest eqb s.shelf.hash h (x % row_range - 1)

      module _ {v b : ℕ} (q : v ≡ word_at w (m + (x % row_range - 1))) (e : b ≡ cond (test (x % row_range - 1)) (x % row_range - 1) best) where
        better : (b ≤ n) × (b < n → test b ≡ true) × ((k : ℕ) → next ≤ k → k < n → test k ≡ true → b ≤ k)
        better =
            by_test (test (x % row_range - 1))
            (λ t. let f : b ≡ x % row_range - 1 = e ∙ rw t refl in (omega (arith, shelving_row), (λ l. rw f t), λ k a l y. taken f k a l y))
            (λ t. let f : b ≡ best = e ∙ rw t refl in (rw f s.most, rw f s.here, λ k a l y. kept t f k a l y))
          where
            taken : b ≡ x % row_range - 1 → (k : ℕ) → next ≤ k → k < n → test k ≡ true → b ≤ k
            taken f k a l y = by_test (ltb k (x % row_range - 1)) (λ z. absurd (omega (arith, on-shelf s.shelf (x % row_range - 1) k (ltb-true k (x % row_range - 1) z) y))) (λ z. omega (arith, ltb-false k (x % row_range - 1) z))

            kept : test (x % row_range - 1) ≡ false → b ≡ best → (k : ℕ) → next ≤ k → k < n → test k ≡ true → b ≤ k
            kept t f k a l y =
                by_test (ltb k (x % row_range - 1))
                (λ z. absurd (omega (arith, on-shelf s.shelf (x % row_range - 1) k (ltb-true k (x % row_range - 1) z) y)))
                (λ z.
                ⊎_elim
                (λ g. absurd (false≢true (sym t ∙ ap test g ∙ y)))
                (λ g. rw f (s.least k (omega (arith, at)) l y))
                (eq-or-lt_of_le (ltb-false k (x % row_range - 1) z)))

        pub shelving_on : Shelving test w m h p n v b
        shelving_on = record {
          shelf = s.shelf;
          j = next;
          word = q ∙ s.shelf.indexed.index.link (x % row_range - 1) shelving_row.1 (entry-all (x % row_range - 1)) ∙ rw (chain-hash eqb s.shelf.hash h (x % row_range - 1) (rw at at s.chain)) refl;
          low = omega (arith, newest-le eqb s.shelf.hash h (x % row_range - 1), shelving_row);
          chain = newest-newest eqb s.shelf.hash h (x % row_range - 1);
          most = better.0;
          here = better.1;
          least = better.2;
        }

        pub shelving_less : v % row_range < x % row_range
        unfolding shelving_on
        shelving_less = omega (arith, row_of shelving_on, row_of s, at, newest-le eqb s.shelf.hash h (x % row_range - 1))

    pub shelving_end : x ≡ 0 → best ≡ first test n
    shelving_end e = sym (lowest-is test n best (record { most = s.most; below = none; here = s.here }))
      where
        none : (k : ℕ) → k < best → test k ≡ false
        none k l =
            let z : s.j ≡ 0 = marked-none s.shelf.print s.j (sym s.word ∙ e) in
            by_test (test k) (λ t. absurd (omega (arith, s.least k (omega arith) (omega (arith, s.most)) t))) (λ t. t)

pub ruleset shelvings = (shelving_start, shelving_on, shelving_less, shelving_end, rules)

-- where only rows with a key pass, the chain of the key's mix holds them
pub holds_by : {K : Type 0} (mixOf : K → ℕ) {key : ℕ → K} {w : List ℕ} {m n y : ℕ} {test : ℕ → Bool} {a : K} → Keyed (λ k. k) eqb (λ k. mixOf (key k)) w m n n
    → ((k : ℕ) → test k ≡ true → a ≡ key k) → (m ≡ 0 → ⊥) → (y ≡ mixOf a) × (y < mix_range) → HoldsBy test w m y n
holds_by mixOf {key = key} {m = m} {y = y} x only s mixed = (
  record {
    hash = λ k. place_of m (mixOf (key k));
    print = λ k. print_of (mixOf (key k));
    blind = λ k t. ap (place_of m) (sym (mixed.0 ∙ ap mixOf (only k t)));
    printed = λ k t. ap print_of (sym (mixed.0 ∙ ap mixOf (only k t)));
    below = place-below m y mixed.1 (x.there s).some;
    indexed = x.there s;
  },
  ((x.there s).few, mixed.1),
)
