-- The laws of a header that is written: where tables start, and that it is read as it was meant.
use Prim.Native.Nat.{ℕ, zero, suc, ◌+◌, ◌*◌, ◌^◌, ◌<◌, ◌≤◌}
use Rattle.std.specs.Prelude.{◌≡◌, take, get_or}
use Rattle.std.proofs.Math.Path.{refl, ap}
use Rattle.std.proofs.Common.{sym, ◌∙◌, le_refl, arith, length-append, take-add}
use mathlib.Core.List.{List, ◌++◌, append_assoc}
use Rattle.std.proofs.Math.Numerals.{add-one}
use Rattle.std.proofs.Math.Decide.{le_ind}
use Rattle.std.proofs.Math.ListN.{length}
use Rattle.std.proofs.lemmas.List.Edits.{sets}
use Rattle.octets.specs.Octets.{le32, word, filled}
use Rattle.octets.specs.BufferLaws.{filled_more}
use Rattle.octets.specs.OctetLaws.{le32-word, le32-past, word_back}
use Rattle.octets.specs.Gather.{gather}
use Rattle.octets.specs.GatherLaws.{gather-around, gather_even, gather-agree}
use Rattle.listing.specs.Listing.{row, version, total, count, offset, start}
use Rattle.listing.specs.declared.Format.TheVariants.{Edition1}
use Rattle.listing.specs.Header.{start_of, two, pair, pairs, header}

-- the second of two words is read again
second-read : (v w : ℕ) (s : List ℕ) → w < 2 ^ 32 → le32 (two v w ++ s) 4 ≡ w
unfolding two
second-read v w s h = le32-past (word v) (word w ++ s) 0 ∙ le32-word w s h

-- pairs of words that were read are the octets that they were read from
pub pairs-back : (n : ℕ) (s : List ℕ) → ((k : ℕ) → get_or s k 0 < 256) → 8 * n ≤ length s → gather n (λ k. two (le32 s (8 * k)) (le32 s (8 * k + 4))) ≡ take (8 * n) s
unfolding two
pairs-back zero s p h = refl
pairs-back (suc n) s p h =
    let e : 8 * suc n ≡ 8 * n + 4 + 4 = omega arith in
    rw (e, take-add (8 * n + 4) 4 s, take-add (8 * n) 4 s, ← word_back s (8 * n) p (omega arith), ← word_back s (8 * n + 4) p (omega arith), pairs-back n s p (omega arith), append_assoc)

-- parts that follow the header start where they stand
pub start-gather : (ps : ℕ → List ℕ) (k : ℕ) → start_of (λ j. length (ps j)) k ≡ 64 + length (gather k ps)
unfolding start_of
start-gather ps zero = omega arith
start-gather ps (suc k) = omega (arith, start-gather ps k, length-append (gather k ps) (ps k))

-- one table more
pub start-next : (z : ℕ → ℕ) (at x i : ℕ) → at ≡ start_of z i → x ≡ z i → at + x ≡ start_of z (i + 1)
unfolding start_of
start-next z at x i e f = rw add-one (cc)

-- as many octets for each table start alike
pub start-agree : (f g : ℕ → ℕ) (n : ℕ) → ((k : ℕ) → k < n → f k ≡ g k) → start_of f n ≡ start_of g n
unfolding start_of
start-agree f g zero h = refl
start-agree f g (suc n) h = omega (arith, start-agree f g n (λ k l. h k (omega arith)), h n (omega arith))

-- a table starts no earlier than the ones before it
pub start_grows : (z : ℕ → ℕ) (k n : ℕ) → k ≤ n → start_of z k ≤ start_of z n
unfolding start_of
start_grows z k n l = le_ind (λ (m : ℕ). start_of z k ≤ start_of z m) (le_refl _) (λ m _ q. omega (arith, q)) n l

-- the reader's start is that of the octets that its counts take
pub start-read : (s : List ℕ) (k : ℕ) → start Edition1 s k ≡ start_of (λ j. row j * count s j) k
unfolding start start_of
start-read s zero = refl
start-read s (suc k) = rw (start-read s k)

module _ (v : ℕ) (c z : ℕ → ℕ) where
  pair-length : (k : ℕ) → length (pair v c z k) ≡ 8
  unfolding two
  pair-length zero = refl
  pair-length (suc k) = refl

  pub pairs-length : (k : ℕ) → length (pairs v c z k) ≡ 8 * k
  unfolding pairs
  pairs-length k = omega (arith, gather_even k 8 (pair v c z) pair-length)

  pub header-length : length (header v c z) ≡ 64
  header-length = pairs-length 8

  -- one pair more in a buffer
  pub header-more : (k x y : ℕ) (b d e : List ℕ) → d ≡ filled (pairs v c z k) b → 1 ≤ k → 8 * k + 8 ≤ length b
      → x ≡ c k → y ≡ start_of z k → e ≡ sets d (8 * k) (two x y) → e ≡ filled (pairs v c z (k + 1)) b
  unfolding pairs
  header-more zero x y b d e p l h f g q = absurd (omega (arith, l))
  header-more (suc k) x y b d e p l h f g q =
      rw add-one (filled_more (gather (suc k) (pair v c z)) (pair v c z (suc k)) b d e (8 * suc k) p (sym (pairs-length (suc k))) (omega (arith, pair-length (suc k))) (q ∙ rw (f, g)))

  -- what the reader finds in pair k of a header before other octets
  at_pair : (k : ℕ) (t : List ℕ) → k < 8 → (rest : List ℕ) × (header v c z ++ t ≡ gather k (pair v c z) ++ (pair v c z k ++ rest))
  unfolding pairs
  at_pair k t l =
      let g = gather-around k 8 (pair v c z) l in
      (g.0 ++ t, ap (λ (xs : List ℕ). xs ++ t) g.1 ∙ simp append_assoc)

  first_word : (k : ℕ) (t : List ℕ) → k < 8 → (rest : List ℕ) × (le32 (header v c z ++ t) (8 * k) ≡ le32 (pair v c z k ++ rest) 0)
  unfolding pairs
  first_word k t l =
      let g = at_pair k t l in
      let e : 8 * k ≡ length (gather k (pair v c z)) + 0 = omega (arith, pairs-length k) in
      (g.0, rw (g.1, e) (le32-past (gather k (pair v c z)) (pair v c z k ++ g.0) 0))

  second_word : (k : ℕ) (t : List ℕ) → k < 8 → (rest : List ℕ) × (le32 (header v c z ++ t) (8 * k + 4) ≡ le32 (pair v c z k ++ rest) 4)
  unfolding pairs
  second_word k t l =
      let g = at_pair k t l in
      let e : 8 * k + 4 ≡ length (gather k (pair v c z)) + 4 = omega (arith, pairs-length k) in
      (g.0, rw (g.1, e) (le32-past (gather k (pair v c z)) (pair v c z k ++ g.0) 4))

  pub version-read : (t : List ℕ) → v < 2 ^ 32 → version (header v c z ++ t) ≡ v
  unfolding version two
  version-read t h = let g = first_word 0 t (omega arith) in g.1 ∙ le32-word v (word (start_of z 8) ++ g.0) h

  pub total-read : (t : List ℕ) → start_of z 8 < 2 ^ 32 → total (header v c z ++ t) ≡ start_of z 8
  unfolding total two
  total-read t h = let g = second_word 0 t (omega arith) in g.1 ∙ second-read v (start_of z 8) g.0 h

  pub count-read : (k : ℕ) (t : List ℕ) → 1 ≤ k → k ≤ 7 → c k < 2 ^ 32 → count (header v c z ++ t) k ≡ c k
  unfolding count two
  count-read zero t l m h = absurd (omega (arith, l))
  count-read (suc k) t l m h = let g = first_word (suc k) t (omega arith) in g.1 ∙ le32-word (c (suc k)) (word (start_of z (suc k)) ++ g.0) h

  pub offset_read : (k : ℕ) (t : List ℕ) → 1 ≤ k → k ≤ 7 → start_of z k < 2 ^ 32 → offset (header v c z ++ t) k ≡ start_of z k
  unfolding offset two
  offset_read zero t l m h = absurd (omega (arith, l))
  offset_read (suc k) t l m h = let g = second_word (suc k) t (omega arith) in g.1 ∙ second-read (c (suc k)) (start_of z (suc k)) g.0 h

-- counts and sizes that agree on the seven tables make the same header
pub header-agree : (v : ℕ) (c d y z : ℕ → ℕ) → ((k : ℕ) → 1 ≤ k → k < 8 → c k ≡ d k) → ((k : ℕ) → k < 8 → y k ≡ z k) → header v c y ≡ header v d z
unfolding pairs
header-agree v c d y z h g = gather-agree 8 (pair v c y) (pair v d z) each
  where
    each : (k : ℕ) → k < 8 → pair v c y k ≡ pair v d z k
    each zero l = rw (start-agree y z 8 g)
    each (suc k) l = rw (h (suc k) (omega arith) l, start-agree y z (suc k) (λ j m. g j (omega arith)))
