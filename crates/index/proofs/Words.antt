-- The laws of words that are written, and of the index that they make.
use Prim.Native.Nat.{ℕ, suc, ◌+◌, ◌-◌, ◌*◌, ◌/◌, ◌%◌, ◌<◌, ◌≤◌}
use mathlib.Core.Path.{◌≡◌, ◌∙◌}
use mathlib.Core.List.{List}
use mathlib.Core.Bool.{Bool, true, false}
use native.Mathlib.Omega.{arith}
use native.Mathlib.Numerals.{add-one}
use borrow.Author.Tests.{le-leb, ltb-true, ltb-false}
use lib.Dec.{ltb}
use lib.ListN.{length, get_or, set, length-set}
use lib.Seq.{get_or-set_same, get_or-set_other}
use Rattle.octets.specs.Octets.{le32}
use Rattle.octets.specs.OctetLaws.{word_number}
use Rattle.index.specs.Chains.{row_range, print_range, is_entry, newest, marked}
use Rattle.index.specs.ChainLaws.{by_test, newest-le, index-none, index_old, index_new, marked-small}
use Rattle.index.specs.Work.{mix_range, word_at, put_word, print_of, pushed, Indexed, spare_heads, heads_for, Ready}

pub length-put : (w : List ℕ) (j x : ℕ) → length (put_word w j x) ≡ length w
unfolding put_word
length-put w j x = simp length-set

-- the octets before the second, the third and the fourth is written
abbrev put1 : List ℕ → ℕ → ℕ → List ℕ
put1 w at x = set w at (x % 256)

abbrev put2 : List ℕ → ℕ → ℕ → List ℕ
put2 w at x = set (put1 w at x) (suc at) (x / 256 % 256)

abbrev put3 : List ℕ → ℕ → ℕ → List ℕ
put3 w at x = set (put2 w at x) (suc (suc at)) (x / 65536 % 256)

-- the word that was written
pub word_same : (w : List ℕ) (j x : ℕ) → 4 * j + 4 ≤ length w → x < 4294967296 → word_at (put_word w j x) j ≡ x
unfolding word_at le32 put_word
word_same w j x h b =
    let at : ℕ = 4 * j in
    let d3 = x / 16777216 % 256 in
    let s1 : at + 1 ≡ suc at = omega arith in
    let s2 : at + 2 ≡ suc (suc at) = omega arith in
    let s3 : at + 3 ≡ suc (suc (suc at)) = omega arith in
    let e0 = get_or-set_other (put3 w at x) (suc (suc (suc at))) at d3 0 (λ q. omega arith)
    ∙ get_or-set_other (put2 w at x) (suc (suc at)) at (x / 65536 % 256) 0 (λ q. omega arith)
    ∙ get_or-set_other (put1 w at x) (suc at) at (x / 256 % 256) 0 (λ q. omega arith)
    ∙ get_or-set_same w at (x % 256) 0 (omega arith) in
    let e1 = get_or-set_other (put3 w at x) (suc (suc (suc at))) (suc at) d3 0 (λ q. omega arith)
    ∙ get_or-set_other (put2 w at x) (suc (suc at)) (suc at) (x / 65536 % 256) 0 (λ q. omega arith)
    ∙ get_or-set_same (put1 w at x) (suc at) (x / 256 % 256) 0 (simp length-set (omega arith)) in
    let e2 = get_or-set_other (put3 w at x) (suc (suc (suc at))) (suc (suc at)) d3 0 (λ q. omega arith)
    ∙ get_or-set_same (put2 w at x) (suc (suc at)) (x / 65536 % 256) 0 (simp length-set (omega arith)) in
    let e3 = get_or-set_same (put3 w at x) (suc (suc (suc at))) d3 0 (simp length-set (omega arith)) in
    simp (length-set, le-leb _ _ h)
    (rw (s1, s2, s3, e0, e1, e2, e3)
    (word_number x b))

-- an octet of another word
octet-other : (w : List ℕ) (j x p : ℕ) → (p / 4 ≡ j → ⊥) → get_or (put_word w j x) p 0 ≡ get_or w p 0
unfolding put_word
octet-other w j x p o =
    let at : ℕ = 4 * j in
    get_or-set_other (put3 w at x) (suc (suc (suc at))) p (x / 16777216 % 256) 0 (λ q. o (omega arith))
    ∙ get_or-set_other (put2 w at x) (suc (suc at)) p (x / 65536 % 256) 0 (λ q. o (omega arith))
    ∙ get_or-set_other (put1 w at x) (suc at) p (x / 256 % 256) 0 (λ q. o (omega arith))
    ∙ get_or-set_other w at p (x % 256) 0 (λ q. o (omega arith))

-- another word keeps its value
pub word-other : (w : List ℕ) (i j x : ℕ) → (j ≡ i → ⊥) → word_at (put_word w i x) j ≡ word_at w j
unfolding word_at le32
word-other w i j x n =
    rw (
      length-put w i x,
      octet-other w i x (4 * j) (λ q. n (omega arith)),
      octet-other w i x (4 * j + 1) (λ q. n (omega arith)),
      octet-other w i x (4 * j + 2) (λ q. n (omega arith)),
      octet-other w i x (4 * j + 3) (λ q. n (omega arith)),
    )

-- a word of octets that are 0
pub word-zero : (w : List ℕ) (h m : ℕ) → h < m → 4 * m ≤ length w → ((k : ℕ) → k < 4 * m → get_or w k 0 ≡ 0) → word_at w h ≡ 0
unfolding word_at le32
word-zero w h m b l z =
    simp (le-leb (4 * h + 4) (length w) (omega arith))
    (rw (z (4 * h) (omega arith), z (4 * h + 1) (omega arith), z (4 * h + 2) (omega arith), z (4 * h + 3) (omega arith)))

-- ---- the words of a row that is pushed
module _ (w : List ℕ) (m h y i : ℕ) (below : h < m) (room : 4 * (m + i) + 4 ≤ length w) where
  -- the head of its chain is the row and one, with its print
  pushed-head : suc i + row_range * print_of y < 4294967296 → word_at (pushed w m h y i) h ≡ suc i + row_range * print_of y
  unfolding pushed
  pushed-head s = word_same _ h _ (simp length-put (omega arith)) (omega arith) ∙ omega arith

  -- its link is the head that the chain had
  pushed-link : word_at w h < 4294967296 → word_at (pushed w m h y i) (m + i) ≡ word_at w h
  unfolding pushed
  pushed-link s = word-other _ h (m + i) _ (λ q. omega arith) ∙ word_same w (m + i) _ room s

  -- every other word stays
  pushed-other : (j : ℕ) → (j ≡ h → ⊥) → (j ≡ m + i → ⊥) → word_at (pushed w m h y i) j ≡ word_at w j
  unfolding pushed
  pushed-other j a b = word-other _ h j _ a ∙ word-other w (m + i) j _ b

  pushed-length : length (pushed w m h y i) ≡ length w
  unfolding pushed
  pushed-length = simp length-put

-- ---- the index in these words
module _ (fits : ℕ → ℕ → Bool) (hash print : ℕ → ℕ) (w : List ℕ) (m rows : ℕ) where
  pub indexed-none : 0 < m → m < mix_range → 4 * (m + rows) ≤ length w → rows < row_range - 1 → ((h : ℕ) → h < m → word_at w h ≡ 0) → Indexed fits hash print w m rows 0
  indexed-none s f r l z = record { some = s; few = f; room = r; small = l; index = index-none fits hash print m (word_at w) (λ k. word_at w (m + k)) z }

  module _ (i : ℕ) (x : Indexed fits hash print w m rows i) where
    pub indexed_old : is_entry fits i ≡ false → Indexed fits hash print w m rows (i + 1)
    indexed_old o = record {
      some = x.some;
      few = x.few;
      room = x.room;
      small = x.small;
      index = rw add-one (index_old fits hash print m (word_at w) (λ k. word_at w (m + k)) i x.index o);
    }

    -- a head is a u32
    head_small : ((k : ℕ) → print k < print_range) → i < rows → (h : ℕ) → h < m → word_at w h < 4294967296
    head_small b c h l = rw (x.index.head h l) (marked-small print (newest fits hash h i) (omega (arith, newest-le fits hash h i, x.small)) b)

    pub indexed_new : ((k : ℕ) → print k < print_range) → i < rows → is_entry fits i ≡ true → (h y : ℕ) → h ≡ hash i → print_of y ≡ print i → h < m
        → Indexed fits hash print (pushed w m h y i) m rows (i + 1)
    unfolding marked
    indexed_new pb c o h y e p l = record {
      some = x.some;
      few = x.few;
      room = rw (pushed-length w m h y i l fits_in) x.room;
      small = x.small;
      index = rw add-one
          (index_new fits hash print m (word_at w) (λ k. word_at w (m + k)) (word_at (pushed w m h y i)) (λ k. word_at (pushed w m h y i) (m + k)) i
          x.index o (rw e at l)
          (rw (← e) (pushed-head w m h y i l fits_in (omega (arith, x.small, pb i, p)) ∙ omega (arith, p)))
          (λ g b q. pushed-other w m h y i l fits_in g (λ r. q (r ∙ e)) (λ r. omega arith))
          (rw (← e) (pushed-link w m h y i l fits_in (head_small pb c h l)))
          (λ k b. pushed-other w m h y i l fits_in (m + k) (λ r. omega arith) (λ r. omega arith)));
    }
      where
        fits_in : 4 * (m + i) + 4 ≤ length w
        fits_in = omega (arith, x.room)

-- ---- how many heads
-- where there are some, they and the links have room, and a row and one has 19 bits
pub heads_fit : (words rows m : ℕ) → m ≡ heads_for words rows → (m ≡ 0 → ⊥) → (m + rows ≤ words) × (rows < row_range - 1) × (m ≤ rows + spare_heads)
unfolding heads_for
heads_fit words rows m e s =
    by_test (ltb rows (row_range - 1))
    (λ a.
    by_test (ltb rows words)
    (λ b.
    by_test (ltb (words - rows) (rows + spare_heads))
    (λ c. let q = simp (a, b, c) at e in (omega (arith, ltb-true rows words b), ltb-true rows (row_range - 1) a, omega (arith, ltb-true (words - rows) (rows + spare_heads) c)))
    (λ c. let q = simp (a, b, c) at e in (omega (arith, ltb-true rows words b, ltb-false (words - rows) (rows + spare_heads) c), ltb-true rows (row_range - 1) a, omega arith)))
    (λ b. absurd (s (simp (a, b) at e))))
    (λ a. absurd (s (simp a at e)))

module _ (w : List ℕ) (m rows : ℕ) where
  -- every head is 0
  pub ready_clear : (n : ℕ) → length w ≡ n → m ≡ heads_for (n / 4) rows → ((h : ℕ) → h < m → word_at w h ≡ 0) → Ready w m rows
  ready_clear n l e z = record {
    there = λ fits hash print s. let f = heads_fit (n / 4) rows m e s in indexed-none fits hash print w m rows (omega arith) (omega arith) (omega arith) f.1 z;
  }
