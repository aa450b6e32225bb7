-- The laws of one character: what a first octet asks of the octets after it, where a character ends, and that only its first octet is no continuation.
use Rattle.std.specs.Prelude.{ℕ, zero, suc, ◌+◌, ◌<◌, ◌≤◌, ◌≡◌, Bool, true, false, cond, ◌&&◌, ◌||◌, leb, ltb, length, drop, take, get_or}
use Rattle.std.proofs.Common.{zero-le, sym, ◌∙◌, subst, le_of_suc-le-suc, not-suc-le-zero, arith, le-leb, leb-true, ltb-true, drop-cons, get_or-drop}
use Rattle.std.proofs.Math.Path.{refl, ap}
use mathlib.Core.List.{List, [], ◌∷◌}
use Rattle.std.proofs.lemmas.Bool.{false≢true, lt-leb}
use Rattle.std.proofs.Math.Bool.{and-eq-true_iff}
use Rattle.utf8.specs.Utf8.{in_range, table37, fits, size_by, size}

-- ---- an octet and a range
pub range_in : (low high x : ℕ) → low ≤ x → x ≤ high → in_range low high x ≡ true
unfolding in_range
range_in low high x p q = simp (le-leb low x p, le-leb x high q)

pub range_below : (low high x : ℕ) → x < low → in_range low high x ≡ false
unfolding in_range
range_below low high x p = simp (lt-leb low x p)

pub range_above : (low high x : ℕ) → high < x → in_range low high x ≡ false
unfolding in_range
range_above low high x p = by (leb low x)
  where
    by : (a : Bool) → (a && leb x high) ≡ false
    by true = lt-leb x high p
    by false = refl

-- ---- what the first octet asks of the next
-- the first octets of some rows rise, from n on
abbrev rises : ℕ → List (List (ℕ × ℕ)) → Bool
rises n [] = true
rises n ([] ∷ rows) = false
rises n ((r ∷ rest) ∷ rows) = leb n r.0 && (leb r.0 r.1 && rises (suc r.1) rows)

record Rises (n : ℕ) (r : ℕ × ℕ) (rows : List (List (ℕ × ℕ))) : Type 0 where
  low : n ≤ r.0
  high : r.0 ≤ r.1
  next : rises (suc r.1) rows ≡ true

rises-one : (n : ℕ) (r : ℕ × ℕ) (rest : List (ℕ × ℕ)) (rows : List (List (ℕ × ℕ))) → rises n ((r ∷ rest) ∷ rows) ≡ true → Rises n r rows
rises-one n r rest rows e =
    let p = (and-eq-true_iff (leb n r.0) (leb r.0 r.1 && rises (suc r.1) rows)).0 e in
    let q = (and-eq-true_iff (leb r.0 r.1) (rises (suc r.1) rows)).0 p.1 in
    record { low = leb-true n r.0 p.0; high = leb-true r.0 r.1 q.0; next = q.1 }

abbrev head_or : ℕ × ℕ → List (ℕ × ℕ) → ℕ × ℕ
head_or d [] = d
head_or d (r ∷ rs) = r

-- a row ends no lower than they rise from
later : (k n : ℕ) (rows : List (List (ℕ × ℕ))) → rises n rows ≡ true → (t : ℕ × ℕ) (ts : List (ℕ × ℕ)) → get_or rows k [] ≡ t ∷ ts → n ≤ t.1
later k n [] h t ts e = absurd (omega (arith, ap length e))
later k n ([] ∷ rows) h t ts e = absurd (false≢true h)
later zero n ((r ∷ rest) ∷ rows) h t ts e =
    let m = rises-one n r rest rows h in
    subst (λ (x : ℕ × ℕ). n ≤ x.1) (ap (head_or t) e) (omega (arith, m.low, m.high))
later (suc k) n ((r ∷ rest) ∷ rows) h t ts e =
    let m = rises-one n r rest rows h in
    omega (arith, m.low, m.high, later k (suc r.1) rows m.next t ts e)

module _ (a : ℕ) (s : List ℕ) where
  -- rows that rise above it begin with none
  above : (rows : List (List (ℕ × ℕ))) (n : ℕ) → rises n rows ≡ true → a < n → size_by rows (a ∷ s) ≡ 0
  above [] n h l = refl
  above ([] ∷ rows) n h l = absurd (false≢true h)
  above ((r ∷ rest) ∷ rows) n h l =
      let k = rises-one n r rest rows h in
      let e : in_range r.0 r.1 a ≡ false = range_below r.0 r.1 a (omega (arith, k.low)) in
      simp e (above rows (suc r.1) k.next (omega (arith, k.low, k.high)))

  -- the row that it begins decides
  here : (r : ℕ × ℕ) (rest : List (ℕ × ℕ)) (rows : List (List (ℕ × ℕ))) → rises (suc r.1) rows ≡ true → r.0 ≤ a → a ≤ r.1
      → size_by ((r ∷ rest) ∷ rows) (a ∷ s) ≡ cond (fits rest s) (suc (length rest)) 0
  here r rest rows h p q = simp (range_in r.0 r.1 a p q, above rows (suc r.1) h (omega arith))

  -- rows below it are passed, up to one that ends below it
  passes : (k n : ℕ) (rows : List (List (ℕ × ℕ))) → rises n rows ≡ true → (t : ℕ × ℕ) (ts : List (ℕ × ℕ)) → get_or rows k [] ≡ t ∷ ts → t.1 < a
      → size_by rows (a ∷ s) ≡ size_by (drop (suc k) rows) (a ∷ s)
  passes k n [] h t ts e l = refl
  passes k n ([] ∷ rows) h t ts e l = absurd (false≢true h)
  passes zero n ((r ∷ rest) ∷ rows) h t ts e l =
      let d : r ≡ t = ap (head_or t) e in
      let f : in_range r.0 r.1 a ≡ false = range_above r.0 r.1 a (subst (λ (x : ℕ × ℕ). x.1 < a) (sym d) l) in
      simp f
  passes (suc k) n ((r ∷ rest) ∷ rows) h t ts e l =
      let m = rises-one n r rest rows h in
      let f : in_range r.0 r.1 a ≡ false = range_above r.0 r.1 a (omega (arith, l, later k (suc r.1) rows m.next t ts e)) in
      simp f (passes k (suc r.1) rows m.next t ts e l)

  -- so each row of the table by itself, and what stands in none
  row-after : (k : ℕ) (t : ℕ × ℕ) {ts : List (ℕ × ℕ)} (r : ℕ × ℕ) (rest : List (ℕ × ℕ)) {rows : List (List (ℕ × ℕ))} → get_or table37 k [] ≡ t ∷ ts → drop (suc k) table37 ≡ (r ∷ rest) ∷ rows
      → rises (suc r.1) rows ≡ true → t.1 < a → r.0 ≤ a → a ≤ r.1 → size (a ∷ s) ≡ cond (fits rest s) (suc (length rest)) 0
  unfolding size table37
  row-after k t {ts} r rest {rows} e d h l p q = passes k 0 table37 refl t ts e l ∙ ap (λ (x : List (List (ℕ × ℕ))). size_by x (a ∷ s)) d ∙ here r rest rows h p q

  pub one : 0x00 ≤ a → a ≤ 0x7F → size (a ∷ s) ≡ 1
  unfolding size table37
  one p q = here (0x00, 0x7F) [] (drop 1 table37) refl p q

  pub two : 0xC2 ≤ a → a ≤ 0xDF → size (a ∷ s) ≡ cond (fits ((0x80, 0xBF) ∷ []) s) 2 0
  unfolding table37
  two p q = row-after 0 (0x00, 0x7F) (0xC2, 0xDF) ((0x80, 0xBF) ∷ []) refl refl refl (omega arith) p q

  pub three-e0 : 0xE0 ≤ a → a ≤ 0xE0 → size (a ∷ s) ≡ cond (fits ((0xA0, 0xBF) ∷ (0x80, 0xBF) ∷ []) s) 3 0
  unfolding table37
  three-e0 p q = row-after 1 (0xC2, 0xDF) (0xE0, 0xE0) ((0xA0, 0xBF) ∷ (0x80, 0xBF) ∷ []) refl refl refl (omega arith) p q

  pub three_e1 : 0xE1 ≤ a → a ≤ 0xEC → size (a ∷ s) ≡ cond (fits ((0x80, 0xBF) ∷ (0x80, 0xBF) ∷ []) s) 3 0
  unfolding table37
  three_e1 p q = row-after 2 (0xE0, 0xE0) (0xE1, 0xEC) ((0x80, 0xBF) ∷ (0x80, 0xBF) ∷ []) refl refl refl (omega arith) p q

  pub three-ed : 0xED ≤ a → a ≤ 0xED → size (a ∷ s) ≡ cond (fits ((0x80, 0x9F) ∷ (0x80, 0xBF) ∷ []) s) 3 0
  unfolding table37
  three-ed p q = row-after 3 (0xE1, 0xEC) (0xED, 0xED) ((0x80, 0x9F) ∷ (0x80, 0xBF) ∷ []) refl refl refl (omega arith) p q

  pub three_ee : 0xEE ≤ a → a ≤ 0xEF → size (a ∷ s) ≡ cond (fits ((0x80, 0xBF) ∷ (0x80, 0xBF) ∷ []) s) 3 0
  unfolding table37
  three_ee p q = row-after 4 (0xED, 0xED) (0xEE, 0xEF) ((0x80, 0xBF) ∷ (0x80, 0xBF) ∷ []) refl refl refl (omega arith) p q

  pub four-f0 : 0xF0 ≤ a → a ≤ 0xF0 → size (a ∷ s) ≡ cond (fits ((0x90, 0xBF) ∷ (0x80, 0xBF) ∷ (0x80, 0xBF) ∷ []) s) 4 0
  unfolding table37
  four-f0 p q = row-after 5 (0xEE, 0xEF) (0xF0, 0xF0) ((0x90, 0xBF) ∷ (0x80, 0xBF) ∷ (0x80, 0xBF) ∷ []) refl refl refl (omega arith) p q

  pub four_f1 : 0xF1 ≤ a → a ≤ 0xF3 → size (a ∷ s) ≡ cond (fits ((0x80, 0xBF) ∷ (0x80, 0xBF) ∷ (0x80, 0xBF) ∷ []) s) 4 0
  unfolding table37
  four_f1 p q = row-after 6 (0xF0, 0xF0) (0xF1, 0xF3) ((0x80, 0xBF) ∷ (0x80, 0xBF) ∷ (0x80, 0xBF) ∷ []) refl refl refl (omega arith) p q

  pub four-f4 : 0xF4 ≤ a → a ≤ 0xF4 → size (a ∷ s) ≡ cond (fits ((0x80, 0x8F) ∷ (0x80, 0xBF) ∷ (0x80, 0xBF) ∷ []) s) 4 0
  unfolding table37
  four-f4 p q = row-after 7 (0xF1, 0xF3) (0xF4, 0xF4) ((0x80, 0x8F) ∷ (0x80, 0xBF) ∷ (0x80, 0xBF) ∷ []) refl refl refl (omega arith) p q

  pub none-low : 0x80 ≤ a → a ≤ 0xC1 → size (a ∷ s) ≡ 0
  unfolding size table37
  none-low p q = passes 0 0 table37 refl (0x00, 0x7F) [] refl (omega arith) ∙ above (drop 1 table37) 0xC2 refl (omega arith)

  pub none-high : 0xF5 ≤ a → size (a ∷ s) ≡ 0
  unfolding size table37
  none-high p = passes 8 0 table37 refl (0xF4, 0xF4) ((0x80, 0x8F) ∷ (0x80, 0xBF) ∷ (0x80, 0xBF) ∷ []) refl (omega arith)

-- ---- how long a character is
fits-length : (row : List (ℕ × ℕ)) (s : List ℕ) → fits row s ≡ true → length row ≤ length s
fits-length [] s e = zero-le
fits-length (r ∷ rs) [] e = absurd (false≢true e)
fits-length (r ∷ rs) (x ∷ s) e = omega (arith, fits-length rs s ((and-eq-true_iff (in_range r.0 r.1 x) (fits rs s)).0 e).1)

rows-length : (rows : List (List (ℕ × ℕ))) (s : List ℕ) → size_by rows s ≤ length s
rows-length [] s = zero-le
rows-length (row ∷ rows) s = by (fits row s) refl (rows-length rows s)
  where
    by : (b : Bool) → fits row s ≡ b → size_by rows s ≤ length s → cond b (length row) (size_by rows s) ≤ length s
    by true e h = fits-length row s e
    by false e h = h

pub size-length : (s : List ℕ) → size s ≤ length s
unfolding size
size-length s = rows-length table37 s

-- ---- only the first octet of a character is no continuation octet
abbrev pub continuation : ℕ → Bool
continuation x = in_range 0x80 0xBF x

abbrev tail_ranges : List (ℕ × ℕ) → Bool
tail_ranges [] = true
tail_ranges (r ∷ rs) = leb 0x80 r.0 && (leb r.1 0xBF && tail_ranges rs)

abbrev row_ranges : List (ℕ × ℕ) → Bool
row_ranges [] = false
row_ranges (r ∷ rs) = (ltb r.1 0x80 || ltb 0xBF r.0) && (tail_ranges rs && leb (length rs) 3)

abbrev all_ranges : List (List (ℕ × ℕ)) → Bool
all_ranges [] = true
all_ranges (row ∷ rows) = row_ranges row && all_ranges rows

both : (a b : Bool) → (a && b) ≡ true → (a ≡ true) × (b ≡ true)
both a b e = (and-eq-true_iff a b).0 e

ranges_37 : all_ranges table37 ≡ true
unfolding table37
ranges_37 = refl

in_low : (low high x : ℕ) → in_range low high x ≡ true → low ≤ x
unfolding in_range
in_low low high x e = leb-true low x (both (leb low x) (leb x high) e).0

in_high : (low high x : ℕ) → in_range low high x ≡ true → x ≤ high
unfolding in_range
in_high low high x e = leb-true x high (both (leb low x) (leb x high) e).1

tail-octet : (rs : List (ℕ × ℕ)) (s : List ℕ) (j : ℕ) → tail_ranges rs ≡ true → fits rs s ≡ true → j < length rs → continuation (get_or s j 0) ≡ true
tail-octet [] s j t e l = absurd (not-suc-le-zero l)
tail-octet (r ∷ rs) [] j t e l = absurd (false≢true e)
tail-octet (r ∷ rs) (x ∷ s) zero t e l =
    let a = both (leb 0x80 r.0) (leb r.1 0xBF && tail_ranges rs) t in
    let b = both (leb r.1 0xBF) (tail_ranges rs) a.1 in
    let f = both (in_range r.0 r.1 x) (fits rs s) e in
    range_in 0x80 0xBF x (omega (arith, leb-true 0x80 r.0 a.0, in_low r.0 r.1 x f.0)) (omega (arith, leb-true r.1 0xBF b.0, in_high r.0 r.1 x f.0))
tail-octet (r ∷ rs) (x ∷ s) (suc j) t e l =
    let a = both (leb 0x80 r.0) (leb r.1 0xBF && tail_ranges rs) t in
    let b = both (leb r.1 0xBF) (tail_ranges rs) a.1 in
    let f = both (in_range r.0 r.1 x) (fits rs s) e in
    tail-octet rs s j b.1 f.1 (le_of_suc-le-suc l)

row_next : (row : List (ℕ × ℕ)) (s : List ℕ) (j : ℕ) → row_ranges row ≡ true → fits row s ≡ true → 0 < j → j < length row → continuation (get_or s j 0) ≡ true
row_next [] s j t e p l = absurd (not-suc-le-zero l)
row_next (r ∷ rs) [] j t e p l = absurd (false≢true e)
row_next (r ∷ rs) (x ∷ s) zero t e p l = absurd (not-suc-le-zero p)
row_next (r ∷ rs) (x ∷ s) (suc j) t e p l =
    let a = both (ltb r.1 0x80 || ltb 0xBF r.0) (tail_ranges rs && leb (length rs) 3) t in
    let b = both (tail_ranges rs) (leb (length rs) 3) a.1 in
    tail-octet rs s j b.0 (both (in_range r.0 r.1 x) (fits rs s) e).1 (le_of_suc-le-suc l)

row_first : (row : List (ℕ × ℕ)) (s : List ℕ) → row_ranges row ≡ true → fits row s ≡ true → continuation (get_or s 0 0) ≡ false
row_first [] s t e = absurd (false≢true t)
row_first (r ∷ rs) [] t e = absurd (false≢true e)
row_first (r ∷ rs) (x ∷ s) t e = by (ltb r.1 0x80) refl
  where
    f : in_range r.0 r.1 x ≡ true
    f = (both (in_range r.0 r.1 x) (fits rs s) e).0

    a : (ltb r.1 0x80 || ltb 0xBF r.0) ≡ true
    a = (both (ltb r.1 0x80 || ltb 0xBF r.0) (tail_ranges rs && leb (length rs) 3) t).0

    by : (b : Bool) → ltb r.1 0x80 ≡ b → continuation x ≡ false
    by true q = range_below 0x80 0xBF x (omega (arith, ltb-true r.1 0x80 q, in_high r.0 r.1 x f))
    by false q = range_above 0x80 0xBF x (omega (arith, ltb-true 0xBF r.0 (simp q at a), in_low r.0 r.1 x f))

rows_next : (rows : List (List (ℕ × ℕ))) (s : List ℕ) (j : ℕ) → all_ranges rows ≡ true → 0 < j → j < size_by rows s → continuation (get_or s j 0) ≡ true
rows_next [] s j t p l = absurd (not-suc-le-zero l)
rows_next (row ∷ rows) s j t p l = by (fits row s) refl l (λ l. rows_next rows s j (both (row_ranges row) (all_ranges rows) t).1 p l)
  where
    by : (b : Bool) → fits row s ≡ b → j < cond b (length row) (size_by rows s) → (j < size_by rows s → continuation (get_or s j 0) ≡ true) → continuation (get_or s j 0) ≡ true
    by true e l h = row_next row s j (both (row_ranges row) (all_ranges rows) t).0 e p l
    by false e l h = h l

rows-first : (rows : List (List (ℕ × ℕ))) (s : List ℕ) → all_ranges rows ≡ true → 0 < size_by rows s → continuation (get_or s 0 0) ≡ false
rows-first [] s t l = absurd (not-suc-le-zero l)
rows-first (row ∷ rows) s t l = by (fits row s) refl l (λ l. rows-first rows s (both (row_ranges row) (all_ranges rows) t).1 l)
  where
    by : (b : Bool) → fits row s ≡ b → 0 < cond b (length row) (size_by rows s) → (0 < size_by rows s → continuation (get_or s 0 0) ≡ false) → continuation (get_or s 0 0) ≡ false
    by true e l h = row_first row s (both (row_ranges row) (all_ranges rows) t).0 e
    by false e l h = h l

pub size-next : (s : List ℕ) (j : ℕ) → 0 < j → j < size s → continuation (get_or s j 0) ≡ true
unfolding size
size-next s j p l = rows_next table37 s j ranges_37 p l

pub size-first : (s : List ℕ) → 0 < size s → continuation (get_or s 0 0) ≡ false
unfolding size
size-first s l = rows-first table37 s ranges_37 l

-- ---- a character that lies in the first m octets is one of theirs
fits-take : (row : List (ℕ × ℕ)) (s : List ℕ) (m : ℕ) → length row ≤ m → fits row (take m s) ≡ fits row s
fits-take [] s m l = refl
fits-take (r ∷ rs) s zero l = absurd (not-suc-le-zero l)
fits-take (r ∷ rs) [] (suc m) l = refl
fits-take (r ∷ rs) (x ∷ s) (suc m) l = ap (λ (b : Bool). in_range r.0 r.1 x && b) (fits-take rs s m (le_of_suc-le-suc l))

fits_take_no : (row : List (ℕ × ℕ)) (s : List ℕ) (m : ℕ) → fits row s ≡ false → fits row (take m s) ≡ false
fits_take_no [] s m e = e
fits_take_no (r ∷ rs) s zero e = refl
fits_take_no (r ∷ rs) [] (suc m) e = refl
fits_take_no (r ∷ rs) (x ∷ s) (suc m) e = by (in_range r.0 r.1 x) e (λ q. fits_take_no rs s m q)
  where
    by : (b : Bool) → (b && fits rs s) ≡ false → (fits rs s ≡ false → fits rs (take m s) ≡ false) → (b && fits rs (take m s)) ≡ false
    by true q h = h q
    by false q h = refl

rows_take : (rows : List (List (ℕ × ℕ))) (s : List ℕ) (m : ℕ) → 0 < size_by rows s → size_by rows s ≤ m → size_by rows (take m s) ≡ size_by rows s
rows_take [] s m p l = refl
rows_take (row ∷ rows) s m p l = by (fits row s) refl p l (λ p l. rows_take rows s m p l)
  where
    by : (b : Bool) → fits row s ≡ b → 0 < cond b (length row) (size_by rows s) → cond b (length row) (size_by rows s) ≤ m
        → (0 < size_by rows s → size_by rows s ≤ m → size_by rows (take m s) ≡ size_by rows s)
        → cond (fits row (take m s)) (length row) (size_by rows (take m s)) ≡ cond b (length row) (size_by rows s)
    by true e p l h = let f : fits row (take m s) ≡ true = fits-take row s m l ∙ e in simp f
    by false e p l h = let f : fits row (take m s) ≡ false = fits_take_no row s m e in simp f (h p l)

pub size-take : (s : List ℕ) (m : ℕ) → 0 < size s → size s ≤ m → size (take m s) ≡ size s
unfolding size
size-take s m p l = rows_take table37 s m p l

-- ---- the octets past the end may be read as 0
abbrev pub padded : ℕ → List ℕ → List ℕ
padded zero s = []
padded (suc n) [] = 0 ∷ padded n []
padded (suc n) (x ∷ s) = x ∷ padded n s

fits-padded : (rs : List (ℕ × ℕ)) (s : List ℕ) (n : ℕ) → tail_ranges rs ≡ true → length rs ≤ n → fits rs (padded n s) ≡ fits rs s
fits-padded [] s n t l = refl
fits-padded (r ∷ rs) s zero t l = absurd (not-suc-le-zero l)
fits-padded (r ∷ rs) [] (suc n) t l =
    let e : in_range r.0 r.1 0 ≡ false = range_below r.0 r.1 0 (omega (arith, leb-true 0x80 r.0 (both (leb 0x80 r.0) (leb r.1 0xBF && tail_ranges rs) t).0)) in
    simp e
fits-padded (r ∷ rs) (x ∷ s) (suc n) t l =
    let a = both (leb 0x80 r.0) (leb r.1 0xBF && tail_ranges rs) t in
    let b = both (leb r.1 0xBF) (tail_ranges rs) a.1 in
    ap (λ (c : Bool). in_range r.0 r.1 x && c) (fits-padded rs s n b.1 (le_of_suc-le-suc l))

row-padded : (row : List (ℕ × ℕ)) (x : ℕ) (s : List ℕ) → row_ranges row ≡ true → fits row (x ∷ padded 3 s) ≡ fits row (x ∷ s)
row-padded [] x s t = absurd (false≢true t)
row-padded (r ∷ rs) x s t =
    let a = both (ltb r.1 0x80 || ltb 0xBF r.0) (tail_ranges rs && leb (length rs) 3) t in
    let b = both (tail_ranges rs) (leb (length rs) 3) a.1 in
    ap (λ (c : Bool). in_range r.0 r.1 x && c) (fits-padded rs s 3 b.0 (leb-true (length rs) 3 b.1))

rows-padded : (rows : List (List (ℕ × ℕ))) (x : ℕ) (s : List ℕ) → all_ranges rows ≡ true → size_by rows (x ∷ padded 3 s) ≡ size_by rows (x ∷ s)
rows-padded [] x s t = refl
rows-padded (row ∷ rows) x s t =
    let a = both (row_ranges row) (all_ranges rows) t in
    let e : fits row (x ∷ padded 3 s) ≡ fits row (x ∷ s) = row-padded row x s a.0 in
    let f : size_by rows (x ∷ padded 3 s) ≡ size_by rows (x ∷ s) = rows-padded rows x s a.1 in
    cc

pub size-padded : (x : ℕ) (s : List ℕ) → size (x ∷ padded 3 s) ≡ size (x ∷ s)
unfolding size
size-padded x s = rows-padded table37 x s ranges_37

padded-four : (s : List ℕ) → padded 3 s ≡ get_or s 0 0 ∷ get_or s 1 0 ∷ get_or s 2 0 ∷ []
padded-four [] = refl
padded-four (x ∷ []) = refl
padded-four (x ∷ y ∷ []) = refl
padded-four (x ∷ y ∷ z ∷ s) = refl

-- the character at a place, by four octets
pub size-at : (s : List ℕ) (p : ℕ) → p < length s → size (get_or s p 0 ∷ get_or s (p + 1) 0 ∷ get_or s (p + 2) 0 ∷ get_or s (p + 3) 0 ∷ []) ≡ size (drop p s)
size-at s p l =
    let t : List ℕ = drop (suc p) s in
    let e : drop p s ≡ get_or s p 0 ∷ t = drop-cons s p 0 l in
    let q0 : get_or t 0 0 ≡ get_or s (p + 1) 0 = get_or-drop (suc p) s 0 0 ∙ ap (λ (n : ℕ). get_or s n 0) (omega arith) in
    let q1 : get_or t 1 0 ≡ get_or s (p + 2) 0 = get_or-drop (suc p) s 1 0 ∙ ap (λ (n : ℕ). get_or s n 0) (omega arith) in
    let q2 : get_or t 2 0 ≡ get_or s (p + 3) 0 = get_or-drop (suc p) s 2 0 ∙ ap (λ (n : ℕ). get_or s n 0) (omega arith) in
    let w : get_or s p 0 ∷ padded 3 t ≡ get_or s p 0 ∷ get_or s (p + 1) 0 ∷ get_or s (p + 2) 0 ∷ get_or s (p + 3) 0 ∷ [] = ap (λ (l : List ℕ). get_or s p 0 ∷ l) (padded-four t) ∙ cc in
    ap size (sym w) ∙ size-padded (get_or s p 0) t ∙ ap size (sym e)

-- an octet with which no character begins
pub record NeverFirst (a : ℕ) : Type 0 where
  pub none : (s : List ℕ) → size (a ∷ s) ≡ 0

pub never-low : (a : ℕ) → 0x80 ≤ a → a < 0xC2 → NeverFirst a
never-low a l h = record { none = λ s. none-low a s l (omega arith) }

pub never-high : (a : ℕ) → 0xF4 < a → NeverFirst a
never-high a l = record { none = λ s. none-high a s (omega arith) }

pub never-at : (s : List ℕ) (p : ℕ) (r : Bool) → p < length s → (r ≡ true → NeverFirst (get_or s p 0)) → r ≡ true → 0 ≡ size (drop p s)
never-at s p r l h e = sym (ap size (drop-cons s p 0 l) ∙ (h e).none (drop (suc p) s))
