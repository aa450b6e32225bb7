-- The laws of tables by their numbers: those of a listing, and seven octet strings.
use Prim.Native.Nat.{ℕ, zero, suc, ◌+◌, ◌-◌, ◌*◌, ◌^◌, ◌<◌, ◌≤◌}
use Rattle.std.specs.Prelude.{◌≡◌, List, [], ◌∷◌, Bool, cond, leb, ltb, eqb, take, drop}
use Rattle.std.proofs.Math.Path.{refl, sym, ap, fun_ext}
use Rattle.std.proofs.Common.{◌∙◌, zero-mul, ltb-false, length-take, length-drop}
use Rattle.std.proofs.Math.Bool.{true, false}
use native.Mathlib.Omega.{arith}
use Rattle.std.proofs.lemmas.Bool.{eqb-false}
use Rattle.std.proofs.Math.ListN.{length, get_or-eq_default}
use Rattle.octets.specs.Octets.{part}
use Rattle.octets.specs.Search.{first}
use Rattle.octets.proofs.SearchLaws.{first-lowest}
use Rattle.octets.specs.Slices.{nth}
use Rattle.listing.specs.Formats.{row, text_base, text_count, metadata_row, metadata_base, metadata_texts, longest, table_count, row_in, base_in, texts_in}
use Rattle.listing.specs.Listing.{count, offset, table_in, tables_in, table, tables_of, numbered}
use Rattle.listing.specs.declared.Format.{Format}
use Rattle.listing.specs.declared.Format.TheVariants.{Edition1, Metadata}

-- there are seven: nothing stands at 0 or past 7
pub record Seven (ts : ℕ → List ℕ) : Type 0 where
  pub none : ts 0 ≡ []
  pub past : (k : ℕ) → 8 ≤ k → ts k ≡ []

-- no table is longer than a word can say
pub record Short (ts : ℕ → List ℕ) : Type 0 where
  pub short : (k : ℕ) → k ≤ 7 → length (ts k) < 2 ^ 32

-- ---- the numbers of a format
-- past the seventh table stand zeros
row-past : (f : Format) (k : ℕ) → 8 ≤ k → row_in f k ≡ 0
unfolding row metadata_row
row-past Edition1 k l = get_or-eq_default (0 ∷ 32 ∷ 40 ∷ 48 ∷ 64 ∷ 32 ∷ 32 ∷ 1 ∷ []) 0 l
row-past Metadata k l = get_or-eq_default (0 ∷ 16 ∷ 64 ∷ 1 ∷ 0 ∷ 0 ∷ 0 ∷ 0 ∷ []) 0 l

pub row-none : (f : Format) → row_in f 0 ≡ 0
unfolding row metadata_row
row-none Edition1 = refl
row-none Metadata = refl

pub tables-some : (f : Format) → 3 ≤ table_count f
tables-some Edition1 = omega arith
tables-some Metadata = omega arith

pub tables-few : (f : Format) → table_count f ≤ 7
tables-few Edition1 = omega arith
tables-few Metadata = omega arith

pub longest-short : (f : Format) → longest f < 2 ^ 32
longest-short Edition1 = omega arith
longest-short Metadata = omega arith

-- every table has a row of some octets
some-by : (r : ℕ → ℕ) (n : ℕ) → first (λ j. eqb (r (suc j)) 0) n ≡ n → (k : ℕ) → 1 ≤ k → k ≤ n → 0 < r k
some-by r n e zero l h = absurd (omega (arith, l))
some-by r n e (suc k) l h = omega (arith, eqb-false (r (suc k)) 0 ((first-lowest (λ j. eqb (r (suc j)) 0) n).below k (omega (arith, e, h))))

pub row_some_in : (f : Format) (k : ℕ) → 1 ≤ k → k ≤ table_count f → 0 < row_in f k
unfolding first row metadata_row
row_some_in Edition1 = some-by row 7 refl
row_some_in Metadata = some-by metadata_row 3 refl

-- the texts of a row lie in it
short-by : (r b t : ℕ → ℕ) (n : ℕ) → first (λ j. ltb (r j) (b j + 8 * t j)) n ≡ n → (k : ℕ) → k < n → b k + 8 * t k ≤ r k
short-by r b t n e k h = ltb-false (r k) (b k + 8 * t k) ((first-lowest (λ j. ltb (r j) (b j + 8 * t j)) n).below k (omega (arith, e, h)))

pub texts_short : (f : Format) (k : ℕ) → k < table_count f → base_in f k + 8 * texts_in f k ≤ row_in f k
unfolding first row text_base text_count metadata_row metadata_base metadata_texts
texts_short Edition1 = short-by row text_base text_count 7 refl
texts_short Metadata = short-by metadata_row metadata_base metadata_texts 3 refl

-- ---- the tables of a listing
part_none : (s : List ℕ) (at : ℕ) → part s at 0 ≡ []
unfolding part
part_none s at = by (leb (at + 0) (length s))
  where
    by : (b : Bool) → cond b (take 0 (drop at s)) [] ≡ []
    by true = refl
    by false = refl

module _ (f : Format) (s : List ℕ) where
  -- a table whose rows have no octets has none
  table_empty : (k : ℕ) → row_in f k ≡ 0 → table_in f s k ≡ []
  unfolding table_in
  table_empty k e = ap (λ (n : ℕ). part s (offset s k) (n * count s k)) e ∙ ap (part s (offset s k)) (zero-mul (count s k)) ∙ part_none s (offset s k)

  pub seven_in : Seven (table_in f s)
  seven_in = record { none = table_empty 0 (row-none f); past = λ k l. table_empty k (row-past f k l) }

  -- the seven tables, one after the other, are those of their numbers
  pub numbered_in : numbered (tables_in f s) ≡ table_in f s
  unfolding numbered nth tables_in
  numbered_in = fun_ext by
    where
      by : (k : ℕ) → nth ([] ∷ tables_in f s) k ≡ table_in f s k
      by zero = sym seven_in.none
      by (suc zero) = refl
      by (suc (suc zero)) = refl
      by (suc (suc (suc zero))) = refl
      by (suc (suc (suc (suc zero)))) = refl
      by (suc (suc (suc (suc (suc zero))))) = refl
      by (suc (suc (suc (suc (suc (suc zero)))))) = refl
      by (suc (suc (suc (suc (suc (suc (suc zero))))))) = refl
      by (suc (suc (suc (suc (suc (suc (suc (suc k)))))))) = sym (seven_in.past (suc (suc (suc (suc (suc (suc (suc (suc k)))))))) (omega arith))

  -- no table is longer than the listing
  pub short_in : (k : ℕ) → length (table_in f s k) ≤ length s
  unfolding table_in part
  short_in k = by (leb (offset s k + row_in f k * count s k) (length s))
    where
      by : (b : Bool) → length (cond b (take (row_in f k * count s k) (drop (offset s k) s)) []) ≤ length s
      by true = simp (length-take, length-drop) (omega arith)
      by false = omega arith

  pub tables_short_in : length s ≤ longest f → Short (table_in f s)
  tables_short_in h = record { short = λ k l. omega (arith, short_in k, longest-short f) }

-- of edition 1
module _ (s : List ℕ) where
  pub tables-seven : Seven (table s)
  unfolding table
  tables-seven = seven_in Edition1 s

  pub tables-numbered : numbered (tables_of s) ≡ table s
  unfolding table tables_of tables_in
  tables-numbered = numbered_in Edition1 s

  pub table-short : (k : ℕ) → length (table s k) ≤ length s
  unfolding table
  table-short = short_in Edition1 s

-- a number is one more than the place
pub numbered-at : (ts : List (List ℕ)) (k : ℕ) (t : List ℕ) → 1 ≤ k → t ≡ nth ts (k - 1) → t ≡ numbered ts k
unfolding numbered nth
numbered-at ts zero t l e = absurd (omega (arith, l))
numbered-at ts (suc k) t l e = let q : suc k - 1 ≡ k = omega arith in e ∙ ap (nth ts) q

pub numbered-none : (ts : List (List ℕ)) → numbered ts 0 ≡ []
unfolding numbered nth
numbered-none ts = refl

-- ---- seven octet strings by their numbers
pub numbered-seven : (ts : List (List ℕ)) → length ts ≡ 7 → Seven (numbered ts)
unfolding numbered nth
numbered-seven ts h = record { none = refl; past = past }
  where
    past : (k : ℕ) → 8 ≤ k → nth ([] ∷ ts) k ≡ []
    past k l = let g : length ([] ∷ ts) ≤ k = omega (arith, h) in get_or-eq_default ([] ∷ ts) [] g

-- a listing that has them so has them as its tables, one after the other
pub tables_are : (s : List ℕ) (ts : List (List ℕ)) → length ts ≡ 7 → table s ≡ numbered ts → tables_of s ≡ ts
unfolding tables_of numbered nth
tables_are s ts h e =
    ap (λ (f : ℕ → List ℕ). f 1 ∷ f 2 ∷ f 3 ∷ f 4 ∷ f 5 ∷ f 6 ∷ f 7 ∷ []) e ∙ all ts h
  where
    all : (ts : List (List ℕ)) → length ts ≡ 7 → numbered ts 1 ∷ numbered ts 2 ∷ numbered ts 3 ∷ numbered ts 4 ∷ numbered ts 5 ∷ numbered ts 6 ∷ numbered ts 7 ∷ [] ≡ ts
    all [] h = absurd (omega (arith, h))
    all (a ∷ []) h = absurd (omega (arith, h))
    all (a ∷ b ∷ []) h = absurd (omega (arith, h))
    all (a ∷ b ∷ c ∷ []) h = absurd (omega (arith, h))
    all (a ∷ b ∷ c ∷ d ∷ []) h = absurd (omega (arith, h))
    all (a ∷ b ∷ c ∷ d ∷ e ∷ []) h = absurd (omega (arith, h))
    all (a ∷ b ∷ c ∷ d ∷ e ∷ f ∷ []) h = absurd (omega (arith, h))
    all (a ∷ b ∷ c ∷ d ∷ e ∷ f ∷ g ∷ []) h = refl
    all (a ∷ b ∷ c ∷ d ∷ e ∷ f ∷ g ∷ i ∷ ts) h = absurd (omega (arith, h))
