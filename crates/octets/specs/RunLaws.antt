-- The laws of numbers in runs of octets: read in a front, in a part, and in things of one length that were gathered.
use Rattle.std.specs.Prelude.{ℕ, zero, suc, ◌+◌, ◌*◌, ◌^◌, ◌<◌, ◌≤◌, ◌≡◌, refl, List, [], ◌++◌, Bool, true, false, cond, leb, length, get_or, take, drop}
use Rattle.std.proofs.Common.{sym, ap, ◌∙◌, suc-mul, lt_of_not-le, le-leb, leb-true, leb-false, length-append, length-take, length-drop, get_or-take, get_or-drop}
use Rattle.std.proofs.Math.Decide.{dec_le}
use native.Mathlib.Omega.{arith}
use Rattle.std.proofs.Math.ListN.{get_or-append, get_or-eq_default}
use Rattle.octets.specs.Octets.{le32, le64, part}
use Rattle.octets.specs.OctetLaws.{le32-short, le32-whole, le32-past}
use Rattle.octets.specs.Gather.{gather}
use Rattle.octets.specs.GatherLaws.{gather-around}

-- octets make a word
pub le32-small : (s : List ℕ) (at : ℕ) → ((k : ℕ) → get_or s k 0 < 256) → le32 s at < 2 ^ 32
le32-small s at p = by (leb (at + 4) (length s)) refl
  where
    by : (b : Bool) → leb (at + 4) (length s) ≡ b → le32 s at < 2 ^ 32
    by true e = omega (arith, le32-whole s at (leb-true _ _ e), p at, p (at + 1), p (at + 2), p (at + 3))
    by false e = omega (arith, le32-short s at (leb-false (at + 4) (length s) e))

-- octets behind a number are not read
pub le32-front : (xs ys : List ℕ) (at : ℕ) → at + 4 ≤ length xs → le32 (xs ++ ys) at ≡ le32 xs at
le32-front xs ys at h =
    let a : get_or (xs ++ ys) at 0 ≡ get_or xs at 0 = get_or-append xs ys 0 at (omega arith) in
    let b : get_or (xs ++ ys) (at + 1) 0 ≡ get_or xs (at + 1) 0 = get_or-append xs ys 0 (at + 1) (omega arith) in
    let c : get_or (xs ++ ys) (at + 2) 0 ≡ get_or xs (at + 2) 0 = get_or-append xs ys 0 (at + 2) (omega arith) in
    let d : get_or (xs ++ ys) (at + 3) 0 ≡ get_or xs (at + 3) 0 = get_or-append xs ys 0 (at + 3) (omega arith) in
    omega (arith, le32-whole (xs ++ ys) at (omega (arith, length-append xs ys)), le32-whole xs at h, a, b, c, d)

-- and octets before it, of which there are m, move its place
pub le32-behind : (xs ys : List ℕ) (m at : ℕ) → length xs ≡ m → le32 (xs ++ ys) (m + at) ≡ le32 ys at
le32-behind xs ys m at e = ap (λ (n : ℕ). le32 (xs ++ ys) (n + at)) (sym e) ∙ le32-past xs ys at

-- ---- a part
module _ (s : List ℕ) (start len : ℕ) where
  pub part-there : start + len ≤ length s → part s start len ≡ take len (drop start s)
  unfolding part
  part-there h = simp (le-leb (start + len) (length s) h)

  part-not : leb (start + len) (length s) ≡ false → part s start len ≡ []
  unfolding part
  part-not e = simp e

  pub length_part : start + len ≤ length s → length (part s start len) ≡ len
  length_part h = ap length (part-there h) ∙ length-take len (drop start s) ∙ omega (arith, length-drop start s)

  get_d_part : (k : ℕ) → start + len ≤ length s → k < len → get_or (part s start len) k 0 ≡ get_or s (start + k) 0
  get_d_part k h l = ap (λ (xs : List ℕ). get_or xs k 0) (part-there h) ∙ get_or-take len (drop start s) k 0 l ∙ get_or-drop start s k 0

  pub le32-part : (at : ℕ) → start + len ≤ length s → at + 4 ≤ len → le32 (part s start len) at ≡ le32 s (start + at)
  le32-part at h l =
      let f₁ : start + at + 1 ≡ start + (at + 1) = omega arith in
      let f₂ : start + at + 2 ≡ start + (at + 2) = omega arith in
      let f₃ : start + at + 3 ≡ start + (at + 3) = omega arith in
      sym (le32-whole (part s start len) at (omega (arith, length_part h)))
      ∙ rw (get_d_part at h (omega arith), get_d_part (at + 1) h (omega arith), get_d_part (at + 2) h (omega arith), get_d_part (at + 3) h (omega arith), ← f₁, ← f₂, ← f₃) (le32-whole s (start + at) (omega arith))

  pub le64-part : (at : ℕ) → start + len ≤ length s → at + 8 ≤ len → le64 (part s start len) at ≡ le64 s (start + at)
  unfolding le64
  le64-part at h l =
      let f : start + at + 4 ≡ start + (at + 4) = omega arith in
      rw (le32-part at h (omega arith), le32-part (at + 4) h (omega arith), f)

  -- its octets are octets
  pub part-octets : ((k : ℕ) → get_or s k 0 < 256) → (k : ℕ) → get_or (part s start len) k 0 < 256
  part-octets p k = by (leb (start + len) (length s)) refl (dec_le (suc k) len)
    where
      by : (b : Bool) → leb (start + len) (length s) ≡ b → Dec (suc k ≤ len) → get_or (part s start len) k 0 < 256
      by true e (yes l) = omega (arith, get_d_part k (leb-true _ _ e) l, p (start + k))
      by true e (no l) =
          let z : get_or (part s start len) k 0 ≡ 0 = get_or-eq_default (part s start len) 0 (omega (arith, length_part (leb-true _ _ e), lt_of_not-le l)) in
          omega (arith, z)
      by false e d = omega (arith, ap (λ (xs : List ℕ). get_or xs k 0) (part-not e))

-- ---- things of b octets each, gathered
pub gather-size : (n b : ℕ) (f : ℕ → List ℕ) → ((k : ℕ) → k < n → length (f k) ≡ b) → length (gather n f) ≡ n * b
gather-size zero b f h = omega arith
gather-size (suc n) b f h = simp (length-append, suc-mul) (omega (arith, gather-size n b f (λ k l. h k (omega arith)), h n (omega arith)))

pub le32-gather : (n b i at : ℕ) (f : ℕ → List ℕ) → ((k : ℕ) → k < n → length (f k) ≡ b) → i < n → at + 4 ≤ b → le32 (gather n f) (i * b + at) ≡ le32 (f i) at
le32-gather n b i at f h l m =
    let g = gather-around i n f l in
    ap (λ (xs : List ℕ). le32 xs (i * b + at)) g.1 ∙ le32-behind (gather i f) (f i ++ g.0) (i * b) at (gather-size i b f (λ k q. h k (omega arith)))
    ∙ le32-front (f i) g.0 at (omega (arith, h i l))

-- a part is no longer than is asked for
pub part-most : (s : List ℕ) (at n : ℕ) → length (part s at n) ≤ n
unfolding part
part-most s at n = by (leb (at + n) (length s))
  where
    by : (b : Bool) → length (cond b (take n (drop at s)) []) ≤ n
    by true = simp length-take (omega arith)
    by false = omega arith
