-- The cases of the definitions, in the shape in which goals ask for them.
use Prim.Native.Nat.{ℕ, ◌+◌, ◌*◌, ◌/◌, ◌<◌, ◌≤◌}
use mathlib.Core.Path.{◌≡◌, sym, ap, ◌∙◌}
use mathlib.Core.List.{List, [], ◌∷◌}
use mathlib.Core.Bool.{Bool, true, false, cond, not, ◌&&◌}
use native.Mathlib.Omega.{arith}
use lib.Dec.{eqb}
use Rattle.std.proofs.Math.Decide.{dec_le}
use Rattle.std.proofs.Common.{lt_of_not-le}
use Rattle.utf8.specs.WellFormedLaws.{size-inside}
use Rattle.octets.specs.Search.{SoughtAny}
use Rattle.std.proofs.lemmas.Bool.{not-true}
use borrow.Author.Tests.{ltb-false}
use lib.ListN.{length, drop, get_or, get_or-eq_default}
use Rattle.utf8.specs.Utf8.{in_range, size}
use Rattle.utf8.specs.CharacterLaws.{continuation, range_below, one, two, none-low, none-high, NeverFirst, never-low, never-high, never-at, size-at}
use Rattle.utf8.specs.CoverLaws.{Stretch, Ends, ends-past}
use Rattle.utf8.specs.StepLaws.{second, three_law, four_law, Low, low_by, ascii_one, ascii_none, Step, Walking}
use Rattle.std.specs.Int.{bit_at}
use Rattle.std.specs.Int.Bits.{bit_and}
use Rattle.std.proofs.lemmas.Nat.Bits.{bit_at_and, bit_at-zero}
use borrow.Author.Tests.{eqb-true}
use mathlib.Core.Path.{refl}
use Prim.Native.Nat.{min}
use Rattle.utf8.specs.MarkLaws.{Border, Marks, Clear, clear_plain, between-whole, between-inside, head-none, head_first}

-- ---- the character that four octets begin with
module _ (a b c d : ℕ) where
  pub size-one : a < 0x80 → 1 ≡ size (a ∷ b ∷ c ∷ d ∷ [])
  size-one l = sym (one a (b ∷ c ∷ d ∷ []) (omega arith) (omega arith))

  pub size_low : 0x80 ≤ a → a < 0xC2 → 0 ≡ size (a ∷ b ∷ c ∷ d ∷ [])
  size_low l m = sym (none-low a (b ∷ c ∷ d ∷ []) l (omega arith))

  pub size-two : (r : ℕ) → 0xC2 ≤ a → a < 0xE0 → r ≡ cond (in_range 0x80 0xBF b && true) 2 0 → r ≡ size (a ∷ b ∷ c ∷ d ∷ [])
  size-two r l m e = e ∙ sym (two a (b ∷ c ∷ d ∷ []) l (omega arith))

  pub size-three : (r : ℕ) → 0xE0 ≤ a → a < 0xF0 → r ≡ cond (second a b && (in_range 0x80 0xBF c && true)) 3 0 → r ≡ size (a ∷ b ∷ c ∷ d ∷ [])
  size-three r l m e = e ∙ sym (three_law a b c (d ∷ []) l (omega arith))

  pub size-four : (r : ℕ) → 0xF0 ≤ a → a < 0xF5 → r ≡ cond (second a b && (in_range 0x80 0xBF c && (in_range 0x80 0xBF d && true))) 4 0 → r ≡ size (a ∷ b ∷ c ∷ d ∷ [])
  size-four r l m e = e ∙ sym (four_law a b c d [] l (omega arith))

  pub size-high : 0xF5 ≤ a → 0 ≡ size (a ∷ b ∷ c ∷ d ∷ [])
  size-high l = sym (none-high a (b ∷ c ∷ d ∷ []) l)

pub ruleset sizes = (size-one, size_low, size-two, size-three, size-four, size-high)

pub size-by : (s : List ℕ) (p r b c d : ℕ) → p < length s → b ≡ get_or s (p + 1) 0 → c ≡ get_or s (p + 2) 0 → d ≡ get_or s (p + 3) 0 → r ≡ size (get_or s p 0 ∷ b ∷ c ∷ d ∷ []) → r ≡ size (drop p s)
size-by s p r b c d l e f g h = h ∙ (cc) ∙ size-at s p l

pub ruleset nevers = (never-low, never-high)

pub ruleset places = (never-at, size-by)

-- ---- eight octets at once
pub low_mask : (w : ℕ) → eqb (bit_and w 0x8080808080808080) 0 ≡ true → Low w
low_mask w e = low_by w (clear 7 refl) (clear 15 refl) (clear 23 refl) (clear 31 refl) (clear 39 refl) (clear 47 refl) (clear 55 refl) (clear 63 refl)
  where
    clear : (i : ℕ) → bit_at 0x8080808080808080 i ≡ 1 → bit_at w i ≡ 0
    clear i m =
        let both : min (bit_at w i) (bit_at 0x8080808080808080 i) ≡ 0 = sym (bit_at_and w 0x8080808080808080 i) ∙ ap (λ (n : ℕ). bit_at n i) (eqb-true _ 0 e) ∙ bit_at-zero i in
        omega (arith, both, m)

pub ruleset plain_steps = (ascii_one, ascii_none)

-- ---- what the marks show
pub inner_past : (s : List ℕ) (p : ℕ) → length s ≤ p → false ≡ continuation (get_or s p 0)
inner_past s p l = sym (ap continuation (get_or-eq_default s 0 l) ∙ range_below 0x80 0xBF 0 (omega arith))

pub ruleset betweens = (between-whole, between-inside)

pub ruleset heads = (head-none, head_first)

pub walk-border : (s : List ℕ) (a p : ℕ) → Walking s a p → Ends s a → Border s p
walk-border s a p w e = record { ends = w.ends e; within = w.within }

-- cells of which a test for one that is not marked finds none
pub cells_by : (s : List ℕ) (says : ℕ → Bool → Type 0) (first last : ℕ) (b : Bool) → SoughtAny says first last b
    → ((c : ℕ) → first ≤ c → c < last → says c false → Stretch s (8 * c) (8 * c + 8)) → not b ≡ true → Stretch s (8 * first) (8 * last)
cells_by s says first last b h cell e =
    let past : last ≤ h.lowest = ltb-false h.lowest last (sym h.found ∙ not-true b e) in
    record {
      each = λ q l m. (cell (q / 8) (omega arith) (omega arith) (h.sought.below (q / 8) (omega arith) (omega (arith, past)))).each q (omega arith) (omega arith);
    }

pub ends_next : (s : List ℕ) (z : ℕ) → Border s z → (z < length s → size (drop z s) ≡ 0) → Ends s (z + 1)
ends_next s z b h = elim (dec_le (length s) z) [
  | yes g ↦ ends-past s z b.ends (omega (arith, size-inside s z b.within))
  | no g ↦ ends-past s z b.ends (h (lt_of_not-le g))
]
