-- Marks of some octets: how many are ASCII before one is not, and two words for each block of 256 of them. The first, v, is a stretch in which every place lies in a character, "from v % 256 past the block's start up to v / 256". The second has a bit for each cell of 8 octets; where it is set, the cell lies in such a stretch.
use Rattle.std.specs.Prelude.{ℕ, suc, ◌+◌, ◌-◌, ◌*◌, ◌/◌, ◌%◌, ◌^◌, ◌<◌, ◌≤◌, ◌≡◌, refl, List, Bool, true, false, not, ◌⊎◌, leb, length, get_or, set, replicate}
use Rattle.std.proofs.Common.{sym, ap, ◌∙◌, subst, inl, inr, ⊎_elim, le_refl, lt_of_not-le, lt_of_lt_of_le, mod-lt, mod-eq_of_lt, add-mul, one-mul, mul_comm, pow-suc, arith, leb-true, pow_pos, pow_mono, pow-add, get_or-set_same, get_or-set_other}
use Rattle.std.proofs.Math.Nat.{div-eq_of_lt, zero-div}
use Rattle.std.proofs.Math.Decide.{dec_le, ℕ_discrete}
use Rattle.std.proofs.lemmas.Bool.{not-true}
use Rattle.std.proofs.lemmas.List.{get_or-replicate, length-replicate}
use Rattle.std.proofs.Math.ListN.{get_or-eq_default}
use Rattle.std.proofs.Math.Pow.{pow-lt, split, high}
use Rattle.std.proofs.Math.Seq.{set_out}
use Rattle.std.specs.Int.{w32}
use Rattle.std.specs.Int.Bits.{bit_or}
use Rattle.std.proofs.lemmas.Nat.Bits.{bit_at_set_other}
use Rattle.octets.specs.Octets.{part}
use Rattle.utf8.specs.Utf8.{well_formed}
use Rattle.utf8.specs.CharacterLaws.{continuation}
use Rattle.utf8.specs.CoverLaws.{Stretch, Ends, ends-lead, stretch_part}
use Rattle.utf8.specs.PartLaws.{part_join}
use Rattle.utf8.specs.PlainLaws.{Plain, plain-start, plain-part}

abbrev pub bit : ℕ → ℕ → ℕ
bit w j = w / 2 ^ j % 2

-- a place in the octets past which no character goes on
pub record Border (s : List ℕ) (e : ℕ) : Type 0 where
  pub ends : Ends s e
  pub within : e ≤ length s

pub record Marks (s m : List ℕ) : Type 0 where
  pub plain : Plain s (get_or m 0 0)
  pub entry : (i : ℕ) → Stretch s (256 * i + get_or m (2 * i + 1) 0 % 256) (get_or m (2 * i + 1) 0 / 256)
  pub border : (i : ℕ) → Border s (get_or m (2 * i + 1) 0 / 256)
  pub cells : (i j : ℕ) → bit (get_or m (2 * i + 2) 0) j ≡ 1 → Stretch s (256 * i + 8 * j) (256 * i + 8 * j + 8)

-- ---- words as the code changes them
-- a stretch as it was, or one that lies between two places
pub record Picked (from z i old new : ℕ) : Type 0 where
  pub picked : (new ≡ old) ⊎ ((from ≤ 256 * i + new % 256) × (new / 256 ≡ z))

pub picked_old : (from z i old : ℕ) → Picked from z i old old
picked_old from z i old = record { picked = inl refl }

pub picked_new : (from z i old new : ℕ) → from ≤ 256 * i + new % 256 → new / 256 ≡ z → Picked from z i old new
picked_new from z i old new p q = record { picked = inr (p, q) }

-- a cell more, or none
pub record Added (w j r : ℕ) : Type 0 where
  pub added : (k : ℕ) → bit r k ≡ 1 → (k ≡ j) ⊎ (bit w k ≡ 1)

pub added_old : (w j : ℕ) → Added w j w
added_old w j = record { added = λ k e. inr e }

-- a bit above all that are set leaves those as they are
module _ (w j : ℕ) (l : w < 2 ^ j) where
  below : (k d : ℕ) → j ≡ k + suc d → bit (w + 2 ^ j) k ≡ bit w k
  below k d e =
      let q : 2 ^ j ≡ 2 * 2 ^ d * 2 ^ k = ap (λ (n : ℕ). 2 ^ n) e ∙ pow-add 2 k (suc d) ∙ mul_comm (2 ^ k) (2 ^ suc d) ∙ ap (λ (n : ℕ). n * 2 ^ k) (pow-suc 2 d ∙ mul_comm (2 ^ d) 2) in
      let r : w + 2 ^ j ≡ (w / 2 ^ k + 2 * 2 ^ d) * 2 ^ k + w % 2 ^ k = omega (arith, q, split w k, add-mul (w / 2 ^ k) (2 * 2 ^ d) (2 ^ k)) in
      ap (λ (n : ℕ). n / 2 ^ k % 2) r ∙ ap (λ (n : ℕ). n % 2) (high (w / 2 ^ k + 2 * 2 ^ d) k (mod-lt w (pow_pos k))) ∙ omega arith

  sum : w + 2 ^ j < 2 ^ suc j
  sum = omega (arith, l, pow-suc 2 j, mul_comm (2 ^ j) 2)

  above : (k : ℕ) → j < k → bit (w + 2 ^ j) k ≡ 0
  above k h = ap (λ (n : ℕ). n % 2) (div-eq_of_lt (lt_of_lt_of_le sum (pow_mono h)))

  added-bit : (k : ℕ) → bit (w + 2 ^ j) k ≡ 1 → (k ≡ j) ⊎ (bit w k ≡ 1)
  added-bit k e = elim (dec_le j k) [
    | yes g ↦ elim (dec_le k j) [
      | yes h ↦ inl (omega (arith, g, h))
      | no h ↦ absurd (omega (arith, e, above k (lt_of_not-le h)))
    ]
    | no g ↦ inr (sym (below k (j - suc k) (omega (arith, lt_of_not-le g))) ∙ e)
  ]

-- by the number that the code has for it
module _ (w j : ℕ) (h : j < 32) (l : w < 1 * 2 ^ j % 2 ^ 32) where
  power : 1 * 2 ^ j % 2 ^ 32 ≡ 2 ^ j
  power = ap (λ (n : ℕ). n % 2 ^ 32) (one-mul (2 ^ j)) ∙ mod-eq_of_lt (pow-lt h)

  pub added_new : Added w j (w + 1 * 2 ^ j % 2 ^ 32)
  added_new = record { added = λ k e. added-bit w j (omega (arith, power)) k (subst (λ (n : ℕ). bit (w + n) k ≡ 1) power e) }

  pub added-fits : w + 1 * 2 ^ j % 2 ^ 32 < 2 ^ 32
  added-fits = subst (λ (n : ℕ). w + n < 2 ^ 32) (sym power) (lt_of_lt_of_le (sum w j (omega (arith, power))) (pow_mono h))

-- the same by a bit that is set
pub added_bit : (w j : ℕ) → j < 32 → Added w j (bit_or w (1 * 2 ^ j % 2 ^ 32))
added_bit w j h = record {
  added = λ k e. elim (ℕ_discrete k j) [ yes q ↦ inl q | no q ↦ inr (sym (bit_at_set_other w32 w j h k q) ∙ e) ];
}

-- cells as they were, and some that lie between two places
pub record Filled (from z i old new : ℕ) : Type 0 where
  pub filled : (j : ℕ) → bit new j ≡ 1 → (bit old j ≡ 1) ⊎ ((from ≤ 256 * i + 8 * j) × (256 * i + 8 * j + 8 ≤ z))

pub filled-start : (from z i old : ℕ) → Filled from z i old old
filled-start from z i old = record { filled = λ j e. inl e }

pub filled_more : (from z i old w j r : ℕ) → Filled from z i old w → Added w j r → from ≤ 256 * i + 8 * j → 256 * i + 8 * j + 8 ≤ z → Filled from z i old r
filled_more from z i old w j r f a p q =
    record { filled = λ k e. ⊎_elim (λ d. inr (omega (arith, d, p), omega (arith, d, q))) (λ b. f.filled k b) (a.added k e) }

-- ---- marks of octets
abbrev noughts : ℕ → List ℕ
noughts n = replicate n 0

module _ (s : List ℕ) where
  -- those of noughts say nothing
  pub marks_none : (n : ℕ) → Marks s (replicate n 0)
  marks_none n = record {
    plain = subst (λ (w : ℕ). Plain s w) (sym (nought 0)) (plain-start s);
    entry = λ i. record { each = λ q l h. absurd (omega (arith, h, nought (2 * i + 1))) };
    border = λ i. record { ends = record { before = λ q h. absurd (omega (arith, h, nought (2 * i + 1))) }; within = omega (arith, nought (2 * i + 1)) };
    cells = λ i j e. absurd (omega (arith, e, ap (λ (w : ℕ). bit w j) (nought (2 * i + 2)), zero-div (2 ^ j)));
  }
    where
      nought : (i : ℕ) → get_or (noughts n) i 0 ≡ 0
      nought i = by (dec_le (suc i) n)
        where
          by : Dec (suc i ≤ n) → get_or (noughts n) i 0 ≡ 0
          by (yes l) = get_or-replicate n i 0 0 l
          by (no l) = get_or-eq_default (noughts n) 0 (simp length-replicate (omega (arith, lt_of_not-le l)))

  -- how many are ASCII is kept
  pub marks_plain : (m : List ℕ) (n : ℕ) → Marks s m → Plain s n → Marks s (set m 0 n)
  marks_plain m n h p = elim (dec_le 1 (length m)) [
    | yes l ↦ record {
      plain = subst (λ (w : ℕ). Plain s w) (sym (get_or-set_same m 0 n 0 l)) p;
      entry = λ i. subst (λ (w : ℕ). Stretch s (256 * i + w % 256) (w / 256)) (sym (other (2 * i + 1) (omega arith))) (h.entry i);
      border = λ i. subst (λ (w : ℕ). Border s (w / 256)) (sym (other (2 * i + 1) (omega arith))) (h.border i);
      cells = λ i j e. h.cells i j (subst (λ (w : ℕ). bit w j ≡ 1) (other (2 * i + 2) (omega arith)) e);
    }
    | no l ↦ subst (λ (w : List ℕ). Marks s w) (sym (set_out m 0 n (omega (arith, lt_of_not-le l)))) h
  ]
    where
      other : (k : ℕ) → 0 < k → get_or (set m 0 n) k 0 ≡ get_or m k 0
      other k l = get_or-set_other m 0 k n 0 (λ e. omega arith)

  module _ (from z i v : ℕ) (m : List ℕ) (h : Marks s m) (t : Stretch s from z) where
    at : (k : ℕ) → k < length m → get_or (set m k v) k 0 ≡ v
    at k l = get_or-set_same m k v 0 l

    kept : (k n : ℕ) → (n ≡ k → ⊥) → get_or (set m k v) n 0 ≡ get_or m n 0
    kept k n d = get_or-set_other m k n v 0 d

    -- a stretch is kept
    pub marks_pick : Border s z → Picked from z i (get_or m (2 * i + 1) 0) v → Marks s (set m (2 * i + 1) v)
    marks_pick b p = elim (dec_le (suc (2 * i + 1)) (length m)) [
      | yes l ↦ record {
        plain = subst (λ (n : ℕ). Plain s n) (sym (kept (2 * i + 1) 0 (λ q. omega arith))) h.plain;
        entry = λ k. elim (ℕ_discrete k i) [
          | yes e ↦ subst (λ (n : ℕ). Stretch s (256 * n + get_or (set m (2 * i + 1) v) (2 * n + 1) 0 % 256) (get_or (set m (2 * i + 1) v) (2 * n + 1) 0 / 256)) (sym e)
              (subst (λ (n : ℕ). Stretch s (256 * i + n % 256) (n / 256)) (sym (at (2 * i + 1) l)) (here p.picked))
          | no e ↦ subst (λ (n : ℕ). Stretch s (256 * k + n % 256) (n / 256)) (sym (kept (2 * i + 1) (2 * k + 1) (λ q. e (omega arith)))) (h.entry k)
        ];
        border = λ k. elim (ℕ_discrete k i) [
          | yes e ↦ subst (λ (n : ℕ). Border s (get_or (set m (2 * i + 1) v) (2 * n + 1) 0 / 256)) (sym e) (subst (λ (n : ℕ). Border s (n / 256)) (sym (at (2 * i + 1) l)) (end p.picked))
          | no e ↦ subst (λ (n : ℕ). Border s (n / 256)) (sym (kept (2 * i + 1) (2 * k + 1) (λ q. e (omega arith)))) (h.border k)
        ];
        cells = λ k j e. h.cells k j (subst (λ (n : ℕ). bit n j ≡ 1) (kept (2 * i + 1) (2 * k + 2) (λ q. omega arith)) e);
      }
      | no l ↦ subst (λ (n : List ℕ). Marks s n) (sym (set_out m (2 * i + 1) v (omega (arith, lt_of_not-le l)))) h
    ]
      where
        here : (v ≡ get_or m (2 * i + 1) 0) ⊎ ((from ≤ 256 * i + v % 256) × (v / 256 ≡ z)) → Stretch s (256 * i + v % 256) (v / 256)
        here (inl e) = subst (λ (n : ℕ). Stretch s (256 * i + n % 256) (n / 256)) (sym e) (h.entry i)
        here (inr w) = record { each = λ q a b. t.each q (omega (arith, w.0, a)) (omega (arith, w.1, b)) }

        end : (v ≡ get_or m (2 * i + 1) 0) ⊎ ((from ≤ 256 * i + v % 256) × (v / 256 ≡ z)) → Border s (v / 256)
        end (inl e) = subst (λ (n : ℕ). Border s (n / 256)) (sym e) (h.border i)
        end (inr w) = subst (λ (n : ℕ). Border s n) (sym w.1) b

    -- and its cells
    pub marks_fill : Filled from z i (get_or m (2 * i + 2) 0) v → Marks s (set m (2 * i + 2) v)
    marks_fill f = elim (dec_le (suc (2 * i + 2)) (length m)) [
      | yes l ↦ record {
        plain = subst (λ (n : ℕ). Plain s n) (sym (kept (2 * i + 2) 0 (λ q. omega arith))) h.plain;
        entry = λ k. subst (λ (n : ℕ). Stretch s (256 * k + n % 256) (n / 256)) (sym (kept (2 * i + 2) (2 * k + 1) (λ q. omega arith))) (h.entry k);
        border = λ k. subst (λ (n : ℕ). Border s (n / 256)) (sym (kept (2 * i + 2) (2 * k + 1) (λ q. omega arith))) (h.border k);
        cells = λ k j e. elim (ℕ_discrete k i) [
          | yes d ↦ subst (λ (n : ℕ). Stretch s (256 * n + 8 * j) (256 * n + 8 * j + 8)) (sym d)
              (here j (f.filled j (subst (λ (n : ℕ). bit n j ≡ 1) (ap (λ (n : ℕ). get_or (set m (2 * i + 2) v) (2 * n + 2) 0) d ∙ at (2 * i + 2) l) e)))
          | no d ↦ h.cells k j (subst (λ (n : ℕ). bit n j ≡ 1) (kept (2 * i + 2) (2 * k + 2) (λ q. d (omega arith))) e)
        ];
      }
      | no l ↦ subst (λ (n : List ℕ). Marks s n) (sym (set_out m (2 * i + 2) v (omega (arith, lt_of_not-le l)))) h
    ]
      where
        here : (j : ℕ) → (bit (get_or m (2 * i + 2) 0) j ≡ 1) ⊎ ((from ≤ 256 * i + 8 * j) × (256 * i + 8 * j + 8 ≤ z)) → Stretch s (256 * i + 8 * j) (256 * i + 8 * j + 8)
        here j (inl b) = h.cells i j b
        here j (inr w) = record { each = λ q a b. t.each q (omega (arith, w.0, a)) (omega (arith, w.1, b)) }

  -- ---- what they show
  -- of a text at once: it is no NULL, lies in the octets and is well-formed
  pub record Clear (start len : ℕ) : Type 0 where
    pub present : start < 4294967295
    pub within : start + len ≤ length s
    pub well : well_formed (part s start len) ≡ true

  -- a text that ends in the ASCII octets
  pub clear_plain : (m : List ℕ) (start len : ℕ) (b : Bool) → Marks s m → b ≡ leb (start + len) (get_or m 0 0) → b ≡ true → Clear start len
  clear_plain m start len b h e t = record {
    present = omega (arith, inside, h.plain.small);
    within = omega (arith, inside, h.plain.within);
    well = plain-part s (get_or m 0 0) start len h.plain inside;
  }
    where
      inside : start + len ≤ get_or m 0 0
      inside = leb-true (start + len) (get_or m 0 0) (sym e ∙ t)

  -- a part that begins and ends between characters
  pub record Between (a e : ℕ) : Type 0 where
    pub lead : continuation (get_or s a 0) ≡ false
    pub ends : Ends s e

  -- it begins at no continuation octet, and ends at none or with its stretch
  module _ (a e : ℕ) (x : Bool) (f : x ≡ continuation (get_or s a 0)) (g : x ≡ false) where
    pub between-whole : (z : ℕ) → Border s z → e ≡ z → Between a e
    between-whole z b d = record { lead = sym f ∙ g; ends = subst (λ (n : ℕ). Ends s n) (sym d) b.ends }

    pub between-inside : (y : Bool) → y ≡ continuation (get_or s e 0) → y ≡ false → Between a e
    between-inside y h k = record { lead = sym f ∙ g; ends = ends-lead s e (sym h ∙ k) }

  -- a stretch that the octets begin with
  pub record Head (h : ℕ) : Type 0 where
    pub covered : Stretch s 0 h
    pub within : h ≤ length s
    pub small : h < 2 ^ 32

  pub head-none : Head 0
  head-none = record { covered = record { each = λ q l h. absurd (omega arith) }; within = omega arith; small = omega arith }

  pub head_first : (m : List ℕ) (v : ℕ) → Marks s m → v ≡ get_or m 1 0 → v < 2 ^ 32 → v % 256 ≡ 0 → Head (v / 256)
  head_first m v h e w z = record {
    covered = subst (λ (a : ℕ). Stretch s a (v / 256)) (omega arith) (subst (λ (v : ℕ). Stretch s (256 * 0 + v % 256) (v / 256)) (sym e) (h.entry 0));
    within = omega (arith, e, (h.border 0).within);
    small = omega arith;
  }

  -- a text that ends in it
  pub clear_head : (h start len : ℕ) (x y b : Bool) → Head h → start + len < h → x ≡ continuation (get_or s start 0) → x ≡ false → y ≡ continuation (get_or s (start + len) 0) → b ≡ not y → b ≡ true → Clear start len
  clear_head h start len x y b w l e f g d t = record {
    present = omega (arith, w.small);
    within = inside;
    well = stretch_part s 0 h start len w.covered (omega arith) (omega arith) inside (sym e ∙ f) (ends-lead s (start + len) (sym g ∙ not-true y (sym d ∙ t)));
  }
    where
      inside : start + len ≤ length s
      inside = omega (arith, w.within)

  -- a block's stretch
  pub known_border : (m : List ℕ) (i v : ℕ) → Marks s m → v ≡ get_or m (2 * i + 1) 0 → Border s (v / 256)
  known_border m i v h e = subst (λ (v : ℕ). Border s (v / 256)) (sym e) (h.border i)

  -- a text that lies in it
  pub clear_known : (m : List ℕ) (i v start len : ℕ) (b : Bool) → Marks s m → v ≡ get_or m (2 * i + 1) 0 → v < 2 ^ 32 → 256 * i + v % 256 ≤ start → start + len ≤ v / 256
      → (b ≡ true → Between start (start + len)) → b ≡ true → Clear start len
  clear_known m i v start len b h e w p q c t = record {
    present = omega (arith, q, w);
    within = inside;
    well = stretch_part s (256 * i + v % 256) (v / 256) start len (subst (λ (v : ℕ). Stretch s (256 * i + v % 256) (v / 256)) (sym e) (h.entry i)) p q inside (c t).lead (c t).ends;
  }
    where
      inside : start + len ≤ length s
      inside = omega (arith, q, e, (h.border i).within)

  pub marks_cell : (m : List ℕ) (c i : ℕ) → Marks s m → i ≡ c / 32 → bit (get_or m (2 * i + 2) 0) (c % 32) ≡ 1 → Stretch s (8 * c) (8 * c + 8)
  marks_cell m c i h e b = let d : 256 * i + 8 * (c % 32) ≡ 8 * c = omega arith in subst (λ (n : ℕ). Stretch s n (n + 8)) d (h.cells i (c % 32) b)

  -- every place from one that is no continuation octet lies in a character, up to another
  pub record Front (a z : ℕ) : Type 0 where
    pub covered : Stretch s a z
    pub lead : continuation (get_or s a 0) ≡ false

  pub front_by : (a first last p r : ℕ) (x : Bool) → x ≡ continuation (get_or s a 0) → x ≡ false → Stretch s a p → 8 * first ≤ p → Stretch s (8 * first) (8 * r) → last ≤ r → Front a (8 * last)
  front_by a first last p r x e f t l c m = record {
    covered = record { each = λ k u v. elim (dec_le (8 * first) k) [ yes g ↦ c.each k g (omega arith) | no g ↦ t.each k u (omega (arith, lt_of_not-le g)) ] };
    lead = sym e ∙ f;
  }

  -- and from one between them the rest is well-formed
  pub record Back (a z e : ℕ) : Type 0 where
    pub at : ℕ
    pub after : a ≤ at
    pub before : at ≤ z
    pub lead : continuation (get_or s at 0) ≡ false
    pub well : well_formed (part s at (e - at)) ≡ true

  pub back_by : (a z e q : ℕ) (t : List ℕ) (x y : Bool) → a ≤ q → q ≤ z → x ≡ continuation (get_or s q 0) → x ≡ false → t ≡ part s q (e - q) → y ≡ well_formed t → y ≡ true → Back a z e
  back_by a z e q t x y l m f g d h i = record { at = q; after = l; before = m; lead = sym f ∙ g; well = ap well_formed (sym d) ∙ sym h ∙ i }

  -- then the whole is
  pub front-back : (a len z : ℕ) → Front a z → Back a z (a + len) → z ≤ a + len → a + len ≤ length s → well_formed (part s a len) ≡ true
  front-back a len z f b m l =
      let q = b.at in
      let g : a + (q - a) ≡ q = omega (arith, b.after) in
      let j : q - a + (a + len - q) ≡ len = omega (arith, b.after, b.before) in
      subst (λ (n : ℕ). well_formed (part s a n) ≡ true) j
      (part_join s a (q - a) (a + len - q) (omega (arith, j)) (front q g) (subst (λ (n : ℕ). well_formed (part s n (a + len - q)) ≡ true) (sym g) b.well))
    where
      front : (q : ℕ) → a + (q - a) ≡ b.at → well_formed (part s a (q - a)) ≡ true
      front q g = stretch_part s a z a (q - a) f.covered (le_refl a) (omega (arith, g, b.before)) (omega (arith, g, b.before)) f.lead (subst (λ (n : ℕ). Ends s n) (sym g) (ends-lead s b.at b.lead))
