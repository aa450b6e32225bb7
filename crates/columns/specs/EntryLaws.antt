-- The laws of entries of the first column: what each spells, what is passed a block at a time, that a clear text has no fault, and 7 and 13 in one search.
use Rattle.std.specs.Prelude.{ℕ, ◌+◌, ◌*◌, ◌-◌, ◌/◌, ◌%◌, ◌^◌, ◌<◌, ◌≤◌, max, ◌≡◌, Bool, cond, ◌&&◌, ◌||◌, ltb, eqb, length, Some, None, Ok, Err}
use Rattle.std.proofs.Math.Path.{refl, sym, ap}
use Rattle.std.proofs.Common.{◌∙◌, subst, le_refl}
use mathlib.Core.List.{List, []}
use Rattle.std.proofs.Math.Bool.{true, false, not}
use Rattle.std.proofs.lemmas.Bool.{false≢true}
use native.Mathlib.Omega.{arith}
use borrow.Author.Tests.{lt-ltb, le-ltb, lt-leb, ne_eqb, ltb-true, ltb-false}
use Rattle.octets.specs.Octets.{le32, le64, part}
use Rattle.octets.specs.Search.{first, any}
use Rattle.octets.proofs.SearchLaws.{none-at, any-or}
use Rattle.octets.specs.SearchLaws.{first-agree, finds, misses}
use Rattle.octets.specs.SkipLaws.{Skipped, side, skipped_join}
use Rattle.octets.specs.Texts.{text_of, outside}
use Rattle.octets.specs.Texts.{Text}
use Rattle.utf8.specs.Utf8.{well_formed}
use Rattle.utf8.specs.WellFormedLaws.{well-none}
use Rattle.utf8.specs.MarkLaws.{Clear}
use Rattle.listing.specs.Refusals.{Checked, refusal, ill, checked}
use Rattle.listing.specs.FaultLaws.{asked, ClearAt}
use Rattle.listing.specs.declared.Why.TheVariants as why
use Rattle.listing.specs.declared.TextFault.{TextFault}
use Rattle.listing.specs.declared.TextFault.TheVariants.{Outside, Either}
use Rattle.listing.specs.declared.TextOrder.TheVariants.{LengthFirst}
use Rattle.columns.specs.Refusals.{entry_text, faulty_entry, entry_reasons}
use Rattle.columns.specs.Entries.{end_of, is_past, Within, Reaching, ClearEntry}

-- ---- what an entry spells: its two halves are the text's start and length
module _ (c : List ℕ) (at : ℕ) (l : le32 c at < 2 ^ 32) where
  pub start_of : le64 c at / 4294967296 ≡ le32 c (at + 4)
  unfolding le64
  start_of = omega arith

  pub length-of : le64 c at % 4294967296 ≡ le32 c at
  unfolding le64
  length-of = omega arith

-- ---- entries that are passed a block at a time
module _ (c : List ℕ) (start : ℕ) where
  pub reach_none : Reaching c start start 0 0
  reach_none = record { low = le_refl start; latest = λ k l h. absurd (omega arith); longest = λ k l h. absurd (omega arith) }

  pub reach_more : (i a b a' b' s l : ℕ) → Reaching c start i a b → s ≡ le32 c (8 * i + 4) → a' ≡ max a s → l ≡ le32 c (8 * i) → b' ≡ max b l → Reaching c start (i + 1) a' b'
  reach_more i a b a' b' s l h e f g m = record {
    low = omega (arith, h.low);
    latest = λ k x y. side k i (λ w. omega (arith, h.latest k x w)) (λ w. let d : k ≡ i = omega arith in omega (arith, ap (λ (j : ℕ). le32 c (8 * j + 4)) d));
    longest = λ k x y. side k i (λ w. omega (arith, h.longest k x w)) (λ w. let d : k ≡ i = omega arith in omega (arith, ap (λ (j : ℕ). le32 c (8 * j)) d));
  }

  pub reach_end : (end i a b r : ℕ) → Reaching c start i a b → end ≤ i → b < 2 ^ 32 → r ≡ a + b → Within c start end r
  reach_end end i a b r h l w e k x y =
      let z : k < i = omega arith in
      let m : le32 c (8 * k) < 2 ^ 32 = omega (arith, h.longest k x z) in
      omega (arith, h.latest k x z, h.longest k x z, start_of c (8 * k) m, length-of c (8 * k) m)

  pub skipped_block : (plain n i r : ℕ) → Skipped (is_past c plain) start n i → 64 ≤ n - i → Within c i (i + 64) r → r ≤ plain → Skipped (is_past c plain) start n (i + 64)
  unfolding is_past
  skipped_block plain n i r h l w e = skipped_join (is_past c plain) start n i (i + 64) h (omega arith) (omega (arith, h.high)) (λ k s y. le-ltb plain (end_of (le64 c (8 * k))) (omega (arith, w k s y)))

-- a fault that every text past the names has or has not as NULL has it, is that of the text by its two numbers: "a negative one spells no text"
module _ (fault : Bool → Text → Bool) (b : Bool) (n : ℕ) (m : n ≤ 1048576) (e : fault false None ≡ b) (f : (start len : ℕ) → n < start + len → fault false (Some (record { start = start; len = len })) ≡ b) where
  text_same : (start len : ℕ) → start < 2 ^ 32 → len < 2 ^ 32 → fault false (entry_text (len + 4294967296 * start)) ≡ fault false (text_of start len)
  unfolding entry_text
  text_same start len p q = by (ltb (len + 4294967296 * start) (2 ^ 63)) refl
    where
      past_all : (x : Bool) → 2 ^ 31 ≤ start → b ≡ fault false (cond x None (Some (record { start = start; len = len })))
      past_all true l = sym e
      past_all false l = sym (f start len (omega arith))

      by : (x : Bool) → ltb (len + 4294967296 * start) (2 ^ 63) ≡ x
          → fault false (cond x (Some (record { start = ((len + 4294967296 * start) / 4294967296); len = ((len + 4294967296 * start) % 4294967296) })) None) ≡ fault false (text_of start len)
      by true h =
          let l : len + 4294967296 * start < 2 ^ 63 = ltb-true _ _ h in
          let u : (len + 4294967296 * start) / 4294967296 ≡ start = omega arith in
          let v : (len + 4294967296 * start) % 4294967296 ≡ len = omega arith in
          simp (u, v, ne_eqb start 4294967295 (λ w. omega arith))
      by false h = e ∙ past_all (eqb start 4294967295 && eqb len 0) (omega (arith, ltb-false (len + 4294967296 * start) (2 ^ 63) h))

module _ (names c : List ℕ) (i : ℕ) (m : length names ≤ 1048576) (p : le32 c (8 * i + 4) < 2 ^ 32) (q : le32 c (8 * i) < 2 ^ 32) where
  pub entry-outside : faulty_entry (outside (length names)) c i ≡ outside (length names) false (text_of (le32 c (8 * i + 4)) (le32 c (8 * i)))
  unfolding faulty_entry le64
  entry-outside = text_same (outside (length names)) true (length names) m refl (λ start len l. lt-ltb (length names) (start + len) l) (le32 c (8 * i + 4)) (le32 c (8 * i)) p q

  pub entry-ill : faulty_entry (ill names) c i ≡ ill names false (text_of (le32 c (8 * i + 4)) (le32 c (8 * i)))
  unfolding faulty_entry le64 part
  entry-ill = text_same (ill names) false (length names) m none (λ start len l. simp (lt-leb (start + len) (length names) l) none) (le32 c (8 * i + 4)) (le32 c (8 * i)) p q
    where
      none : not (well_formed []) ≡ false
      none = ap not (well-none [] refl)

  pub entry-asked : (fault : TextFault) → faulty_entry (asked fault names) c i ≡ asked fault names false (text_of (le32 c (8 * i + 4)) (le32 c (8 * i)))
  unfolding faulty_entry
  entry-asked Outside = entry-outside
  entry-asked Either = simp (entry-outside, entry-ill)

-- ---- a clear text has no fault
pub clear_entry : (fault : TextFault) (names c : List ℕ) (i : ℕ) → length names ≤ 1048576 → ClearEntry names c i → faulty_entry (asked fault names) c i ≡ false
unfolding faulty_entry entry_text
clear_entry fault names c i m h = by fault
  where
    there : ltb (le64 c (8 * i)) (2 ^ 63) ≡ true
    there = lt-ltb (le64 c (8 * i)) (2 ^ 63) (omega (arith, h.within))

    inside : ltb (length names) (end_of (le64 c (8 * i))) ≡ false
    inside = le-ltb (length names) (end_of (le64 c (8 * i))) h.within

    by : (fault : TextFault) → asked fault names false (cond (ltb (le64 c (8 * i)) (2 ^ 63)) (Some (record { start = (le64 c (8 * i) / 4294967296); len = (le64 c (8 * i) % 4294967296) })) None) ≡ false
    by Outside = simp (there, inside)
    by Either = simp (there, inside, h.well)

-- by its two numbers
pub clear_read : (names c : List ℕ) (i : ℕ) → length names ≤ 1048576 → ClearAt LengthFirst names c (8 * i + 0) → ClearEntry names c i
clear_read names c i m h = subst (λ (n : ℕ). Clear names (le64 c (8 * i) / 4294967296) n) (sym (length-of c (8 * i) l)) (subst (λ (n : ℕ). Clear names n (le32 c (8 * i))) (sym (start_of c (8 * i) l)) g)
  where
    e : 8 * i + 0 ≡ 8 * i
    e = omega arith

    g : Clear names (le32 c (8 * i + 4)) (le32 c (8 * i))
    g = subst (λ (n : ℕ). ClearAt LengthFirst names c n) e h

    l : le32 c (8 * i) < 2 ^ 32
    l = omega (arith, g.within)

-- ---- 7 and 13 in one search
module _ (names c : List ℕ) (n : ℕ) where
  abbrev f : ℕ → Bool
  f = faulty_entry (outside (length names)) c

  abbrev g : ℕ → Bool
  g = faulty_entry (ill names) c

  -- where neither is found, neither is there
  pub entries-clean : (e : ℕ) (r : Checked) → e ≡ first (faulty_entry (asked Either names) c) n → n ≤ e → r ≡ Ok tt → r ≡ checked (entry_reasons names c n)
  unfolding checked entry_reasons faulty_entry
  entries-clean e r h l q =
      let w : (any f n || any g n) ≡ false = sym (any-or f g n) ∙ misses (faulty_entry (asked Either names) c) n e h l in
      let u : any f n ≡ false = or_left (any f n) (any g n) w in
      let v : any g n ≡ false = or_right (any f n) (any g n) w in
      q ∙ simp (u, v)
    where
      or_left : (a b : Bool) → (a || b) ≡ false → a ≡ false
      or_left true b e = e
      or_left false b e = refl

      or_right : (a b : Bool) → (a || b) ≡ false → b ≡ false
      or_right true b e = absurd (false≢true (sym e))
      or_right false b e = e

  pub entries-outside : (o : ℕ) (r : Checked) → o ≡ first (faulty_entry (asked Outside names) c) n → o < n → r ≡ Err (refusal why.Outside 5 o) → r ≡ checked (entry_reasons names c n)
  unfolding checked entry_reasons
  entries-outside o r h l q = let u : any f n ≡ true = finds f n o h l in q ∙ simp (u, h)

  -- where the first is not there, what is found is the second
  pub entries-ill : (e o : ℕ) (r : Checked) → e ≡ first (faulty_entry (asked Either names) c) n → o ≡ first (faulty_entry (asked Outside names) c) n → e < n → n ≤ o → r ≡ Err (refusal why.IllFormed 5 e) → r ≡ checked (entry_reasons names c n)
  unfolding checked entry_reasons faulty_entry
  entries-ill e o r h k l m q =
      let u : any f n ≡ false = misses f n o k m in
      let s : e ≡ first g n = h ∙ first-agree (faulty_entry (asked Either names) c) g n (λ i b. ap (λ (x : Bool). x || g i) (none-at f n u i b)) in
      let v : any g n ≡ true = finds g n e s l in
      q ∙ simp (u, v, s)
