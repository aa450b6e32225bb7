-- Of some octets and some words it has one proof at most that the words are marks of the octets, so a value may hold it: a place lies in one character only.
use Rattle.std.specs.Prelude.{ℕ, ◌+◌, ◌<◌, ◌≤◌, ◌≡◌, List, drop}
use Rattle.std.proofs.Common.{sym, ◌∙◌, lt_of_not-le, le_antisymm, arith}
use Rattle.std.proofs.Math.Decide.{dec_le}
use Rattle.std.proofs.lemmas.Bool.{false≢true}
use Rattle.std.specs.Coded.{le_prop}
use mathlib.Core.HLevel.{is_prop→PathP}
use Rattle.utf8.specs.Utf8.{size}
use Rattle.utf8.specs.CoverLaws.{Covered, inner, lead, Stretch}
use Rattle.utf8.specs.MarkLaws.{Marks, Head}

module _ (s : List ℕ) where
  -- of two characters that reach a place the later one does not begin in the earlier
  no_later : (q : ℕ) (c d : Covered s q) → c.start < d.start → ⊥
  no_later q c d l = false≢true (sym (lead s d.start (omega (arith, d.past, d.before))) ∙ inner s c.start d.start l (omega (arith, d.before, c.past)))

  same-start : (q : ℕ) (c d : Covered s q) → c.start ≡ d.start
  same-start q c d = elim (dec_le c.start d.start) [
    | yes g ↦ elim (dec_le d.start c.start) [ yes h ↦ le_antisymm g h | no h ↦ absurd (no_later q c d (lt_of_not-le h)) ]
    | no g ↦ absurd (no_later q d c (lt_of_not-le g))
  ]

  Covered-prop : (q : ℕ) → IsProp (Covered s q)
  Covered-prop q c d = λ i. record {
    start = same-start q c d i;
    before = is_prop→PathP (λ i. same-start q c d i ≤ q) (λ i. le_prop) c.before d.before i;
    past = is_prop→PathP (λ i. q < same-start q c d i + size (drop (same-start q c d i) s)) (λ i. le_prop) c.past d.past i;
  }

  Stretch-prop : (a z : ℕ) → IsProp (Stretch s a z)
  Stretch-prop a z = hlevel (Covered-prop)

  pub Head-prop : (h : ℕ) → IsProp (Head s h)
  Head-prop h = hlevel (Covered-prop, le_prop)

  pub Marks-prop : (m : List ℕ) → IsProp (Marks s m)
  Marks-prop m = hlevel (Covered-prop, le_prop)
