-- What the writer answers, and what its buffer holds afterwards.
use Rattle.std.specs.Prelude.{ℕ, ◌%◌, ◌≡◌, List, [], ◌∷◌, ◌++◌, Bool, not, ◌&&◌, eqb, ltb, length, Result, Ok, Err}
use Rattle.octets.specs.Octets.{filled}
use Rattle.octets.specs.Search.{first, any}
use Rattle.listing.specs.Listing.{row, most}
use Rattle.listing.specs.Refusals.{Reason, row_reasons, decide_by, number_of, table_of, row_of}
use Rattle.listing.specs.declared.Format.TheVariants.{Edition1}
use Rattle.listing.specs.declared.Why.TheVariants as why
use Rattle.listing.specs.declared.Refusal.{Refusal}
use Rattle.writer.specs.Parts.{size_of, count_of, written}

-- ---- the reasons
-- 11: "a part that isn't whole rows"
unfoldable pub ragged : (ℕ → List ℕ) → ℕ → Bool
ragged ps k = ltb 0 k && not (eqb (size_of ps k % row k) 0)

-- 5: a count above its most
unfoldable pub crowded : (ℕ → List ℕ) → ℕ → Bool
crowded ps k = ltb 0 k && ltb (most k) (count_of ps k)

-- 11 "comes first", "then 5"; their place is "the first such table, 0"
unfoldable pub size_reasons : (ℕ → List ℕ) → List Reason
size_reasons ps =
    record { why = why.Ragged; there = any (ragged ps) 8; at_table = first (ragged ps) 8; at_row = 0 }
    ∷ record { why = why.Count; there = any (crowded ps) 8; at_table = first (crowded ps) 8; at_row = 0 }
    ∷ []

-- "12, buffer too short (place 0 0)"
abbrev pub short_reason : (ℕ → List ℕ) → ℕ → Reason
short_reason ps room = record { why = why.Room; there = ltb room (length (written ps)); at_table = 0; at_row = 0 }

-- between them "7 and 8 as the reader would give them", and 13 "after 8 and before 12"
unfoldable pub write_reasons : (ℕ → List ℕ) → ℕ → List Reason
write_reasons ps room = size_reasons ps ++ (row_reasons Edition1 ps ++ (short_reason ps room ∷ []))

-- ---- the answer: the first reason that is there, or how many octets the listing has
abbrev pub Written : Type 0
Written = Result ℕ Refusal

unfoldable pub write_answer : (ℕ → List ℕ) → ℕ → Written
write_answer ps room = decide_by Err (write_reasons ps room) (Ok (length (written ps)))

-- what is left to answer where 11 and 5 are not there, and where no reason of the rows is
unfoldable pub room_answer : (ℕ → List ℕ) → ℕ → Written
room_answer ps room = decide_by Err (short_reason ps room ∷ []) (Ok (length (written ps)))

unfoldable pub sized_answer : (ℕ → List ℕ) → ℕ → Written
sized_answer ps room = decide_by Err (row_reasons Edition1 ps) (room_answer ps room)

-- the number of an answer, 0 where it is no refusal; its place, and the octets written
abbrev pub number_in : Written → ℕ
number_in r = number_of r

abbrev pub table_in : Written → ℕ
table_in r = table_of r

abbrev pub row_in : Written → ℕ
row_in r = row_of r

-- "a refusal answers 0 octets"
abbrev pub octets_in : Written → ℕ
octets_in (Ok n) = n
octets_in (Err e) = 0

-- ---- the buffer
-- what is put at its front: the listing, or nothing where it is refused
abbrev pub given_of : (ℕ → List ℕ) → Written → List ℕ
given_of ps (Ok n) = written ps
given_of ps (Err e) = []

-- b is the buffer before and b' after: "buffer octets past the listing keep their values; a refusal .. writes nothing"
pub record WriteOf (ps : ℕ → List ℕ) (b : List ℕ) (r : Written) (b' : List ℕ) : Type 0 where
  pub answer : r ≡ write_answer ps (length b)
  pub buffer : b' ≡ filled (given_of ps (write_answer ps (length b))) b
