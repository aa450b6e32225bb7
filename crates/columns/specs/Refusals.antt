-- The reasons for turning columns away: "the listing's to 13; 14, a column shorter than the tile count (place 5, 0);
-- then, not in the fill, 7 and 13 for a column entry that spells no allowed text (place 5, entry)".
use Rattle.std.specs.Prelude.{ℕ, ◌*◌, ◌/◌, ◌%◌, ◌^◌, List, [], ◌∷◌, ◌++◌, Bool, false, cond, ◌||◌, ltb, length, Some, None, Ok}
use Rattle.octets.specs.Octets.{le64}
use Rattle.octets.specs.Search.{first, any}
use Rattle.octets.specs.Slices.{nth}
use Rattle.octets.specs.Texts.{outside}
use Rattle.octets.specs.Texts.{Text}
use Rattle.listing.specs.Listing.{table, rows, layout}
use Rattle.listing.specs.Refusals.{Reason, Checked, Outcome, ill, header_reasons, row_reasons, checked, decide}
use Rattle.listing.specs.declared.Why.{Why}
use Rattle.listing.specs.declared.Why.TheVariants as why
use Rattle.listing.specs.declared.Format.TheVariants.{Edition1}
use Rattle.pack.specs.Columns.{entries}

-- ---- 14: of four columns, cs, one has fewer than n entries
unfoldable pub is_short : ℕ → List (List ℕ) → Bool
is_short n cs = ltb (entries (nth cs 0)) n || (ltb (entries (nth cs 1)) n || (ltb (entries (nth cs 2)) n || ltb (entries (nth cs 3)) n))

abbrev pub short_reason : ℕ → List (List ℕ) → Reason
short_reason n cs = record { why = why.Columns; there = is_short n cs; at_table = 5; at_row = 0 }

-- ---- 7 and 13, of the entries of the first column
-- "the first holds the name's start times 2^32 plus its length; a negative one spells no text"
unfoldable pub entry_text : ℕ → Text
entry_text v = cond (ltb v (2 ^ 63)) (Some (record { start = v / 4294967296; len = v % 4294967296 })) None

-- entry i of the column c spells a text that has a fault; no entry may be NULL
unfoldable pub faulty_entry : (Bool → Text → Bool) → List ℕ → ℕ → Bool
faulty_entry fault c i = fault false (entry_text (le64 c (8 * i)))

-- the place is the lowest such entry of the first n
abbrev pub entry_reason : Why → (Bool → Text → Bool) → List ℕ → ℕ → Reason
entry_reason w fault c n = record { why = w; there = any (faulty_entry fault c) n; at_table = 5; at_row = first (faulty_entry fault c) n }

unfoldable pub entry_reasons : List ℕ → List ℕ → ℕ → List Reason
entry_reasons names c n = entry_reason why.Outside (outside (length names)) c n ∷ entry_reason why.IllFormed (ill names) c n ∷ []

-- ---- the reasons of the calls: t is table 5, of which the rows are counted, and names is table 7
unfoldable pub column_reasons : List ℕ → List ℕ → List (List ℕ) → List Reason
column_reasons t names cs = short_reason (rows 5 t) cs ∷ entry_reasons names (nth cs 0) (rows 5 t)

-- of a report or a lookup from columns
unfoldable pub column_outcome : List ℕ → List (List ℕ) → Outcome
column_outcome s cs = decide ((header_reasons Edition1 s ++ row_reasons Edition1 (table s)) ++ column_reasons (table s 5) (table s 7) cs) (Ok (layout s))

-- of the fill
unfoldable pub fill_reasons : List ℕ → List (List ℕ) → List Reason
fill_reasons s cs = (header_reasons Edition1 s ++ row_reasons Edition1 (table s)) ++ (short_reason (rows 5 (table s 5)) cs ∷ [])

unfoldable pub fill_answer : List ℕ → List (List ℕ) → Checked
fill_answer s cs = checked (fill_reasons s cs)
