-- Both sides of each line of the request, worked out by computation: parts and a room, and the answer's four numbers. (Of 5 the least case has 8,224 octets: the second program runs it.)
use Rattle.std.specs.Prelude.{ℕ, ◌≡◌, refl, List, [], ◌∷◌, ◌++◌, replicate}
use Rattle.octets.specs.Octets.{le32, le64, part}
use Rattle.octets.specs.Slices.{nth}
use Rattle.octets.specs.Search.{first, any}
use Rattle.octets.specs.Texts.{text_at}
use Rattle.utf8.specs.Utf8.{in_range, table37, size, well_formed}
use Rattle.listing.specs.Listing.{row, most, rows, numbered}
use Rattle.listing.specs.Header.{start_of, two, pairs}
use Rattle.listing.specs.Refusals.{text_base, text_count, null_count, faulty_text, faulty_row, lowest_faulty_row, faulty_table, bad_contents, row_reasons}
use Rattle.writer.specs.Parts.{size_of, count_of, joined, written}
use Rattle.writer.specs.Writing.{Written, ragged, crowded, size_reasons, write_reasons, write_answer, number_in, table_in, row_in, octets_in}

-- number, table, row and octets
abbrev four : Written → List ℕ
four a = number_in a ∷ table_in a ∷ row_in a ∷ octets_in a ∷ []

abbrev answer : List (List ℕ) → ℕ → List ℕ
answer ts room = four (write_answer (numbered ts) room)

-- ---- parts
abbrev none : List (List ℕ)
none = [] ∷ [] ∷ [] ∷ [] ∷ [] ∷ [] ∷ [] ∷ []

-- n octets 0 as the references: empty texts, so n / 32 good rows
abbrev references : ℕ → List (List ℕ)
references n = replicate n 0 ∷ [] ∷ [] ∷ [] ∷ [] ∷ [] ∷ [] ∷ []

-- a contents row with this flag
abbrev contents : ℕ → List ℕ
contents flag = replicate 32 0 ++ flag ∷ replicate 7 0

-- a tile row whose text is the octet at this start
abbrev tile : ℕ → List ℕ
tile start = start ∷ 0 ∷ 0 ∷ 0 ∷ 1 ∷ replicate 27 0

-- an extension row whose first text is NULL, and one whose third is
abbrev null : List ℕ
null = 255 ∷ 255 ∷ 255 ∷ 255 ∷ 0 ∷ 0 ∷ 0 ∷ 0 ∷ []

abbrev mixed : List ℕ → List ℕ → List ℕ → List ℕ → List (List ℕ)
mixed second fifth sixth seventh = [] ∷ second ∷ [] ∷ [] ∷ fifth ∷ sixth ∷ seventh ∷ []

-- ---- the lines
abbrev answers : List (List ℕ)
answers =
    -- no parts at all: the header alone, in a buffer just long enough, longer, one short, empty
    answer none 64 ∷ answer none 100 ∷ answer none 63 ∷ answer none 0
    -- whole rows or not: 0, 32, 31, 33 octets as references
    ∷ answer (references 0) 96 ∷ answer (references 32) 96 ∷ answer (references 31) 96 ∷ answer (references 33) 96
    -- two parts that are not: the first table's is the place
    ∷ answer (mixed (0 ∷ []) (0 ∷ []) [] []) 96
    -- a text's end at the end of the names, and one past it
    ∷ answer (mixed [] (tile 0) [] (97 ∷ [])) 97 ∷ answer (mixed [] (tile 1) [] (97 ∷ [])) 97
    -- NULL where it is allowed, and where not
    ∷ answer (mixed [] [] (null ++ replicate 24 0) []) 96 ∷ answer (mixed [] [] (replicate 16 0 ++ (null ++ replicate 8 0)) []) 96
    -- flag 1 and flag 2; flag 2 with a text outside in table 5: 7 before 8
    ∷ answer (mixed (contents 1) [] [] []) 104 ∷ answer (mixed (contents 2) [] [] []) 104 ∷ answer (mixed (contents 2) (tile 0) [] []) 136
    -- an octet that is no UTF-8, where a text has it and where none does; with flag 2: 8 before 13
    ∷ answer (mixed [] (tile 0) [] (255 ∷ [])) 97 ∷ answer (mixed [] (tile 0) [] (97 ∷ 255 ∷ [])) 98 ∷ answer (mixed (contents 2) (tile 0) [] (255 ∷ [])) 137
    -- a faulty part and no buffer: 12 is last
    ∷ answer (mixed (contents 2) [] [] []) 0 ∷ answer (references 31) 0 ∷ answer (mixed [] (tile 0) [] []) 0 ∷ answer (mixed [] (tile 0) [] (255 ∷ [])) 0
    ∷ []

pub worked : answers ≡
    (0 ∷ 0 ∷ 0 ∷ 64 ∷ []) ∷ (0 ∷ 0 ∷ 0 ∷ 64 ∷ []) ∷ (12 ∷ 0 ∷ 0 ∷ 0 ∷ []) ∷ (12 ∷ 0 ∷ 0 ∷ 0 ∷ [])
    ∷ (0 ∷ 0 ∷ 0 ∷ 64 ∷ []) ∷ (0 ∷ 0 ∷ 0 ∷ 96 ∷ []) ∷ (11 ∷ 1 ∷ 0 ∷ 0 ∷ []) ∷ (11 ∷ 1 ∷ 0 ∷ 0 ∷ [])
    ∷ (11 ∷ 2 ∷ 0 ∷ 0 ∷ [])
    ∷ (0 ∷ 0 ∷ 0 ∷ 97 ∷ []) ∷ (7 ∷ 5 ∷ 0 ∷ 0 ∷ [])
    ∷ (0 ∷ 0 ∷ 0 ∷ 96 ∷ []) ∷ (7 ∷ 6 ∷ 0 ∷ 0 ∷ [])
    ∷ (0 ∷ 0 ∷ 0 ∷ 104 ∷ []) ∷ (8 ∷ 2 ∷ 0 ∷ 0 ∷ []) ∷ (7 ∷ 5 ∷ 0 ∷ 0 ∷ [])
    ∷ (13 ∷ 5 ∷ 0 ∷ 0 ∷ []) ∷ (0 ∷ 0 ∷ 0 ∷ 98 ∷ []) ∷ (8 ∷ 2 ∷ 0 ∷ 0 ∷ [])
    ∷ (8 ∷ 2 ∷ 0 ∷ 0 ∷ []) ∷ (11 ∷ 1 ∷ 0 ∷ 0 ∷ []) ∷ (7 ∷ 5 ∷ 0 ∷ 0 ∷ []) ∷ (13 ∷ 5 ∷ 0 ∷ 0 ∷ [])
    ∷ []
unfolding le32 le64 nth first any text_at row most rows numbered start_of two pairs text_base text_count null_count faulty_text faulty_row lowest_faulty_row faulty_table bad_contents part in_range table37 size well_formed row_reasons size_of count_of joined written ragged crowded size_reasons write_reasons write_answer
worked = refl

-- the header of a contents row alone: version 1 and length 104; counts 0 and 1, and each offset the end of the table before
pub worked-header : written (numbered (mixed (contents 1) [] [] [])) ≡
    (1 ∷ 0 ∷ 0 ∷ 0 ∷ 104 ∷ 0 ∷ 0 ∷ 0 ∷ []) ++ (0 ∷ 0 ∷ 0 ∷ 0 ∷ 64 ∷ 0 ∷ 0 ∷ 0 ∷ []) ++ (1 ∷ 0 ∷ 0 ∷ 0 ∷ 64 ∷ 0 ∷ 0 ∷ 0 ∷ []) ++ (0 ∷ 0 ∷ 0 ∷ 0 ∷ 104 ∷ 0 ∷ 0 ∷ 0 ∷ [])
    ++ (0 ∷ 0 ∷ 0 ∷ 0 ∷ 104 ∷ 0 ∷ 0 ∷ 0 ∷ []) ++ (0 ∷ 0 ∷ 0 ∷ 0 ∷ 104 ∷ 0 ∷ 0 ∷ 0 ∷ []) ++ (0 ∷ 0 ∷ 0 ∷ 0 ∷ 104 ∷ 0 ∷ 0 ∷ 0 ∷ []) ++ (0 ∷ 0 ∷ 0 ∷ 0 ∷ 104 ∷ 0 ∷ 0 ∷ 0 ∷ []) ++ contents 1
unfolding nth row rows numbered start_of two pairs size_of count_of joined written
worked-header = refl
