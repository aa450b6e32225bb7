-- "Both sides of each line" for 13: names, rows, and the reason that they give with its place, as one table with a single statement.
use Rattle.std.specs.Prelude.{ℕ, ◌≡◌, refl, List, [], ◌∷◌, ◌++◌, map, cond, eqb, Ok}
use Rattle.octets.specs.Octets.{le32, le64, part}
use Rattle.octets.specs.Search.{first, any}
use Rattle.octets.specs.Texts.{text_at}
use Rattle.utf8.specs.Utf8.{in_range, table37, size, well_formed}
use Rattle.listing.specs.Listing.{row, rows_as, layout}
use Rattle.listing.specs.Refusals.{text_base, text_count, null_count, faulty_text, faulty_row, lowest_faulty_row, faulty_table, bad_contents, row_reasons, decide, number_of, table_of, row_of}
use Rattle.listing.specs.declared.Format.TheVariants.{Edition1}

-- a text's two numbers, below 256, and an i64 of 0
abbrev at : ℕ → ℕ → List ℕ
at start len = start ∷ 0 ∷ 0 ∷ 0 ∷ len ∷ 0 ∷ 0 ∷ 0 ∷ []

abbrev no_text : List ℕ
no_text = 255 ∷ 255 ∷ 255 ∷ 255 ∷ 0 ∷ 0 ∷ 0 ∷ 0 ∷ []

abbrev nought : List ℕ
nought = at 0 0

-- a tile row, a contents row with a flag, an extension row
abbrev tile : ℕ → ℕ → List ℕ
tile start len = at start len ++ nought ++ nought ++ nought

abbrev content : ℕ → ℕ → ℕ → List ℕ
content start len flag = at start len ++ nought ++ nought ++ nought ++ at flag 0

abbrev extension : List ℕ → List ℕ
extension column = no_text ++ column ++ nought ++ nought

-- contents, tiles, extensions and names as tables by number
abbrev tables : List ℕ → List ℕ → List ℕ → List ℕ → ℕ → List ℕ
tables c t e names k = cond (eqb k 2) c (cond (eqb k 5) t (cond (eqb k 6) e (cond (eqb k 7) names [])))

abbrev answer : (ℕ → List ℕ) → List ℕ
answer ts = let o = decide (row_reasons Edition1 ts) (Ok (layout [])) in number_of o ∷ table_of o ∷ row_of o ∷ []

abbrev lines : List (List ℕ × List ℕ)
lines =
    -- names 61 FF: the octet that no text refers to is free
    (answer (tables [] (tile 0 1) [] (0x61 ∷ 0xFF ∷ [])), 0 ∷ 0 ∷ 0 ∷ [])
    ∷ (answer (tables [] (tile 0 2) [] (0x61 ∷ 0xFF ∷ [])), 13 ∷ 5 ∷ 0 ∷ [])
    -- names C3 A9: each text by itself
    ∷ (answer (tables [] (tile 0 2) [] (0xC3 ∷ 0xA9 ∷ [])), 0 ∷ 0 ∷ 0 ∷ [])
    ∷ (answer (tables [] (tile 0 1) [] (0xC3 ∷ 0xA9 ∷ [])), 13 ∷ 5 ∷ 0 ∷ [])
    ∷ (answer (tables [] (tile 1 1) [] (0xC3 ∷ 0xA9 ∷ [])), 13 ∷ 5 ∷ 0 ∷ [])
    -- an empty text is good, also inside a character; NULL is no text
    ∷ (answer (tables [] (tile 1 0) [] (0xC3 ∷ 0xA9 ∷ [])), 0 ∷ 0 ∷ 0 ∷ [])
    ∷ (answer (tables [] [] (extension no_text) (0xFF ∷ [])), 0 ∷ 0 ∷ 0 ∷ [])
    ∷ (answer (tables [] [] (extension (at 0 1)) (0xFF ∷ [])), 13 ∷ 6 ∷ 0 ∷ [])
    -- the lowest table, then the lowest row
    ∷ (answer (tables [] (tile 0 0 ++ tile 0 1) (extension (at 0 1)) (0xFF ∷ [])), 13 ∷ 5 ∷ 1 ∷ [])
    -- all of 7, then all of 8, then all of 13
    ∷ (answer (tables (content 0 1 1) [] [] (0xFF ∷ [])), 13 ∷ 2 ∷ 0 ∷ [])
    ∷ (answer (tables (content 0 1 2) [] [] (0xFF ∷ [])), 8 ∷ 2 ∷ 0 ∷ [])
    ∷ (answer (tables (content 0 1 2) (tile 0 2) [] (0xFF ∷ [])), 7 ∷ 5 ∷ 0 ∷ [])
    ∷ []

pub ill-worked : map (λ l. l.0) lines ≡ map (λ l. l.1) lines
unfolding le32 le64 part first any text_at in_range table37 size well_formed row rows_as text_base text_count null_count faulty_text faulty_row lowest_faulty_row faulty_table bad_contents row_reasons
ill-worked = refl
