-- The 36 codes with their tables, and the rule of each.
use Rattle.rules.specs.Judgments.{Judgment}
use Rattle.std.specs.Prelude.{ℕ, List, [], ◌∷◌, cond, eqb, get_or, drop, pos, negsuc, None}
use Rattle.pack.specs.Rows.{Pack}
use Rattle.rules.specs.References.{of101, of111, of112, of113, lacks_id}
use Rattle.rules.specs.Contents.{of131, of151, of161, of162, of401, none171}
use Rattle.rules.specs.Sets.{of391, of392, of411}
use Rattle.rules.specs.Matrices.{of351, of431, of432, of451, of452, of461, of471, of481, of491, of501, of511, of521, of531}
use Rattle.rules.specs.Tiles.{of341, of441, of541, of551, of561, of571}
use Rattle.rules.specs.Extensions.{of601, of621, of622, of641}

-- "the 36 codes with their tables stand as a constant table"
abbrev pub codes : List ℕ
codes = 101 ∷ 111 ∷ 112 ∷ 113 ∷ 131 ∷ 151 ∷ 161 ∷ 162 ∷ 171 ∷ 341 ∷ 351 ∷ 391 ∷ 392 ∷ 401 ∷ 411 ∷ 431 ∷ 432 ∷ 441 ∷ 451 ∷ 452 ∷ 461 ∷ 471 ∷ 481 ∷ 491 ∷ 501 ∷ 511 ∷ 521 ∷ 531 ∷ 541 ∷ 551 ∷ 561 ∷ 571 ∷ 601 ∷ 621 ∷ 622 ∷ 641 ∷ []

abbrev pub tables : List ℕ
tables = 1 ∷ 1 ∷ 1 ∷ 1 ∷ 2 ∷ 2 ∷ 2 ∷ 2 ∷ 2 ∷ 5 ∷ 4 ∷ 3 ∷ 3 ∷ 2 ∷ 3 ∷ 4 ∷ 4 ∷ 5 ∷ 4 ∷ 4 ∷ 4 ∷ 4 ∷ 4 ∷ 4 ∷ 4 ∷ 4 ∷ 4 ∷ 4 ∷ 5 ∷ 5 ∷ 5 ∷ 5 ∷ 6 ∷ 6 ∷ 6 ∷ 6 ∷ []

-- how many there are
abbrev pub code_count : ℕ
code_count = 36

-- the code at a place of that table, and its table
unfoldable pub code_at : ℕ → ℕ
code_at k = get_or codes k 0

unfoldable pub table_at : ℕ → ℕ
table_at k = get_or tables k 0

-- "each belongs to one table": the table of a code; 0 where it is none of the 36
abbrev pub seek : List ℕ → List ℕ → ℕ → ℕ
seek [] ts c = 0
seek (k ∷ ks) ts c = cond (eqb c k) (get_or ts 0 0) (seek ks (drop 1 ts) c)

unfoldable pub table_of : ℕ → ℕ
table_of c = seek codes tables c

-- ---- the rule of a code, of a pack and a row
abbrev pub rule101 : Pack → ℕ → Judgment
rule101 p i = of101 p.references (p.references.row i) i

abbrev pub rule111 : Pack → ℕ → Judgment
rule111 p i = of111 (p.references.row i)

abbrev pub rule112 : Pack → ℕ → Judgment
rule112 p i = of112 (p.references.row i)

abbrev pub rule113 : Pack → ℕ → Judgment
rule113 p i = of113 (p.references.row i)

abbrev pub rule131 : Pack → ℕ → Judgment
rule131 p i = of131 p.contents (p.contents.row i) i

abbrev pub rule151 : Pack → ℕ → Judgment
rule151 p i = of151 (p.contents.row i)

abbrev pub rule161 : Pack → ℕ → Judgment
rule161 p i = of161 p.references (p.contents.row i)

abbrev pub rule162 : Pack → ℕ → Judgment
rule162 p i = of162 p.sets (p.contents.row i)

abbrev pub rule341 : Pack → ℕ → Judgment
rule341 p i = of341 p.contents (p.tiles.row i)

abbrev pub rule351 : Pack → ℕ → Judgment
rule351 p i = of351 p.matrices p.tiles p.extensions (p.matrices.row i)

abbrev pub rule391 : Pack → ℕ → Judgment
rule391 p i = of391 p.contents (p.sets.row i)

abbrev pub rule392 : Pack → ℕ → Judgment
rule392 p i = of392 p.sets (p.sets.row i) i

abbrev pub rule401 : Pack → ℕ → Judgment
rule401 p i = of401 p.sets (p.contents.row i)

abbrev pub rule411 : Pack → ℕ → Judgment
rule411 p i = of411 p.references (p.sets.row i)

abbrev pub rule431 : Pack → ℕ → Judgment
rule431 p i = of431 p.contents (p.matrices.row i)

abbrev pub rule432 : Pack → ℕ → Judgment
rule432 p i = of432 p.matrices (p.matrices.row i) i

abbrev pub rule441 : Pack → ℕ → Judgment
rule441 p i = of441 p.matrices (p.tiles.row i)

abbrev pub rule451 : Pack → ℕ → Judgment
rule451 p i = of451 p.sets (p.matrices.row i)

abbrev pub rule452 : Pack → ℕ → Judgment
rule452 p i = of452 p.sets (p.matrices.row i)

abbrev pub rule461 : Pack → ℕ → Judgment
rule461 p i = of461 (p.matrices.row i)

abbrev pub rule471 : Pack → ℕ → Judgment
rule471 p i = of471 (p.matrices.row i)

abbrev pub rule481 : Pack → ℕ → Judgment
rule481 p i = of481 (p.matrices.row i)

abbrev pub rule491 : Pack → ℕ → Judgment
rule491 p i = of491 (p.matrices.row i)

abbrev pub rule501 : Pack → ℕ → Judgment
rule501 p i = of501 (p.matrices.row i)

abbrev pub rule511 : Pack → ℕ → Judgment
rule511 p i = of511 (p.matrices.row i)

abbrev pub rule521 : Pack → ℕ → Judgment
rule521 p i = of521 (p.matrices.row i)

abbrev pub rule531 : Pack → ℕ → Judgment
rule531 p i = of531 p.matrices (p.matrices.row i)

abbrev pub rule541 : Pack → ℕ → Judgment
rule541 p i = of541 p.tiles (p.tiles.row i) i

abbrev pub rule551 : Pack → ℕ → Judgment
rule551 p i = of551 p.matrices (p.tiles.row i)

abbrev pub rule561 : Pack → ℕ → Judgment
rule561 p i = of561 p.matrices (p.tiles.row i)

abbrev pub rule571 : Pack → ℕ → Judgment
rule571 p i = of571 p.matrices (p.tiles.row i)

abbrev pub rule601 : Pack → ℕ → Judgment
rule601 p i = of601 (p.extensions.row i)

abbrev pub rule621 : Pack → ℕ → Judgment
rule621 p i = of621 (p.extensions.row i)

abbrev pub rule622 : Pack → ℕ → Judgment
rule622 p i = of622 p.extensions (p.extensions.row i) i

abbrev pub rule641 : Pack → ℕ → Judgment
rule641 p i = of641 (p.extensions.row i)

-- by the number of the code: 171 and numbers that are no code judge no row
unfoldable pub judged : Pack → ℕ → ℕ → Judgment
judged p code i =
    cond (eqb code 101) (rule101 p i)
    (cond (eqb code 111) (rule111 p i)
    (cond (eqb code 112) (rule112 p i)
    (cond (eqb code 113) (rule113 p i)
    (cond (eqb code 131) (rule131 p i)
    (cond (eqb code 151) (rule151 p i)
    (cond (eqb code 161) (rule161 p i)
    (cond (eqb code 162) (rule162 p i)
    (cond (eqb code 341) (rule341 p i)
    (cond (eqb code 351) (rule351 p i)
    (cond (eqb code 391) (rule391 p i)
    (cond (eqb code 392) (rule392 p i)
    (cond (eqb code 401) (rule401 p i)
    (cond (eqb code 411) (rule411 p i)
    (cond (eqb code 431) (rule431 p i)
    (cond (eqb code 432) (rule432 p i)
    (cond (eqb code 441) (rule441 p i)
    (cond (eqb code 451) (rule451 p i)
    (cond (eqb code 452) (rule452 p i)
    (cond (eqb code 461) (rule461 p i)
    (cond (eqb code 471) (rule471 p i)
    (cond (eqb code 481) (rule481 p i)
    (cond (eqb code 491) (rule491 p i)
    (cond (eqb code 501) (rule501 p i)
    (cond (eqb code 511) (rule511 p i)
    (cond (eqb code 521) (rule521 p i)
    (cond (eqb code 531) (rule531 p i)
    (cond (eqb code 541) (rule541 p i)
    (cond (eqb code 551) (rule551 p i)
    (cond (eqb code 561) (rule561 p i)
    (cond (eqb code 571) (rule571 p i)
    (cond (eqb code 601) (rule601 p i)
    (cond (eqb code 621) (rule621 p i)
    (cond (eqb code 622) (rule622 p i)
    (cond (eqb code 641) (rule641 p i)
    None))))))))))))))))))))))))))))))))))

-- "these are the only findings without a row": 111, 112, 113 and 171
unfoldable pub judged_none : Pack → ℕ → Judgment
judged_none p code =
    cond (eqb code 111) (lacks_id (pos 4326) p.references)
    (cond (eqb code 112) (lacks_id (negsuc 0) p.references)
    (cond (eqb code 113) (lacks_id (pos 0) p.references)
    (cond (eqb code 171) (none171 p.contents) None)))
