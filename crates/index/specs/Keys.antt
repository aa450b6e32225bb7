-- What is indexed beside tiles, and by which key: a name, and with it the numbers that a rule compares, 0 for those that it does not.
use Rattle.std.specs.Prelude.{ℕ, ◌/◌, List, Bool, true, false, ◌≡◌, eqb, ℤ, pos, length}
use Rattle.octets.specs.Numbers.{signed}
use Rattle.octets.specs.Texts.{spell}
use Rattle.octets.specs.declared.Name.{Name}
use Rattle.pack.specs.declared.MatrixRow.{MatrixRow}
use Rattle.pack.specs.Tables.{matrix_of, contents_of, sets_of, matrices_of}
use Rattle.rules.specs.Contents.{gives_tiles, content_named, set_named}
use Rattle.rules.specs.Matrices.{matrix_named, at_level, breaks531}
use Rattle.seek.specs.Tests.{matrix_passes}
use Rattle.seek.specs.declared.MatrixTest.{MatrixTest}
use Rattle.index.specs.declared.Kind.{Kind}
use Rattle.index.specs.declared.Kind.TheVariants as kind
use Rattle.index.specs.declared.Key.{Key}
use Rattle.index.specs.declared.Key.TheVariants as key
use Rattle.index.specs.Hashes.{key_mix}
use Rattle.index.specs.Work.{heads_for, Keyed, Entered}

-- how many rows the table of a kind has
abbrev pub row_count : Kind → List ℕ → ℕ
row_count kind.Level t = length t / 64
row_count kind.MatrixName t = length t / 64
row_count kind.TilesName t = length t / 40
row_count kind.ContentName t = length t / 40
row_count kind.SetName t = length t / 48

-- the key of row k
abbrev pub key_of : Kind → List ℕ → List ℕ → ℕ → (List ℕ × ℤ × ℤ × ℤ)
key_of kind.Level t names k = (((matrices_of t names).row k).name, ((matrices_of t names).row k).zoom, pos 0, pos 0)
key_of kind.MatrixName t names k = (((matrices_of t names).row k).name, pos 0, pos 0, pos 0)
key_of kind.TilesName t names k = (((contents_of t names).row k).name, pos 0, pos 0, pos 0)
key_of kind.ContentName t names k = (((contents_of t names).row k).name, pos 0, pos 0, pos 0)
key_of kind.SetName t names k = (((sets_of t names).row k).name, pos 0, pos 0, pos 0)

-- row k answers to the key a, in the words of the rules. A contents row that makes its name no tiles name answers to no tiles name
abbrev pub answers : Kind → List ℕ → List ℕ → (List ℕ × ℤ × ℤ × ℤ) → ℕ → Bool
answers kind.Level t names a k = at_level a.0 a.1 ((matrices_of t names).row k)
answers kind.MatrixName t names a k = matrix_named a.0 ((matrices_of t names).row k)
answers kind.TilesName t names a k = gives_tiles a.0 ((contents_of t names).row k)
answers kind.ContentName t names a k = content_named a.0 ((contents_of t names).row k)
answers kind.SetName t names a k = set_named a.0 ((sets_of t names).row k)

-- every row of a kind answers to its own key
abbrev pub sure : Kind → Bool
sure kind.Level = true
sure kind.MatrixName = true
sure kind.TilesName = false
sure kind.ContentName = true
sure kind.SetName = true

-- a key as the code has it: its kind, and what it is
abbrev pub kind_of : Key → Kind
kind_of (key.Level x z) = kind.Level
kind_of (key.MatrixName x) = kind.MatrixName
kind_of (key.TilesName x) = kind.TilesName
kind_of (key.ContentName x) = kind.ContentName
kind_of (key.SetName x) = kind.SetName

abbrev pub meaning : List ℕ → Key → (List ℕ × ℤ × ℤ × ℤ)
meaning names (key.Level x z) = (spell names x, signed z, pos 0, pos 0)
meaning names (key.MatrixName x) = (spell names x, pos 0, pos 0, pos 0)
meaning names (key.TilesName x) = (spell names x, pos 0, pos 0, pos 0)
meaning names (key.ContentName x) = (spell names x, pos 0, pos 0, pos 0)
meaning names (key.SetName x) = (spell names x, pos 0, pos 0, pos 0)

-- ---- what a walk asks of row k
-- whether it answers to a key
abbrev pub answers_to : List ℕ → List ℕ → Key → ℕ → Bool
answers_to t names a = answers (kind_of a) t names (meaning names a)

-- whether it has a level
abbrev pub leveled : List ℕ → List ℕ → Name → ℕ → ℕ → Bool
leveled t names x z = λ k. at_level (spell names x) (signed z) ((matrices_of t names).row k)

-- whether it is a contents row with a name that is given by its octets
abbrev pub content_spelled : List ℕ → List ℕ → List ℕ → ℕ → Bool
content_spelled t names x = λ k. content_named x ((contents_of t names).row k)

-- whether it passes a test
abbrev pub passing : List ℕ → List ℕ → MatrixTest → ℕ → Bool
passing t names test = λ k. matrix_passes names test ((matrices_of t names).row k)

-- whether it breaks 531 with a row
abbrev pub breaking531 : List ℕ → List ℕ → MatrixRow → ℕ → Bool
breaking531 t names q = λ k. breaks531 (matrix_of names q) ((matrices_of t names).row k)

-- ---- the index
-- w indexes the first n rows, where it has heads: of the rows with one key the lowest
abbrev pub Indexes : Kind → List ℕ → List ℕ → List ℕ → ℕ → ℕ → Type 0
Indexes s t names w m n = Keyed (key_of s t names) (answers s t names) key_mix w m (row_count s t) n

-- it has as many heads as its octets have room for, and indexes all rows
abbrev pub IndexesAll : Kind → List ℕ → List ℕ → ℕ → List ℕ → ℕ → Type 0
IndexesAll s t names octets w m = (m ≡ heads_for (octets / 4) (row_count s t)) × Indexes s t names w m (row_count s t)

-- row i has been entered, and r is the lowest row below it that answers to its key, or i
abbrev pub Enters : Kind → List ℕ → List ℕ → List ℕ → ℕ → ℕ → ℕ → Type 0
Enters s t names w m i r = Entered (key_of s t names) (answers s t names) key_mix w m (row_count s t) i r

-- ---- every matrix row entered, so that all rows of a key are met and not the lowest alone: each row answers to itself
abbrev pub Shelves : Kind → List ℕ → List ℕ → List ℕ → ℕ → ℕ → Type 0
Shelves s t names w m n = Keyed (λ k. k) eqb (λ k. key_mix (key_of s t names k)) w m (length t / 64) n

-- a test that only rows with the key a pass
pub record Confines (s : Kind) (t names : List ℕ) (a : (List ℕ × ℤ × ℤ × ℤ)) (test : ℕ → Bool) : Type 0 where
  pub within : (k : ℕ) → test k ≡ true → a ≡ key_of s t names k

-- a test of matrices that only rows with a key pass
abbrev pub KeyConfines : List ℕ → List ℕ → Key → MatrixTest → Type 0
KeyConfines t names a test = Confines (kind_of a) t names (meaning names a) (passing t names test)
