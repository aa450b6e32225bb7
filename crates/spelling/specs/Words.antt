-- The words that document 01 quotes in its rules, as octets.
use Rattle.std.specs.Prelude.{ℕ, List, [], ◌∷◌}

-- 111: "EPSG"
abbrev pub epsg : List ℕ
epsg = 69 ∷ 80 ∷ 83 ∷ 71 ∷ []

-- 112, 113: "NONE"
abbrev pub none_word : List ℕ
none_word = 78 ∷ 79 ∷ 78 ∷ 69 ∷ []

-- 112, 113: "undefined"
abbrev pub undefined_word : List ℕ
undefined_word = 117 ∷ 110 ∷ 100 ∷ 101 ∷ 102 ∷ 105 ∷ 110 ∷ 101 ∷ 100 ∷ []

-- data_type: "tiles"
abbrev pub tiles : List ℕ
tiles = 116 ∷ 105 ∷ 108 ∷ 101 ∷ 115 ∷ []

-- 171: "features"
abbrev pub features : List ℕ
features = 102 ∷ 101 ∷ 97 ∷ 116 ∷ 117 ∷ 114 ∷ 101 ∷ 115 ∷ []

-- 351: "gpkg_zoom_other"
abbrev pub zoom_other : List ℕ
zoom_other = 103 ∷ 112 ∷ 107 ∷ 103 ∷ 95 ∷ 122 ∷ 111 ∷ 111 ∷ 109 ∷ 95 ∷ 111 ∷ 116 ∷ 104 ∷ 101 ∷ 114 ∷ []

-- 641: "read-write"
abbrev pub read_write : List ℕ
read_write = 114 ∷ 101 ∷ 97 ∷ 100 ∷ 45 ∷ 119 ∷ 114 ∷ 105 ∷ 116 ∷ 101 ∷ []

-- 641: "write-only"
abbrev pub write_only : List ℕ
write_only = 119 ∷ 114 ∷ 105 ∷ 116 ∷ 101 ∷ 45 ∷ 111 ∷ 110 ∷ 108 ∷ 121 ∷ []
