-- The rules on extensions (table 6): 601, 621, 622, 641.
use Rattle.std.specs.Prelude.{ℕ, List, Bool, not, ◌&&◌, ◌||◌, None, Some}
use Rattle.octets.specs.Texts.{Nullable, There, Null, same, both_same}
use Rattle.spelling.specs.ExtensionNames.{is_extension_name}
use Rattle.spelling.specs.Words.{read_write, write_only}
use Rattle.pack.specs.Rows.{Rows, Extension}
use Rattle.rules.specs.Judgments.{none, fault_if, lowest, Judgment}

-- 601: extension row; column_name present, table_name NULL
abbrev pub lacks601 : Nullable (List ℕ) → Nullable (List ℕ) → Judgment
lacks601 (There x) c = None
lacks601 Null (There c) = Some none
lacks601 Null Null = None

unfoldable pub of601 : Extension → Judgment
of601 e = lacks601 e.table e.column

-- 621: extension_name is not one or more of a-z A-Z 0-9, an underscore, then one or more of those or underscores
unfoldable pub of621 : Extension → Judgment
of621 e = fault_if (not (is_extension_name e.name))

-- 622: an earlier row equals it in table_name, column_name and extension_name, none NULL (partner)
unfoldable pub equals622 : Extension → Extension → Bool
equals622 e q = both_same e.table q.table && (both_same e.column q.column && same e.name q.name)

unfoldable pub of622 : Rows Extension → Extension → ℕ → Judgment
of622 es e i = lowest (equals622 e) es i

-- 641: scope is neither "read-write" nor "write-only"
unfoldable pub of641 : Extension → Judgment
of641 e = fault_if (not (same e.scope read_write || same e.scope write_only))
