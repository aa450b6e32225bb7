-- `judge::contents/of_162` meets its contract.
use Rattle.std.proofs.Common.{rules, refl, ◌≡◌, length, ◌/◌}
use Rattle.octets.specs.Search.{first}
use Rattle.octets.proofs.SearchLaws.{first_by}
use Rattle.pack.specs.Tables.{content_of, sets_of}
use Rattle.rules.specs.Contents.{breaks162, of162}
use Rattle.judge.proofs.contents.of_162.Goals as goal

pub returns-then-not-is_of_type : goal.returns-then-not-is_of_type
unfolding of162
returns-then-not-is_of_type c = simp (← c.is_of_type.ensures, c.if-not-is_of_type.true)

pub returns : goal.returns
unfolding of162 first
returns c =
    let a = c.args in
    let e : c.first-first.result ≡ first (λ j. breaks162 (content_of a.names.now a.c) ((sets_of a.sets.now a.names.now).row j)) (length a.sets.now / 48) = first_by _ _ _ _ refl (λ k b s l h. search rules) _ c.first-first.ensures in
    simp (← c.is_of_type.ensures, c.if-not-is_of_type.false, ← e) c.partner_of.ensures
