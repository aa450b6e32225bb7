-- `judge::contents/of_401` meets its contract.
use Rattle.judge.proofs.Laws.{searches}
use Rattle.pack.specs.Tables.{content_of}
use Rattle.rules.specs.Contents.{of401}
use Rattle.judge.proofs.contents.of_401.Goals as goal

pub returns-then-not-is_of_type : goal.returns-then-not-is_of_type
unfolding of401
returns-then-not-is_of_type c = simp (← c.is_of_type.ensures, c.if-not-is_of_type.true)

pub returns : goal.returns
unfolding of401 content_of
returns c = simp (← c.is_of_type.ensures, c.if-not-is_of_type.false) (search searches)
