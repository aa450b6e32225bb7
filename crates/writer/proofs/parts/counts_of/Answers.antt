-- `writer::parts::counts_of` meets its contract.
use mathlib.Core.List.{map}
use Rattle.listing.specs.Listing.{numbered}
use Rattle.writer.specs.Parts.{count_of}
use Rattle.writer.proofs.Laws.{numbers_by}
use borrow.Author.Rules.{rules}
use Rattle.writer.proofs.parts.counts_of.Goals as goal

pub returns : goal.returns
returns c = numbers_by (count_of (numbered (map (λ x. x.now) c.args.parts))) _ _ c.numbers_of.ensures (λ k n l m h. search rules)
