-- `index::work::clear` meets its contract.
use Rattle.std.proofs.Common.{◌≡◌, ◌*◌, length, ◌∙◌, arith}
use Rattle.std.proofs.lemmas.List.{get_or-replicate, get_or_append_left, length-append, length-take-le}
use Rattle.index.proofs.Words.{word-zero}
use Rattle.index.proofs.work.clear.Goals as goal

pub returns : goal.returns
returns c = let size = length-take-le _ _ c.requires in
    let front = c.fill.new.self in
    let all : length front ≡ 4 * c.args.heads = c.fill.ensures.len ∙ size in
    let zero = rw size at (c.fill.ensures.after (λ y e. e)) in
    λ h b. word-zero _ h c.args.heads b (simp length-append (omega (arith, all)))
    (λ k l. get_or_append_left front _ 0 k (omega (arith, all)) ∙ rw zero (get_or-replicate (4 * c.args.heads) k 0 0 l))
