-- What the loops of `index::hashes::words_onto` keep.
use Rattle.std.proofs.Common.{◌≡◌}
use Rattle.index.specs.Hashes.{words_onto}
use Rattle.index.proofs.hashes.words_onto.Given as goal

abbrev pub invariant-loop-k : goal.invariant-loop-k
invariant-loop-k l = l.mixed ≡ words_onto l.s l.h l.at l.k
