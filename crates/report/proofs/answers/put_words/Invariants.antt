-- What the loop of `report::answers::put_words` keeps.
use Rattle.std.proofs.Common.{◌≡◌, take}
use Rattle.std.proofs.lemmas.List.Edits.{sets}
use Rattle.findings.specs.Words.{octets_of}
use Rattle.report.proofs.answers.put_words.Given as goal

abbrev pub invariant-loop-k : goal.invariant-loop-k
invariant-loop-k g l = l.answer ≡ sets l.initial.answer l.at (octets_of (take l.k l.words))
