-- `writer::parts::numbers_of` meets its contract.
use Rattle.writer.proofs.Laws.{numbers-made}
use Rattle.writer.proofs.parts.numbers_of.Goals as goal

pub returns : goal.returns
returns g c =
    numbers-made _ _ _ _ _ _ _ _ c.number.ensures c.number-2.ensures c.number-3.ensures c.number-4.ensures c.number-5.ensures c.number-6.ensures c.number-7.ensures
