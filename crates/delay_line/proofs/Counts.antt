-- The delay line's count: a tick writes one place of its line. Assumes nothing.
use Rattle.std.proofs.Common.{refl, arith}
use Rattle.effect.specs.Counts.{Counts}
use Rattle.effect.proofs.CountLaws.{CountLaws}
use Rattle.effect.proofs.Counts.{counts}
use Rattle.delay_line.specs.DelayLine.{delay_line, reader, next_counted, writes}
use Rattle.delay_line.proofs.ReaderLaws.{fits-parts}
use Rattle.delay_line.proofs.Demand1.{laws}

pub own : CountLaws delay_line
unfolding next_counted writes
own =
    record {
      fresh-count = λ k. refl;
      retuned-count = λ k s. refl;
      next-count = λ t s m f. refl;
      distinct = λ t s m f. (tt, tt);
      most = λ s f. omega (arith, (fits-parts (reader s) f).most);
    }

pub shown : Counts delay_line
shown = counts delay_line laws own
