-- The vibrato's count: a tick writes one place of its line. Assumes nothing.
use Rattle.std.proofs.Common.{refl, arith}
use Rattle.effect.specs.Counts.{Counts}
use Rattle.effect.proofs.CountLaws.{CountLaws}
use Rattle.effect.proofs.Counts.{counts}
use Rattle.vibrato.specs.Vibrato.{vibrato, next_counted, next, writes}
use Rattle.vibrato.proofs.Laws.{fits-parts}
use Rattle.vibrato.proofs.Demand1.{laws}

pub own : CountLaws vibrato
unfolding next_counted writes
own =
    record {
      fresh-count = λ k. refl;
      retuned-count = λ k s. refl;
      next-count = λ t s m f. refl;
      distinct = λ t s m f. (tt, tt);
      most = λ s f. omega (arith, (fits-parts s f).most);
    }

pub shown : Counts vibrato
shown = counts vibrato laws own
