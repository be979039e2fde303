-- The chorus's count: a tick writes one place of its line. Assumes nothing.
use Rattle.std.proofs.Common.{refl, arith}
use Rattle.effect.specs.Counts.{Counts}
use Rattle.effect.proofs.CountLaws.{CountLaws}
use Rattle.effect.proofs.Counts.{counts}
use Rattle.chorus.specs.Chorus.{chorus, next_counted, writes}
use Rattle.chorus.proofs.Laws.{fits-parts}
use Rattle.chorus.proofs.Demand1.{laws}

pub own : CountLaws chorus
unfolding next_counted writes
own =
    record {
      fresh-count = λ k. refl;
      retuned-count = λ k s. refl;
      next-count = λ t s m f. refl;
      distinct = λ t s m f. (tt, tt);
      most = λ s f. omega (arith, (fits-parts s f).most);
    }

pub shown : Counts chorus
shown = counts chorus laws own
