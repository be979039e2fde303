-- The tremolo's count: it is lent no place, and counts none. Assumes nothing.
use Rattle.std.proofs.Common.{refl, arith}
use Rattle.effect.specs.Counts.{Counts}
use Rattle.effect.proofs.CountLaws.{CountLaws}
use Rattle.effect.proofs.Counts.{counts}
use Rattle.tremolo.specs.Tremolo.{tremolo}
use Rattle.tremolo.proofs.Demand1.{laws}

pub own : CountLaws tremolo
own =
    record {
      fresh-count = λ k. refl;
      retuned-count = λ k s. refl;
      next-count = λ t s m f. refl;
      distinct = λ t s m f. tt;
      most = λ s f. omega arith;
    }

pub shown : Counts tremolo
shown = counts tremolo laws own
