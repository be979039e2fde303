-- The phaser's count: it is lent no place, and counts none. Assumes nothing.
use Rattle.std.proofs.Common.{refl, arith}
use Rattle.effect.specs.Counts.{Counts}
use Rattle.effect.proofs.CountLaws.{CountLaws}
use Rattle.effect.proofs.Counts.{counts}
use Rattle.phaser.specs.Phaser.{phaser}
use Rattle.phaser.proofs.Demand1.{laws}

pub own : CountLaws phaser
own =
    record {
      fresh-count = λ k. refl;
      retuned-count = λ k s. refl;
      next-count = λ t s m f. refl;
      distinct = λ t s m f. tt;
      most = λ s f. omega arith;
    }

pub shown : Counts phaser
shown = counts phaser laws own
