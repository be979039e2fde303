-- Demand 3 (docs/DEMANDS.md), with the terms of document 01, 'Recent pasts': lines are their recent pasts, for two choruses and for two vibratos.
--
-- x and y are any two whole runs: an accepted start in memory of its own, whatever that held and of any length, and then any list of ticks, retunes, resets
-- and silent questions, refused ones among them (`Run`, effect/specs/Run.antt). `Demand3` (effect/specs/Demand3.antt) says of them: their lines (a
-- chorus has one, and so has a vibrato), all L places read newest to oldest, are equal exactly where the recent pasts are equal; and where they end at the same
-- rate with lines and phases equal, the same later ticks get the same answers, refusals included, with silent questions and refused calls anywhere between them,
-- up to either unit's next clearing. The recent past (`recent_past`, effect/specs/Past.antt) is worked out from the calls' arguments and the memory's length. `Covers`
-- (effect/specs/Covers.antt) says that the shape chosen for the later ticks leaves out no list that the paper allows.
-- `chorus` and `vibrato` are the definitions that the contracts of their calls cite. Definitions only. Assumes nothing.
use Rattle.effect.specs.Run.{Run}
use Rattle.effect.specs.Demand3.{Demand3}
use Rattle.effect.specs.Covers.{Covers}
use Rattle.chorus.specs.Chorus as Chorus
use Rattle.chorus.specs.Chorus.{chorus}
use Rattle.vibrato.specs.Vibrato as Vibrato
use Rattle.vibrato.specs.Vibrato.{vibrato}

pub record RecentPasts : Type 0 where
  pub choruses : (x y : Run chorus) → Demand3 chorus Chorus.lines x y
  pub vibratos : (x y : Run vibrato) → Demand3 vibrato Vibrato.lines x y
  pub chorus-lists : Covers chorus
  pub vibrato-lists : Covers vibrato
