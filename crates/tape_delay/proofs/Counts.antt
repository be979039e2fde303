-- The tape delay's count: a store half writes one place of its line, a read half none. Assumes nothing.
use Rattle.std.proofs.Common.{◌≡◌, true, List, refl, arith}
use lib.Ieee.{Float}
use Rattle.effect.specs.Effect.{recount}
use Rattle.effect.specs.Counts.{Distinct, Counts}
use Rattle.effect.proofs.CountLaws.{CountLaws}
use Rattle.effect.proofs.Counts.{counts}
use Rattle.tape_delay.specs.declared.TapeDelay.{TapeDelay}
use Rattle.tape_delay.specs.TapeDelay.{Tick, read_half, store_half, tape_delay, state_fits, settings, parts, next, writes}
use Rattle.tape_delay.proofs.Laws.{state-parts}
use Rattle.tape_delay.proofs.Demand1.{laws}

next-count : (t : Tick) (s : TapeDelay) (m : List Float) → state_fits s ≡ true
    → (next t s m).nonzero_places ≡ recount (parts (settings s)) (writes t s) m s.nonzero_places
unfolding next writes
next-count (read_half p) s m f = omega (arith, (state-parts s f).reads.most)
next-count (store_half v) s m f = refl

distinct : (t : Tick) (s : TapeDelay) → Distinct (writes t s)
unfolding writes
distinct (read_half p) s = tt
distinct (store_half v) s = (tt, tt)

pub own : CountLaws tape_delay
own =
    record {
      fresh-count = λ k. refl;
      retuned-count = λ k s. refl;
      next-count = next-count;
      distinct = λ t s m f. distinct t s;
      most = λ s f. omega (arith, (state-parts s f).reads.most);
    }

pub shown : Counts tape_delay
shown = counts tape_delay laws own
