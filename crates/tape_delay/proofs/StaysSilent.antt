-- A silent tape delay, given zero audio and handed zeros, answers zeros, and what it keeps while it waits are zeros: it reads zeros, and stores one then. Assumes nothing.
use Rattle.std.proofs.Common.{◌≡◌, ℕ, Bool, true, false, ◌&&◌, not, cond, List, refl, arith}
use Rattle.std.proofs.lemmas.Bool.{and_parts}
use lib.Ieee.{Float, binary64, mul, eq, le, of_int}
use lib.Ieee as Ieee
use Rattle.float64.specs.Number.{plus_zero, float_of, is_zero, is_plus_zero}
use Rattle.float64.proofs.Tests.{both, both-true, clash, plus-zero-zero}
use Rattle.float64.proofs.Interval.{In}
use Rattle.float64.proofs.Ranges.{range-in}
use Rattle.float64.proofs.Zeros.{Zero, zero-times}
use Rattle.common.specs.Line.{all_zero}
use Rattle.common.proofs.ZeroBlends.{mix-zero, fed-zero}
use Rattle.effect.specs.Effect.{EachWritten}
use Rattle.effect.specs.StaysSilent.{Silence, StaysCalm}
use Rattle.effect.proofs.SilentLaws.{SilentTick, SilentLaws}
use Rattle.effect.proofs.StaysSilent as machine
use Rattle.delay_line.specs.Halves.{delayed_by}
use Rattle.delay_line.proofs.ReaderLaws.{heard-zero}
use Rattle.tape_delay.specs.declared.TapeDelay.{TapeDelay}
use Rattle.tape_delay.specs.TapeDelay.{Ports, Tick, read_half, store_half, tape_delay, calm, reader, kept_fits, delay_samples, next, writes, samples}
use Rattle.tape_delay.proofs.Laws.{state-parts, controls-fit, delay-number}
use Rattle.tape_delay.proofs.Demand1.{laws}
use Rattle.tape_delay.proofs.Counts.{own}

abbrev CalmTick : Tick → TapeDelay → List Float → Type 0
CalmTick t s m = SilentTick tape_delay calm t s m

heard : (p : Ports) (s : TapeDelay) (m : List Float) → CalmTick (read_half p) s m → Zero (delayed_by (reader s) (delay_samples p s) m)
heard p s m u =
    let f = (state-parts s u.state_fits).reads in
    heard-zero (reader s) m f (delay_samples p s) (delay-number p s f (controls-fit p u.number).time) u.enough u.zeros

-- a read waits where a store half has its turn, and then its mix is from 0 to 1
mix-in : (v : Float) (s : TapeDelay) (m : List Float) → CalmTick (store_half v) s m → In binary64 plus_zero (float_of 1) s.kept.mix
unfolding kept_fits Ieee.fits of_int
mix-in v s m u = go s.waiting u.turn (state-parts s u.state_fits).kept
  where
    go : (b : Bool) → ◌≡◌ {A = ℕ} (cond b 0 7) 0 → kept_fits b s.kept ≡ true → In binary64 plus_zero (float_of 1) s.kept.mix
    go true e k = range-in tt k
    go false e k = absurd (omega (arith, e))

answers : (t : Tick) (s : TapeDelay) (m : List Float) → CalmTick t s m → all_zero (samples t s m) ≡ true
unfolding samples all_zero le Ieee.fits Ieee.round
answers (read_half p) s m u =
    both-true (fed-zero (tape_delay.input (read_half p)) _ p.feedback _ _ u.audio (heard p s m u) (controls-fit p u.number).feedback tt tt) refl
answers (store_half v) s m u =
    let kept = both (is_zero s.kept.audio) (is_zero s.kept.read) u.state_calm in
    both-true (mix-zero s.kept.audio s.kept.read kept.0 kept.1 (mix-in v s m u)) refl

written : (t : Tick) (s : TapeDelay) (m : List Float) → CalmTick t s m → EachWritten Zero (writes t s)
unfolding writes of_int
written (read_half p) s m u = tt
written (store_half v) s m u = (zero-times v (float_of 5) u.audio tt, tt)

next-calm : (t : Tick) (s : TapeDelay) (m : List Float) → CalmTick t s m → calm (next t s m) ≡ true
unfolding next eq
next-calm (read_half p) s m u = both-true u.audio (heard p s m u)
next-calm (store_half v) s m u = refl

silent-laws : SilentLaws tape_delay calm
unfolding eq
silent-laws = record { fresh-calm = λ k. refl; retuned-calm = λ k s. refl; answers = answers; writes = λ t s m u. written t s m u; next-calm = next-calm }

-- while no read waits nothing is kept
quiet-calm : (s : TapeDelay) → tape_delay.state_fits s ≡ true → tape_delay.quiet s ≡ true → calm s ≡ true
unfolding kept_fits
quiet-calm s e q = go s.waiting q (state-parts s e).kept
  where
    go : (b : Bool) → not b ≡ true → kept_fits b s.kept ≡ true → calm s ≡ true
    go true q k = clash q refl
    go false q k =
        let a = and_parts (is_plus_zero s.kept.audio) (is_plus_zero s.kept.read && is_plus_zero s.kept.mix) k in
        let b = and_parts (is_plus_zero s.kept.read) (is_plus_zero s.kept.mix) a.1 in
        both-true (plus-zero-zero s.kept.audio a.0) (plus-zero-zero s.kept.read b.0)

pub silence : Silence tape_delay
silence = machine.silence tape_delay laws (λ k. refl) (λ k s. refl)

pub shown : StaysCalm tape_delay calm
shown = machine.stays-calm tape_delay laws own calm silent-laws quiet-calm
