-- A property of floats that +0 has, and that every value has which an accepted tick writes where every place has it, holds of every place after any calls from a start.
-- Assumes nothing.
use Rattle.std.proofs.Common.{◌≡◌, ℕ, List, All, [], ◌∷◌, length, set}
use Rattle.std.proofs.lemmas.List.Elements.{All-set, All-replicate}
use lib.Ieee.{Float}
use Rattle.float64.specs.Number.{plus_zero}
use Rattle.common.specs.Line.{zeros}
use Rattle.effect.specs.Effect.{Effect, Write, laid, EachWritten}
use Rattle.effect.specs.Run.{tick, retune, reset, ask, Device, number_at, start, Run, final}
use Rattle.effect.specs.EachTick.{EachTick}
use Rattle.effect.proofs.EachTick.{CallsKeep, after-keep}

module _ (E : Effect) (C : E.Tick → Type 0) (P : Float → Type 0) where
  -- an accepted tick that meets C, of a unit in whose memory every place has P, writes values that have P
  abbrev pub Keeps : Type 0
  Keeps =
      (t : E.Tick) (h : Device E.State) → number_at E (tick t) h ≡ 0 → C t → All P h.memory → EachWritten P (E.writes t h.state h.memory)

  -- After any calls from an accepted start, whatever the memory held before it, every place has P, spare ones too: if each accepted tick among the calls met C.
  -- The memory is the unit's own: between the calls nobody else writes to it.
  abbrev pub PlacesKeep : Type 0
  PlacesKeep = (x : Run E) → EachTick E C x.calls (start E x.handed x.memory) → All P (final E x).memory

module _ (P : Float → Type 0) where
  each-zeros : (n : ℕ) → P plus_zero → All P (zeros n)
  each-zeros n h = All-replicate P n plus_zero h

  each-laid : (ws : List Write) (m : List Float) → EachWritten P ws → All P m → All P (laid ws m)
  each-laid [] m w e = e
  each-laid (v ∷ ws) m w e = each-laid ws (set m v.place v.value) w.1 (All-set P m v.place v.value w.0 e)

module _ (E : Effect) (C : E.Tick → Type 0) (P : Float → Type 0) (zero-has : P plus_zero) (keeps : Keeps E C P) where
  calls-keep : CallsKeep E C (λ h. All P h.memory)
  calls-keep (tick t) h e m p = each-laid P (E.writes t h.state h.memory) h.memory (keeps t h e m p) p
  calls-keep (retune r) h e m p = each-zeros P (length h.memory) zero-has
  calls-keep reset h e m p = each-zeros P (length h.memory) zero-has
  calls-keep ask h e m p = p

  pub places-keep : PlacesKeep E C P
  places-keep x m = after-keep E C (λ h. All P h.memory) calls-keep x.calls (start E x.handed x.memory) m (rw x.accepted (each-zeros P (length x.memory) zero-has))
