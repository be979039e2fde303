-- What the calls' arguments tell of a run: its state, and what it wrote since its last clearing. Of the memory only its length is read.
-- Definitions only. Assumes nothing.
use Rattle.std.specs.Prelude.{ℕ, List, [], ◌∷◌, ◌++◌}
use Rattle.common.specs.Line.{zeros}
use Rattle.effect.specs.Effect.{Effect, Write, laid}
use Rattle.effect.specs.Run.{tick, retune, reset, ask, CallOf, Device, if_none, number_now, changed}

pub record Trace (S : Type 0) : Type 0 where
  pub state : S
  -- the writes of the accepted ticks since the last clearing, in order
  pub written : List Write

-- the unit that wrote just that, over n places of +0
abbrev pub laid_out : {S : Type 0} → ℕ → Trace S → Device S
laid_out n t = record { state = t.state; memory = laid t.written (zeros n) }

module _ (E : Effect) where
  -- what is written after an accepted call: a tick adds its writes, a clearing drops all
  abbrev pub added : CallOf E → Device E.State → List Write → List Write
  added (tick t) h ws = ws ++ E.writes t h.state h.memory
  added (retune r) h ws = []
  added reset h ws = []
  added ask h ws = ws

  -- one call in a memory of n places
  abbrev pub trace : ℕ → CallOf E → Trace E.State → Trace E.State
  trace n c t =
      if_none (number_now E c n t.state)
      (record { state = (changed E c (laid_out n t)).state; written = added c (laid_out n t) t.written })
      t

  unfoldable pub traced_from : ℕ → List (CallOf E) → Trace E.State → Trace E.State
  traced_from n [] t = t
  traced_from n (c ∷ cs) t = traced_from n cs (trace n c t)

  -- an accepted start in a memory of n places, and then the calls
  abbrev pub traced : E.Start → ℕ → List (CallOf E) → Trace E.State
  traced a n cs = traced_from n cs (record { state = E.fresh (E.start_settings a); written = [] })
