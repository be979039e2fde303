-- Of a phaser's chains a tick moves the stages that run: the others keep their last input and their last output, whatever the tick is handed, accepted or refused.
-- Definitions only. Assumes nothing.
use Rattle.std.specs.Prelude.{ℕ, ◌≤◌, ◌≡◌, List, get_or, Float}
use Rattle.effect.specs.Run.{tick, Device, step}
use Rattle.phaser.specs.declared.Phaser.{Phaser}
use Rattle.phaser.specs.Phaser.{phaser, Tick, stages}

-- entry i of the two lists is the same, or there is none in either
abbrev pub SameAt : ℕ → List Float → List Float → Type 0
SameAt i xs ys = (none : Float) → get_or xs i none ≡ get_or ys i none

-- stage i, counted from 0, of both chains
pub record SameStage (i : ℕ) (s s' : Phaser) : Type 0 where
  pub x1_l : SameAt i s.allpass_x1_l s'.allpass_x1_l
  pub x1_r : SameAt i s.allpass_x1_r s'.allpass_x1_r
  pub y1_l : SameAt i s.allpass_y1_l s'.allpass_y1_l
  pub y1_r : SameAt i s.allpass_y1_r s'.allpass_y1_r

pub record IdleStages : Type 0 where
  pub kept : (t : Tick) (u : Device Phaser) (i : ℕ) → stages t ≤ i → SameStage i u.state (step phaser (tick t) u).state
