-- What the contracts of an effect's calls say: state, memory and answer, each equated with the defined one. Assumes nothing.
use Rattle.std.specs.Prelude.{◌≡◌, List, Float}
use Rattle.std.specs.Borrow.{MutBor}
use denote.Triple.Both.{Both}
use Rattle.port.specs.Answer.{Reply}
use Rattle.effect.specs.Effect.{Effect}
use Rattle.effect.specs.Run.{CallOf, device_of, step, reply, start, start_reply}

-- The call c of a unit with the state s and the memory m leaves the state s' and the memory m', and answers a.
pub record Does (E : Effect) (c : CallOf E) (s : E.State) (m : List Float) (s' : E.State) (m' : List Float) (a : Reply) : Type 0 where
  pub state : s' ≡ (step E c (device_of s m)).state
  pub memory : m' ≡ (step E c (device_of s m)).memory
  pub answer : a ≡ reply E c (device_of s m)

-- A start that is handed x and the memory m gives the state s', leaves the memory m', and answers a.
pub record Starts (E : Effect) (x : E.Start) (m : List Float) (s' : E.State) (m' : List Float) (a : Reply) : Type 0 where
  pub state : s' ≡ (start E x m).state
  pub memory : m' ≡ (start E x m).memory
  pub answer : a ≡ start_reply E x m

-- ---- a call on lent numbers, at its two moments

pub data Moment : Type 0 where
  entry : Moment
  exit : Moment

-- What is lent behind a reference, at a moment. `Both (MutBor A) (MutBor A)` is what the name of a `&mut` stands for in an `ensures`.
abbrev pub lent_at : {A : Type 0} → Both (MutBor A) (MutBor A) → Moment → A
lent_at x entry = x.entry.now
lent_at x exit = x.exit.now

-- R holds between what u is at the entry and what it is at the exit
abbrev pub from_to : {A : Type 0} → (Moment → A) → (A → A → Type 0) → Type 0
from_to u R = R (u entry) (u exit)
