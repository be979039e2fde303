-- What an effect is: its states, its rows of the table of refusals, and what each accepted call does. Each effect is one value of `Effect`.
-- Definitions only. Assumes nothing.
use Rattle.std.specs.Prelude.{ℕ, ◌+◌, ◌≡◌, ◌≢◌, ◌⊎◌, Bool, List, [], ◌∷◌, get_or, set, Float}
use Rattle.std.specs.Float.{nan}
use Rattle.common.specs.Line.{nonzero, recounted}
use Rattle.common.specs.Reads.{Read}
use Rattle.effect.specs.Parts.{Part, sizes, InPart}

-- ---- memory

-- a place of the lent memory, and the value that it gets
pub record Write : Type 0 where
  pub place : ℕ
  pub value : Float

-- writes laid over a memory, in order
abbrev pub laid : List Write → List Float → List Float
laid [] m = m
laid (w ∷ ws) m = laid ws (set m w.place w.value)

-- the place p is among those written
abbrev pub Named : ℕ → List Write → Type 0
Named p [] = ⊥
Named p (w ∷ ws) = (w.place ≡ p) ⊎ Named p ws

-- and is not
abbrev pub Unnamed : ℕ → List Write → Type 0
Unnamed p [] = Unit {0}
Unnamed p (w ∷ ws) = (p ≢ w.place) × Unnamed p ws

-- every write has the property P
abbrev pub EachWrite : (Write → Type 0) → List Write → Type 0
EachWrite P [] = Unit {0}
EachWrite P (w ∷ ws) = P w × EachWrite P ws

-- every value that is written has it
abbrev pub EachWritten : (Float → Type 0) → List Write → Type 0
EachWritten P ws = EachWrite (λ w. P w.value) ws

-- ---- what writes change of the count of places that are neither +0 nor −0: those that they make so, and those of the places written that were so before, in the memory m

abbrev pub gained : List Write → ℕ
gained [] = 0
gained (w ∷ ws) = nonzero w.value + gained ws

abbrev pub lost : List Write → List Float → ℕ
lost [] m = 0
lost (w ∷ ws) m = nonzero (get_or m w.place nan) + lost ws m

-- the count after all of them, of the places of some parts
abbrev pub recount : List Part → List Write → List Float → ℕ → ℕ
recount qs ws m count = recounted (sizes qs) count (gained ws) (lost ws m)

-- ---- the effect

pub record Effect : Type 1 where
  pub State : Type 0
  -- what is in force from one clearing to the next: the rate; for the tape delay the coefficient, for the delay that, the maximum and the mode too
  pub Settings : Type 0
  -- what a start, a retune and a tick are handed; an effect without retune has none
  pub Start : Type 0
  pub Retune : Type 0
  pub Tick : Type 0
  -- the state test, cause 4: true where the state passes
  pub state_fits : State → Bool
  pub settings : State → Settings
  -- what a start and a retune put in force if they are accepted
  pub start_settings : Start → Settings
  pub retune_settings : Retune → Settings → Settings
  -- causes 1 and 2: the number of the first that applies, 0 for none
  pub settings_number : Settings → ℕ
  -- the places needed, and those in use, part by part in order: all of these, but for the reverb, whose lines have room up to their longest length
  pub places : Settings → ℕ
  pub parts : Settings → List Part
  -- Cause 7, 0 for none: of the effect whose tick comes in two calls, a half that is not the one whose turn it is; it stands between causes 4 and 3.
  -- 0 of every other effect.
  pub turn_number : Tick → State → ℕ
  -- causes 5 and 6: the number of the first that applies, 0 for none
  pub tick_number : Tick → Settings → ℕ
  -- the state that a refused start gives
  pub blank : State
  -- the state that start and reset leave, and the one that retune leaves
  pub fresh : Settings → State
  pub retuned : Settings → State → State
  -- of an accepted tick: the next state, the places written in order, the samples answered
  pub next : Tick → State → List Float → State
  pub writes : Tick → State → List Float → List Write
  pub samples : Tick → State → List Float → List Float
  -- the reads that it makes of lines at a distance, whose largest age it answers beside the samples; none of tremolo, reverb (which reads its lines at whole
  -- numbers of samples) and phaser
  pub reads : Tick → State → List Read
  -- the audio of a tick as the tick takes it: the port's number, +0 if unset, and after the input rule where the effect has that; of a tape's store half the value that
  -- it is handed
  pub input : Tick → Float
  -- what the state itself keeps of the sound is +0 or −0: the reverb's damping stores, the numbers of the phaser's chains; of the tape delay that no read waits;
  -- true where it keeps nothing
  pub quiet : State → Bool
  -- the count that the state keeps of the places in use that are neither +0 nor −0; 0 of tremolo and phaser, which are lent none
  pub count : State → ℕ

-- What an effect's page gives: the fields of `Effect` behind its types, over states S, settings K, and what a start (A), a retune (R) and a tick (T) are handed.
-- It is a record of its own since code can say of it, and not of an `Effect`, that the states are a type of the code's.
pub record Page (S K A R T : Type 0) : Type 0 where
  pub state_fits : S → Bool
  pub settings : S → K
  pub start_settings : A → K
  pub retune_settings : R → K → K
  pub settings_number : K → ℕ
  pub places : K → ℕ
  pub parts : K → List Part
  pub turn_number : T → S → ℕ
  pub tick_number : T → K → ℕ
  pub blank : S
  pub fresh : K → S
  pub retuned : K → S → S
  pub next : T → S → List Float → S
  pub writes : T → S → List Float → List Write
  pub samples : T → S → List Float → List Float
  pub reads : T → S → List Read
  pub input : T → Float
  pub quiet : S → Bool
  pub count : S → ℕ

abbrev pub effect_of : {S K A R T : Type 0} → Page S K A R T → Effect
effect_of {S} {K} {A} {R} {T} p =
    record {
      State = S;
      Settings = K;
      Start = A;
      Retune = R;
      Tick = T;
      state_fits = p.state_fits;
      settings = p.settings;
      start_settings = p.start_settings;
      retune_settings = p.retune_settings;
      settings_number = p.settings_number;
      places = p.places;
      parts = p.parts;
      turn_number = p.turn_number;
      tick_number = p.tick_number;
      blank = p.blank;
      fresh = p.fresh;
      retuned = p.retuned;
      next = p.next;
      writes = p.writes;
      samples = p.samples;
      reads = p.reads;
      input = p.input;
      quiet = p.quiet;
      count = p.count;
    }

-- how many places are in use
abbrev pub used_places : (E : Effect) → E.Settings → ℕ
used_places E k = sizes (E.parts k)

-- the place p is in use
abbrev pub InUse : (E : Effect) → E.Settings → ℕ → Type 0
InUse E k p = InPart p (E.parts k)
