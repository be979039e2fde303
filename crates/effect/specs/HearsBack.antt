-- How far back a tick hears: the age that is answered to an accepted tick is that of the oldest sample which one of its reads weighed above 0, and 0 where it makes
-- no read. Of effects whose reads are of lines of L places. Definitions only. Assumes nothing.
use Rattle.std.specs.Prelude.{ℕ, ◌+◌, ◌-◌, ◌≤◌, ◌<◌, ◌≡◌, ◌≢◌, ◌⊎◌, true, List, [], ◌∷◌, length, Float}
use Rattle.std.specs.Float.Ieee.{lt}
use Rattle.float64.specs.Number.{plus_zero}
use Rattle.port.specs.Answer.{reply_age}
use Rattle.common.specs.Line.{next_place}
use Rattle.common.specs.Reads.{Read, heard, weight_at}
use Rattle.effect.specs.Effect.{Effect, Named, lost}
use Rattle.effect.specs.Run.{tick, Device, number_at, reply}

-- P holds of each of the reads
abbrev pub EachRead : (Read → Type 0) → List Read → Type 0
EachRead P [] = Unit {0}
EachRead P (r ∷ rs) = P r × EachRead P rs

-- and of at least one of them
abbrev pub SomeRead : (Read → Type 0) → List Read → Type 0
SomeRead P [] = ⊥
SomeRead P (r ∷ rs) = P r ⊎ SomeRead P rs

-- R holds of each of the reads and its like among the others
abbrev pub EachWith : (Read → Read → Type 0) → List Read → List Read → Type 0
EachWith R [] qs = Unit {0}
EachWith R (r ∷ rs) [] = ⊥
EachWith R (r ∷ rs) (q ∷ qs) = R r q × EachWith R rs qs

-- q is of the line of r, whose position has moved on by one place
abbrev pub OneOn : Read → Read → Type 0
OneOn r q = (q.start ≡ r.start) × ((q.size ≡ r.size) × (q.position ≡ next_place r.size r.position))

-- A tick makes so many reads of lines of L places. They are all reads that it makes for what it writes and plays: where they hear the same in two memories, the memories are
-- the same to it, but for the count, for which it reads the places that it writes.
pub record ReadsLines (E : Effect) (count : E.Tick → ℕ) (L : E.Settings → ℕ) : Type 0 where
  pub many : (t : E.Tick) (s : E.State) → length (E.reads t s) ≡ count t
  pub lines : (t : E.Tick) (s : E.State) → EachRead (λ r. r.size ≡ L (E.settings s)) (E.reads t s)
  pub reads-all : (t : E.Tick) (s : E.State) (m n : List Float) → EachRead (λ r. heard r m ≡ heard r n) (E.reads t s)
      → (E.writes t s m ≡ E.writes t s n)
      × ((E.samples t s m ≡ E.samples t s n) × (lost (E.writes t s m) m ≡ lost (E.writes t s n) n → E.next t s m ≡ E.next t s n))

-- Each read is from the position at which the same tick stores, and a tick moves that on by one: so what lies d places back was stored d ticks ago, of the ticks
-- that were accepted since the last clearing, and is the +0 of the clearing where they were fewer.
pub record StoresWhereItReads (E : Effect) : Type 0 where
  pub stores : (t : E.Tick) (s : E.State) (m : List Float) → EachRead (λ r. Named (r.start + r.position) (E.writes t s m)) (E.reads t s)
  pub moves : (t u : E.Tick) (s : E.State) (m : List Float) → EachWith OneOn (E.reads t s) (E.reads u (E.next t s m))

-- the age that is answered to a tick of the unit h
abbrev pub age_of : (E : Effect) → E.Tick → Device E.State → ℕ
age_of E t h = reply_age (reply E (tick t) h)

-- what holds of every accepted tick of every unit, in a run or handed in
abbrev pub WhenAccepted : (E : Effect) → (E.Tick → Device E.State → Type 0) → Type 0
WhenAccepted E P = (t : E.Tick) (h : Device E.State) → number_at E (tick t) h ≡ 0 → P t h

pub record HearsBack (E : Effect) (count : E.Tick → ℕ) (L : E.Settings → ℕ) : Type 0 where
  pub reads : ReadsLines E count L
  -- a tick that makes a read hears from 1 to L − 1 samples back
  pub within : WhenAccepted E (λ t h. 0 < count t → (1 ≤ age_of E t h) × (age_of E t h ≤ L (E.settings h.state) - 1))
  -- One of its reads gives the sample so far back a weight above 0, and none gives any to an older one. What a weight is: `weight_at`.
  pub weighs : WhenAccepted E (λ t h. 0 < count t → SomeRead (λ r. lt plus_zero (weight_at r.distance (age_of E t h)) ≡ true) (E.reads t h.state))
  pub none-older : WhenAccepted E (λ t h. EachRead (λ r. (d : ℕ) → age_of E t h < d → weight_at r.distance d ≡ plus_zero) (E.reads t h.state))
  -- a tick that makes no read hears none back, and a refused one answers none
  pub none : WhenAccepted E (λ t h. count t ≡ 0 → age_of E t h ≡ 0)
  pub refused : (t : E.Tick) (h : Device E.State) → number_at E (tick t) h ≢ 0 → age_of E t h ≡ 0

-- That, in ticks, of an effect each of whose ticks makes so many reads and stores where it reads.
pub record HearsTicks (E : Effect) (count : ℕ) (L : E.Settings → ℕ) : Type 0 where
  pub hears : HearsBack E (λ t. count) L
  pub in_ticks : StoresWhereItReads E
