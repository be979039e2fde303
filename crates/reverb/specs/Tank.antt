-- The tank: eight left combs, eight right, four left all-passes, four right, and the predelay. What a step of its lines leaves and answers, and which of its
-- places are in use. Definitions only. Assumes nothing.
use Rattle.std.specs.Prelude.{◌≡◌, ℕ, zero, suc, ◌+◌, ◌*◌, Bool, true, false, cond, ◌&&◌, List, [], ◌∷◌, ◌++◌, length, get_or, ◌==◌, nat_lt, slice_index, slice_index_or, Float}
use Rattle.std.specs.Float.{nan, binary64}
use Rattle.std.specs.Float.Ieee.{add}
use Rattle.float64.specs.Number.{plus_zero}
use Rattle.common.specs.Line.{next_place, line_at, table}
use Rattle.effect.specs.Parts.{Part, part}
use Rattle.effect.specs.Effect.{Write, laid, gained, lost}
use Rattle.reverb.specs.declared.tunings.Lengths.{Lengths}
use Rattle.reverb.specs.declared.stepped.Stepped.{Stepped}
use Rattle.reverb.specs.Freeverb.{comb_store, comb_fed, pass_output, pass_fed}
use Rattle.reverb.specs.Tunings.{Side, left, right, comb_size, allpass_size, predelay_size, Capped}

-- ---- where a side's combs and all-passes start, and the predelay; the end

abbrev pub combs_start : Side → ℕ
combs_start left = 0
combs_start right = 8 * comb_size

abbrev pub allpasses_start : Side → ℕ
allpasses_start left = 16 * comb_size
allpasses_start right = 16 * comb_size + 4 * allpass_size

abbrev pub predelay_start : ℕ
predelay_start = 16 * comb_size + 8 * allpass_size

abbrev pub tank_size : ℕ
tank_size = predelay_start + predelay_size

-- ---- lines of one kind on one side: where each starts, the position in it, and its length

pub record Lines : Type 0 where
  pub start : ℕ → ℕ
  pub positions : List ℕ
  pub lengths : List ℕ

-- combs with these positions and lengths, the first from place o on, and all-passes
abbrev pub comb_lines : ℕ → List ℕ → List ℕ → Lines
comb_lines o w n = record { start = λ i. o + i * comb_size; positions = w; lengths = n }

abbrev pub allpass_lines : ℕ → List ℕ → List ℕ → Lines
allpass_lines o w n = record { start = λ i. o + i * allpass_size; positions = w; lengths = n }

-- as many positions as lengths, each below its own
unfoldable pub all_below : List ℕ → List ℕ → Bool
all_below [] [] = true
all_below [] (n ∷ ns) = false
all_below (w ∷ ws) [] = false
all_below (w ∷ ws) (n ∷ ns) = nat_lt w n && all_below ws ns

-- `count` lines, each position in its line, and no line longer than `most`
pub record InLines (count most : ℕ) (l : Lines) : Type 0 where
  pub counted : length l.lengths ≡ count
  pub inside : all_below l.positions l.lengths ≡ true
  pub capped : Capped most l.lengths

-- every position of a state is in its line, where the lines have the lengths n
abbrev pub positions_fit : List ℕ → List ℕ → List ℕ → List ℕ → ℕ → Lengths → Bool
positions_fit combl combr passl passr predelay n =
    nat_lt predelay predelay_size
    && ((all_below combl n.comb_l && all_below passl n.allpass_l) && (all_below combr n.comb_r && all_below passr n.allpass_r))

-- the place of line i
abbrev pub place_of : Lines → ℕ → ℕ
place_of l i = l.start i + slice_index l.positions i

-- what the places of k lines hold
unfoldable pub held : ℕ → Lines → List Float → List Float
held k l m = table (λ i. get_or m (place_of l i) nan) k

-- where their positions go
unfoldable pub next_position : Lines → ℕ → ℕ
next_position l i = next_place (slice_index l.lengths i) (slice_index l.positions i)

-- left and right, line by line, of the first n lines of a side
unfoldable pub by_sides : (ℕ → Side → Write) → ℕ → List Write
by_sides f zero = []
by_sides f (suc n) = by_sides f n ++ (f n left ∷ f n right ∷ [])

-- ---- a side's combs. Each line is read before its own store, and the lines lie apart: what its place holds, h, is what it held before the step

abbrev pub combs_held : Lines → List Float → List Float
combs_held l m = held 8 l m

-- +0, and then each answer in order, of the first n
unfoldable pub sum_of : List Float → ℕ → Float
sum_of h zero = plus_zero
sum_of h (suc n) = add binary64 (sum_of h n) (slice_index_or h n nan)

-- what comb i leaves in its store, which held z, with the damping d
unfoldable pub comb_stored : Float → List Float → List Float → ℕ → Float
comb_stored d z h i = comb_store (slice_index_or h i nan) (slice_index_or z i nan) d

-- and in its place, with the input x and the feedback f
unfoldable pub comb_write : Float → Float → Float → Lines → List Float → List Float → ℕ → Write
comb_write x d f l z h i = record { place = place_of l i; value = comb_fed x (comb_stored d z h i) f }

-- all of their writes
abbrev pub combs_writes : Float → Float → Float → Lines → List Float → List Float → List Write
combs_writes x d f l z m = table (comb_write x d f l z (combs_held l m)) 8

-- a step of the combs l with the stores z, in the memory m: positions, stores and memory that it leaves, the sum that it answers, and what its writes change of the count
pub record CombsStep (x d f : Float) (l : Lines) (z : List Float) (m : List Float) (w' : List ℕ) (z' : List Float) (m' : List Float) (r : Stepped) : Type 0 where
  pub positions : w' ≡ table (next_position l) 8
  pub stores : z' ≡ table (comb_stored d z (combs_held l m)) 8
  pub memory : m' ≡ laid (combs_writes x d f l z m) m
  pub sum : r.output ≡ sum_of (combs_held l m) 8
  pub gained : r.gained ≡ gained (combs_writes x d f l z m)
  pub lost : r.lost ≡ lost (combs_writes x d f l z m) m

-- ---- a side's all-passes, with x into the first

abbrev pub allpasses_held : Lines → List Float → List Float
allpasses_held l m = held 4 l m

-- what comes out of the first i of them
unfoldable pub passed_on : Float → List Float → ℕ → Float
passed_on x h zero = x
passed_on x h (suc i) = pass_output (passed_on x h i) (slice_index_or h i nan)

unfoldable pub allpass_write : Float → Lines → List Float → ℕ → Write
allpass_write x l h i = record { place = place_of l i; value = pass_fed (passed_on x h i) (slice_index_or h i nan) }

abbrev pub allpasses_writes : Float → Lines → List Float → List Write
allpasses_writes x l m = table (allpass_write x l (allpasses_held l m)) 4

-- a step of all of them, as of the combs
pub record AllpassesStep (x : Float) (l : Lines) (m : List Float) (w' : List ℕ) (m' : List Float) (r : Stepped) : Type 0 where
  pub positions : w' ≡ table (next_position l) 4
  pub memory : m' ≡ laid (allpasses_writes x l m) m
  pub output : r.output ≡ passed_on x (allpasses_held l m) 4
  pub gained : r.gained ≡ gained (allpasses_writes x l m)
  pub lost : r.lost ≡ lost (allpasses_writes x l m) m

-- ---- the predelay

-- The line from place o on, at the position w, with the audio x and a delay of d samples. It writes the audio first, so that a delay of 0 passes the audio
-- itself; every other place holds what it held before the tick.
unfoldable pub delayed : ℕ → ℕ → ℕ → Float → List Float → Float
delayed o w d x m = cond (d == 0) x (line_at o predelay_size w m d)

-- ---- the places in use: each line's first `length` places, and the whole predelay

-- lines with these lengths that lie `apart` places from each other, the first from place o on
unfoldable pub line_parts : ℕ → ℕ → List ℕ → List Part
line_parts o apart [] = []
line_parts o apart (n ∷ ns) = part o n ∷ line_parts (o + apart) apart ns

-- of lines with the lengths n
unfoldable pub parts : Lengths → List Part
parts n =
    line_parts (combs_start left) comb_size n.comb_l
    ++ (line_parts (combs_start right) comb_size n.comb_r
    ++ (line_parts (allpasses_start left) allpass_size n.allpass_l
    ++ (line_parts (allpasses_start right) allpass_size n.allpass_r
    ++ (part predelay_start predelay_size ∷ []))))
