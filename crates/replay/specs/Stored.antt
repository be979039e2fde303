-- What a call has to answer, and a unit to be after it, to be what a record says. Definitions only. Assumes nothing.
use Rattle.std.specs.Prelude.{ℕ, ◌≡◌, false, ◌+◌, ◌/◌, ◌%◌, ◌==◌, ⊤, cond, List, [], ◌∷◌, ◌++◌, get_or, Float}
use Rattle.std.specs.Float.{nan, float_zero}
use Rattle.port.specs.Answer.{Reply, reply_number, reply_sample, reply_age}
use Rattle.delay_line.specs.declared.halves.Kept.{Kept}
use Rattle.phaser.specs.declared.Phaser as phaser
use Rattle.reverb.specs.declared.Reverb as reverb
use Rattle.tape_delay.specs.declared.TapeDelay as tape
use Rattle.replay.specs.declared.units.Unit.{Unit}
use Rattle.replay.specs.declared.units.Unit.TheVariants.{Tremolo, Vibrato, Chorus, Flanger, Delay, Reverb, Phaser, Tape}
use Rattle.replay.specs.Words.{word_of, float_at, AreHeld}

-- accepted, with the float of word i as the first sample
abbrev pub IsOneSample : Reply → List ℕ → ℕ → Type 0
IsOneSample r b i = (reply_number r ≡ 0) × (reply_sample 0 r ≡ float_at b i)

-- accepted, with the floats from word i on as the samples
abbrev pub IsThreeSamples : Reply → List ℕ → ℕ → Type 0
IsThreeSamples r b i = IsOneSample r b i × (reply_sample 1 r ≡ float_at b (i + 1)) × (reply_sample 2 r ≡ float_at b (i + 2))

-- accepted, with word i, a plain number, as the age
abbrev pub IsOfAge : Reply → List ℕ → ℕ → Type 0
IsOfAge r b i = (reply_number r ≡ 0) × (reply_age r ≡ word_of b i)

-- the four positions in a word, 16 bits each, the first lowest
abbrev pub unpacked : ℕ → List ℕ
unpacked n = n % 65536 ∷ n / 65536 % 65536 ∷ n / 4294967296 % 65536 ∷ n / 281474976710656 ∷ []

-- the eight positions from word i on
abbrev pub eight_from : List ℕ → ℕ → List ℕ
eight_from b i = unpacked (word_of b i) ++ unpacked (word_of b (i + 1))

-- the damping stores that a record with this code is a look at; none, where it is of a call
abbrev pub reverb_looked : ℕ → reverb.Reverb → List Float
reverb_looked code r = cond (code == 3) r.comb_filter_state_l (cond (code == 4) r.comb_filter_state_r [])

-- the reverb's positions are those that a record says of the state after it
abbrev pub AreReverbPositions : reverb.Reverb → List ℕ → Type 0
AreReverbPositions r b =
    (r.comb_pos_l ≡ eight_from b 9) × (r.comb_pos_r ≡ eight_from b 11) × (r.allpass_pos_l ≡ unpacked (word_of b 13))
    × (r.allpass_pos_r ≡ unpacked (word_of b 14)) × (r.predelay_pos ≡ word_of b 15)

-- these, its count, and the stores that a look is at, are
abbrev pub IsReverbStored : reverb.Reverb → List ℕ → Type 0
IsReverbStored r b = AreReverbPositions r b × (r.nonzero_places ≡ word_of b 16) × AreHeld (reverb_looked (word_of b 0) r) b

-- the numbers of a chain that a record with this code is a look at; none, where it is of a call
abbrev pub phaser_looked : ℕ → phaser.Phaser → List Float
phaser_looked code p =
    cond (code == 3) p.allpass_x1_l (cond (code == 4) p.allpass_x1_r (cond (code == 5) p.allpass_y1_l (cond (code == 6) p.allpass_y1_r [])))

-- the phaser's phase, and the chain that a look is at, are those that a record says of the state after it
abbrev pub IsPhaserStored : phaser.Phaser → List ℕ → Type 0
IsPhaserStored p b = (p.lfo_phase ≡ float_at b 12) × AreHeld (phaser_looked (word_of b 0) p) b

-- as while no read waits: three zeros with their sign
abbrev pub IsNoneKept : Kept → Type 0
IsNoneKept k = (k.audio ≡ float_zero) × (k.read ≡ float_zero) × (k.mix ≡ float_zero)

-- the tape delay's position, glide and count are those that a record says of the state after it, and no read waits
abbrev pub IsTapeStored : tape.TapeDelay → List ℕ → Type 0
IsTapeStored t b =
    (t.write_pos ≡ word_of b 9) × (t.smoothed_delay ≡ float_at b 10) × (t.delay_primed ≡ (word_of b 11 == 1))
    × (t.nonzero_places ≡ word_of b 13) × (t.waiting ≡ false) × IsNoneKept t.kept

-- the unit is what a record says of the state after it; of a tremolo none is kept
abbrev pub IsStored : Unit → List ℕ → Type 0
IsStored Tremolo b = ⊤
IsStored (Vibrato v) b = (v.write_pos ≡ word_of b 8) × (v.lfo_phase ≡ float_at b 9) × (v.nonzero_places ≡ word_of b 11)
IsStored (Chorus c) b =
    (c.write_pos ≡ word_of b 12) × (get_or c.lfo_phases 0 nan ≡ float_at b 13) × (get_or c.lfo_phases 1 nan ≡ float_at b 14)
    × (get_or c.lfo_phases 2 nan ≡ float_at b 15) × (c.nonzero_places ≡ word_of b 17)
IsStored (Flanger f) b = (f.write_pos ≡ word_of b 12) × (f.lfo_phase ≡ float_at b 13) × (f.nonzero_places ≡ word_of b 15)
IsStored (Delay d) b =
    (d.write_pos ≡ word_of b 8) × (d.smoothed_delay ≡ float_at b 9) × (d.delay_primed ≡ (word_of b 10 == 1))
    × (d.nonzero_places ≡ word_of b 12)
IsStored (Reverb r) b = IsReverbStored r b
IsStored (Phaser p) b = IsPhaserStored p b
IsStored (Tape t) b = IsTapeStored t b
