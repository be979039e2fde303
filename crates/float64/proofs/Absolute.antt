-- The absolute value by one test: above 0 the number itself, else 0 less the number, which is exact; of a zero that is +0. And where it lies. Assumes nothing.
use Rattle.std.proofs.Common.{◌≡◌, ℕ, zero, suc, ◌+◌, ◌-◌, ◌*◌, ◌^◌, ◌<◌, ◌≤◌, Bool, true, false, T, ℤ, pos, negsuc, refl, ap, subst, zero-lt-suc, mul-pos, arith, eqb→eq, pow_mono, ltb-false}
use lib.Ieee.{Float, nan, inf, fin, Format, binary64, up, down, fits, is_nan, sub, le, lt}
use Rattle.std.proofs.lemmas.Float as floats
use lib.Ieee.Fits.{up_pos}
use lib.Ieee.Positive.{first_pos}
use Rattle.float64.specs.Number.{plus_zero, absolute}
use Rattle.float64.proofs.Units.{cap, one-pos, cap-pos, sign, mag, mag-cross, mag-rep, mag-lt}
use Rattle.float64.proofs.Round.{difference-exact}
use Rattle.float64.proofs.Keys.{rekeyed, sub_at}
use Rattle.float64.proofs.Order.{finite-num, plus_zero-at, sign-size}
use Rattle.float64.proofs.Same.{same_key}
use Rattle.float64.proofs.Interval.{In, ends, around, point, in-finite, cut-above, cut_below, sub_in}
use Rattle.float64.proofs.Ranges.{yes, no}
use Rattle.float64.proofs.Tests.{clash}

pub above_zero : (x : Float) → lt plus_zero x ≡ true → x ≡ absolute x
unfolding lt
above_zero nan h = clash h refl
above_zero (inf true) h = clash h refl
above_zero (inf false) h = refl
above_zero (fin true m e) h = clash h refl
above_zero (fin false m e) h = refl

one-le : (n : ℕ) → 1 ≤ suc n
one-le n = omega arith

-- ---- 0 less a value below 0 is the value with its sign turned, exactly

mag-sign : (f : Format) (m : ℕ) (e : ℤ) → mag f (fin true m e) ≡ mag f (fin false m e)
unfolding mag
mag-sign f m e = refl

mag-pos : (f : Format) (s : Bool) (m : ℕ) (e : ℤ) → T (fits f (fin s (suc m) e)) → 0 < mag f (fin s (suc m) e)
mag-pos f s m e a =
    first_pos (mag f (fin s (suc m) e)) (down e) (subst (λ (n : ℕ). 0 < n) (mag-cross f s (suc m) e a) (mul-pos (mul-pos (zero-lt-suc m) (up_pos e)) (one-pos f)))

turned : (m : ℕ) (e : ℤ) → T (fits binary64 (fin true (suc m) e)) → T (fits binary64 (fin false (suc m) e)) → sub binary64 plus_zero (fin true (suc m) e) ≡ fin false (suc m) e
unfolding sign
turned m e a b =
    let B = binary64 in
    let y = fin false (suc m) e in
    let n = mag B y in
    let l : n < cap B = mag-lt B y b tt in
    let x' = rekeyed (sign-size B (fin true (suc m) e) a tt) (ap (λ (k : ℕ). cap B - k) (mag-sign B (suc m) e)) in
    let r = sub_at (plus_zero-at B) x' (omega (arith, cap-pos B), omega (arith, cap-pos B)) (omega arith, omega arith) in
    same_key (rekeyed r (difference-exact B (cap B + 0) (cap B - n) n (mag-rep B y b tt) l (omega arith))) (sign-size B y b tt) (mag-pos B false m e b) l

pub not-above : (x : Float) → T (fits binary64 x) → lt plus_zero x ≡ false → sub binary64 plus_zero x ≡ absolute x
unfolding lt sub fits
not-above nan a k = refl
not-above (inf true) a k = refl
not-above (inf false) a k = clash refl k
not-above (fin s zero (pos zero)) a k = go s
  where
    go : (s : Bool) → sub binary64 plus_zero (fin s zero (pos zero)) ≡ fin false zero (pos zero)
    go true = refl
    go false = refl
not-above (fin s zero (pos (suc n))) a k = absurd (two n (2 ^ suc n) (pow_mono (one-le n)) (eqb→eq (2 ^ suc n * 1) 1 a))
  where
    two : (n p : ℕ) → 2 ≤ p → p * 1 ≡ 1 → ⊥
    two n p h e = omega arith
not-above (fin s zero (negsuc n)) a k = absurd (two n (2 ^ suc n) (pow_mono (one-le n)) (eqb→eq (1 * 2 ^ suc n) 1 a))
  where
    two : (n p : ℕ) → 2 ≤ p → 1 * p ≡ 1 → ⊥
    two n p h e = omega arith
not-above (fin true (suc m) e) a k = turned m e a a
not-above (fin false (suc m) e) a k = absurd (none (suc m * up e) (mul-pos (zero-lt-suc m) (up_pos e)) (ltb-false (0 * down e) (suc m * up e * 1) k))
  where
    none : (n : ℕ) → 0 < n → n * 1 ≤ 0 * down e → ⊥
    none n p q = omega arith

-- what `float64::abs` cites
pub ruleset absolute_cases = (above_zero, not-above)

-- of what lies from l to h, where −l is at most h
pub absolute-in : {l h x : Float} → T (ends binary64 plus_zero h) → T (ends binary64 l plus_zero) → T (around binary64 plus_zero h (sub binary64 plus_zero plus_zero) (sub binary64 plus_zero l))
    → In binary64 l h x → In binary64 plus_zero h (absolute x)
unfolding fits le is_nan
absolute-in {l} {h} {x} p q t i = go (lt plus_zero x) refl
  where
    go : (b : Bool) → lt plus_zero x ≡ b → In binary64 plus_zero h (absolute x)
    go true e = subst (λ (y : Float). In binary64 plus_zero h y) (above_zero x e) (cut_below plus_zero p (floats.le_of_lt plus_zero x (yes e)) i)
    go false e =
        let low = floats.le_of_not-lt plus_zero x tt (finite-num x (in-finite i)) (no e) in
        subst (λ (y : Float). In binary64 plus_zero h y) (not-above x i.fit e) (sub_in plus_zero h t (point plus_zero tt) (cut-above plus_zero q low i))
