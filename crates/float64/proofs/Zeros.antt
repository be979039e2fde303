-- Zeros of either sign under the operations: zero times a finite value, zero over one that is not zero, and sums and differences of zeros are zeros. Of any
-- values, also such as binary64 does not hold. Assumes nothing.
use Rattle.std.proofs.Common.{◌≡◌, ℕ, zero, suc, ◌*◌, ◌<◌, Bool, true, false, not, ◌&&◌, ◌||◌, eqb, T, ℤ, pos, refl, ap, ◌∙◌, mul-pos, zero-mul, zero-lt-suc, arith, eqb-true}
use mathlib.Core.Bool.{beq}
use Rattle.std.proofs.lemmas.Bool.{and_parts}
use lib.Ieee.{Float, nan, inf, fin, binary64, up, down, round, sum, add, sub, mul, div, neg, eq, unlike}
use lib.Dec.{eqb-suc-zero}
use Rattle.std.proofs.num.Values.{round-zero}
use lib.Ieee.Fits.{up_pos, down_pos}
use lib.Ieee.Scale.{finite}
use Rattle.float64.specs.Number.{is_zero}
use Rattle.float64.proofs.Tests.{clash}
use Rattle.float64.proofs.Same.{mul-turned}

abbrev pub Zero : Float → Type 0
Zero x = is_zero x ≡ true

-- its number is 0
none : (s : Bool) (m : ℕ) (e : ℤ) → Zero (fin s m e) → m * up e ≡ 0
unfolding eq
none s m e h =
    let g = eqb-true (m * up e * 1) (0 * 1 * down e) (and_parts (eqb (m * up e * 1) (0 * 1 * down e)) (beq s false || eqb (m * up e * 1) 0) h).0 in
    omega arith

-- and no number but 0 makes a value a zero
level : (s : Bool) (a b : ℕ) → a ≡ 0 → b ≡ 0 → eqb a b && (beq s false || eqb a 0) ≡ true
level true a b p q = rw (p, q)
level false a b p q = rw (p, q)

-- 0 rounds to a zero
rounds : (s : Bool) (a c : ℕ) → a ≡ 0 → 0 < c → Zero (round binary64 s a c)
unfolding eq
rounds false a c e h = rw (e, round-zero binary64 false c h)
rounds true a c e h = rw (e, round-zero binary64 true c h)

-- ---- what takes a zero and a value that is finite

pub zero-times : (x y : Float) → Zero x → T (finite y) → Zero (mul binary64 x y)
unfolding mul eq
zero-times nan y h f = clash h refl
zero-times (inf s) y h f = clash h refl
zero-times (fin s m e) nan h f = absurd f
zero-times (fin s m e) (inf t) h f = absurd f
zero-times (fin s m e) (fin t n d) h f =
    rounds (unlike s t) (m * up e * (n * up d)) (down e * down d) (ap (λ (a : ℕ). a * (n * up d)) (none s m e h) ∙ zero-mul (n * up d))
    (mul-pos (down_pos e) (down_pos d))

pub times-zero : (x y : Float) → T (finite x) → Zero y → Zero (mul binary64 x y)
times-zero x y f h = ap is_zero (mul-turned binary64 x y) ∙ zero-times y x h f

pub zero-over : (x y : Float) → Zero x → T (finite y) → is_zero y ≡ false → Zero (div binary64 x y)
unfolding div eq
zero-over nan y h f g = clash h refl
zero-over (inf s) y h f g = clash h refl
zero-over (fin s m e) nan h f g = absurd f
zero-over (fin s m e) (inf t) h f g = absurd f
zero-over (fin s m e) (fin t zero d) h f g =
    clash (level t (0 * up d * down (pos 0)) (0 * up (pos 0) * down d) (omega (arith, zero-mul (up d))) (zero-mul (down d))) g
zero-over (fin s m e) (fin t (suc n) d) h f g =
    rw (eqb-suc-zero n)
    (rounds (unlike s t) (m * up e * down d) (suc n * up d * down e) (ap (λ (a : ℕ). a * down d) (none s m e h) ∙ zero-mul (down d))
    (mul-pos (mul-pos (zero-lt-suc n) (up_pos d)) (down_pos e)))

-- ---- sums and differences

sums : (s : Bool) (a : ℕ) (t : Bool) (b c : ℕ) → a ≡ 0 → b ≡ 0 → 0 < c → Zero (sum binary64 s a t b c)
unfolding sum
sums s a t b c p q h = rw (p, q) (go s t)
  where
    go : (s t : Bool) → Zero (sum binary64 s 0 t 0 c)
    go true true = rounds true 0 c refl h
    go true false = rounds false 0 c refl h
    go false true = rounds false 0 c refl h
    go false false = rounds false 0 c refl h

pub zero-plus : (x y : Float) → Zero x → Zero y → Zero (add binary64 x y)
unfolding add eq
zero-plus nan y h k = clash h refl
zero-plus (inf s) y h k = clash h refl
zero-plus (fin s m e) nan h k = clash k refl
zero-plus (fin s m e) (inf t) h k = clash k refl
zero-plus (fin s m e) (fin t n d) h k =
    sums s (m * up e * down d) t (n * up d * down e) (down e * down d) (ap (λ (a : ℕ). a * down d) (none s m e h) ∙ zero-mul (down d))
    (ap (λ (a : ℕ). a * down e) (none t n d k) ∙ zero-mul (down e))
    (mul-pos (down_pos e) (down_pos d))

pub zero-neg : (x : Float) → Zero x → Zero (neg x)
unfolding neg eq
zero-neg nan h = clash h refl
zero-neg (inf s) h = clash h refl
zero-neg (fin s m e) h = level (not s) (m * up e * down (pos 0)) (0 * up (pos 0) * down e) (omega (arith, none s m e h)) (zero-mul (down e))

pub zero-minus : (x y : Float) → Zero x → Zero y → Zero (sub binary64 x y)
unfolding sub
zero-minus x y h k = zero-plus x (neg y) h (zero-neg y k)
