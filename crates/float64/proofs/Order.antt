-- The order on values that fit a format and are no NaN, and the operations that keep it: sum, difference, product, quotient, whole part. Assumes nothing.
use Rattle.std.proofs.Common.{◌≡◌, ℕ, ◌+◌, ◌-◌, ◌*◌, ◌/◌, ◌^◌, ◌<◌, ◌≤◌, min, Bool, true, false, not, T, pos, sym, refl, ap, ◌∙◌, le_trans, le_of_eq, mul-le-mul_right, mul-le-mul, mul-pos, zero-mul, arith, pow_pos}
use native.Mathlib.Nat.{eq_of_mul-eq-mul_right}
use Rattle.std.proofs.lemmas.Float as floats
use Rattle.std.proofs.lemmas.Bool.{false_from_ne_true}
use lib.Ieee.{Float, nan, inf, fin, Format, unlike, add, sub, mul, div, to_unsigned, fits, is_nan, le, lt}
use lib.Ieee.Scale.{finite}
use Rattle.float64.specs.Number.{plus_zero}
use Rattle.float64.proofs.Units.{one, cap, one-pos, sign, mag, signed, key, mag-lt, mag-cross}
use Rattle.float64.proofs.Round.{rounded, rounded-mono, rounded-zero, difference-mono}
use Rattle.float64.proofs.Keys.{At, at, rekeyed, le_of, of_le, le-of-size, size-of-le, size-of-lt, Fin, inf-key, signed-fin, add_at, sub_at, mul_at, div-at, to_unsigned-at}

-- ---- the order: the library's laws, asked nothing of what fits
pub le→not-lt : (f : Format) (x y : Float) → T (fits f x) → T (fits f y) → T (le x y) → lt y x ≡ false
le→not-lt f x y a b h = false_from_ne_true (lt y x) (λ e. floats.lt_irrefl x (floats.lt_of_le_of_lt x y x h (floats.T_from_true (lt y x) e)))

-- ---- finite values
pub finite-num : (x : Float) → T (finite x) → T (not (is_nan x))
unfolding is_nan
finite-num nan h = absurd h
finite-num (inf s) h = absurd h
finite-num (fin s m e) h = tt

-- a finite value by its sign and its size
pub sign-size : (f : Format) (x : Float) → T (fits f x) → T (finite x) → At f x (signed (cap f) (sign x) (mag f x))
unfolding key
sign-size f x a h = at f x a (finite-num x h)

finite-key : (f : Format) (x : Float) → T (fits f x) → T (finite x) → Fin f (key f x)
unfolding key
finite-key f x a h = signed-fin (cap f) (mag f x) (sign x) (mag-lt f x a h)

-- what lies between two finite values is finite
pub between-finite : (f : Format) (lo x hi : Float) → T (fits f lo) → T (fits f x) → T (fits f hi) → T (finite lo) → T (finite hi) → T (le lo x) → T (le x hi) → T (finite x)
between-finite f lo x hi a b c p q h k =
    let n = floats.le_right lo x h in
    let l = of_le (at f lo a (finite-num lo p)) (at f x b n) h in
    let m = of_le (at f x b n) (at f hi c (finite-num hi q)) k in
    of-key f x n (le_trans (finite-key f lo a p).0 l) (omega (arith, (finite-key f hi c q).1))
  where
    of-key : (f : Format) (x : Float) → T (not (is_nan x)) → 0 < key f x → key f x < cap f + cap f → T (finite x)
    of-key f nan n p q = absurd (unfold is_nan in n)
    of-key f (inf s) n p q = absurd (unfold key sign mag in inf-key (cap f) s p q)
    of-key f (fin s m e) n p q = tt

-- ---- 0, and values from 0 on by their sizes
pub plus_zero-fits : (f : Format) → T (fits f plus_zero)
unfolding fits
plus_zero-fits f = tt

pub plus_zero-at : (f : Format) → At f plus_zero (cap f + 0)
unfolding sign
plus_zero-at f =
    rekeyed (sign-size f plus_zero (plus_zero-fits f) tt)
    (ap (λ (n : ℕ). cap f + n) (eq_of_mul-eq-mul_right 1 (pow_pos 0) (mag f plus_zero) 0 (sym (mag-cross f false 0 (pos 0) (plus_zero-fits f)) ∙ zero-mul (one f))))

pub size_of : (f : Format) (x : Float) → T (fits f x) → T (finite x) → T (le plus_zero x) → (n : ℕ) × (n < cap f) × At f x (cap f + n)
size_of f x a p h =
    let x' = at f x a (finite-num x p) in
    let l = of_le (plus_zero-at f) x' h in
    let k = finite-key f x a p in
    let e : key f x ≡ cap f + (key f x - cap f) = omega arith in
    (key f x - cap f, omega (arith, k.1), rekeyed x' e)

-- ---- the operations
signed-mono : (c X Y G H : ℕ) (s t : Bool) → signed c s X ≤ signed c t Y → (X ≤ Y → G ≤ H) → (Y ≤ X → H ≤ G) → (X ≡ 0 → G ≡ 0) → (Y ≡ 0 → H ≡ 0) → X < c → Y < c → signed c s G ≤ signed c t H
signed-mono c X Y G H false false h p q z w x y = let k = p (omega arith) in omega arith
signed-mono c X Y G H false true h p q z w x y = let k = z (omega arith) in let l = w (omega arith) in omega arith
signed-mono c X Y G H true false h p q z w x y = omega arith
signed-mono c X Y G H true true h p q z w x y = let k = q (omega arith) in omega arith

unlike-false : (s : Bool) → unlike s false ≡ s
unlike-false false = refl
unlike-false true = refl

module _ (f : Format) where
  module _ (a b c d : Float) (x : T (fits f a)) (y : T (fits f b)) (z : T (fits f c)) (w : T (fits f d)) (p : T (finite a)) (q : T (finite b)) (r : T (finite c)) (s : T (finite d)) where
    -- a + c ≤ b + d
    pub add-mono : T (le a b) → T (le c d) → T (le (add f a c) (add f b d))
    add-mono h k =
        let a' = at f a x (finite-num a p) in
        let b' = at f b y (finite-num b q) in
        let c' = at f c z (finite-num c r) in
        let d' = at f d w (finite-num d s) in
        le_of (add_at a' c' (finite-key f a x p) (finite-key f c z r)) (add_at b' d' (finite-key f b y q) (finite-key f d w s))
        (difference-mono f (key f a + key f c) (cap f + cap f) (key f b + key f d) (cap f + cap f) (omega (arith, of_le a' b' h, of_le c' d' k)))

    -- a - c ≤ b - d
    pub sub-mono : T (le a b) → T (le d c) → T (le (sub f a c) (sub f b d))
    sub-mono h k =
        let a' = at f a x (finite-num a p) in
        let b' = at f b y (finite-num b q) in
        let c' = at f c z (finite-num c r) in
        let d' = at f d w (finite-num d s) in
        le_of (sub_at a' c' (finite-key f a x p) (finite-key f c z r)) (sub_at b' d' (finite-key f b y q) (finite-key f d w s))
        (difference-mono f (key f a) (key f c) (key f b) (key f d) (omega (arith, of_le a' b' h, of_le d' c' k)))

    -- 0 ≤ a ≤ b and 0 ≤ c ≤ d: a c ≤ b d
    pub mul_mono : T (le plus_zero a) → T (le plus_zero c) → T (le a b) → T (le c d) → T (le (mul f a c) (mul f b d))
    mul_mono h k l m =
        let A = size_of f a x p h in
        let B = size_of f b y q (floats.le_trans plus_zero a b h l) in
        let C = size_of f c z r k in
        let D = size_of f d w s (floats.le_trans plus_zero c d k m) in
        let o = one f * one f in
        let O : 0 < o = mul-pos (one-pos f) (one-pos f) in
        le-of-size (mul_at false false A.0 C.0 A.2 C.2 A.1 C.1) (mul_at false false B.0 D.0 B.2 D.2 B.1 D.1)
        (rounded-mono f (A.0 * C.0) o (B.0 * D.0) o O O (mul-le-mul_right o (mul-le-mul (size-of-le A.2 B.2 l) (size-of-le C.2 D.2 m))))

    -- 0 ≤ a ≤ b and 0 < d ≤ c: a / c ≤ b / d
    pub div_mono : T (le plus_zero a) → T (lt plus_zero d) → T (le a b) → T (le d c) → T (le (div f a c) (div f b d))
    div_mono h k l m =
        let k' = floats.le_of_lt plus_zero d k in
        let A = size_of f a x p h in
        let B = size_of f b y q (floats.le_trans plus_zero a b h l) in
        let D = size_of f d w s k' in
        let C = size_of f c z r (floats.le_trans plus_zero d c k' m) in
        let D' : 0 < D.0 = size-of-lt (plus_zero-at f) D.2 k in
        let C' : 0 < C.0 = le_trans D' (size-of-le D.2 C.2 m) in
        le-of-size (div-at false false A.0 C.0 A.2 C.2 A.1 C.1 C') (div-at false false B.0 D.0 B.2 D.2 B.1 D.1 D')
        (rounded-mono f A.0 C.0 B.0 D.0 C' D' (mul-le-mul (size-of-le A.2 B.2 l) (size-of-le D.2 C.2 m)))

  -- a c ≤ b c by a factor c from 0 on, a and b of either sign
  pub mul-mono-left : (a b c : Float) → T (fits f a) → T (fits f b) → T (fits f c) → T (finite a) → T (finite b) → T (finite c) → T (le plus_zero c) → T (le a b) → T (le (mul f a c) (mul f b c))
  mul-mono-left a b c x y z p q r h l =
      let n = size_of f c z r h in
      let C = n.0 in
      let o = one f * one f in
      let O : 0 < o = mul-pos (one-pos f) (one-pos f) in
      let a' = sign-size f a x p in
      let b' = sign-size f b y q in
      let A = mag f a in
      let B = mag f b in
      let u = mul_at (sign a) false A C a' n.2 (mag-lt f a x p) n.1 in
      let v = mul_at (sign b) false B C b' n.2 (mag-lt f b y q) n.1 in
      let mono : (X Y : ℕ) → X ≤ Y → rounded f (X * C) o ≤ rounded f (Y * C) o = λ X Y w. rounded-mono f (X * C) o (Y * C) o O O (mul-le-mul_right o (mul-le-mul_right C w)) in
      let none : (X : ℕ) → X ≡ 0 → rounded f (X * C) o ≡ 0 = λ X w. ap (λ (i : ℕ). rounded f (i * C) o) w ∙ ap (λ (i : ℕ). rounded f i o) (zero-mul C) ∙ rounded-zero f o O in
      le_of (rekeyed u (ap (λ (i : Bool). signed (cap f) i (rounded f (A * C) o)) (unlike-false (sign a)))) (rekeyed v (ap (λ (i : Bool). signed (cap f) i (rounded f (B * C) o)) (unlike-false (sign b))))
      (signed-mono (cap f) A B (rounded f (A * C) o) (rounded f (B * C) o) (sign a) (sign b) (of_le a' b' l) (mono A B) (mono B A) (none A) (none B) (mag-lt f a x p) (mag-lt f b y q))

  -- 0 ≤ a ≤ b, cut to whole numbers
  pub whole-mono : (w : ℕ) (a b : Float) → T (fits f a) → T (fits f b) → T (finite a) → T (finite b) → T (le plus_zero a) → T (le a b) → to_unsigned w a ≤ to_unsigned w b
  whole-mono w a b x y p q h l =
      let A = size_of f a x p h in
      let B = size_of f b y q (floats.le_trans plus_zero a b h l) in
      let m = lib.Ieee.Nearest.div_mono A.0 (one f) B.0 (one f) (one-pos f) (one-pos f) (mul-le-mul_right (one f) (size-of-le A.2 B.2 l)) in
      le_trans (le_of_eq (to_unsigned-at w A.0 A.2 A.1)) (le_trans (both (A.0 / one f) (B.0 / one f) (2 ^ w - 1) m) (le_of_eq (sym (to_unsigned-at w B.0 B.2 B.1))))
    where
      both : (i j k : ℕ) → i ≤ j → min i k ≤ min j k
      both i j k h = omega arith
