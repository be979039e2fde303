-- Interval arithmetic: `In f lo hi x` says that x fits f and lies from lo to hi, both finite. Each operation takes intervals to an interval, and what it asks of the ends is one test that
-- computes at literals, so that `tt` proves it under `unfolding fits le` and the operation's own name (and `lt` for a quotient, `of_int` for `whole`). Assumes nothing.
use Rattle.std.proofs.Common.{◌≡◌, ℕ, ◌+◌, ◌*◌, ◌<◌, ◌≤◌, Bool, true, false, cond, ◌&&◌, T, refl, subst, mul-le-mul_right, mul-le-mul_left, mul-pos, arith}
use Rattle.std.proofs.lemmas.Float as floats
use lib.Ieee.{Float, Format, unlike, add, sub, mul, div, to_unsigned, fits, le, lt}
use lib.Ieee.Fits.{and_l, and_r, add-fits, sub-fits, mul-fits, div-fits}
use lib.Ieee.Scale.{finite}
use Rattle.float64.specs.Number.{plus_zero}
use Rattle.float64.proofs.Units.{one, cap, one-pos, sign, mag, signed, mag-lt}
use Rattle.float64.proofs.Round.{rounded, rounded-mono}
use Rattle.float64.proofs.Keys.{At, le_of, le-of-size, size-of-le, mul_at}
use Rattle.float64.proofs.Order.{between-finite, finite-num, sign-size, size_of, add-mono, sub-mono, mul-mono-left, mul_mono, div_mono, whole-mono}

-- the ends of an interval
abbrev pub ends : Format → Float → Float → Bool
ends f lo hi = fits f lo && fits f hi && finite lo && finite hi

pub record In (f : Format) (lo hi x : Float) : Type 0 where
  pub ends-ok : T (ends f lo hi)
  pub fit : T (fits f x)
  pub lower : T (le lo x)
  pub upper : T (le x hi)

module _ (f : Format) (lo hi : Float) (t : T (ends f lo hi)) where
  pub lo-fits : T (fits f lo)
  lo-fits = and_l (fits f lo) (fits f hi) (and_l (fits f lo && fits f hi) (finite lo) (and_l (fits f lo && fits f hi && finite lo) (finite hi) t))

  pub hi-fits : T (fits f hi)
  hi-fits = and_r (fits f lo) (fits f hi) (and_l (fits f lo && fits f hi) (finite lo) (and_l (fits f lo && fits f hi && finite lo) (finite hi) t))

  pub lo-finite : T (finite lo)
  lo-finite = and_r (fits f lo && fits f hi) (finite lo) (and_l (fits f lo && fits f hi && finite lo) (finite hi) t)

  pub hi-finite : T (finite hi)
  hi-finite = and_r (fits f lo && fits f hi && finite lo) (finite hi) t

pub box : {f : Format} {lo hi x : Float} → T (ends f lo hi) → T (fits f x) → T (le lo x) → T (le x hi) → In f lo hi x
box t a h k = record { ends-ok = t; fit = a; lower = h; upper = k }

pub point : {f : Format} (x : Float) → T (ends f x x) → In f x x x
point {f} x t = let a = lo-fits f x x t in let r = floats.le_refl x (finite-num x (lo-finite f x x t)) in box t a r r

pub in-finite : {f : Format} {lo hi x : Float} → In f lo hi x → T (finite x)
in-finite {f} {lo} {hi} {x} i =
    let t = i.ends-ok in
    between-finite f lo x hi (lo-fits f lo hi t) i.fit (hi-fits f lo hi t) (lo-finite f lo hi t) (hi-finite f lo hi t) i.lower i.upper

-- l and h are ends, and a .. b lies between them
abbrev pub around : Format → Float → Float → Float → Float → Bool
around f l h a b = ends f l h && le l a && le b h

module _ (f : Format) (l h a b : Float) (t : T (around f l h a b)) where
  out-ends : T (ends f l h)
  out-ends = and_l (ends f l h) (le l a) (and_l (ends f l h && le l a) (le b h) t)

  out-lo : T (le l a)
  out-lo = and_r (ends f l h) (le l a) (and_l (ends f l h && le l a) (le b h) t)

  out-hi : T (le b h)
  out-hi = and_r (ends f l h && le l a) (le b h) t

-- what lies from a to b lies from l to h
pub within : (f : Format) (l h a b x : Float) → T (around f l h a b) → T (fits f x) → T (le a x) → T (le x b) → In f l h x
within f l h a b x t r u v = box (out-ends f l h a b t) r (floats.le_trans l a x (out-lo f l h a b t) u) (floats.le_trans x b h v (out-hi f l h a b t))

pub widen : {f : Format} {lo hi x : Float} (l h : Float) → T (around f l h lo hi) → In f lo hi x → In f l h x
widen {f} {lo} {hi} {x} l h t i = within f l h lo hi x t i.fit i.lower i.upper

-- after a test: an interval cut from above, or from below
pub cut-above : {f : Format} {lo hi x : Float} (h : Float) → T (ends f lo h) → T (le x h) → In f lo hi x → In f lo h x
cut-above h t k i = box t i.fit i.lower k

pub cut_below : {f : Format} {lo hi x : Float} (l : Float) → T (ends f l hi) → T (le l x) → In f lo hi x → In f l hi x
cut_below l t k i = box t i.fit k i.upper

module _ {f : Format} {a b c d x y : Float} (l h : Float) where
  pub add-in : T (around f l h (add f a c) (add f b d)) → In f a b x → In f c d y → In f l h (add f x y)
  add-in t i j =
      let s = i.ends-ok in
      let r = j.ends-ok in
      let u = in-finite i in
      let v = in-finite j in
      within f l h (add f a c) (add f b d) (add f x y) t (add-fits f x y)
      (add-mono f a x c y (lo-fits f a b s) i.fit (lo-fits f c d r) j.fit (lo-finite f a b s) u (lo-finite f c d r) v i.lower j.lower)
      (add-mono f x b y d i.fit (hi-fits f a b s) j.fit (hi-fits f c d r) u (hi-finite f a b s) v (hi-finite f c d r) i.upper j.upper)

  pub sub_in : T (around f l h (sub f a d) (sub f b c)) → In f a b x → In f c d y → In f l h (sub f x y)
  sub_in t i j =
      let s = i.ends-ok in
      let r = j.ends-ok in
      let u = in-finite i in
      let v = in-finite j in
      within f l h (sub f a d) (sub f b c) (sub f x y) t (sub-fits f x y)
      (sub-mono f a x d y (lo-fits f a b s) i.fit (hi-fits f c d r) j.fit (lo-finite f a b s) u (hi-finite f c d r) v i.lower j.upper)
      (sub-mono f x b y c i.fit (hi-fits f a b s) j.fit (lo-fits f c d r) u (hi-finite f a b s) v (lo-finite f c d r) i.upper j.lower)

  -- both from 0 on
  pub mul_in : T (le plus_zero a) → T (le plus_zero c) → T (around f l h (mul f a c) (mul f b d)) → In f a b x → In f c d y → In f l h (mul f x y)
  mul_in z w t i j =
      let s = i.ends-ok in
      let r = j.ends-ok in
      let u = in-finite i in
      let v = in-finite j in
      let x0 = floats.le_trans plus_zero a x z i.lower in
      let y0 = floats.le_trans plus_zero c y w j.lower in
      within f l h (mul f a c) (mul f b d) (mul f x y) t (mul-fits f x y)
      (mul_mono f a x c y (lo-fits f a b s) i.fit (lo-fits f c d r) j.fit (lo-finite f a b s) u (lo-finite f c d r) v z w i.lower j.lower)
      (mul_mono f x b y d i.fit (hi-fits f a b s) j.fit (hi-fits f c d r) u (hi-finite f a b s) v (hi-finite f c d r) x0 y0 i.upper j.upper)

  -- x from 0 on, y above 0
  pub div-in : T (le plus_zero a) → T (lt plus_zero c) → T (around f l h (div f a d) (div f b c)) → In f a b x → In f c d y → In f l h (div f x y)
  div-in z w t i j =
      let s = i.ends-ok in
      let r = j.ends-ok in
      let u = in-finite i in
      let v = in-finite j in
      let x0 = floats.le_trans plus_zero a x z i.lower in
      let y0 = floats.lt_of_lt_of_le plus_zero c y w j.lower in
      within f l h (div f a d) (div f b c) (div f x y) t (div-fits f x y)
      (div_mono f a x d y (lo-fits f a b s) i.fit (hi-fits f c d r) j.fit (lo-finite f a b s) u (hi-finite f c d r) v z y0 i.lower j.upper)
      (div_mono f x b y c i.fit (hi-fits f a b s) j.fit (lo-fits f c d r) u (hi-finite f a b s) v (lo-finite f c d r) x0 w i.upper j.lower)

-- ---- a product with a factor y from 0 on, and x of either sign
-- a fixed a times y: up or down as y grows, by a's sign
module _ (f : Format) (a c d : Float) (p : T (fits f a)) (q : T (fits f c)) (r : T (fits f d)) (u : T (finite a)) (v : T (finite c)) (w : T (finite d)) (z : T (le plus_zero c)) (k : T (le c d)) where
  by_sign : (s : Bool) → sign a ≡ s → cond s (T (le (mul f a d) (mul f a c))) (T (le (mul f a c) (mul f a d)))
  by_sign s e = go s (subst (λ (b : Bool). At f a (signed (cap f) b (mag f a))) e (sign-size f a p u))
    where
      C : (n : ℕ) × (n < cap f) × At f c (cap f + n)
      C = size_of f c q v z

      D : (n : ℕ) × (n < cap f) × At f d (cap f + n)
      D = size_of f d r w (floats.le_trans plus_zero c d z k)

      m : rounded f (mag f a * C.0) (one f * one f) ≤ rounded f (mag f a * D.0) (one f * one f)
      m =
          let O : 0 < one f * one f = mul-pos (one-pos f) (one-pos f) in
          rounded-mono f (mag f a * C.0) (one f * one f) (mag f a * D.0) (one f * one f) O O (mul-le-mul_right (one f * one f) (mul-le-mul_left (mag f a) (size-of-le C.2 D.2 k)))

      at_c : (s : Bool) → At f a (signed (cap f) s (mag f a)) → At f (mul f a c) (signed (cap f) (unlike s false) (rounded f (mag f a * C.0) (one f * one f)))
      at_c s a' = mul_at s false (mag f a) C.0 a' C.2 (mag-lt f a p u) C.1

      at-d : (s : Bool) → At f a (signed (cap f) s (mag f a)) → At f (mul f a d) (signed (cap f) (unlike s false) (rounded f (mag f a * D.0) (one f * one f)))
      at-d s a' = mul_at s false (mag f a) D.0 a' D.2 (mag-lt f a p u) D.1

      go : (s : Bool) → At f a (signed (cap f) s (mag f a)) → cond s (T (le (mul f a d) (mul f a c))) (T (le (mul f a c) (mul f a d)))
      go false a' = le-of-size (at_c false a') (at-d false a') m
      go true a' = le_of (at-d true a') (at_c true a') (omega (arith, m))

-- so between c and d it stays on one side of what both ends stay on
module _ {f : Format} {c d y : Float} (a l : Float) (p : T (fits f a)) (u : T (finite a)) (z : T (le plus_zero c)) (j : In f c d y) where
  up-to-y : (s : Bool) → sign a ≡ s → cond s (T (le (mul f a y) (mul f a c))) (T (le (mul f a c) (mul f a y)))
  up-to-y = by_sign f a c y p (lo-fits f c d j.ends-ok) j.fit u (lo-finite f c d j.ends-ok) (in-finite j) z j.lower

  from-y : (s : Bool) → sign a ≡ s → cond s (T (le (mul f a d) (mul f a y))) (T (le (mul f a y) (mul f a d)))
  from-y =
      by_sign f a y d p j.fit (hi-fits f c d j.ends-ok) u (in-finite j) (hi-finite f c d j.ends-ok)
      (floats.le_trans plus_zero c y z j.lower) j.upper

  above : T (le l (mul f a c)) → T (le l (mul f a d)) → T (le l (mul f a y))
  above m n = go (sign a) refl
    where
      go : (s : Bool) → sign a ≡ s → T (le l (mul f a y))
      go false e = floats.le_trans l (mul f a c) (mul f a y) m (up-to-y false e)
      go true e = floats.le_trans l (mul f a d) (mul f a y) n (from-y true e)

  below : T (le (mul f a c) l) → T (le (mul f a d) l) → T (le (mul f a y) l)
  below m n = go (sign a) refl
    where
      go : (s : Bool) → sign a ≡ s → T (le (mul f a y) l)
      go false e = floats.le_trans (mul f a y) (mul f a d) l (from-y false e) n
      go true e = floats.le_trans (mul f a y) (mul f a c) l (up-to-y true e) m

module _ {f : Format} {a b c d x y : Float} (l h : Float) where
  -- x of either sign, y from 0 on
  pub scale_in : T (le plus_zero c) → T (around f l h (mul f a c) (mul f b c)) → T (around f l h (mul f a d) (mul f b d)) → In f a b x → In f c d y → In f l h (mul f x y)
  scale_in z t t' i j =
      let s = i.ends-ok in
      let e = out-ends f l h (mul f a c) (mul f b c) t in
      let y0 = floats.le_trans plus_zero c y z j.lower in
      let lo' = above a l (lo-fits f a b s) (lo-finite f a b s) z j (out-lo f l h (mul f a c) (mul f b c) t) (out-lo f l h (mul f a d) (mul f b d) t') in
      let hi' = below b h (hi-fits f a b s) (hi-finite f a b s) z j (out-hi f l h (mul f a c) (mul f b c) t) (out-hi f l h (mul f a d) (mul f b d) t') in
      box e (mul-fits f x y)
      (floats.le_trans l (mul f a y) (mul f x y) lo' (mul-mono-left f a x y (lo-fits f a b s) i.fit j.fit (lo-finite f a b s) (in-finite i) (in-finite j) y0 i.lower))
      (floats.le_trans (mul f x y) (mul f b y) h (mul-mono-left f x b y i.fit (hi-fits f a b s) j.fit (in-finite i) (hi-finite f a b s) (in-finite j) y0 i.upper) hi')

-- the whole part
pub cut_in : {f : Format} {a b x : Float} (w : ℕ) → T (le plus_zero a) → In f a b x → (to_unsigned w a ≤ to_unsigned w x) × (to_unsigned w x ≤ to_unsigned w b)
cut_in {f} {a} {b} {x} w z i =
    let s = i.ends-ok in
    let u = in-finite i in
    let x0 = floats.le_trans plus_zero a x z i.lower in
    (whole-mono f w a x (lo-fits f a b s) i.fit (lo-finite f a b s) u z i.lower, whole-mono f w x b i.fit (hi-fits f a b s) u (hi-finite f a b s) x0 i.upper)
