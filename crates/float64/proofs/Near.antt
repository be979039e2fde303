-- A whole number taken off a value is exact (`rep-sub`); a rounded number lies at most half a unit of its last digit above what it was; so t + (M - t), each step rounded, is no more than M
-- for a whole number M (`no-overshoot`). Assumes nothing.
use Rattle.std.proofs.Common.{◌≡◌, ℕ, suc, ◌+◌, ◌-◌, ◌*◌, ◌/◌, ◌%◌, ◌^◌, ◌<◌, ◌≤◌, Bool, true, false, not, T, eqb, leb, sym, refl, ap, ◌∙◌, subst, le_trans, le_of_eq, le_refl, lt_of_lt_of_le, lt_of_le_of_lt, le_of_lt, mul-le-mul_right, mul_assoc, mul_comm, lt_of_mul-lt-mul_right, mul-pos, pow-suc, div-add-mod', sub-add_cancel, not-le_of_lt, mul-div_cancel, sub-le, arith, lit≤, eqb→eq, leb→le, pow_pos, pow_mono, pow-add}
use Prim.Native.Nat.{compare, Ordering}
use native.Mathlib.Nat.{mul-sub, mul-mod_left}
use lib.Dec.{is_le, compare_is_eq, nleb→lt, eqb_refl}
use lib.Arith.{lt_of_le-ne, digits_div, digits_mod}
use lib.Pow.{pow-lt}
use lib.Ieee.{Format, binary32, binary64, prec, low, size, nearest, round}
use lib.Ieee.Digits.{size-lt, size-le}
use lib.Ieee.Fits.{two}
use lib.Ieee.Nearest.{closest, closest_same}
use lib.Ieee.Scale.{grid, round_val, round_under}
use Rattle.float64.proofs.Units.{one, cap, one-pos, Rep, mag-of-value}
use Rattle.float64.proofs.Round.{rounded, rounded-le, rep-whole, whole-lt, finite-of-mag, round-num}

low-pos : (f : Format) → 1 ≤ low f
low-pos binary32 = lit≤ tt
low-pos binary64 = lit≤ tt

pub pow-gap : (k l : ℕ) → k ≤ l → 2 ^ l ≡ 2 ^ (l - k) * 2 ^ k
pow-gap k l h = ap (λ (z : ℕ). 2 ^ z) (sym (sub-add_cancel h)) ∙ pow-add 2 (l - k) k

-- ---- a whole number taken off a value is exact, as long as the value has no more digits before the point than the format keeps
pub less-mul : (a b c : ℕ) → a * c - b * c ≡ (a - b) * c
less-mul a b c = ap (λ (z : ℕ). z - b * c) (mul_comm a c) ∙ ap (λ (z : ℕ). c * a - z) (mul_comm b c) ∙ sym (mul-sub c a b) ∙ mul_comm c (a - b)

pub rep-sub : (f : Format) (n w : ℕ) → Rep f n → n < 2 ^ prec f * one f → Rep f (n - w * one f)
unfolding one
rep-sub f n w r h = go (leb r.j (low f)) (leb→le r.j (low f)) (nleb→lt r.j (low f))
  where
    go : (t : Bool) → (T t → r.j ≤ low f) → (T (not t) → low f < r.j) → Rep f (n - w * 2 ^ low f)
    go true p q = record {
      q = r.q - w * 2 ^ (low f - r.j);
      j = r.j;
      small = lt_of_le_of_lt (sub-le r.q (w * 2 ^ (low f - r.j))) r.small;
      is =
          ap (λ (z : ℕ). z - w * 2 ^ low f) r.is
          ∙ ap (λ (z : ℕ). r.q * 2 ^ r.j - z) (ap (λ (z : ℕ). w * z) (pow-gap r.j (low f) (p tt)) ∙ sym (mul_assoc w (2 ^ (low f - r.j)) (2 ^ r.j)))
          ∙ less-mul r.q (w * 2 ^ (low f - r.j)) (2 ^ r.j);
    }
    go false p q =
        let Q = r.q * 2 ^ (r.j - low f) in
        let e : n ≡ Q * 2 ^ low f = r.is ∙ ap (λ (z : ℕ). r.q * z) (pow-gap (low f) r.j (le_of_lt (q tt))) ∙ sym (mul_assoc r.q (2 ^ (r.j - low f)) (2 ^ low f)) in
        let l : Q < 2 ^ prec f = lt_of_mul-lt-mul_right (2 ^ low f) (subst (λ (z : ℕ). z < 2 ^ prec f * 2 ^ low f) e h) in
        record { q = Q - w; j = low f; small = lt_of_le_of_lt (sub-le Q w) l; is = ap (λ (z : ℕ). z - w * 2 ^ low f) e ∙ less-mul Q w (2 ^ low f) }

-- ---- a number of units rounded, by what `round` does
dropped : Format → ℕ → ℕ
dropped f n = size n - prec f

rounded-is : (f : Format) (n : ℕ) → rounded f n (one f) < cap f → rounded f n (one f) ≡ closest n (2 ^ dropped f n) * 2 ^ dropped f n
unfolding rounded one cap dropped
rounded-is f n h =
    let l = 2 ^ low f in
    let v = round_val f n l (round_under f n l (finite-of-mag f (round f false n l) (round-num f false n l) h)) in
    let e : n * l / l ≡ n = mul-div_cancel n (pow_pos (low f)) in
    let k = size n - prec f in
    mag-of-value f (round f false n l) false (grid f n l) v
    ∙ ap (λ (z : ℕ). closest (n * l) (l * 2 ^ (size z - prec f)) * 2 ^ (size z - prec f)) e
    ∙ ap (λ (z : ℕ). z * 2 ^ k) (closest_same (n * l) (l * 2 ^ k) n (2 ^ k) (mul-pos (pow_pos (low f)) (pow_pos k)) (pow_pos k) (mul_assoc n l (2 ^ k)))

-- what `compare` says
abbrev Cmp : Ordering → ℕ → ℕ → Type 0
Cmp Ordering.lt a b = a < b
Cmp Ordering.eq a b = a ≡ b
Cmp Ordering.gt a b = b < a

cmp : (a b : ℕ) → Cmp (compare a b) a b
cmp a b = go (compare a b) (leb→le a b) (nleb→lt a b) (eqb→eq a b) (λ (e : a ≡ b). subst (λ (x : ℕ). T (eqb a x)) e (eqb_refl a))
  where
    go : (o : Ordering) → (T (is_le o) → a ≤ b) → (T (not (is_le o)) → b < a) → (T (compare_is_eq o) → a ≡ b) → (a ≡ b → T (compare_is_eq o)) → Cmp o a b
    go Ordering.lt h k e n = lt_of_le-ne (h tt) n
    go Ordering.eq h k e n = e tt
    go Ordering.gt h k e n = k tt

-- at most half a unit up
near : (w r u : ℕ) (o : Ordering) → Cmp o (r * 2) u → 2 * (nearest w o * u) ≤ 2 * (w * u + r) + u
near w r u Ordering.lt h = omega arith
near w r u Ordering.eq h = let b : (w + w % 2) * u ≤ suc w * u = mul-le-mul_right u (tie w) in omega arith
  where
    tie : (x : ℕ) → x + x % 2 ≤ suc x
    tie x = omega arith
near w r u Ordering.gt h = omega arith

closest-near : (n u : ℕ) → 2 * (closest n u * u) ≤ 2 * n + u
closest-near n u = subst (λ (z : ℕ). 2 * (closest n u * u) ≤ 2 * z + u) (div-add-mod' n u) (near (n / u) (n % u) u (compare (n % u * 2) u) (cmp (n % u * 2) u))

rounded-near : (f : Format) (n : ℕ) → rounded f n (one f) < cap f → 2 * rounded f n (one f) ≤ 2 * n + 2 ^ dropped f n
rounded-near f n h = subst (λ (z : ℕ). 2 * z ≤ 2 * n + 2 ^ dropped f n) (sym (rounded-is f n h)) (closest-near n (2 ^ dropped f n))

-- an even number of units, and at most half a unit more
stays : (v r u : ℕ) (o : Ordering) → v % 2 ≡ 0 → Cmp o (r * 2) u → r * 2 ≤ u → nearest v o ≡ v
stays v r u Ordering.lt e c h = refl
stays v r u Ordering.eq e c h = omega arith
stays v r u Ordering.gt e c h = absurd (not-le_of_lt c h)

closest-stays : (v r u : ℕ) → v % 2 ≡ 0 → r < u → r * 2 ≤ u → closest (v * u + r) u ≡ v
closest-stays v r u e l h =
    ap (λ (z : ℕ). nearest z (compare ((v * u + r) % u * 2) u)) (digits_div v l)
    ∙ ap (λ (z : ℕ). nearest v (compare (z * 2) u)) (digits_mod v l)
    ∙ stays v r u (compare (r * 2) u) e (cmp (r * 2) u) h

-- ---- from t to a whole number M and back: t + (M - t), each step rounded, is no more than M. The first step is off by half a unit at most, and M, whose last digit is 0, is nearer or as near.
few-digits : (f : Format) (n : ℕ) → n < 2 ^ (prec f - 1 + low f) → suc (size n - prec f) ≤ low f
few-digits f n h = low-enough (size n) (prec f) (low f) (two f) (low-pos f) (size-le n (prec f - 1 + low f) h)
  where
    low-enough : (z p l : ℕ) → 2 ≤ p → 1 ≤ l → z ≤ p - 1 + l → suc (z - p) ≤ l
    low-enough z p l a b h = omega arith

module _ (f : Format) (M : ℕ) (hM : suc M ≤ 2 ^ (prec f - 1)) where
  M-lt : suc M < 2 ^ prec f
  M-lt = lt_of_le_of_lt hM (pow-lt (fall (prec f) (two f)))
    where
      fall : (p : ℕ) → 2 ≤ p → suc (p - 1) ≤ p
      fall p h = omega arith

  room : M * one f + one f ≤ 2 ^ (prec f - 1 + low f)
  unfolding one
  room = le_trans (le_of_eq (suc_one M (2 ^ low f))) (le_trans (mul-le-mul_right (2 ^ low f) hM) (le_of_eq (sym (pow-add 2 (prec f - 1) (low f)))))
    where
      suc_one : (a b : ℕ) → a * b + b ≡ suc a * b
      suc_one a b = omega arith

  -- what is no more than m, M or one more, is rounded to no more
  at-most : (m a : ℕ) → m ≤ suc M → a ≤ m * one f → rounded f a (one f) ≤ m * one f
  at-most m a k h = let l = lt_of_le_of_lt k M-lt in rounded-le f a (one f) (m * one f) (one-pos f) (rep-whole f m l) (whole-lt f m l) (mul-le-mul_right (one f) h)

  -- a number above M by at most half of its own unit goes to M
  tie_down : (y : ℕ) → M * one f < y → y < M * one f + one f → 2 * y ≤ 2 * (M * one f) + 2 ^ dropped f y → rounded f y (one f) ≤ M * one f
  unfolding dropped one
  tie_down y q close half =
      let K = size y - prec f in
      let K-low : suc K ≤ low f = few-digits f y (lt_of_lt_of_le close room) in
      let u = 2 ^ K in
      let r = y - M * 2 ^ low f in
      let v = M * 2 ^ (low f - K) in
      let r2 : r * 2 ≤ u = omega arith in
      let eM : M * 2 ^ low f ≡ v * u = ap (λ (z : ℕ). M * z) (pow-gap K (low f) (le_of_lt K-low)) ∙ sym (mul_assoc M (2 ^ (low f - K)) u) in
      let e2 : v ≡ M * 2 ^ (low f - K - 1) * 2 = ap (λ (z : ℕ). M * z) (ap (λ (z : ℕ). 2 ^ z) (pred-suc K (low f) K-low) ∙ pow-suc 2 (low f - K - 1)) ∙ sym (mul_assoc M (2 ^ (low f - K - 1)) 2) in
      let even : v % 2 ≡ 0 = ap (λ (z : ℕ). z % 2) e2 ∙ mul-mod_left (M * 2 ^ (low f - K - 1)) 2 in
      let c : closest y u ≡ v = ap (λ (z : ℕ). closest z u) (split (M * 2 ^ low f) y (v * u) q eM) ∙ closest-stays v r u even (less r u r2 (pow_pos K)) r2 in
      let fine : rounded f y (one f) < cap f = lt_of_le_of_lt (at-most (suc M) y (le_refl (suc M)) (up_to y M (2 ^ low f) close)) (whole-lt f (suc M) M-lt) in
      le_of_eq (rounded-is f y fine ∙ ap (λ (z : ℕ). z * u) c ∙ sym eM)
    where
      pred-suc : (a b : ℕ) → suc a ≤ b → b - a ≡ suc (b - a - 1)
      pred-suc a b h = omega arith

      split : (v y w : ℕ) → v < y → v ≡ w → y ≡ w + (y - v)
      split v y w h e = omega arith

      less : (r u : ℕ) → r * 2 ≤ u → 0 < u → r < u
      less r u h k = omega arith

      up_to : (y m o : ℕ) → y < m * o + o → y ≤ suc m * o
      up_to y m o h = omega arith

  -- n is what M has above t
  back : (t n : ℕ) → n + t ≡ M * one f → rounded f (t + rounded f n (one f)) (one f) ≤ M * one f
  unfolding dropped
  back t n e = go (leb (t + rounded f n (one f)) (M * one f)) (leb→le (t + rounded f n (one f)) (M * one f)) (nleb→lt (t + rounded f n (one f)) (M * one f))
    where
      less : M ≤ suc M
      less = le_of_lt (le_refl (suc M))

      fewer : (a b c : ℕ) → a ≤ b → a - c ≤ b - c
      fewer a b c h = omega arith

      go : (b : Bool) → (T b → t + rounded f n (one f) ≤ M * one f) → (T (not b) → M * one f < t + rounded f n (one f)) → rounded f (t + rounded f n (one f)) (one f) ≤ M * one f
      go true p q = at-most M (t + rounded f n (one f)) less (p tt)
      go false p q =
          let y = t + rounded f n (one f) in
          let above = q tt in
          let n-le : n ≤ M * one f = omega arith in
          let small : n < 2 ^ (prec f - 1 + low f) = omega (arith, room, one-pos f) in
          let near = rounded-near f n (lt_of_le_of_lt (at-most M n less n-le) (whole-lt f M (lt_of_le_of_lt less M-lt))) in
          let digits : size n ≤ size y = size-le n (size y) (lt_of_lt_of_le (lt_of_le_of_lt n-le above) (le_of_lt (size-lt y))) in
          let wider : 2 ^ dropped f n ≤ 2 ^ dropped f y = pow_mono (fewer (size n) (size y) (prec f) digits) in
          let unit : 2 ^ dropped f n * 2 ≤ one f = (unfold one in le_trans (le_of_eq (sym (pow-suc 2 (size n - prec f)))) (pow_mono (few-digits f n small))) in
          tie_down y above (omega (arith, one-pos f)) (omega arith)

  pub no-overshoot : (t : ℕ) → t ≤ M * one f → rounded f (t + rounded f (M * one f - t) (one f)) (one f) ≤ M * one f
  no-overshoot t h = back t (M * one f - t) (sub-add_cancel h)
