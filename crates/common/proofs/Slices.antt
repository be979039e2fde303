-- The part of k places from place o on of a memory: what stands in it, and what a store in it makes of the whole. Assumes nothing.
use Prim.Native.Nat.{ℕ, ◌+◌, ◌≤◌, ◌<◌}
use native.Mathlib.Omega.{arith}
use mathlib.Core.Path.{◌≡◌, refl, sym, ap, ◌∙◌}
use mathlib.Core.List.{List, ◌++◌}
use lib.ListN.{length, get_or, set, take, drop, length-drop}
use lib.Seq.{get_or-take, get_or-drop, length-take-le}
use borrow.Rule.Slice.PartMut.{put_mid, set_mid_at}
use Rattle.std.proofs.lemmas.List.{set-append_left}

module _ {A : Type 0} (o k : ℕ) (m : List A) where
  -- its length, which is n
  pub part_length : (n : ℕ) → k ≡ n → o + n ≤ length m → length (take k (drop o m)) ≡ n
  part_length n e h = length-take-le k (drop o m) (omega (arith, length-drop o m)) ∙ e

  pub part-get_or : (w : ℕ) (z : A) → w < k → get_or (take k (drop o m)) w z ≡ get_or m (o + w) z
  part-get_or w z h = get_or-take k (drop o m) w z h ∙ get_or-drop o m w z

  pub part-set : (w : ℕ) (v : A) → w < k → o + k ≤ length m → put_mid o k m (set (take k (drop o m)) w v) ≡ set m (o + w) v
  part-set w v h l = set_mid_at o k w m v (omega (arith, h, part_length k refl l))

-- of the first part: l is what it holds, and m the whole
pub front-set : {A : Type 0} (l r : List A) {m : List A} (w : ℕ) (v : A) → w < length l → l ++ r ≡ m → set l w v ++ r ≡ set m w v
front-set l r w v h e = sym (set-append_left l r w v h) ∙ ap (λ (q : List _). set q w v) e
