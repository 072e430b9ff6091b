-- The share is a division by w × h, which is not 0; a window has no more unobscured pixels than pixels, so that at most 100 comes out.
use Prim.Native.Nat.{ℕ, ◌*◌, ◌≤◌, ◌<◌}
use mathlib.Core.Path.{◌≡◌, refl, sym}
use mathlib.Core.Bool.{Bool, true, false, not}
use native.Mathlib.Nat.{mul-pos, mod-lt, div-add-mod', div-le_of_le-mul}
use native.Mathlib.Omega.{arith}
use Rattle.geom.specs.Geom.{width, height, is_empty}
use Rattle.geom.proofs.basics.Tests.{fst, snd}
use Rattle.geom.proofs.geometry.Areas.{pixels_most}
use Rattle.geom.proofs.geometry.Facts.{solid}
use Rattle.rules.specs.Group.{Group, used, win}
use Rattle.rules.specs.Order.{shown}
use Rattle.rules.specs.Calls.{after}
use Rattle.rules.specs.Share.{in_view, unobscured, size, has_share, share, Exact, Divides}
use Rattle.rules.proofs.group.Kept.{ok_after}

not_false : (t : Bool) → not t ≡ true → t ≡ false
not_false true e = sym e
not_false false e = refl

-- a window that has a share has pixels
some_size : (g : Group) (id : ℕ) → has_share g id ≡ true → 0 < size g id
some_size g id h =
    let r = (win g id).at in
    let s = solid r (not_false (is_empty r) (snd (shown g id) (not (is_empty r)) h)) in
    mul-pos s.wide s.high

-- the unobscured are some of them
some_seen : (g : Group) (id : ℕ) → 100 * unobscured g id ≤ size g id * 100
some_seen g id = omega (arith, pixels_most (in_view g id) (width (win g id).at) (height (win g id).at))

exact : (g : Group) (id : ℕ) → used g id ≡ true → has_share g id ≡ true → Exact g id
unfolding share
exact g id u h =
    let n = 100 * unobscured g id in
    let d = size g id in
    record {
      answered = rw (u, h) refl;
      exact = rw (u, h) (sym (div-add-mod' n d));
      remainder< = rw (u, h) (mod-lt n (some_size g id h));
      percent≤ = rw (u, h) (div-le_of_le-mul d (some_seen g id));
    }

pub divides : Divides
unfolding Divides
divides c ks id h =
    let g = after c ks in
    exact g id ((ok_after c ks).shown_used id (fst (shown g id) (not (is_empty (win g id).at)) h)) h
