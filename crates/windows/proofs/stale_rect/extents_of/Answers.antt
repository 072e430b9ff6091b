-- The extents are of what would be written of the windows before place p.
use Prim.Native.Nat.{ℕ, ◌≤◌, ◌<◌}
use mathlib.Core.Path.{◌≡◌, refl, subst}
use native.Mathlib.Omega.{arith}
use Rattle.windows.proofs.laws.Places.{id_low}
use Rattle.windows.proofs.laws.Stale.{Joining, join_none, joined, lent_over, lent_there}
use Rattle.windows.proofs.stale_rect.extents_of.Goals as goal

pub bounds-s-at : goal.bounds-s-at
bounds-s-at c =
    let l : c.loop-p.p < c.args.s.now.shared.shown = omega arith in
    id_low c.args.s.now c.requires.0 c.loop-p.p l _ refl

pub loop-p-init : goal.loop-p-init
loop-p-init c = join_none _ c.requires.0 _ _ _ c.none-e.ensures

pub join_window-requires : goal.join_window-requires
join_window-requires c =
    let p = c.loop-p.p in
    let l : p < c.args.s.now.shared.shown = omega arith in
    let a : c.args.course.from ≤ p = omega arith in
    let h = c.requires.0 in
    let q = lent_there _ h c.args.course.full c.args.area c.args.course.from p a l (rw c.lowest.ensures at c.rects_from-all.ensures) in
    (h.rep.each _ (id_low _ h p l _ refl), c.requires.1, q.0, q.1)

pub loop-p-preserved : goal.loop-p-preserved
loop-p-preserved c =
    let p = c.loop-p.p in
    let l : p < c.args.s.now.shared.shown = omega arith in
    let a : c.args.course.from ≤ p = omega arith in
    let h = c.requires.0 in
    joined _ h c.args.course.full c.args.area c.args.course.from p a l
    (lent_over _ h c.args.course.full c.args.area c.args.course.from p a l (rw c.lowest.ensures at c.rects_from-all.ensures))
    c.join_window.ensures c.loop-p.invariant

pub returns : goal.returns
returns c =
    let n : c.loop-p.p ≡ c.args.course.to = omega arith in
    subst (λ (p : ℕ). Joining c.args.s.now c.args.course.full c.args.area c.args.course.from p c.loop-p.e) n c.loop-p.invariant
