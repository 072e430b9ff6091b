-- What is common lies in the window, so the window's corner can be taken from it; it is added to the damage.
use Rattle.std.specs.Prelude.{◌≡◌, Bool, true, false, not}
use mathlib.Core.Path.{refl, sym, ap, subst, ◌∙◌}
use native.Mathlib.Omega.{arith}
use Rattle.geom.specs.declared.Rect.{Rect}
use Rattle.geom.specs.declared.inner.rect16.Rect16.{Rect16}
use Rattle.geom.specs.Geom.{meets, common}
use Rattle.geom.specs.inner.Fits.{Within}
use Rattle.geom.specs.Lists.{relative}
use Rattle.geom.specs.Rect16.{rect_of, Small}
use Rattle.geom.proofs.geometry.Facts.{says_meet, common_within}
use Rattle.window.specs.declared.Window.{Window}
use Rattle.window.specs.Represents.{win_of, RepWindow}
use Rattle.rules.specs.Group.{with_mark}
use Rattle.rules.specs.Store.{dirtied}
use Rattle.windows.specs.inner.Pixels.{Becomes}
use Rattle.windows.specs.inner.Drag.{uncovered_win}
use Rattle.windows.proofs.laws.Asked.{passed, failed}
use Rattle.windows.proofs.inner.drag.uncover.Goals as goal

-- the window marked
abbrev flagged : Window → Window
flagged w = record { queue = w.queue; damage = w.damage; at = w.at; cursor = w.cursor; used = w.used; marked = true }

-- a and b are the rectangles of the window and of what was uncovered
module _ (w : Window) (rep : RepWindow w) (old : Rect16) (small : Small (rect_of old)) {a b : Rect}
    (a_is : a ≡ rect_of w.at) (b_is : b ≡ rect_of old) where
  same_test : {t : Bool} → meets a b ≡ t → meets (rect_of w.at) (rect_of old) ≡ t
  same_test m = (λ i. meets (sym a_is i) (sym b_is i)) ∙ m

  kept : meets a b ≡ false → Becomes w (uncovered_win (rect_of old) (win_of w)) w
  kept m = record { used = refl; rep = rep; is = rw (same_test m) }

  module _ (m : meets a b ≡ true) {k : Rect} (k_is : k ≡ common a b) where
    inside : Within a k
    inside = subst (Within a) (sym k_is) (common_within a b ((says_meet a b).fact m)).0

    part_small : Small (relative a k)
    part_small =
        let i = inside in
        let o : Small a = subst Small (sym a_is) rep.at in
        omega arith

    repaired : (part : Rect) → part ≡ relative a k → (v : Window) → Becomes w (dirtied part (win_of w)) v
        → Becomes w (uncovered_win (rect_of old) (win_of w)) (flagged v)
    repaired part e v q =
        let area : part ≡ relative (rect_of w.at) (common (rect_of w.at) (rect_of old)) =
        e ∙ ap (relative a) k_is ∙ (λ i. relative (a_is i) (common (a_is i) (b_is i))) in
        let r = q.rep in
        record {
          used = q.used;
          rep = record { at = r.at; damage = r.damage; queue = r.queue; cursor = r.cursor };
          is = ap with_mark (q.is ∙ ap (λ (p : Rect). dirtied p (win_of w)) area) ∙ rw (same_test m);
        }

pub returns-then-not-meets : goal.returns-then-not-meets
returns-then-not-meets c =
    kept c.args.win.now c.requires.0 c.args.old c.requires.1 c.rect-own.ensures c.rect-was.ensures
    (failed c.meets.ensures (ap not c.if-not-meets.true))

pub overflow_sub-part : goal.overflow_sub-part
overflow_sub-part c =
    let i =
    inside c.args.win.now c.requires.0 c.args.old c.requires.1 c.rect-own.ensures c.rect-was.ensures
    (passed c.meets.ensures (ap not c.if-not-meets.false)) c.common-part.ensures
    in
    i.west

pub overflow_sub-part-2 : goal.overflow_sub-part-2
overflow_sub-part-2 c =
    let i =
    inside c.args.win.now c.requires.0 c.args.old c.requires.1 c.rect-own.ensures c.rect-was.ensures
    (passed c.meets.ensures (ap not c.if-not-meets.false)) c.common-part.ensures
    in
    i.north

pub damage-requires : goal.damage-requires
damage-requires c = (
  c.requires.0,
  subst Small (sym c.new-area.ensures)
      (part_small c.args.win.now c.requires.0 c.args.old c.requires.1 c.rect-own.ensures c.rect-was.ensures
      (passed c.meets.ensures (ap not c.if-not-meets.false)) c.common-part.ensures),
)

pub returns : goal.returns
returns c =
    repaired c.args.win.now c.requires.0 c.args.old c.requires.1 c.rect-own.ensures c.rect-was.ensures
    (passed c.meets.ensures (ap not c.if-not-meets.false)) c.common-part.ensures _ c.new-area.ensures _ c.damage.ensures.0
