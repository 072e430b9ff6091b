-- Questions 3 and 5; then the window at its new place, and those below it.
use Rattle.std.specs.Prelude.{ℕ, not, ◌≡◌, false}
use mathlib.Core.Path.{sym, ap, subst, ◌∙◌}
use Rattle.geom.specs.Rect16.{rect_of, Small}
use Rattle.window.specs.Window.{Win}
use Rattle.window.specs.Represents.{win_of, RepWindow}
use Rattle.rules.specs.Repair.{wholly_repaired}
use Rattle.rules.specs.Calls.{Drag}
use Rattle.rules.specs.Drag.{uncovered_all}
use Rattle.order.specs.Ids.{ids}
use Rattle.order.specs.inner.Order.{idx_of}
use Rattle.windows.specs.View.{group, window_at, done, Meets, Rep}
use Rattle.windows.specs.inner.One.{with_window}
use Rattle.windows.specs.inner.Pixels.{Becomes}
use Rattle.windows.specs.inner.Sharing.{with_maximised, sharing, indebted}
use Rattle.windows.specs.inner.Drag.{Uncoverable}
use Rattle.windows.proofs.laws.Asked.{passed, failed}
use Rattle.windows.proofs.laws.One.{here, own, asks_used}
use Rattle.windows.proofs.laws.Session.{win_at_lem}
use Rattle.windows.proofs.laws.Dragged.{put_at, moved_rep, hidden, owes, below_it, repairs, no_window, too_far}
use Rattle.windows.proofs.Session.drag.Goals as goal

pub returns-then-not-in_use : goal.returns-then-not-in_use
returns-then-not-in_use c =
    no_window _ _ _ _ c.requires (asks_used _ _ (own c.requires c.slot-at.ensures) ∙ failed c.in_use.ensures (ap not c.if-not-in_use.true))

pub returns-then-not-small_point : goal.returns-then-not-small_point
returns-then-not-small_point c =
    too_far _ _ _ _ c.requires (asks_used _ _ (own c.requires c.slot-at.ensures) ∙ passed c.in_use.ensures (ap not c.if-not-in_use.false))
    (failed c.small_point.ensures (ap not c.if-not-small_point.true))

pub returns-in_default : goal.returns-in_default
returns-in_default c =
    let a = c.args in
    let s = a.self.now in
    let h = here (passed c.in_use.ensures (ap not c.if-not-in_use.false)) (own c.requires c.slot-at.ensures) in
    subst (λ (j : ℕ). Meets (Drag a.id.0 a.pos.x a.pos.y) s (done (with_window j (put_at a.pos.x a.pos.y (window_at s j)) (with_maximised j false s.shared) s) 0))
    (sym (c.slot-at.ensures.same h.low))
    (hidden s c.requires _ _ _ h.low h.used (passed c.small_point.ensures (ap not c.if-not-small_point.false)) (sym (ap idx_of c.in_default.is) ∙ c.place_of.ensures))

pub returns-then-is_pending : goal.returns-then-is_pending
returns-then-is_pending c =
    let a = c.args in
    let s = a.self.now in
    let h = here (passed c.in_use.ensures (ap not c.if-not-in_use.false)) (own c.requires c.slot-at.ensures) in
    rw c.owe.ensures
    (subst (λ (j : ℕ). Meets (Drag a.id.0 a.pos.x a.pos.y) s
    (done (sharing (indebted (with_maximised j false s.shared)) (with_window j (put_at a.pos.x a.pos.y (window_at s j)) (with_maximised j false s.shared) s)) 0))
    (sym (c.slot-at.ensures.same h.low))
    (owes s c.requires _ _ _ h.low h.used (passed c.small_point.ensures (ap not c.if-not-small_point.false)) _
    (sym (ap idx_of c.in-Some.is) ∙ c.place_of.ensures) (sym c.is_pending.ensures ∙ c.if-is_pending.true)))

pub repair-requires : goal.repair-requires
repair-requires c =
    let a = c.args in
    let h = here (passed c.in_use.ensures (ap not c.if-not-in_use.false)) (own c.requires c.slot-at.ensures) in
    subst (λ (j : ℕ). RepWindow (put_at a.pos.x a.pos.y (window_at a.self.now j))) (sym (c.slot-at.ensures.same h.low))
    (moved_rep _ c.requires _ _ _ h.low h.used (passed c.small_point.ensures (ap not c.if-not-small_point.false)))

pub uncover_below-requires : goal.uncover_below-requires
uncover_below-requires c =
    let a = c.args in
    let s = a.self.now in
    let v = c.repair.new.win in
    let h = here (passed c.in_use.ensures (ap not c.if-not-in_use.false)) (own c.requires c.slot-at.ensures) in
    let b =
    subst (λ (j : ℕ). Becomes (put_at a.pos.x a.pos.y (window_at s j)) (wholly_repaired (win_of (put_at a.pos.x a.pos.y (window_at s j)))) v)
    (c.slot-at.ensures.same h.low) c.repair.ensures
    in
    subst (λ (j : ℕ). Uncoverable (with_window j v (with_maximised j false s.shared) s) c.in-Some.p.0 × Small (rect_of (window_at s j).at))
    (sym (c.slot-at.ensures.same h.low)) (
      below_it s c.requires _ _ _ h.low h.used (passed c.small_point.ensures (ap not c.if-not-small_point.false)) _
          (sym (ap idx_of c.in-Some.is) ∙ c.place_of.ensures) (sym c.is_pending.ensures ∙ c.if-is_pending.false) v b,
      (c.requires.rep.each _ h.low).at,
    )

pub returns : goal.returns
returns c =
    let a = c.args in
    let s = a.self.now in
    let v = c.repair.new.win in
    let same = c.slot-at.ensures.same in
    let h = here (passed c.in_use.ensures (ap not c.if-not-in_use.false)) (own c.requires c.slot-at.ensures) in
    let b =
    subst (λ (j : ℕ). Becomes (put_at a.pos.x a.pos.y (window_at s j)) (wholly_repaired (win_of (put_at a.pos.x a.pos.y (window_at s j)))) v)
    (same h.low) c.repair.ensures
    in
    repairs s c.requires _ _ _ h.low h.used (passed c.small_point.ensures (ap not c.if-not-small_point.false)) _
    (sym (ap idx_of c.in-Some.is) ∙ c.place_of.ensures) (sym c.is_pending.ensures ∙ c.if-is_pending.false) v b
    (rect_of (window_at s c.slot-at.result).at)
    (ap (λ (j : ℕ). rect_of (window_at s j).at) (same h.low) ∙ sym (ap (λ (w : Win). w.at) (win_at_lem s a.id.0 h.used))) _
    (subst (λ (j : ℕ).
    (group c.uncover_below.new.s ≡ uncovered_all (rect_of (window_at s c.slot-at.result).at) (ids c.in-Some.p.0 s.shared.order) (group (with_window j v (with_maximised j false s.shared) s)))
    × Rep c.uncover_below.new.s) (same h.low) c.uncover_below.ensures)
