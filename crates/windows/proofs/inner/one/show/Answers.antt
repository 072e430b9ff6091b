-- A window in use joins the order at the top of its layer where it has no place yet.
use mathlib.Core.Bool.{not}
use Prim.Native.Nat.{◌+◌, ◌<◌}
use mathlib.Core.Path.{◌≡◌, refl, sym, ap, subst, ◌∙◌}
use mathlib.Core.Bool.{◌&&◌, true}
use mathlib.Core.List.{List}
use lib.Dec.{ltb}
use Rattle.window.specs.declared.ids.WinId.{WinId}
use Rattle.order.specs.Ids.{ids}
use Rattle.order.specs.inner.Layers.{Low, Inserted}
use Rattle.rules.specs.Calls.{Show}
use Rattle.windows.specs.declared.Shared.{Shared}
use Rattle.windows.specs.View.{Meets, done}
use Rattle.windows.specs.inner.One.{with_window}
use Rattle.windows.specs.inner.Sharing.{ordered, indebted}
use Rattle.windows.proofs.laws.Asked.{passed, failed}
use Rattle.windows.proofs.laws.One.{here, accepts, not_used, shares, same_place}
use Rattle.windows.proofs.laws.Places.{found, not_found, order_low}
use Rattle.windows.proofs.laws.Shown.{is_shown, is_hidden, has_room, no_window}
use Rattle.windows.proofs.inner.one.show.Goals as goal

-- the share with the window in its order, before and after a full redraw is owed
abbrev joined : List WinId → WinId → Shared → Shared
joined order id k = ordered order (k.shown + 1) id k

pub returns-then-not-in_use : goal.returns-then-not-in_use
returns-then-not-in_use c =
    let id = c.args.id.0 in
    not_used (λ s t. Meets (Show id) s (done t 3)) (failed c.in_use.ensures (ap not c.if-not-in_use.true)) (λ s h c. no_window s id h c)

pub returns-then-is_some : goal.returns-then-is_some
returns-then-is_some c =
    let id = c.args.id.0 in
    let placed = found _ c.place_of.ensures (sym c.is_some.ensures ∙ c.if-is_some.true) in
    accepts (λ s at w k. Meets (Show id) s (done (with_window at w k s) 0)) (passed c.in_use.ensures (ap not c.if-not-in_use.false))
    (λ s q.
    shares (λ t. Meets (Show id) s (done t 0)) s id s.shared
    (is_shown s id q.given q.used _ (same_place _ _ q.shared placed.1)))

pub insert-requires : goal.insert-requires
insert-requires c =
    let used : let a = c.args in ltb a.id.0 16 && a.win.now.used ≡ true = passed c.in_use.ensures (ap not c.if-not-in_use.false) in
    let hidden = not_found _ c.place_of.ensures (sym c.is_some.ensures ∙ c.if-is_some.false) in
    let q = here used c.requires.holds in (
      subst (λ (k : Shared). k.shown < 16) q.shared (has_room c.requires.session c.args.id.0 q.given q.used (same_place _ _ q.shared hidden)),
      subst (λ (k : Shared). Low (ids k.shown k.order)) q.shared (order_low c.requires.session q.given),
      q.low,
    )

pub returns : goal.returns
returns c =
    let a = c.args in
    let id = a.id.0 in
    let hidden = not_found _ c.place_of.ensures (sym c.is_some.ensures ∙ c.if-is_some.false) in
    let order = c.insert.new.order in
    rw c.owe.ensures
    (accepts (λ s at w k. Meets (Show id) s (done (with_window at w (indebted (joined order a.id k)) s) 0))
    (passed c.in_use.ensures (ap not c.if-not-in_use.false))
    (λ s q.
    shares (λ t. Meets (Show id) s (done t 0)) s id (indebted (joined order a.id s.shared))
    (is_hidden s id q.given q.used (same_place _ _ q.shared hidden) a.id refl order
    (subst (λ (k : Shared). Inserted k.layers k.order k.shown id order) (sym q.shared) c.insert.ensures))))
