-- The rectangle of a window in use, and (0,0,0,0) for any other id.
use Rattle.std.specs.Prelude.{ℕ, ◌≡◌, true, false, not, Ok, Err}
use mathlib.Core.Path.{ap, ◌∙◌}
use Rattle.geom.specs.declared.refusal.Refusal.TheVariants.{UnknownId}
use Rattle.geom.specs.Rect16.{rect_of}
use Rattle.rules.specs.Group.{used}
use Rattle.windows.specs.declared.Session.{Session}
use Rattle.windows.specs.View.{group, window_at, placed, placed_of}
use Rattle.windows.proofs.laws.Session.{used_at, win_at_lem}
use Rattle.windows.proofs.laws.Asked.{passed, failed}
use Rattle.windows.proofs.laws.One.{here, own, asks_used}
use Rattle.windows.proofs.Session.rect_of.Goals as goal

is_used : (s : Session) (id : ℕ) → (window_at s id).used ≡ true → placed_of (Ok (rect_of (window_at s id).at)) ≡ placed (group s) id
is_used s id u = rw (used_at s id ∙ u, win_at_lem s id u)

not_used : (s : Session) (id : ℕ) → used (group s) id ≡ false → placed_of (Err UnknownId) ≡ placed (group s) id
not_used s id u = rw u

pub returns-then-not-in_use : goal.returns-then-not-in_use
returns-then-not-in_use c =
    let s = c.args.self.now in
    not_used s _ (asks_used s _ (own c.requires c.slot.ensures) ∙ failed c.in_use.ensures (ap not c.if-not-in_use.true))

pub returns : goal.returns
returns c =
    let s = c.args.self.now in
    let h = here (passed c.in_use.ensures (ap not c.if-not-in_use.false)) (own c.requires c.slot.ensures) in
    rw (c.rect.ensures, c.slot.ensures.same h.low) (is_used s _ h.used)
