-- Dimming is switched, and a full redraw owed; or it is set already.
use mathlib.Core.Path.{◌≡◌, refl, ◌∙◌}
use mathlib.Core.Bool.{Bool, true, false}
use Rattle.rules.specs.Group.{with_dim}
use Rattle.rules.specs.Dim as Rule
use Rattle.rules.specs.Calls.{Dim, does}
use Rattle.windows.specs.declared.Session.{Session}
use Rattle.windows.specs.View.{group, Given, Meets, done}
use Rattle.windows.specs.inner.Sharing.{sharing, indebted, dimming}
use Rattle.windows.proofs.laws.Session.{gives}
use Rattle.windows.proofs.laws.Shared.{Shares, debt_shared}

dim_shared : (on : Bool) → Shares (dimming on) (with_dim on)
unfolding group
dim_shared on = record { group = λ s r. refl; rep = λ s r. record { windows = r.windows; order = r.order; shown = r.shown; each = r.each; displays = r.displays } }

module _ (s : Session) (h : Given s) (on : Bool) where
  pub is_set : Rule.same on s.shared.dimmed ≡ true → Meets (Dim on) s (done s 0)
  unfolding does Rule.dim group
  is_set e = gives (Dim on) s s h h.rep refl (rw e refl)

  pub switches : Rule.same on s.shared.dimmed ≡ false → Meets (Dim on) s (done (sharing (indebted (dimming on s.shared)) s) 0)
  unfolding does Rule.dim group
  switches e =
      let t = sharing (dimming on s.shared) s in
      let r = (dim_shared on).rep s h.rep in
      gives (Dim on) s _ h (debt_shared.rep t r) refl (debt_shared.group t r ∙ rw e refl)
