-- A window that has a place is shown, and is raised there; of another the call is a show.
use mathlib.Core.Path.{sym, ap, ◌∙◌}
use Rattle.order.specs.inner.Order.{idx_of}
use Rattle.windows.proofs.laws.One.{same_place}
use Rattle.windows.proofs.laws.Places.{isnt_shown}
use Rattle.windows.proofs.laws.Raised.{as_show}
use Rattle.windows.proofs.inner.one.raise.Goals as goal

pub returns-in_default : goal.returns-in_default
returns-in_default c s at h =
    let id = c.args.id.0 in
    let nowhere = sym (ap idx_of c.in_default.is) ∙ c.place_of.ensures in
    as_show s id _ (isnt_shown s h.given id (same_place _ _ h.shared nowhere)) (c.show.ensures s at h)
