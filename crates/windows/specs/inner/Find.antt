-- What is found of an id, by the rules of a group.
use Rattle.std.specs.Prelude.{ℕ, ◌≡◌, true, false, map, Result, Ok, Err, Option, Some, None}
use Rattle.geom.specs.declared.refusal.Refusal.{Refusal}
use Rattle.geom.specs.declared.refusal.Refusal.TheVariants.{UnknownId}
use Rattle.rules.specs.Group.{Group, used, win}
use Rattle.rules.specs.Order.{shown, above}
use Rattle.order.specs.declared.rects.Rects.{Rects}
use Rattle.order.specs.inner.Rects.{Holds}
use Rattle.windows.specs.declared.inner.find.Found.{Found}

-- a window that is shown has these rectangles above it, lowest first
abbrev pub Under : Group → ℕ → Option Rects → Type 0
Under g id (Some rs) = (shown g id ≡ true) × Holds rs (map (λ i. (win g i).at) (above id g.order))
Under g id None = shown g id ≡ false

-- an id in use has its rectangle, and what lies above it; another is refused
pub record FindsIn (g : Group) (id : ℕ) (f : Found) : Type 0 where
  pub used : used g id ≡ true
  pub at : f.at ≡ (win g id).at
  pub above : Under g id f.above

abbrev pub Finds : Group → ℕ → Result Found Refusal → Type 0
Finds g id (Ok f) = FindsIn g id f
Finds g id (Err refusal) = (used g id ≡ false) × (refusal ≡ UnknownId)
