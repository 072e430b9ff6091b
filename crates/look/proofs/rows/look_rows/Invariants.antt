-- `look_rows`: after j turns the first j rows are written.
use Rattle.std.proofs.Common.{◌≡◌, ℕ, List, length}
use Rattle.look.specs.declared.Steps.{Steps}
use Rattle.look.specs.View.{window_pixel}
use Rattle.look.specs.Quarters.{place_quarters}
use Rattle.look.proofs.laws.Picture.{painted}
use Rattle.look.proofs.rows.look_rows.Given as goal

-- the pixel of the rule
abbrev seen : List ℕ → ℕ → ℕ → ℕ → Steps → ℕ → ℕ → ℕ
seen store base w h t i j = window_pixel base w h store (place_quarters t.x t.step i) (place_quarters t.y t.step j)

abbrev pub invariant-loop-j : goal.invariant-loop-j
invariant-loop-j l =
    (l.target ≡ painted (seen l.store l.base l.w l.h l.t) l.tw l.j l.initial.target) × (length l.target ≡ length l.initial.target)
