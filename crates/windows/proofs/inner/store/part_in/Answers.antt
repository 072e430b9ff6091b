-- Both rectangles pass question 14, so that the method gives the part that they have in common, if there is one.
use Rattle.std.specs.Prelude.{◌≡◌, Result, Ok, Option, Some, None}
use mathlib.Core.Path.{subst}
use native.Mathlib.Omega.{arith}
use Rattle.geom.specs.declared.Rect.{Rect}
use Rattle.geom.specs.declared.refusal.Refusal.{Refusal}
use Rattle.geom.specs.Geom.{rect}
use Rattle.geom.specs.Bare.{met, bare_intersect}
use Rattle.geom.specs.inner.Fits.{Fits}
use Rattle.geom.proofs.geometry.Answers.{common_is, apart_is}
use Rattle.geom.proofs.geometry.Facts.{small_fits}
use Rattle.windows.specs.inner.Pixels.{PartIn}
use Rattle.windows.proofs.inner.store.part_in.Goals as goal

part_of : {a all : Rect} → Fits a × Fits all → {i : Result (Option Rect) Refusal} → met i ≡ bare_intersect a all → (o : Option Rect) → i ≡ Ok o
    → PartIn all a o
part_of f e (Some part) h = common_is f e h
part_of f e None h = apart_is f e h

pub returns-in-Ok : goal.returns-in-Ok
returns-in-Ok c =
    let a = c.args in
    let all : Rect = rect 0 0 a.at.w a.at.h in
    let at = c.requires.0 in
    let fits : Fits a.area × Fits all = (small_fits a.area c.requires.1, omega (arith, at.width≤, at.height≤)) in
    part_of fits (subst (λ (r : Rect). met c.intersect.result ≡ bare_intersect a.area r) c.new-all.ensures c.intersect.ensures) c.in-Ok.part c.in-Ok.is
