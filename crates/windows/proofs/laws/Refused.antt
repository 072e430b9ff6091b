-- Refusals: the exit of a `?`; and the number of a question is not 0, the answer of a call that is not refused.
use Prim.Native.Nat.{ℕ, suc}
use mathlib.Core.Path.{◌≡◌, refl, ap, ◌∙◌}
use Rattle.std.specs.Prelude.{Result, Err}
use Rattle.std.specs.Result.{IsErrAnd}
use Rattle.std.proofs.lemmas.Result.{err_from_is_err_and}
use Rattle.geom.specs.Refusals.{number}
use Rattle.geom.specs.declared.refusal.Refusal.{Refusal}
use Rattle.geom.specs.declared.refusal.Refusal.TheVariants.{StoreLength, Capacity, UnknownId, NoFreeId, TooLarge, WindowSize, Stride, ScreenSize, ListLength, NoEvent, NoWindow, QueueFull, OutsidePixels, EdgeTooLarge, DisplaySize, TooManyDisplays, Layer, NoSheet, SheetLength, NoWalk, KeyFire, Look, TargetSize, NotInView, Points, RunLength, TimesDescend, WhichCall}

-- what the exit of a `?` hands back
pub exit : {A : Type 0} {r : Result A Refusal} {refusal : Refusal} → IsErrAnd r (λ y. y ≡ refusal) → r ≡ Err refusal
exit {r = r} e = let p = err_from_is_err_and r e in p.1 ∙ ap Err p.2

-- one more than this
pub before : (refusal : Refusal) → (n : ℕ) × (number refusal ≡ suc n)
before StoreLength = (0, refl)
before Capacity = (1, refl)
before UnknownId = (2, refl)
before NoFreeId = (3, refl)
before TooLarge = (4, refl)
before WindowSize = (5, refl)
before Stride = (6, refl)
before ScreenSize = (7, refl)
before ListLength = (8, refl)
before NoEvent = (9, refl)
before NoWindow = (10, refl)
before QueueFull = (11, refl)
before OutsidePixels = (12, refl)
before EdgeTooLarge = (13, refl)
before DisplaySize = (14, refl)
before TooManyDisplays = (15, refl)
before Layer = (16, refl)
before NoSheet = (17, refl)
before SheetLength = (18, refl)
before NoWalk = (19, refl)
before KeyFire = (20, refl)
before Look = (21, refl)
before TargetSize = (22, refl)
before NotInView = (23, refl)
before Points = (24, refl)
before RunLength = (25, refl)
before TimesDescend = (26, refl)
before WhichCall = (27, refl)
