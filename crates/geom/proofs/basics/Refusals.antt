-- A refusal's number is never 0, so that the answer 0 tells that a call gave a value.
use Rattle.std.proofs.Common.{◌<◌, ◌≡◌, refl, arith, Result, Ok, Err}
use Rattle.geom.specs.declared.refusal.Refusal.{Refusal}
use Rattle.geom.specs.declared.refusal.Refusal.TheVariants.{StoreLength, Capacity, UnknownId, NoFreeId, TooLarge, WindowSize, Stride, ScreenSize, ListLength, NoEvent, NoWindow, QueueFull, OutsidePixels, EdgeTooLarge, DisplaySize, TooManyDisplays, Layer, NoSheet, SheetLength, NoWalk, KeyFire, Look, TargetSize, NotInView, Points, RunLength, TimesDescend, WhichCall}
use Rattle.geom.specs.Refusals.{number, answer_of, value_or}

pub number_positive : (refusal : Refusal) → 0 < number refusal
number_positive StoreLength = omega arith
number_positive Capacity = omega arith
number_positive UnknownId = omega arith
number_positive NoFreeId = omega arith
number_positive TooLarge = omega arith
number_positive WindowSize = omega arith
number_positive Stride = omega arith
number_positive ScreenSize = omega arith
number_positive ListLength = omega arith
number_positive NoEvent = omega arith
number_positive NoWindow = omega arith
number_positive QueueFull = omega arith
number_positive OutsidePixels = omega arith
number_positive EdgeTooLarge = omega arith
number_positive DisplaySize = omega arith
number_positive TooManyDisplays = omega arith
number_positive Layer = omega arith
number_positive NoSheet = omega arith
number_positive SheetLength = omega arith
number_positive NoWalk = omega arith
number_positive KeyFire = omega arith
number_positive Look = omega arith
number_positive TargetSize = omega arith
number_positive NotInView = omega arith
number_positive Points = omega arith
number_positive RunLength = omega arith
number_positive TimesDescend = omega arith
number_positive WhichCall = omega arith

-- a call that was answered 0 gave its value
pub accepted : {A : Type 0} (other : A) (r : Result A Refusal) → answer_of r ≡ 0 → r ≡ Ok (value_or other r)
accepted other (Ok value) e = refl
accepted other (Err refusal) e = absurd (let p = number_positive refusal in omega arith)
