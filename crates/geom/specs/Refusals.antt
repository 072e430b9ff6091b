-- The answer of a call that gives a value or says why it is refused: 0, or the number of the first question that failed.
use Rattle.std.specs.Prelude.{ℕ, Result, Ok, Err, Some, None}
use Rattle.std.specs.Prelude as Std
use Rattle.std.proofs.Math.Option.{Option, none, some}
use Rattle.geom.specs.declared.refusal.Refusal.{Refusal}
use Rattle.geom.specs.declared.refusal.Refusal.TheVariants.{StoreLength, Capacity, UnknownId, NoFreeId, TooLarge, WindowSize, Stride, ScreenSize, ListLength, NoEvent, NoWindow, QueueFull, OutsidePixels, EdgeTooLarge, DisplaySize, TooManyDisplays, Layer, NoSheet, SheetLength, NoWalk, KeyFire, Look, TargetSize, NotInView, Points, RunLength, TimesDescend, WhichCall}

-- the number of the question that failed
abbrev pub number : Refusal → ℕ
number StoreLength = 1
number Capacity = 2
number UnknownId = 3
number NoFreeId = 4
number TooLarge = 5
number WindowSize = 6
number Stride = 7
number ScreenSize = 8
number ListLength = 9
number NoEvent = 10
number NoWindow = 11
number QueueFull = 12
number OutsidePixels = 13
number EdgeTooLarge = 14
number DisplaySize = 15
number TooManyDisplays = 16
number Layer = 17
number NoSheet = 18
number SheetLength = 19
number NoWalk = 20
number KeyFire = 21
number Look = 22
number TargetSize = 23
number NotInView = 24
number Points = 25
number RunLength = 26
number TimesDescend = 27
number WhichCall = 28

-- 0, or that number
abbrev pub answer_of : {A : Type 0} → Result A Refusal → ℕ
answer_of (Ok _) = 0
answer_of (Err refusal) = number refusal

-- the value, or this one where the call was refused
abbrev pub value_or : {A : Type 0} → A → Result A Refusal → A
value_or _ (Ok value) = value
value_or other (Err _) = other

-- an answer of a call that may have no value, as the rules write it
abbrev pub option_of : {A : Type 0} → Std.Option A → Option A
option_of None = none
option_of (Some value) = some value

-- how many rectangles were listed or bytes written, with the answer: none where the call was refused
pub record Listing : Type 0 where
  pub answer : ℕ
  pub count : ℕ

abbrev pub listing_of : Result ℕ Refusal → Listing
listing_of r = record { answer = answer_of r; count = value_or 0 r }
