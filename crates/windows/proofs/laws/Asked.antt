-- A question as the code asks it: its function promises an answer, and `!` of it was true or false.
use mathlib.Core.Path.{◌≡◌, sym, ◌∙◌}
use mathlib.Core.Bool.{Bool, true, false, not}
use borrow.Author.Tests.{not-true, not-false}

pub failed : {a b : Bool} → a ≡ b → not a ≡ true → b ≡ false
failed e t = sym e ∙ not-true _ t

pub passed : {a b : Bool} → a ≡ b → not a ≡ false → b ≡ true
passed e t = sym e ∙ not-false _ t
