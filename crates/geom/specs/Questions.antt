-- Document 01, "The questions, in order": what a call answers.
use Rattle.std.specs.Prelude.{ℕ, Bool, cond, List, [], ◌∷◌, leb}

-- a question's number, and whether the answer is yes
pub record Question : Type 0 where
  pub number : ℕ
  pub yes : Bool

infix 20 ◌is◌
abbrev pub ◌is◌ : ℕ → Bool → Question
n is b = record { number = n; yes = b }

-- "A call asks those that concern it. On a no it answers the number": the number of the first no, or 0
abbrev pub asked : List Question → ℕ
asked [] = 0
asked (q ∷ qs) = cond q.yes (asked qs) q.number

-- "5: is every coordinate and size given, at most 32,767?"
abbrev pub small : ℕ → Bool
small n = leb n 32767
