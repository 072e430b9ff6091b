-- Document 02, N13: the busiest second of a run of event times in milliseconds, over whole numbers, so that no sum is too large.
use Rattle.std.specs.Prelude.{ℕ, ◌+◌, max, Bool, true, cond, ◌&&◌, List, [], ◌∷◌, map, leb, ltb, eqb, length}
use Rattle.std.specs.Prelude.{Result, Ok, Err}
use Rattle.geom.specs.Questions.{◌is◌, asked}
use Rattle.geom.specs.declared.refusal.Refusal.{Refusal}
use Rattle.geom.specs.Refusals.{number}
use Rattle.busiest.specs.declared.Second as Code

-- the answer, the greatest count of a second, and the place of its first event
pub record Second : Type 0 where
  pub answer : ℕ
  pub count : ℕ
  pub place : ℕ

-- "any span from an event's time t up to but not including t + 1,000"
abbrev pub in_span : ℕ → ℕ → Bool
in_span t u = leb t u && ltb u (t + 1000)

-- the "number of events in" the span from t on. "Equal times count separately"
abbrev pub events : ℕ → List ℕ → ℕ
events t [] = 0
events t (u ∷ us) = cond (in_span t u) 1 0 + events t us

-- that number for each event of a run, in its order
abbrev pub counts : List ℕ → List ℕ
counts run = map (λ t. events t run) run

-- "the greatest number", 0 of none
abbrev pub greatest : List ℕ → ℕ
greatest [] = 0
greatest (n ∷ ns) = max n (greatest ns)

-- "the first event that starts such a span", where n is the number. "Places count from 0"
abbrev pub first : ℕ → List ℕ → ℕ
first n [] = 0
first n (m ∷ ms) = cond (eqb n m) 0 (1 + first n ms)

-- "27 when a time is below the one before it": none is
abbrev pub rises : ℕ → List ℕ → Bool
rises t [] = true
rises t (u ∷ us) = leb t u && rises u us

abbrev pub ordered : List ℕ → Bool
ordered [] = true
ordered (t ∷ ts) = rises t ts

abbrev pub answer : List ℕ → ℕ
answer run = asked ((26 is leb (length run) 4096) ∷ (27 is ordered run) ∷ [])

-- "an empty run gives 0 and place 0"; a refused one gives them too
abbrev pub refused : ℕ → Second
refused a = record { answer = a; count = 0; place = 0 }

abbrev pub busiest : List ℕ → Second
busiest run =
    cond (eqb (answer run) 0)
    (record { answer = 0; count = greatest (counts run); place = first (greatest (counts run)) (counts run) })
    (refused (answer run))

-- what a call gave, with its answer
abbrev pub second_of : Result Code.Second Refusal → Second
second_of (Ok s) = record { answer = 0; count = s.count; place = s.place }
second_of (Err refusal) = refused (number refusal)
