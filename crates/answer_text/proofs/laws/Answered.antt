-- A line of an answer alone, and what holds of a call that is accepted.
use Rattle.std.proofs.Common.{ℕ, ◌≡◌, refl, ap, Bool, true, false, cond, [], eqb, eqb-true, Result, Ok, Err}
use Rattle.std.specs.Result.{IsOk, OnOk}
use Rattle.geom.proofs.basics.Tests.{clash}
use Rattle.answer_text.specs.Text.{line, answered}

-- "on a refused call the line is `ANSWER` alone", which it is of every number where nothing comes behind it
pub alone : (a : ℕ) → line a [] ≡ answered a []
alone a = go (eqb a 0) refl
  where
    go : (t : Bool) → eqb a 0 ≡ t → line a [] ≡ cond t (line 0 []) (line a [])
    go true e = ap (λ (n : ℕ). line n []) (eqb-true a 0 e)
    go false e = refl

pub accepted : {A E P : Type 0} (r : Result A E) → IsOk r → OnOk r P → P
accepted (Ok _) i p = p
accepted (Err _) i p = clash i refl
