-- Document 03, A3, "What waits", of the program: the number that a session gives, beside a pop of any window.
use Rattle.std.specs.Prelude.{ℕ, ◌≡◌, cond, List, eqb}
use Rattle.rules.specs.Calls.{Made, Pop}
use Rattle.rules.specs.Waiting.{waiting, bit_of}
use Rattle.windows.specs.declared.Session.{Session}
use Rattle.windows.specs.View.{group, Popped, MeetsEvent}
use Rattle.windows.specs.Run.{Run}

-- after every run: n is what a call of `waiting` then gives, and r what a call of `pop` gives in its place. Bit i of n
-- is 1 exactly when the pop answers 0, for every i, also above 15
unfoldable pub ProgramWaits : Type 0
ProgramWaits =
    (c : ℕ) (ms : List Made) (s : Session) → Run c ms s →
    (n : ℕ) → n ≡ waiting (group s) → (i : ℕ) (r : Popped) → MeetsEvent (Pop i) s r →
    bit_of i n ≡ cond (eqb r.answer 0) 1 0
