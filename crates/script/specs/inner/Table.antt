-- The rows of the tables as the code holds them.
use Rattle.std.specs.Prelude.{ℕ, List, map}
use Rattle.std.specs.Borrow.{Bor}
use Rattle.script.specs.declared.kind.Kind.{Kind}
use Rattle.script.specs.Kind.{code_of}
use Rattle.script.specs.Script.{Row}

-- a word, its kind, how many numbers a line of it has, and how many may follow these
abbrev pub Held : Type 0
Held = Bor (List ℕ) × Kind × ℕ × ℕ

abbrev pub row_of : Held → Row
row_of r = record { word = r.0.now; kind = code_of r.1; numbers = r.2; more = r.3 }

abbrev pub rows_of : List Held → List Row
rows_of = map row_of
