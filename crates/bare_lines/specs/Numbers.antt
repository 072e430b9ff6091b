-- The numbers of a line as the library's calls take them.
use Rattle.std.specs.Prelude.{ℕ, ◌+◌, ◌*◌, List, get_or, Float}
use Rattle.std.specs.Float.{binary64}
use Rattle.std.specs.Float.Ieee.{of_bits}
use Rattle.geom.specs.declared.Rect.{Rect}
use Rattle.geom.specs.Geom.{rect}
use Rattle.script.specs.declared.shape.Line.{Line}
use Rattle.script.specs.Kind.{code_of}
use Rattle.script.specs.Script.{Shaped}

-- the numbers are those of the line
abbrev pub Sound : Line → List ℕ → Type 0
Sound l ns = Shaped (code_of l.kind) l.count l.name ns

abbrev pub num : List ℕ → ℕ → ℕ
num ns i = get_or ns i 0

-- the window that a line names: its first number, whatever it is
abbrev pub id_of : List ℕ → ℕ
id_of ns = num ns 0

-- the rectangle of the four numbers from place i on
abbrev pub rect_at : List ℕ → ℕ → Rect
rect_at ns i = rect (num ns i) (num ns (i + 1)) (num ns (i + 2)) (num ns (i + 3))

-- "its corner x, y and its factor each as the upper and lower 32 bits of an f64"
abbrev pub float_of : ℕ → ℕ → Float
float_of high low = of_bits binary64 (high * 4294967296 + low)
