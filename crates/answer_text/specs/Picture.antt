-- "a binary PPM (`P6`, 255; red, green, blue from bits 16 to 23, 8 to 15, 0 to 7)"
use Rattle.std.specs.Prelude.{ℕ, ◌/◌, ◌%◌, List, [], ◌∷◌, ◌++◌}
use Rattle.answer_text.specs.Text.{said, first, number, sign, end}

-- `P6`, the width and the height on a line, and 255
abbrev pub header : ℕ → ℕ → List ℕ
header w h = said (sign 80 ∷ sign 54 ∷ end ∷ first w ∷ number h ∷ end ∷ first 255 ∷ end ∷ [])

-- three bytes for each pixel
abbrev pub colours : List ℕ → List ℕ
colours [] = []
colours (v ∷ vs) = v / 65536 % 256 ∷ v / 256 % 256 ∷ v % 256 ∷ colours vs

abbrev pub picture : ℕ → ℕ → List ℕ → List ℕ
picture w h pixels = header w h ++ colours pixels
