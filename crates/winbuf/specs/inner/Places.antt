-- What the code finds out before it takes or writes a part of lent pixels.
use Rattle.std.specs.Prelude.{ℕ, cond, Option, Some, None, Result, Ok, Err}
use Rattle.geom.specs.declared.refusal.Refusal.{Refusal}
use Rattle.geom.specs.declared.refusal.Refusal.TheVariants.{TooLarge, OutsidePixels}
use Rattle.winbuf.specs.declared.inner.place.Part.{Part}
use Rattle.winbuf.specs.Pixels.{line_start, line_length, small_line, on_line, in_slice}

-- where a scanline lies, of so many pixels; none beside the picture
abbrev pub line_place : ℕ → ℕ → ℕ → ℕ → ℕ → ℕ → Result (Option Part) Refusal
line_place total w h line ofs len =
    cond (small_line w h line ofs len)
    (cond (on_line w h line ofs)
    (cond (in_slice total w line ofs len)
    (Ok (Some (record { start = line_start w line ofs; count = line_length w ofs len })))
    (Err OutsidePixels))
    (Ok None))
    (Err TooLarge)
