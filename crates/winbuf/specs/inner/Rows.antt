-- What `resize_rows` says beside the rule of a resize: a window's rows at a new size.
use Rattle.std.specs.Prelude.{ℕ, ◌*◌, min, List, replicate}
use Rattle.scanline.specs.Pixels.{write_rows, part}

-- a window's own c pixels after it went from w0 by h0 to w1 by h1: `resized_at` without the store around them
unfoldable pub resized : ℕ → ℕ → ℕ → ℕ → ℕ → List ℕ → List ℕ
resized c w0 h0 w1 h1 s = write_rows (min h1 h0) (λ r. r * w1) (λ r. part (r * w0) (min w1 w0) s) (replicate c 0)
