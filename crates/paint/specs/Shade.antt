-- Document 02, "Dimming": a pixel read through the table.
use Rattle.std.specs.Prelude.{ℕ, ◌+◌, ◌*◌, ◌/◌, ◌%◌, Bool, cond}

-- "a fixed table of 256 entries, entry i being (i·i+127) divided by 255, rounded down"
unfoldable pub entry : ℕ → ℕ
entry i = (i * i + 127) / 255

-- "red, green and blue (bits 16 to 23, 8 to 15, 0 to 7) of each pixel … go through a fixed table"; "The top byte passes through."
unfoldable pub shade : ℕ → ℕ
shade v = v / 16777216 * 16777216 + entry (v / 65536 % 256) * 65536 + entry (v / 256 % 256) * 256 + entry (v % 256)

-- "With dimming on": a pixel as a redraw or portion writes it
abbrev pub tone : Bool → ℕ → ℕ
tone dim v = cond dim (shade v) v
