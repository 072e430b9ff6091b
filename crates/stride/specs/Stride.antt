-- What a picture with a stride has: rows, and regions. "`StrideBuf`, which refers to the pixels of its maker, comes after the
-- same thing over a slice and a stride."
use Rattle.std.specs.Prelude.{ℕ, ◌+◌, ◌-◌, ◌/◌, cond, List, eqb, Result}
use Rattle.std.specs.Borrow.{Bor}
use Rattle.geom.specs.declared.refusal.Refusal.{Refusal}
use Rattle.winbuf.specs.Pixels.{region}
use Rattle.winbuf.specs.Bare.{Hands, region_start}
use Rattle.stride.specs.declared.StrideBuf.{StrideBuf}

-- as the Rust's `count`, `(self.buf.len() + self.stride - 1) / self.stride`: the whole strides, and one row for a shorter tail.
-- With stride 0, where the Rust divides by 0, there is no row.
abbrev pub row_count : ℕ → ℕ → ℕ
row_count total stride = cond (eqb stride 0) 0 ((total + stride - 1) / stride)

-- "the same thing over a slice and a stride": r is what the bare `region` over its pixels and its stride hands back, the answer and
-- the part, and the part's memory is the maker's
abbrev pub HandsRegion : StrideBuf → ℕ → ℕ → ℕ → ℕ → Result (Bor (List ℕ)) Refusal → Type 0
HandsRegion b x y w h r = Hands (region b.pixels.now b.stride x y w h) (region_start b.stride x y) b.pixels r
