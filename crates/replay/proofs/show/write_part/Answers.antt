-- The pixels of the part.
use Rattle.std.proofs.Common.{ℕ, ◌+◌, ◌-◌, ◌≡◌, ap, arith, take, drop}
use Rattle.answer_text.specs.Text.{line, numbers}
use Rattle.replay.proofs.laws.Nexts.{retold}
use Rattle.replay.proofs.show.write_part.Goals as goal

pub returns : goal.returns
returns c =
    let a = c.args in
    let size : a.from + a.n - a.from ≡ a.n = omega arith in
    retold (ap (λ (k : ℕ). line 0 (numbers (take k (drop a.from a.pixels.now)))) size) c.write_pixels.ensures
