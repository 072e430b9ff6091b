-- The pixels come behind the data.
use Rattle.std.proofs.Common.{subst, ◌≡◌, ◌+◌, ◌-◌, length, take, drop}
use Rattle.bare_lines.specs.Numbers.{num}
use Rattle.bare_lines.specs.Told.{from}
use Rattle.bare_lines.proofs.laws.Parts.{written, split_values, split_rest}
use Rattle.winbuf.specs.Pixels.{Write, set_scanline}
use Rattle.winbuf.specs.Bare.{Gives, altered_of}
use Rattle.bare_lines.proofs.pixels.set_scanline.Goals as goal

pub returns : goal.returns
returns c =
    let ns = c.args.ns.now in
    let k = num ns 5 in
    let s = c.scan_of-s.ensures in
    let pixels = split_rest ns c.split_at_mut-head.result.1.now (6 + k) c.split_at_mut-head.ensures.back in
    let values = split_values ns c.split_at_mut-head.result.0.now k c.requires c.split_at_mut-head.ensures.front in
    let h = c.scan_of-s.result in
    let values_of = take (length c.split_at_mut-head.result.0.now - 6) (drop 6 c.split_at_mut-head.result.0.now) in
    let rule : set_scanline c.split_at_mut-head.result.1.now h.w h.h h.line h.ofs h.len values_of
    ≡ set_scanline (from (6 + k) (length ns) ns) (num ns 0) (num ns 1) (num ns 2) (num ns 3) (num ns 4) (take k (drop 6 ns)) =
    λ i. set_scanline (pixels i) (s i).w (s i).h (s i).line (s i).ofs (s i).len (values i) in
    written c.set_scanline-altered.result
    (subst (λ (x : Write). Gives x (altered_of c.set_scanline-altered.result) c.set_scanline-altered.new.pixels) rule c.set_scanline-altered.ensures)
    c.write_altered.ensures
