-- What was scanned is the one sheet of the pixels seen, so that its bits are the answer. Its numbers alone are handed on.
use Rattle.std.proofs.Common.{ℕ, ◌<◌, ◌≡◌, sym, subst, ◌∙◌, List, get_or, take, get_or-take, length-take-le, arith}
use Rattle.geom.specs.Refusals.{listing_of}
use Rattle.sheet.specs.Sheet.{Sheet}
use Rattle.sheet.specs.inner.Numbers.{end_in}
use Rattle.sheet.specs.inner.Writer.{Writes}
use Rattle.sheet.proofs.laws.Numbers.{bands_kept, end_kept}
use Rattle.bands.proofs.laws.Scans.{scanned_sheet, same_seen}
use Rattle.bands.proofs.write.Goals as goal

-- the numbers of the bands stand in the slice
kept : (nums : List ℕ) (n end : ℕ) → end ≡ end_in nums 0 n → (i : ℕ) → i < end_in nums 0 n → get_or (take end nums) i 0 ≡ get_or nums i 0
kept nums n end e i h = get_or-take end nums i 0 (omega arith)

pub write-requires : goal.write-requires
write-requires c =
    let m = c.scan-made.result in
    let nums = c.scan-made.new.nums in
    let s = c.scan-made.ensures in
    let size = length-take-le m.end nums (omega (arith, s.room, s.few, s.size)) in
    (omega (arith, s.few), size ∙ s.end ∙ sym (end_kept nums (take m.end nums) m.bands (kept nums m.bands m.end s.end)), omega (arith, size, s.room, s.few))

pub returns : goal.returns
returns c =
    let m = c.scan-made.result in
    let nums = c.scan-made.new.nums in
    let s = c.scan-made.ensures in
    let bs = c.sort.new.sorted in
    subst (λ (z : Sheet). Writes z c.args.out.now (listing_of c.write.result) c.write.new.out)
    (bands_kept nums (take m.end nums) m.bands (kept nums m.bands m.end s.end)
    ∙ scanned_sheet c.args.at bs m nums s
    ∙ same_seen c.args.at bs c.args.above.now c.sort.ensures.same)
    c.write.ensures
