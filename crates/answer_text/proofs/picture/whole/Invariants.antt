-- What is written and the colours of the pixels that are left make up the picture.
use Rattle.std.proofs.Common.{◌≡◌, ℕ, List, ◌++◌}
use Rattle.std.specs.Io.KnownBytes.{Appends}
use Rattle.std.specs.Slice.Iter.{chunks_rest, chunks_size}
use Rattle.answer_text.specs.Picture.{colours, picture}
use Rattle.answer_text.proofs.picture.whole.Given as goal

abbrev pub invariant-loop-next : goal.invariant-loop-next
invariant-loop-next g l =
    (goal.iterator-loop-next g).can_next l.next-iterator
    × (goal.iterator-loop-next g).is_finite l.next-iterator
    × (chunks_size l.next-iterator ≡ 21845)
    × (done : List ℕ) × Appends (g.W.Write.contents l.fn.file) (g.W.Write.contents l.file) done
    × (done ++ colours (chunks_rest l.next-iterator) ≡ picture l.fn.w l.fn.h l.fn.pixels)
