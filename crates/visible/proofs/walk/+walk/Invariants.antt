-- Each call goes on with the rectangles behind the one that split the part.
use Rattle.std.proofs.Common.{length}
use Rattle.visible.proofs.walk.+walk.Given as goal

abbrev pub decreases-walk : goal.decreases-walk
decreases-walk g l = length l.rects.now
