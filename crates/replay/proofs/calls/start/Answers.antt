-- A store for C is one that the program can lend, or the start is refused and C is 1; between the two the line is beyond its limits.
use Rattle.std.proofs.Common.{ℕ, refl, [], List}
use Rattle.rules.specs.Group.{start}
use Rattle.script.specs.Kind as Kind
use Rattle.answer_text.specs.Text.{line}
use Rattle.bare_lines.specs.Numbers.{num}
use Rattle.replay.specs.declared.player.Player.{Player}
use Rattle.replay.specs.Played.{Begins, PlaysAt, no_start, starts}
use Rattle.replay.proofs.laws.Nexts.{tells, beyond_at}
use Rattle.replay.proofs.calls.start.Goals as goal

begun_at : {ns : List ℕ} {p r : Player} → Begins (num ns 0) p r → PlaysAt Kind.start ns p r
begun_at {ns} h = λ l a e. record { text = line (start (num ns 0)).answer []; plays = starts e refl h refl }

pub returns-then-c-le1048576 : goal.returns-then-c-le1048576
returns-then-c-le1048576 c =
    beyond_at (no_start refl c.if-c-gt384000.true c.if-c-le1048576.true) (tells c.args.p.now c.requires c.refused.ensures)

pub returns : goal.returns
returns c = begun_at c.started.ensures
