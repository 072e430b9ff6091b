-- The target of ones is lent to the look, and its front is written.
use Rattle.std.proofs.Common.{take}
use Rattle.script.specs.Kind.{code_of}
use Rattle.windows.specs.View.{group}
use Rattle.replay.specs.Ready.{untargeted}
use Rattle.replay.proofs.laws.Nexts.{tells, retold, untargeted_ready}
use Rattle.replay.proofs.laws.Shows.{look_told}
use Rattle.replay.proofs.looks.looked.Goals as goal

pub returns : goal.returns
returns c =
    let p = c.args.p.now in
    tells (untargeted p) (untargeted_ready c.requires.0)
    (retold
    (look_told (group p.session) (code_of c.args.k) c.args.ns.now (take p.lent c.args.store.now) c.args.len 65536 4294967295
    _ _ _ c.ones-target.ensures c.requires.1 c.look_at-answer.auto.target c.look_at-answer.ensures)
    c.write_target.ensures)
