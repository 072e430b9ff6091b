-- An empty area or one inside an entry changes nothing; else it merges with an entry or joins the end.
use Rattle.std.proofs.Common.{sym, ◌∙◌}
use Rattle.window.proofs.laws.Entries.{dirty_empty, dirty_inside, dirty_merged, dirty_joined}
use Rattle.window.proofs.damage.Damage.add.Goals as goal
use Rattle.window.proofs.damage.Damage.add.Goals.{then-is_empty-via-then-is_empty, then-is_empty-via-else-is_empty+then-contains}

pub returns-then-is_empty : goal.returns-then-is_empty
returns-then-is_empty c =
    let a = c.args in
    elim c.then-is_empty.branch [
      | then-is_empty-via-then-is_empty w ↦ dirty_empty a.w a.h a.self.now a.area c.requires.0 (sym c.is_empty.ensures ∙ w.if-is_empty.true)
      | then-is_empty-via-else-is_empty+then-contains w ↦
          dirty_inside a.w a.h a.self.now a.area c.requires.0 (sym c.is_empty.ensures ∙ w.if-is_empty.false) (sym w.contains.ensures ∙ w.if-contains.true)
    ]

pub returns-in-Some : goal.returns-in-Some
returns-in-Some c =
    let a = c.args in
    dirty_merged a.w a.h a.self.now a.area c.requires.0 (sym c.is_empty.ensures ∙ c.if-is_empty.false)
    (sym c.contains.ensures ∙ c.if-contains.false) c.in-Some.i c.in-Some.ensures c.requires.1 c.joined-both.result c.joined-both.ensures

pub returns-in-None : goal.returns-in-None
returns-in-None c =
    let a = c.args in
    dirty_joined a.w a.h a.self.now a.area c.requires.0 (sym c.is_empty.ensures ∙ c.if-is_empty.false)
    (sym c.contains.ensures ∙ c.if-contains.false) c.in-None.ensures c.append.new.self c.append.ensures
