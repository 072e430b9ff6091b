-- The rows that are held are those of the tables.
use Rattle.std.proofs.Common.{ap, ◌∙◌, take}
use Rattle.script.specs.Script.{kind_of, kind_in, table}
use Rattle.script.proofs.laws.Kinds.{take_min}
use Rattle.script.proofs.table.kind_of.Goals as goal

pub returns : goal.returns
unfolding kind_of table
returns c =
    c.find.ensures
    ∙ ap (λ w. kind_in w table) (ap (λ n. take n c.args.word.now) c.min.ensures ∙ take_min c.args.letters c.args.word.now)
