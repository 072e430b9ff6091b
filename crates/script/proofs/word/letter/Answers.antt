-- The letter is taken, or the line is malformed.
use Rattle.std.proofs.Common.{sym}
use Rattle.script.proofs.laws.Steps.{word_full, word_longer}
use Rattle.script.proofs.word.letter.Goals as goal

pub returns-then-at-ge-LETTERS : goal.returns-then-at-ge-LETTERS
returns-then-at-ge-LETTERS c =
    let a = c.args in
    λ ns name.
    sym (word_full a.word.now a.at a.b c.requires c.if-at-ge-LETTERS.true)

pub returns : goal.returns
returns c =
    let a = c.args in
    λ ns name.
    word_longer a.word.now a.at a.b c.requires c.if-at-ge-LETTERS.false
