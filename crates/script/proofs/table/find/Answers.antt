-- The search is that of the tables.
use Rattle.std.proofs.Common.{rules, tests, eqb}
use Rattle.std.proofs.lemmas.Iterator.{YieldsList-from_slice}
use Rattle.std.proofs.lemmas.Iterator.Search.{find_from_yields_List}
use lib.Pointwise.{pointwise}
use Rattle.script.proofs.laws.Kinds.{word_found}
use Rattle.script.proofs.table.find.Goals as goal

pub returns-in-Some : goal.returns-in-Some
returns-in-Some c =
    let a = c.args in
    let f = find_from_yields_List (λ r. pointwise eqb a.word.now r.0.now) _ _ _ c.find.ensures.ran (YieldsList-from_slice a.rows.now cc) (λ x b q k. search (rules, tests)) in
    word_found a.word.now a.rows.now _ (rw c.in-Some.is at f)

pub returns-in-None : goal.returns-in-None
returns-in-None c =
    let a = c.args in
    let f = find_from_yields_List (λ r. pointwise eqb a.word.now r.0.now) _ _ _ c.find.ensures.ran (YieldsList-from_slice a.rows.now cc) (λ x b q k. search (rules, tests)) in
    word_found a.word.now a.rows.now _ (rw c.in-None.is at f)
