-- The search is that of the tables.
use Rattle.std.proofs.Common.{rules, tests}
use Rattle.std.proofs.lemmas.Iterator.{YieldsList-from_slice}
use Rattle.std.proofs.lemmas.Iterator.Search.{find_from_yields_List}
use denote.Enum.Bare.{sameb}
use Rattle.script.specs.contracts.kind.Kind.{the_type}
use Rattle.script.proofs.laws.Kinds.{row_found, too_few, enough}
use Rattle.script.proofs.table.fits.Goals as goal

pub returns-then-row-count : goal.returns-then-row-count
returns-then-row-count c =
    let a = c.args in
    let f = find_from_yields_List (λ r. sameb the_type a.kind r.1) _ _ _ c.find.ensures.ran (YieldsList-from_slice a.rows.now cc) (λ x b q k. search (rules, tests)) in
    enough a.kind a.rows.now a.count _ (rw c.in-Some.is at f) c.if-row-count.true

pub returns-else-row-count : goal.returns-else-row-count
returns-else-row-count c =
    let a = c.args in
    let f = find_from_yields_List (λ r. sameb the_type a.kind r.1) _ _ _ c.find.ensures.ran (YieldsList-from_slice a.rows.now cc) (λ x b q k. search (rules, tests)) in
    too_few a.kind a.rows.now a.count _ (rw c.in-Some.is at f) c.if-row-count.false

pub returns-in-None : goal.returns-in-None
returns-in-None c =
    let a = c.args in
    let f = find_from_yields_List (λ r. sameb the_type a.kind r.1) _ _ _ c.find.ensures.ran (YieldsList-from_slice a.rows.now cc) (λ x b q k. search (rules, tests)) in
    row_found a.kind a.rows.now a.count _ (rw c.in-None.is at f)
