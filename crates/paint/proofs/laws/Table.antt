-- The rule of the table of dimming is a test at each of its 256 entries, which is computed.
use Rattle.std.proofs.Common.{ℕ, ◌≡◌, Bool, true, List, arith, eqb, length, eqb-true}
use Rattle.geom.proofs.basics.Tables.{every, at}
use Rattle.paint.specs.Shade.{entry}
use Rattle.paint.specs.inner.Table.{Entries}

-- the entry at place i is x
abbrev pub right : ℕ → ℕ → Bool
right i x = eqb x (entry i)

-- the test at all entries is the rule at each
pub entries : (table : List ℕ) → length table ≡ 256 → every right 0 table ≡ true → Entries table
entries table n t = record { rule = λ i h. eqb-true _ _ (at 0 right table t i (omega arith)) }
