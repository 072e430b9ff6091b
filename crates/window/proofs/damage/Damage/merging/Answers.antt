-- The first entry that merges is where the rule has it.
use Rattle.std.proofs.Common.{◌≡◌, sym, subst, ◌∙◌, false, get_or, arith}
use borrow.Author.Count.{below_more}
use Rattle.geom.specs.Rect16.{rect_of, no_rect16}
use Rattle.window.specs.Window.{merges}
use Rattle.window.specs.inner.Changes.{MergesAt}
use Rattle.window.proofs.laws.Entries.{none_found, first_found}
use Rattle.window.proofs.damage.Damage.merging.Goals as goal

pub entries-preserved : goal.entries-preserved
entries-preserved c = (
  c.entries.invariant.0,
  omega arith,
  below_more (λ k. merges (rect_of (get_or c.entries-entries.result.now k no_rect16)) c.args.area ≡ false) c.entries.i c.entries.invariant.2
      (sym c.merges.ensures ∙ c.if-merges.false),
)

pub returns-after-entries : goal.returns-after-entries
returns-after-entries c =
    subst (MergesAt c.args.self.now c.args.area) (sym c.entries.invariant.0)
    (none_found c.args.self.now c.requires.0 c.args.area c.entries-entries.result.now c.entries-entries.ensures c.entries.i c.entries.invariant.1
    c.entries.invariant.2 c.entries-test.false)

pub returns-then-merges : goal.returns-then-merges
returns-then-merges c =
    first_found c.args.self.now c.requires.0 c.args.area c.entries-entries.result.now c.entries-entries.ensures c.entries.i c.entries.invariant.1
    c.entries.invariant.2 c.entries-test.true (sym c.merges.ensures ∙ c.if-merges.true)
