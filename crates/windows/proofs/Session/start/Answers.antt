-- Question 2, and a fresh session of the C that it leaves.
use Rattle.std.specs.Prelude.{ℕ, ◌≡◌, not, []}
use mathlib.Core.Path.{ap, ◌∙◌}
use Rattle.rules.specs.Group as Rule
use Rattle.rules.specs.Calls.{run, after}
use Rattle.windows.specs.declared.Session.{Session}
use Rattle.windows.specs.View.{group, Rep, Starts, done}
use Rattle.windows.proofs.laws.Asked.{passed, failed}
use Rattle.windows.proofs.Session.start.Goals as goal

-- the code's C and answer, where they are the rule's
starts : (c n a : ℕ) (s : Session) → (group s ≡ Rule.fresh n) × Rep s → a ≡ (Rule.start c).answer → Rule.fresh n ≡ (Rule.start c).group → Starts c (done s a)
unfolding after run
starts c n a s b e f =
    record { answer = e; after = b.0 ∙ f; given = record { rep = b.1; c = c; calls = []; reached = b.0 ∙ f } }

pub returns-then-not-allowed_c : goal.returns-then-not-allowed_c
returns-then-not-allowed_c c =
    let e = failed c.allowed_c.ensures (ap not c.if-not-allowed_c.true) in
    starts _ 1 2 _ c.fresh.ensures (rw e) (rw e)

pub returns : goal.returns
returns c =
    let e = passed c.allowed_c.ensures (ap not c.if-not-allowed_c.false) in
    starts _ _ 0 _ c.fresh-2.ensures (rw e) (rw e)
