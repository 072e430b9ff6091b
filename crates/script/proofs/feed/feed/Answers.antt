-- A comment, and a malformed line.
use Rattle.std.proofs.Common.{inl, inr}
use Rattle.script.proofs.laws.Steps.{stays}
use Rattle.script.proofs.feed.feed.Goals as goal

pub returns-in-InComment : goal.returns-in-InComment
returns-in-InComment c = elim c.in-InComment.is [ inl e ↦ rw e (stays c.args.b).0 | inr e ↦ rw e (stays c.args.b).1 ]
