-- The first window that is not in use becomes a new one; where all are in use, no id is left.
use mathlib.Core.Path.{sym, ap, ◌∙◌}
use Rattle.std.proofs.Common.{rules}
use Rattle.geom.specs.Refusals.{option_of}
use Rattle.windows.proofs.laws.Created.{first_is, full, created}
use Rattle.windows.proofs.Session.create.Goals as goal

pub returns-in_default : goal.returns-in_default
returns-in_default c = full _ c.requires (sym (first_is _) ∙ ap option_of (sym c.first_free.ensures ∙ c.in_default.is))

pub returns : goal.returns
returns c =
    rw c.renew.ensures
    (created _ _ c.in-Some.at c.requires (sym (first_is _) ∙ ap option_of (sym c.first_free.ensures ∙ c.in-Some.is)) (c.requires.rep.each _ (search rules)))
