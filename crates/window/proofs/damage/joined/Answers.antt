-- Both fit, so they are united; the union's numbers fit 16 bits, and the area holds them.
use Rattle.std.proofs.Common.{◌≡◌, sym, ap, subst, ◌∙◌, arith, Result}
use Rattle.geom.specs.declared.Rect.{Rect}
use Rattle.geom.specs.declared.refusal.Refusal.{Refusal}
use Rattle.geom.specs.Geom.{union}
use Rattle.geom.specs.Rect16.{rect_of}
use Rattle.geom.specs.Bare.{united_of}
use Rattle.geom.proofs.geometry.Answers.{union_is}
use Rattle.geom.proofs.geometry.Facts.{small_fits}
use Rattle.window.specs.Represents.{Low}
use Rattle.window.proofs.laws.Entries.{low_fits, low_union}
use Rattle.window.proofs.damage.joined.Goals as goal

is_union : (c : goal.After-unwrap-u) → c.unwrap-u.result ≡ union (rect_of c.args.entry) c.args.area
is_union c =
    ap (λ (r : Result Rect Refusal). (united_of r).rect) (sym c.unwrap-u.ensures)
    ∙ union_is (low_fits _ c.requires.0, small_fits _ c.requires.1) (rw c.rect.ensures at c.union.ensures)

pub new-requires : goal.new-requires
new-requires c =
    let low : Low c.unwrap-u.result = subst Low (sym (is_union c)) (low_union _ _ c.requires.0 c.requires.1) in
    omega arith
