-- So far the display kept is the closest of those passed.
use Rattle.std.proofs.Common.{ℕ, ◌<◌, ◌≡◌, ◌∙◌, List, length, get_or, sym, ap, subst}
use Rattle.geom.specs.declared.Pos.{Pos}
use Rattle.geom.specs.declared.Rect.{Rect}
use Rattle.geom.specs.declared.inner.rect16.Rect16.{Rect16}
use Rattle.geom.specs.Nearest.{nearest_x, nearest_y, distance²}
use Rattle.geom.specs.Displays.{away²}
use Rattle.geom.specs.Rect16.{rect_of, no_rect16}
use Rattle.display.specs.Represents.{OnScreen}
use Rattle.display.proofs.laws.Regions.{each_on}
use Rattle.display.proofs.laws.Search.{near_enough, is_nearer, not_nearer}
use Rattle.display.proofs.Displays.closest.Goals as goal
use Rattle.display.proofs.Displays.closest.Goals.{then-new_dist-dist, else-new_dist-dist}

-- how far the display s is, whose nearest pixel is q
measured : (p : Pos) {r s : Rect} {q : Pos} {m : ℕ} → r ≡ s → (q.x ≡ nearest_x r p.x) × (q.y ≡ nearest_y r p.y)
    → m ≡ distance² p.x p.y q.x q.y → m ≡ away² s p.x p.y
unfolding away²
measured p e n d =
    let x = n.0 ∙ ap (λ (t : Rect). nearest_x t p.x) e in
    let y = n.1 ∙ ap (λ (t : Rect). nearest_y t p.y) e in
    d ∙ (λ i. distance² p.x p.y (x i) (y i))

pub loop-area-preserved : goal.loop-area-preserved
loop-area-preserved c =
    let a = c.args in
    let l = c.present-areas.result.now in
    let i = c.loop-area.area-index in
    let r : Rect = rect_of (get_or l i no_rect16) in
    let e : c.dist_sq-new_dist.result ≡ away² r a.pos.x a.pos.y = measured a.pos c.rect.ensures c.clamp_pos.ensures c.dist_sq-new_dist.ensures in
    let on : OnScreen r =
    subst (λ (m : List Rect16). i < length m → OnScreen (rect_of (get_or m i no_rect16))) (sym c.present-areas.ensures)
    (each_on a.self.now c.requires.0 i) c.loop-area-test.true in
    elim c.if-new_dist-dist.branch [
      | then-new_dist-dist w ↦ rw (w.dist-is, w.near-is) (is_nearer c.loop-area.invariant c.loop-area-test.true _ e w.if-new_dist-dist.true)
      | else-new_dist-dist w ↦ rw (w.dist-is, w.near-is)
          (not_nearer c.loop-area.invariant c.loop-area-test.true _ e (near_enough r a.pos.x a.pos.y on c.requires.1 c.requires.2) w.if-new_dist-dist.false)
    ]
