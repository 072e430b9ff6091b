-- Parts drawn one after the other.
use Rattle.std.proofs.Common.{◌+◌, ◌*◌, ◌≤◌, ◌≡◌, sym, ap, subst, ◌∙◌, List, [], ◌∷◌, map, length}
use Rattle.std.specs.List.{FoldsTo}
use Rattle.geom.specs.declared.Rect.{Rect}
use Rattle.geom.specs.inner.Fits.{Within}
use Rattle.geom.specs.Lists.{outside_all, relative, list_intersect}
use Rattle.geom.proofs.basics.Lists.{All, all_imp}
use Rattle.geom.proofs.geometry.Pieces.{left_within}
use Rattle.rules.specs.inner.Lent.{AllFit}
use Rattle.visible.specs.declared.draw.Drawing.{Drawing}
use Rattle.visible.specs.inner.Seen.{Drawable, seen, regions, drawn}
use Rattle.visible.specs.inner.Visits.{CanDraw, Draws}
use Rattle.visible.specs.inner.Walk.{Walkable}
use Rattle.visible.proofs.laws.Depth.{outside_all_end}
use Rattle.visible.proofs.laws.Parts.{within_trans}
use Rattle.visible.proofs.laws.Regions.{regions_append, regions_none, drawn_append, drawn_none}

-- what is drawn of the parts in turn
pub record Drawn (s : Drawing) (rs : List Rect) (t : Drawing) : Type 0 where
  pub same : t.screen.ghost_name ≡ s.screen.ghost_name
  pub screen : t.screen.now ≡ drawn s.view s.store.now (regions s.view.at rs [] s.dirty.now) s.screen.now

pub all_drawn : (rs : List Rect) (s t : Drawing) → FoldsTo Draws s rs t → Drawn s rs t
all_drawn [] s t e = record {
  same = ap (λ (u : Drawing). u.screen.ghost_name) (sym e);
  screen =
      ap (λ (u : Drawing). u.screen.now) (sym e)
      ∙ sym (drawn_none s.view s.store.now s.screen.now)
      ∙ sym (ap (λ (qs : List Rect). drawn s.view s.store.now qs s.screen.now) (regions_none s.view.at [] s.dirty.now));
}
all_drawn (r ∷ rs) s t e =
    let u = e.0 in
    let d = e.1 in
    let w = all_drawn rs u t e.2 in
    let first = regions s.view.at (r ∷ []) [] s.dirty.now in
    let rest = regions s.view.at rs [] s.dirty.now in
    record {
      same = w.same ∙ d.same;
      screen =
          w.screen
          ∙ (λ i. drawn (d.view i) (d.store i) (regions (d.view i).at rs [] (d.dirty i)) (d.screen i))
          ∙ sym (drawn_append s.view s.store.now first rest s.screen.now)
          ∙ sym (ap (λ (qs : List Rect). drawn s.view s.store.now qs s.screen.now) (regions_append s.view.at [] s.dirty.now (r ∷ []) rs));
    }

can_draw : (rs : List Rect) (s : Drawing) → Drawable s.view s.store.now s.screen.now → AllFit s.dirty.now → All (Within s.view.at) rs → Walkable CanDraw Draws s rs
can_draw [] s d f w = tt
can_draw (r ∷ rs) s d f w = (
  record { drawable = d; within = w.0; fit = f },
  λ t e. can_draw rs t (kept t e) (subst AllFit (sym e.dirty) f) (subst (λ v. All (Within v.at) rs) (sym e.view) w.1),
)
  where
    kept : (t : Drawing) → Draws s r t → Drawable t.view t.store.now t.screen.now
    kept t e =
        subst (λ v. Drawable v t.store.now t.screen.now) (sym e.view)
        (record {
          at = d.at;
          pixels = subst (λ l. s.view.base + s.view.at.dims.w * s.view.at.dims.h ≤ length l) (sym e.store) d.pixels;
          sw≤ = d.sw≤;
          sh≤ = d.sh≤;
          size = e.size ∙ d.size;
        })

-- of a part of the window
module _ (s : Drawing) (part : Rect) (bs : List Rect) where
  pub can_draw_seen : Drawable s.view s.store.now s.screen.now → AllFit s.dirty.now → Within s.view.at part
      → Walkable CanDraw Draws s (outside_all (part ∷ []) bs)
  can_draw_seen d f w =
      can_draw (outside_all (part ∷ []) bs) s d f
      (all_imp (Within part) (Within s.view.at) (λ r. within_trans s.view.at part r w) (outside_all (part ∷ []) bs) (left_within part bs))

pub seen_regions : (at part : Rect) (bs ds : List Rect) → regions at (outside_all (part ∷ []) bs) [] ds ≡ regions at (part ∷ []) bs ds
unfolding regions seen
seen_regions at part bs ds = ap (λ (rs : List Rect). list_intersect (map (relative at) rs) ds) (outside_all_end (outside_all (part ∷ []) bs))
