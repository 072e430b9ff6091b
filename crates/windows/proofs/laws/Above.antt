-- The rectangles of the windows from a place on: by the rule, and as the frames give them; and what is seen of a window under those.
use Prim.Native.Nat.{ℕ, suc, ◌+◌}
use mathlib.Core.Path.{◌≡◌, refl, sym, ap, ◌∙◌}
use mathlib.Core.Bool.{true}
use mathlib.Core.List.{List, [], ◌∷◌, map}
use native.Mathlib.Omega.{arith}
use lib.ListN.{take, drop}
use Rattle.geom.specs.declared.Rect.{Rect}
use Rattle.geom.specs.Lists.{outside_all, relative}
use Rattle.geom.specs.Rect16.{rect_of}
use Rattle.window.specs.declared.ids.WinId.{WinId}
use Rattle.window.specs.Window.{Win}
use Rattle.order.specs.Ids.{num, nums}
use Rattle.rules.specs.Group.{Group, win}
use Rattle.rules.specs.Order.{shown, above}
use Rattle.rules.specs.Visible.{visible}
use Rattle.order.specs.declared.frames.Frames.{Frames}
use Rattle.order.specs.inner.Frames.{frame_at}
use Rattle.order.proofs.laws.Order.{drop_map}
use Rattle.order.proofs.laws.Above.{frames_from}
use Rattle.windows.specs.declared.Session.{Session}
use Rattle.windows.specs.View.{group, window_at, Given}
use Rattle.windows.specs.inner.Frames.{Framed}
use Rattle.windows.proofs.laws.Session.{win_at_lem}
use Rattle.windows.proofs.laws.Frames.{Agrees, agrees_map, frames_agree, shown_used}

abbrev pub higher : Session → ℕ → List Rect
higher s p = map (λ i. (win (group s) i).at) (drop p (group s).order)

pub higher_next : (s : Session) (p : ℕ) → higher s (p + 1) ≡ higher s (suc p)
higher_next s p = let e : p + 1 ≡ suc p = omega arith in ap (higher s) e

pub frames_higher : (s : Session) (h : Given s) (f : Frames) → Framed s 16 f → (p : ℕ)
    → frames_from f.areas s.shared.order s.shared.shown p ≡ higher s p
unfolding group
frames_higher s h f is p =
    sym (drop_map p (frame_at f.areas) (group s).order)
    ∙ ap (drop p) (agrees_map (group s) (frame_at f.areas) (group s).order (frames_agree s h f is))
    ∙ drop_map p (λ i. (win (group s) i).at) (group s).order

-- where the windows lie, each read where it is
abbrev pub lies : Session → ℕ → Rect
lies s i = rect_of (window_at s i).at

-- of the windows of the order
lies_all : (s : Session) → (l : List WinId) → map (λ v. lies s v.0) l ≡ map (lies s) (nums l)
lies_all s [] = refl
lies_all s (v ∷ l) = ap (λ (rs : List Rect). lies s v.0 ∷ rs) (lies_all s l)

pub lies_higher : (s : Session) → Given s → (p : ℕ) → map (λ v. lies s v.0) (drop p (take s.shared.shown s.shared.order)) ≡ higher s p
unfolding group
lies_higher s h p =
    let agrees : Agrees (group s) (lies s) (group s).order =
    λ i e. let u = shown_used s i h e in sym (ap (λ (w : Win). w.at) (win_at_lem s i u.1)) in
    lies_all s (drop p (take s.shared.shown s.shared.order))
    ∙ ap (map (lies s)) (sym (drop_map p num (take s.shared.shown s.shared.order)))
    ∙ sym (drop_map p (lies s) (group s).order)
    ∙ ap (drop p) (agrees_map (group s) (lies s) (group s).order agrees)
    ∙ drop_map p (λ i. (win (group s) i).at) (group s).order

-- the rule's list of a shown window at r under bs
pub visible_is : (g : Group) (id : ℕ) (r : Rect) (bs : List Rect) → shown g id ≡ true → (win g id).at ≡ r
    → map (λ i. (win g i).at) (above id g.order) ≡ bs → visible g id ≡ map (relative r) (outside_all (r ∷ []) bs)
unfolding visible
visible_is g id r bs y w a = rw (y, w, a)
