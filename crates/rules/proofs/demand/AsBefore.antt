-- Demand 3 of two undivided redraws with no portion between them, as it was before there were walks.
use Prim.Native.Nat.{ℕ}
use mathlib.Core.Bool.{Bool, true, false, cond, not, ◌&&◌, and-false}
use mathlib.Core.Path.{◌≡◌, refl, ap, ◌∙◌}
use mathlib.Core.List.{List, [], ◌∷◌, ◌++◌}
use mathlib.Core.Option.{none}
use mathlib.Core.Logic.{⊎_elim}
use lib.Dec.{T}
use borrow.Author.Tests.{not-true}
use Rattle.geom.proofs.basics.Tests.{is_true, holds, clash, both, fst, snd}
use Rattle.rules.specs.Group.{Group, start}
use Rattle.rules.specs.Order.{is_in}
use Rattle.rules.specs.Calls.{Call, does, by_rule, accepted, after}
use Rattle.rules.specs.Book.{book_of, topmost}
use Rattle.rules.specs.Conditions.{Drawing, nothing, undivided, portion, deed, Quiet, Sized, is_redraw, no_redraw, is_end, treated, before_last, writes_on, written, wrote, unmarked}
use Rattle.rules.specs.Demand.{pixel_at, expected, left_at, Two}
use Rattle.rules.specs.Portions.{is_drawing, no_drawing, AsBefore}
use Rattle.rules.proofs.group.Kept.{ok_after}
use Rattle.rules.proofs.group.Runs.{written_snoc, last_snoc}
use Rattle.rules.proofs.book.Simulation.{sim_rects}
use Rattle.rules.proofs.screen.State.{sized_call}
use Rattle.rules.proofs.screen.Drawing.{drawing}
use Rattle.rules.proofs.demand.Pixels.{two_pixels}

-- A redraw, and calls that draw nothing ------------------------------------------------------------------------------

redraw_ends : (on : Bool) (x : Drawing) → is_redraw x ≡ true → is_end on x ≡ true
redraw_ends on nothing e = e
redraw_ends on (undivided w h screen) e = refl
redraw_ends on (portion w h screen) e = clash e refl

redraw_treats : (g : Group) (x : Drawing) → is_redraw x ≡ true → treated g x ≡ g.order
redraw_treats g nothing e = clash e refl
redraw_treats g (undivided w h screen) e = refl
redraw_treats g (portion w h screen) e = clash e refl

undrawn : (g : Group) (t : Bool) (x : Drawing) (px py : ℕ) → t && is_drawing x ≡ false → (t && is_redraw x ≡ false) × (t && wrote g x px py ≡ false)
undrawn g false x px py e = (refl, refl)
undrawn g true nothing px py e = (refl, refl)
undrawn g true (undivided w h screen) px py e = clash refl e
undrawn g true (portion w h screen) px py e = clash refl e

module _ (w px py : ℕ) where
  none_drawn : (g : Group) (ks : List Call) (n : ℕ) → no_drawing g ks ≡ true → (no_redraw g ks ≡ true) × (left_at g w px py n (by_rule g ks) ≡ n)
  unfolding no_drawing no_redraw by_rule left_at
  none_drawn g [] n e = (refl, refl)
  none_drawn g (k ∷ ks) n e =
      let t = accepted g k && is_drawing (deed k).draws in
      let u = undrawn g (accepted g k) (deed k).draws px py (not-true t (fst (not t) (no_drawing (does g k).group ks) e)) in
      let r = none_drawn (does g k).group ks n (snd (not t) (no_drawing (does g k).group ks) e) in (
        rw u.0 r.0,
        ap (λ (o : Bool). left_at (does g k).group w px py (cond o (pixel_at (does g k).screen w px py) n) (by_rule (does g k).group ks)) u.1 ∙ r.1,
      )

-- Two redraws --------------------------------------------------------------------------------------------------------

module _ (c w h : ℕ) (ks₁ : List Call) (r₁ : Call) (ks₂ : List Call) (r₂ : Call) where
  abbrev calls : List Call
  calls = ks₁ ++ (r₁ ∷ ks₂)

  abbrev g : Group
  g = after c calls

  module _ (first : accepted (after c ks₁) r₁ && is_redraw (deed r₁).draws ≡ true) (second : accepted g r₂ && is_redraw (deed r₂).draws ≡ true)
      (between : no_drawing (does (after c ks₁) r₁).group ks₂ ≡ true) (quiet : Quiet (start c).group none none (calls ++ (r₂ ∷ [])))
      (sized : Sized w h (start c).group (calls ++ (r₂ ∷ [])))
      (marked : (id : ℕ) → T (is_in id (book_of c calls).order) → unmarked id (start c).group false calls ≡ false) where
    yes : accepted g r₂ ≡ true
    yes = fst (accepted g r₂) _ second

    redraws : is_redraw (deed r₂).draws ≡ true
    redraws = snd (accepted g r₂) _ second

    last : (id : ℕ) → is_in id (book_of c calls).order ≡ true → before_last c id (calls ++ (r₂ ∷ [])) ≡ calls
    last id n =
        let s : is_in id g.order ≡ true = rw (← (sim_rects c calls).same_order_lem) n in
        last_snoc c calls r₂ id ∙ rw (yes, redraw_treats g (deed r₂).draws redraws, s)

    none_since : writes_on (written (start c).group false calls) (deed r₂) ≡ false
    none_since =
        let before : Bool = written (start c).group false calls in
        ⊎_elim (λ n. clash redraws (ap is_redraw n)) (λ f. (f yes (sized_call c w h calls r₂ [] sized yes)).notes before ∙ rw redraws (and-false before))
        (drawing g (ok_after c calls) w h r₂)

    two : (px py : ℕ) → Two c w h ks₁ r₁ ks₂ r₂
    two px py =
        record {
          first = holds (both (fst (accepted (after c ks₁) r₁) _ first) (redraw_ends _ (deed r₁).draws (snd (accepted (after c ks₁) r₁) _ first)));
          second = record {
            ended = holds (both yes (redraw_ends _ (deed r₂).draws redraws));
            quiet = quiet;
            sized = sized;
            marked = λ id n. ap (λ (l : List Call). unmarked id (start c).group false l) (last id (is_true n)) ∙ marked id n;
          };
          between = holds (none_drawn w px py (does (after c ks₁) r₁).group ks₂ 0 between).0;
          unwritten = written_snoc c calls r₂ ∙ rw yes none_since;
        }

pub as_before : AsBefore
unfolding AsBefore
as_before c w h ks₁ r₁ ks₂ r₂ first second between quiet sized marked px py hx hy =
    two_pixels c w h ks₁ r₁ ks₂ r₂ (two c w h ks₁ r₁ ks₂ r₂ (is_true first) (is_true second) (is_true between) quiet sized marked px py) px py hx hy
    ∙ ap (expected (book_of c (ks₁ ++ (r₁ ∷ ks₂))) (topmost (book_of c (ks₁ ++ (r₁ ∷ ks₂))) px py) px py)
    (none_drawn w px py (does (after c ks₁) r₁).group ks₂ _ (is_true between)).1
