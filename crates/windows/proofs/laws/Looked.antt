-- A closer look: the questions of the group before those of the window, and the window at the place of its id.
use Prim.Native.Nat.{ℕ, ◌*◌}
use mathlib.Core.Path.{◌≡◌, sym, ap, ◌∙◌}
use mathlib.Core.Bool.{Bool, cond, false}
use mathlib.Core.List.{List, [], ◌∷◌}
use lib.Dec.{eqb, eqb-suc-zero}
use borrow.Author.Tests.{eq-eqb}
use lib.ListN.{length}
use Rattle.geom.specs.declared.Rect.{Rect}
use Rattle.geom.specs.declared.refusal.Refusal.{Refusal}
use Rattle.geom.specs.Refusals.{number}
use Rattle.geom.specs.Questions.{Question, ◌is◌, asked}
use Rattle.geom.specs.Geom.{width, height}
use Rattle.geom.specs.Rect16.{rect_of}
use Rattle.look.specs.declared.Look.{Look}
use Rattle.look.specs.declared.Sizes.{Sizes}
use Rattle.look.specs.View.{view}
use Rattle.look.specs.inner.Steps as Steps
use Rattle.window.specs.Window.{Win}
use Rattle.rules.specs.Group.{used, win}
use Rattle.rules.specs.Look.{sizes_of, look}
use Rattle.look.specs.Floats.{allowed}
use Rattle.look.specs.View.{target_fits}
use Rattle.windows.specs.declared.Session.{Session}
use Rattle.windows.specs.View.{group, window_at, Given, Looks}
use Rattle.windows.specs.inner.One.{At}
use Rattle.windows.specs.inner.Lent.{questions, Begins}
use Rattle.windows.proofs.laws.Session.{win_at_lem, is_whole, isnt_whole}
use Rattle.windows.proofs.laws.Refused.{before}
use Rattle.windows.proofs.laws.One.{asks_used, own}
use Rattle.windows.proofs.laws.Store.{there, in_use}

-- The first two questions, of the session as it is
module _ (s : Session) (id : ℕ) (l : Look) (store target : List ℕ) (tw th : ℕ) where
  pub not_whole : (length store ≡ 16 * s.shared.c → ⊥) → Looks (group s) id l store target tw th 1 target
  unfolding look
  not_whole n = record { answer = rw (isnt_whole s store n); target = rw (isnt_whole s store n) }

  pub not_used : length store ≡ 16 * s.shared.c → used (group s) id ≡ false → Looks (group s) id l store target tw th 3 target
  unfolding look
  not_used e u = record { answer = rw (is_whole s store e, u); target = rw (is_whole s store e, u) }

module _ {s : Session} {id at : ℕ} (h : Given s) (p : At id at) (l : Look) (store target : List ℕ) (tw th : ℕ) where
  -- question 1 or 3 is answered no
  pub not_begun : (refusal : Refusal)
      → ((others : List Question) → asked (questions id (window_at s at).used s.shared.c (length store) others) ≡ number refusal)
      → Looks (group s) id l store target tw th (number refusal) target
  unfolding look group
  not_begun refusal e =
      let k = before refusal in
      let a : (look (group s) id l store target tw th).answer ≡ number refusal =
      ap (λ (t : Bool). asked ((1 is eqb (length store) (16 * s.shared.c)) ∷ (3 is t) ∷ (22 is allowed l) ∷ (23 is target_fits (length target) tw th) ∷ []))
      (asks_used s at (own h p)) ∙ e ((22 is allowed l) ∷ (23 is target_fits (length target) tw th) ∷ []) in
      let no : eqb (look (group s) id l store target tw th).answer 0 ≡ false = ap (λ (j : ℕ). eqb j 0) (a ∙ k.1) ∙ eqb-suc-zero k.0 in
      record {
        answer = sym a;
        target = sym (ap (λ (t : Bool). cond t (view l (sizes_of (group s) id tw th) (id * s.shared.c) store) target) no);
      }

  module _ {base : ℕ} (b : Begins id (window_at s at).used s.shared.c (length store) base) where
    win_is : (win (group s) id).at ≡ rect_of (window_at s at).at
    win_is =
        ap (λ (j : ℕ). (win (group s) j).at) (sym (there h p store b))
        ∙ ap (λ (v : Win). v.at) (win_at_lem s at (in_use h p store b))

    abbrev its : Sizes
    its = record { w = (window_at s at).at.w; h = (window_at s at).at.h; tw = tw; th = th }

    sizes : sizes_of (group s) id tw th ≡ its
    sizes = ap (λ (r : Rect). record { w = width r; h = height r; tw = tw; th = th }) win_is

    -- both are answered yes: the rest is the look's
    pub looked : {n : ℕ} {after : List ℕ} → Steps.Looks l its base store target n after → Looks (group s) id l store target tw th n after
    unfolding look group
    looked {n} r =
        let asks : (look (group s) id l store target tw th).answer ≡ asked ((22 is allowed l) ∷ (23 is target_fits (length target) tw th) ∷ []) =
        rw (eq-eqb (length store) (16 * s.shared.c) b.whole, asks_used s at (own h p) ∙ b.in_use) in
        let answer : n ≡ (look (group s) id l store target tw th).answer = r.answer ∙ sym asks in
        record {
          answer = answer;
          target = r.target
              ∙ ap (λ (k : ℕ). cond (eqb k 0) (view l its base store) target) answer
              ∙ (λ i. cond (eqb (look (group s) id l store target tw th).answer 0) (view l (sym sizes i) (b.begins i) store) target);
        }
