-- The struct of four pieces: one more piece joins the list that it holds.
use Rattle.std.proofs.Common.{ℕ, suc, ◌+◌, ◌-◌, ◌<◌, ◌≡◌, refl, ap, ◌∙◌, true, false, List, [], ◌∷◌, ◌++◌, append_assoc, append-nil, arith, length, set, replicate, length-append}
use Rattle.geom.specs.declared.Rect.{Rect}
use Rattle.geom.specs.declared.Pieces.{Pieces}
use Rattle.geom.specs.Geom.{rect, left, top, width, height, right, bottom, is_empty, meets, common, if_any, piece_above, piece_left, piece_right, piece_below, around, pieces}
use Rattle.geom.specs.inner.Fits.{Added}
use Rattle.geom.specs.Bare.{Holds}

-- an empty piece is left out
pub added_none : (p : Pieces) (r : Rect) → is_empty r ≡ true → Added p r p
unfolding if_any
added_none p r e = record { more = omega arith; holds = λ rs h. rw (e, append-nil rs) h }

-- the place behind a list
set_behind : (rs : List Rect) (n : ℕ) (r z : Rect) → set (rs ++ replicate (suc n) z) (length rs) r ≡ (rs ++ (r ∷ [])) ++ replicate n z
set_behind [] n r z = refl
set_behind (x ∷ rs) n r z = ap (λ (l : List Rect). x ∷ l) (set_behind rs n r z)

-- a piece with pixels is stored behind the others
pub added_one : (p q : Pieces) (r : Rect) → is_empty r ≡ false → p.count < 4 → q.count ≡ p.count + 1 → q.rects ≡ set p.rects p.count r → Added p r q
unfolding if_any
added_one p q r e l n s = record {
  more = omega arith;
  holds = λ rs h.
      let long : length (rs ++ (r ∷ [])) ≡ length rs + 1 = length-append rs (r ∷ []) in
      let room : 4 - length rs ≡ suc (4 - length (rs ++ (r ∷ []))) = omega (arith, h.count) in
      rw e (record {
        few = omega (arith, h.count);
        count = omega (arith, h.count);
        list = s ∙ rw (h.list, h.count, room) (set_behind rs (4 - length (rs ++ (r ∷ []))) r (rect 0 0 0 0));
      });
}

-- The pieces of a around its part i ------------------------------------------------------------------------------------

module _ (a i : Rect) where
  -- a piece made of sides that were worked out before
  pub right_is : (p : Rect) (r r' : ℕ) → r ≡ right i → r' ≡ right a → p ≡ rect r (top i) (r' - r) (height i) → p ≡ piece_right a i
  right_is p r r' e f q = q ∙ (λ j. rect (e j) (top i) (f j - e j) (height i))

  pub below_is : (p : Rect) (s s' : ℕ) → s ≡ bottom i → s' ≡ bottom a → p ≡ rect (left a) s (width a) (s' - s) → p ≡ piece_below a i
  below_is p s s' e f q = q ∙ (λ j. rect (left a) (e j) (width a) (f j - e j))

  -- the four join in turn
  pub four : (t u v w : Rect) (p₀ p₁ p₂ p₃ p₄ : Pieces) → Holds p₀ []
      → t ≡ piece_above a i → Added p₀ t p₁ → u ≡ piece_left a i → Added p₁ u p₂
      → v ≡ piece_right a i → Added p₂ v p₃ → w ≡ piece_below a i → Added p₃ w p₄ → Holds p₄ (around a i)
  unfolding around
  four t u v w p₀ p₁ p₂ p₃ p₄ h e₁ f₁ e₂ f₂ e₃ f₃ e₄ f₄ =
      rw (← e₁, ← e₂, ← e₃, ← e₄) (simp append_assoc at (f₄.holds _ (f₃.holds _ (f₂.holds _ (f₁.holds [] h)))))

-- The pieces of a outside b ----------------------------------------------------------------------------------------------

module _ (a b : Rect) (p : Pieces) where
  pub pieces_met : (i : Rect) → meets a b ≡ true → i ≡ common a b → Holds p (around a i) → Holds p (pieces a b)
  unfolding pieces
  pieces_met i m e h = rw (m, ← e) h

  pub pieces_apart : meets a b ≡ false → p.count ≡ 1 → p.rects ≡ a ∷ rect 0 0 0 0 ∷ rect 0 0 0 0 ∷ rect 0 0 0 0 ∷ [] → Holds p (pieces a b)
  unfolding pieces
  pieces_apart m n l = rw m (record { few = omega arith; count = n; list = l })
