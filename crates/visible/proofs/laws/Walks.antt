-- One visit after the other: what can be visited in parts, and what visits of the parts change.
use Rattle.std.proofs.Common.{◌≡◌, refl, sym, ap, subst, ◌∙◌, false, List, [], ◌∷◌, ◌++◌}
use Rattle.std.specs.List.{FoldsTo}
use Rattle.geom.specs.declared.Rect.{Rect}
use Rattle.geom.specs.Geom.{is_empty, if_any}
use Rattle.geom.specs.inner.Fits.{Within}
use Rattle.geom.specs.Lists.{outside_all}
use Rattle.geom.proofs.basics.Lists.{All}
use Rattle.geom.proofs.geometry.Pieces.{left_within}
use Rattle.visible.specs.inner.Walk.{Walkable}
use Rattle.visible.proofs.laws.Depth.{outside_all_none}
use Rattle.visible.proofs.laws.Cuts.{piece_one}

-- What a visit changes -----------------------------------------------------------------------------------------------

module _ {S : Type 0} (step : S → Rect → S → Type 0) where
  pub folds_append : (xs ys : List Rect) (s t u : S) → FoldsTo step s xs t → FoldsTo step t ys u → FoldsTo step s (xs ++ ys) u
  folds_append [] ys s t u e f = subst (λ p. FoldsTo step p ys u) (sym e) f
  folds_append (x ∷ xs) ys s t u e f = (e.0, e.1, folds_append xs ys e.0 t u e.2 f)

  folds_still : (a : Rect) (s : S) → ((r : Rect) → Within a r → step s r s) → (rs : List Rect) → All (Within a) rs → FoldsTo step s rs s
  folds_still a s f [] h = refl
  folds_still a s f (r ∷ rs) h = (s, f r h.0, folds_still a s f rs h.1)

  -- where no part that lies in a changes anything, nothing has to be visited
  pub folds_done : (a : Rect) (bs : List Rect) (s : S) → ((r : Rect) → Within a r → step s r s) → FoldsTo step s (outside_all (a ∷ []) bs) s
  folds_done a bs s f = folds_still a s f (outside_all (a ∷ []) bs) (left_within a bs)

  -- a part that is left whole
  pub folds_whole : {a : Rect} {rs : List Rect} (s t : S) → rs ≡ a ∷ [] → step s a t → FoldsTo step s rs t
  folds_whole s t e h = subst (λ rs. FoldsTo step s rs t) (sym e) (t, h, refl)

  -- a piece that is there, and one that is not
  pub piece_walked : (p : Rect) (bs : List Rect) (s t u : S) → is_empty p ≡ false → FoldsTo step s (outside_all (p ∷ []) bs) t → u ≡ t
      → FoldsTo step s (outside_all (if_any p) bs) u
  piece_walked p bs s t u some f e =
      subst (λ rs. FoldsTo step s (outside_all rs bs) u) (sym (piece_one p some))
      (subst (FoldsTo step s (outside_all (p ∷ []) bs)) (sym e) f)

  pub piece_skipped : (p : Rect) (bs : List Rect) (s u : S) → if_any p ≡ [] → u ≡ s → FoldsTo step s (outside_all (if_any p) bs) u
  piece_skipped p bs s u none e =
      subst (λ rs. FoldsTo step s rs u) (sym (ap (λ (rs : List Rect). outside_all rs bs) none ∙ outside_all_none bs)) (sym e)

-- What can be visited ------------------------------------------------------------------------------------------------

module _ {S : Type 0} (can : S → Rect → Type 0) (step : S → Rect → S → Type 0) where
  walkable_first : (xs ys : List Rect) (s : S) → Walkable can step s (xs ++ ys) → Walkable can step s xs
  walkable_first [] ys s w = tt
  walkable_first (x ∷ xs) ys s w = (w.0, λ t e. walkable_first xs ys t (w.1 t e))

  walkable_then : (xs ys : List Rect) (s t : S) → Walkable can step s (xs ++ ys) → FoldsTo step s xs t → Walkable can step t ys
  walkable_then [] ys s t w e = subst (λ u. Walkable can step u ys) e w
  walkable_then (x ∷ xs) ys s t w e = walkable_then xs ys e.0 t (w.1 e.0 e.1) e.2

  -- a part that is left whole
  pub can_whole : {a : Rect} {rs : List Rect} (s : S) → rs ≡ a ∷ [] → Walkable can step s rs → can s a
  can_whole s e w = (subst (Walkable can step s) e w).0

  -- what is left of a piece, and what a walk through it changes
  abbrev Of : List Rect → Rect → List Rect
  Of bs x = outside_all (if_any x) bs

  abbrev pub Walked : List Rect → S → Rect → S → Type 0
  Walked bs s x t = FoldsTo step s (outside_all (if_any x) bs) t

  abbrev Can : List Rect → S → Rect → Type 0
  Can bs s x = is_empty x ≡ false → Walkable can step s (outside_all (x ∷ []) bs)

  one : (bs : List Rect) (x : Rect) (s : S) → Walkable can step s (outside_all (if_any x) bs) → Can bs s x
  one bs x s v some = subst (λ xs. Walkable can step s (outside_all xs bs)) (piece_one x some) v

  -- four pieces in turn: each can be walked through, and all together change what the part's walk changes
  module _ (p q r u : Rect) (bs : List Rect) {rs : List Rect} (s₀ : S)
      (e : rs ≡ outside_all (if_any p) bs ++ (outside_all (if_any q) bs ++ (outside_all (if_any r) bs ++ outside_all (if_any u) bs)))
      (w : Walkable can step s₀ rs) where
    first : Walkable can step s₀ (Of bs p ++ (Of bs q ++ (Of bs r ++ Of bs u)))
    first = subst (Walkable can step s₀) e w

    pub can_first : Can bs s₀ p
    can_first = one bs p s₀ (walkable_first (Of bs p) (Of bs q ++ (Of bs r ++ Of bs u)) s₀ first)

    module _ (s₁ : S) (f : Walked bs s₀ p s₁) where
      second : Walkable can step s₁ (Of bs q ++ (Of bs r ++ Of bs u))
      second = walkable_then (Of bs p) (Of bs q ++ (Of bs r ++ Of bs u)) s₀ s₁ first f

      pub can_second : Can bs s₁ q
      can_second = one bs q s₁ (walkable_first (Of bs q) (Of bs r ++ Of bs u) s₁ second)

      module _ (s₂ : S) (g : Walked bs s₁ q s₂) where
        third : Walkable can step s₂ (Of bs r ++ Of bs u)
        third = walkable_then (Of bs q) (Of bs r ++ Of bs u) s₁ s₂ second g

        pub can_third : Can bs s₂ r
        can_third = one bs r s₂ (walkable_first (Of bs r) (Of bs u) s₂ third)

        module _ (s₃ : S) (h : Walked bs s₂ r s₃) where
          pub can_fourth : Can bs s₃ u
          can_fourth = one bs u s₃ (walkable_then (Of bs r) (Of bs u) s₂ s₃ third h)

          pub walked_all : (s₄ : S) → Walked bs s₃ u s₄ → FoldsTo step s₀ rs s₄
          walked_all s₄ i =
              subst (λ xs. FoldsTo step s₀ xs s₄) (sym e)
              (folds_append step (Of bs p) (Of bs q ++ (Of bs r ++ Of bs u)) s₀ s₁ s₄ f
              (folds_append step (Of bs q) (Of bs r ++ Of bs u) s₁ s₂ s₄ g (folds_append step (Of bs r) (Of bs u) s₂ s₃ s₄ h i)))
