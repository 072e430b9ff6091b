-- Document 02, "A closer look": the call. Which looks are allowed and what a target shows of a window is said in the crate `look`.
use Rattle.std.specs.Prelude.{ℕ, ◌*◌, ◌≡◌, cond, List, [], ◌∷◌, eqb, length, Float}
use Rattle.geom.specs.Questions.{◌is◌, asked}
use Rattle.geom.specs.Geom.{width, height}
use Rattle.look.specs.declared.Look.{Look}
use Rattle.look.specs.declared.Sizes.{Sizes}
use Rattle.look.specs.Floats.{allowed}
use Rattle.look.specs.View.{fit_at, view, target_fits}
use Rattle.rules.specs.Group.{Group, used, win}
use Rattle.rules.specs.Store.{whole}

-- window and target
abbrev pub sizes_of : Group → ℕ → ℕ → ℕ → Sizes
sizes_of g id tw th = record { w = width (win g id).at; h = height (win g id).at; tw = tw; th = th }

-- the answer, and the target as the call leaves it
pub record Looked : Type 0 where
  pub answer : ℕ
  pub target : List ℕ

-- "22 …, asked after 3. 23 …, asked after 22; 5 is not asked." The store is lent, so that 1 is asked first; shown or hidden is not asked. On a yes
-- to all every pixel of the target is written, on a no none; the call changes nothing else
unfoldable pub look : Group → ℕ → Look → List ℕ → List ℕ → ℕ → ℕ → Looked
look g id l store target tw th =
    let a : ℕ = asked ((1 is whole g store) ∷ (3 is used g id) ∷ (22 is allowed l) ∷ (23 is target_fits (length target) tw th) ∷ []) in
    record { answer = a; target = cond (eqb a 0) (view l (sizes_of g id tw th) (id * g.c) store) target }

-- "Fit takes corner (0,0), whatever corner was given": of any two corners, numbers or not, answer and target are the same
unfoldable pub AnyCorner : Type 0
AnyCorner =
    (g : Group) (id : ℕ) (x y x' y' : Float) (store target : List ℕ) (tw th : ℕ)
    → look g id (fit_at x y) store target tw th ≡ look g id (fit_at x' y') store target tw th
