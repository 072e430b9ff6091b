-- `update_dims` in the store: what changes c pixels by what they are, and no others (`Own`), may come in any order with others of its kind, and each
-- leaves its own pixels as if it came alone.
use Prim.Native.Nat.{ℕ, zero, suc, ◌+◌, ◌-◌, ◌*◌, ◌≤◌, ◌<◌, min}
use mathlib.Core.Path.{◌≡◌, refl, sym, ap, subst, ◌∙◌}
use mathlib.Core.Bool.{Bool, true, false, cond, not, ◌||◌}
use mathlib.Core.List.{List, [], ◌∷◌}
use mathlib.Core.Option.{Option, none, some}
use mathlib.Core.Logic.{⊎_elim}
use native.Mathlib.Omega.{arith}
use native.Mathlib.Nat.{mul-le-mul_right, mul_comm}
use lib.ListN.{length, get_or, set, replicate, length-set}
use lib.Seq.{sets, ext_get_or, length-sets}
use borrow.Author.Tests.{leb-true}
use Rattle.geom.specs.Geom.{width, height}
use Rattle.geom.proofs.basics.Tests.{lt_or_le}
use Rattle.scanline.specs.Pixels.{write_rows, part, resized_at}
use Rattle.scanline.proofs.rows.Rows.{Off, other_part, length_write_rows}
use Rattle.scanline.proofs.rows.Written.{rows_same}
use Rattle.scanline.proofs.rows.Paint.{length_part, get_d_part}
use Rattle.window.specs.Window.{Win}
use Rattle.rules.specs.Group.{Group, the_win, is_maximised}
use Rattle.rules.specs.Displays.{updated_at, fits, resized_store, update_fits, update_store, update_stores}
use Rattle.rules.proofs.store.Resize.{length_resized, resized_off}

-- Two stores that agree on a part ------------------------------------------------------------------------------------

-- in the c places from `base` on
abbrev Agree : ℕ → ℕ → List ℕ → List ℕ → Type 0
Agree base c s t = (x : ℕ) → x < c → get_or s (base + x) 0 ≡ get_or t (base + x) 0

-- at one place, after the same store to both
set_agree : (s t : List ℕ) (at v i : ℕ) → length s ≡ length t → get_or s i 0 ≡ get_or t i 0 → get_or (set s at v) i 0 ≡ get_or (set t at v) i 0
set_agree [] [] at v i l e = refl
set_agree [] (y ∷ t) at v i l e = absurd (omega arith)
set_agree (x ∷ s) [] at v i l e = absurd (omega arith)
set_agree (x ∷ s) (y ∷ t) zero v zero l e = refl
set_agree (x ∷ s) (y ∷ t) zero v (suc i) l e = e
set_agree (x ∷ s) (y ∷ t) (suc at) v zero l e = e
set_agree (x ∷ s) (y ∷ t) (suc at) v (suc i) l e = set_agree s t at v i (omega arith) e

sets_agree : (vs s t : List ℕ) (at i : ℕ) → length s ≡ length t → get_or s i 0 ≡ get_or t i 0 → get_or (sets s at vs) i 0 ≡ get_or (sets t at vs) i 0
sets_agree [] s t at i l e = e
sets_agree (v ∷ vs) s t at i l e =
    sets_agree vs (set s at v) (set t at v) (suc at) i (length-set s at v ∙ l ∙ sym (length-set t at v)) (set_agree s t at v i l e)

rows_agree : (n : ℕ) (at : ℕ → ℕ) (row : ℕ → List ℕ) (s t : List ℕ) (i : ℕ) → length s ≡ length t → get_or s i 0 ≡ get_or t i 0
    → get_or (write_rows n at row s) i 0 ≡ get_or (write_rows n at row t) i 0
unfolding write_rows
rows_agree zero at row s t i l e = e
rows_agree (suc n) at row s t i l e =
    sets_agree (row n) (write_rows n at row s) (write_rows n at row t) (at n) i
    (length_write_rows n at row s ∙ l ∙ sym (length_write_rows n at row t)) (rows_agree n at row s t i l e)

-- Changes of a part --------------------------------------------------------------------------------------------------

pub record Own (base c : ℕ) (f : List ℕ → List ℕ) : Type 0 where
  pub same_length : (s : List ℕ) → length (f s) ≡ length s
  pub off : (s : List ℕ) (i : ℕ) → Off base c i → get_or (f s) i 0 ≡ get_or s i 0
  pub local : (s t : List ℕ) → length s ≡ length t → Agree base c s t → Agree base c (f s) (f t)

own_none : (base c : ℕ) → Own base c (λ s. s)
own_none base c = record { same_length = λ s. refl; off = λ s i o. refl; local = λ s t l a. a }

own_resize : (base c w0 h0 w1 h1 : ℕ) → w0 * h0 ≤ c → w1 * h1 ≤ c → Own base c (resized_at base c w0 h0 w1 h1)
unfolding resized_at
own_resize base c w0 h0 w1 h1 was fits =
    record { same_length = length_resized base c w0 h0 w1 h1; off = λ s i o. resized_off base c w0 h0 w1 h1 s fits i o; local = local }
  where
    -- a row that is written again comes from the part
    row : (s t : List ℕ) → length s ≡ length t → Agree base c s t → (r : ℕ) → r < min h1 h0 → part (base + r * w0) (min w1 w0) s ≡ part (base + r * w0) (min w1 w0) t
    row s t l a r k =
        let n : ℕ = min w1 w0 in
        let m : suc r ≤ h0 = omega arith in
        let room = mul-le-mul_right w0 m in
        ext_get_or 0 (part (base + r * w0) n s) (part (base + r * w0) n t)
        (length_part (base + r * w0) n s ∙ ap (λ (k : ℕ). min n (k - (base + r * w0))) l ∙ sym (length_part (base + r * w0) n t))
        (λ i h.
        let e : base + r * w0 + i ≡ base + (r * w0 + i) = omega arith in
        let j : i < n = omega (arith, length_part (base + r * w0) n s) in
        get_d_part (base + r * w0) n s i 0 j ∙ rw e (a (r * w0 + i) (omega (arith, mul_comm w0 h0))) ∙ sym (get_d_part (base + r * w0) n t i 0 j))

    local : (s t : List ℕ) → length s ≡ length t → Agree base c s t → Agree base c (resized_at base c w0 h0 w1 h1 s) (resized_at base c w0 h0 w1 h1 t)
    local s t l a x hx =
        let clear : List ℕ = replicate c 0 in
        ap (λ (q : List ℕ). get_or q (base + x) 0) (rows_same (min h1 h0) _ _ _ (sets s base clear) (row s t l a))
        ∙ rows_agree (min h1 h0) _ _ (sets s base clear) (sets t base clear) (base + x) (length-sets s base clear ∙ l ∙ sym (length-sets t base clear))
        (sets_agree clear s t base (base + x) l (a x hx))

-- Every window -------------------------------------------------------------------------------------------------------

module _ (g : Group) where
  -- of an id: its window's pixels fit, and so do those of the display that it takes
  pub own_update : (id : ℕ) (o : Option Win) → width (the_win o).at * height (the_win o).at ≤ g.c → update_fits g id o ≡ true
      → Own (id * g.c) g.c (update_store g id o)
  own_update id none was f = own_none (id * g.c) g.c
  own_update id (some w) was f = go (is_maximised g id) f
    where
      go : (m : Bool) → not m || fits g.c (updated_at g.displays true w.at) ≡ true
          → Own (id * g.c) g.c (λ s. cond m (resized_store (id * g.c) g.c w.at (updated_at g.displays true w.at) s) s)
      go true f = own_resize (id * g.c) g.c _ _ _ _ was (leb-true _ _ f)
      go false f = own_none (id * g.c) g.c

  -- o has the windows by id, and ws those from id i on
  module _ (o : ℕ → Option Win) (own : (id : ℕ) → Own (id * g.c) g.c (update_store g id (o id))) where
    abbrev From : ℕ → List (Option Win) → Type 0
    From i ws = (n id : ℕ) → id ≡ i + n → get_or ws n none ≡ o id

    from_head : (i : ℕ) (w : Option Win) (ws : List (Option Win)) → From i (w ∷ ws) → w ≡ o i
    from_head i w ws is = is 0 i (omega arith)

    from_tail : (i : ℕ) (w : Option Win) (ws : List (Option Win)) → From i (w ∷ ws) → From (suc i) ws
    from_tail i w ws is n id e = is (suc n) id (omega arith)

    head_own : (i : ℕ) (w : Option Win) (ws : List (Option Win)) → From i (w ∷ ws) → Own (i * g.c) g.c (update_store g i w)
    head_own i w ws is = subst (λ q. Own (i * g.c) g.c (update_store g i q)) (sym (from_head i w ws is)) (own i)

    pub length_stores : (ws : List (Option Win)) (i : ℕ) (s : List ℕ) → From i ws → length (update_stores g i ws s) ≡ length s
    length_stores [] i s is = refl
    length_stores (w ∷ ws) i s is =
        length_stores ws (suc i) (update_store g i w s) (from_tail i w ws is) ∙ (head_own i w ws is).same_length s

    -- ids before them keep their pixels
    before : (ws : List (Option Win)) (i j x : ℕ) (s : List ℕ) → From i ws → j < i → x < g.c
        → get_or (update_stores g i ws s) (j * g.c + x) 0 ≡ get_or s (j * g.c + x) 0
    before [] i j x s is l hx = refl
    before (w ∷ ws) i j x s is l hx =
        before ws (suc i) j x (update_store g i w s) (from_tail i w ws is) (omega arith) hx
        ∙ (head_own i w ws is).off s (j * g.c + x) (other_part g.c j i x hx (λ e. omega arith))

    -- each of them has the pixels that its own change alone leaves
    pub each_own : (ws : List (Option Win)) (i j x : ℕ) (s : List ℕ) → From i ws → i ≤ j → x < g.c
        → get_or (update_stores g i ws s) (j * g.c + x) 0 ≡ get_or (update_store g j (o j) s) (j * g.c + x) 0
    each_own [] i j x s is l hx =
        let n : j ≡ i + (j - i) = omega arith in
        ap (λ (q : Option Win). get_or (update_store g j q s) (j * g.c + x) 0) (is (j - i) j n)
    each_own (w ∷ ws) i j x s is l hx =
        ⊎_elim (λ k. each_own ws (suc i) j x (update_store g i w s) (from_tail i w ws is) k hx ∙ later k) here (lt_or_le i j)
      where
        here : j ≤ i → get_or (update_stores g i (w ∷ ws) s) (j * g.c + x) 0 ≡ get_or (update_store g j (o j) s) (j * g.c + x) 0
        here k =
            let e : i ≡ j = omega arith in
            before ws (suc i) j x (update_store g i w s) (from_tail i w ws is) (omega arith) hx
            ∙ ap (λ (q : Option Win). get_or (update_store g i q s) (j * g.c + x) 0) (from_head i w ws is)
            ∙ ap (λ (n : ℕ). get_or (update_store g n (o n) s) (j * g.c + x) 0) e

        -- the change of i before it leaves the pixels of j
        later : i < j → get_or (update_store g j (o j) (update_store g i w s)) (j * g.c + x) 0 ≡ get_or (update_store g j (o j) s) (j * g.c + x) 0
        later k =
            (own j).local (update_store g i w s) s ((head_own i w ws is).same_length s)
            (λ y hy. (head_own i w ws is).off s (j * g.c + y) (other_part g.c j i y hy (λ e. omega arith))) x hx
