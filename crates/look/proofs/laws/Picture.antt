-- Lines and pictures by their entries: pixel i of a line is f i, and pixel j * w + i of a picture is f i j.
use Rattle.std.proofs.Common.{◌≡◌, ℕ, zero, suc, ◌+◌, ◌-◌, ◌*◌, ◌<◌, ◌≤◌, ◌⊎◌, List, [], ◌∷◌, ◌++◌, length, get_or, drop, set, replicate, sym, refl, ap, ◌∙◌, inl, inr, append_assoc, append-nil, mul-le-mul_right, suc-mul, zero-mul, add-one, arith, length-append, length-drop, drop_of_length-le, get_or-drop, get_or-take, drop-drop, get_or-append-add, ext_get_or}
use Rattle.std.proofs.lemmas.List.{length-replicate}
use Rattle.std.proofs.lemmas.List.Edits.{sets}
use lib.ListN.{get_or-append}
use Rattle.geom.proofs.basics.Tests.{lt_or_le}
use Rattle.geom.proofs.basics.Lists.{get_d_default}
use Rattle.scanline.specs.Pixels.{part}
use Rattle.scanline.proofs.rows.Runs.{full_part, sets_behind, sets_append}
use Rattle.look.specs.View.{line, picture}

-- Lines -----------------------------------------------------------------------------------------------------------------

pub length_line : (f : ℕ → ℕ) (n : ℕ) → length (line f n) ≡ n
length_line f zero = refl
length_line f (suc n) = length-append (line f n) (f n ∷ []) ∙ ap (λ (k : ℕ). k + 1) (length_line f n) ∙ add-one n

-- an entry of a list behind k others
behind : (xs ys : List ℕ) (k i : ℕ) → length xs ≡ k → k ≤ i → get_or (xs ++ ys) i 0 ≡ get_or ys (i - k) 0
behind xs ys k i e h =
    let j : i ≡ length xs + (i - k) = omega arith in
    ap (λ (n : ℕ). get_or (xs ++ ys) n 0) j ∙ get_or-append-add xs ys (i - k) 0

pub get_d_line : (f : ℕ → ℕ) (n i : ℕ) → i < n → get_or (line f n) i 0 ≡ f i
get_d_line f zero i h = absurd (omega arith)
get_d_line f (suc n) i h = go (get_d_line f n i) (lt_or_le i n)
  where
    go : (i < n → get_or (line f n) i 0 ≡ f i) → (i < n) ⊎ (n ≤ i) → get_or (line f n ++ (f n ∷ [])) i 0 ≡ f i
    go before (inl l) = get_or-append (line f n) (f n ∷ []) 0 i (omega (arith, length_line f n)) ∙ before l
    go before (inr l) =
        let e : i - n ≡ 0 = omega arith in
        let k : n ≡ i = omega arith in
        behind (line f n) (f n ∷ []) n i (length_line f n) l ∙ ap (λ (j : ℕ). get_or (f n ∷ []) j 0) e ∙ ap f k

pub line_ext : (f g : ℕ → ℕ) (n : ℕ) → ((i : ℕ) → i < n → f i ≡ g i) → line f n ≡ line g n
line_ext f g n h =
    ext_get_or 0 (line f n) (line g n) (length_line f n ∙ sym (length_line g n))
    (λ i l. let b : i < n = omega (arith, length_line f n) in get_d_line f n i b ∙ h i b ∙ sym (get_d_line g n i b))

-- a line that is 0 from n on
pub line_cut : (f g : ℕ → ℕ) (n w : ℕ) → n ≤ w → ((i : ℕ) → i < n → f i ≡ g i) → ((i : ℕ) → n ≤ i → i < w → f i ≡ 0)
    → line f w ≡ line g n ++ replicate (w - n) 0
line_cut f g n w few in-front after =
    ext_get_or 0 (line f w) (line g n ++ replicate (w - n) 0) (omega (arith, length_line f w, sizes))
    (λ i l. let b : i < w = omega (arith, length_line f w) in get_d_line f w i b ∙ go i b (lt_or_le i n))
  where
    sizes : length (line g n ++ replicate (w - n) 0) ≡ w
    sizes = length-append (line g n) (replicate (w - n) 0) ∙ omega (arith, length_line g n, length-replicate {A = ℕ} (w - n) 0)

    go : (i : ℕ) → i < w → (i < n) ⊎ (n ≤ i) → f i ≡ get_or (line g n ++ replicate (w - n) 0) i 0
    go i b (inl l) = in-front i l ∙ sym (get_or-append (line g n) (replicate (w - n) 0) 0 i (omega (arith, length_line g n)) ∙ get_d_line g n i l)
    go i b (inr l) = after i l b ∙ sym (behind (line g n) (replicate (w - n) 0) n i (length_line g n) l ∙ get_d_default (w - n) (i - n) 0)

-- a part of a list is a line
pub line_part : (s : List ℕ) (a n : ℕ) → a + n ≤ length s → part a n s ≡ line (λ i. get_or s (a + i) 0) n
line_part s a n h =
    ext_get_or 0 (part a n s) (line (λ i. get_or s (a + i) 0) n) (full_part s a n h ∙ sym (length_line (λ i. get_or s (a + i) 0) n))
    (λ i l. let b : i < n = omega (arith, full_part s a n h) in
    get_or-take n (drop a s) i 0 b ∙ get_or-drop a s i 0 ∙ sym (get_d_line (λ i. get_or s (a + i) 0) n i b))

-- one pixel more
pub line_more : (f : ℕ → ℕ) (t : List ℕ) (at i : ℕ) → set (sets t at (line f i)) (at + i) (f i) ≡ sets t at (line f (i + 1))
line_more f t at i =
    ap (λ (k : ℕ). set (sets t at (line f i)) (at + k) (f i)) (sym (length_line f i))
    ∙ sets_append t at (line f i) (f i ∷ [])
    ∙ ap (λ (k : ℕ). sets t at (line f k)) (sym (add-one i))

-- Pictures --------------------------------------------------------------------------------------------------------------

module _ (f : ℕ → ℕ → ℕ) (w : ℕ) where
  pub length_picture : (n : ℕ) → length (picture f w n) ≡ n * w
  length_picture zero = sym (zero-mul w)
  length_picture (suc n) =
      length-append (picture f w n) (line (λ i. f i n) w) ∙ omega (arith, length_picture n, length_line (λ i. f i n) w, suc-mul n w)

  pub get_d_picture : (n i j : ℕ) → i < w → j < n → get_or (picture f w n) (j * w + i) 0 ≡ f i j
  get_d_picture zero i j a b = absurd (omega arith)
  get_d_picture (suc n) i j a b = go (get_d_picture n i j a) (lt_or_le j n)
    where
      go : (j < n → get_or (picture f w n) (j * w + i) 0 ≡ f i j) → (j < n) ⊎ (n ≤ j) → get_or (picture f w n ++ line (λ i. f i n) w) (j * w + i) 0 ≡ f i j
      go before (inl l) =
          get_or-append (picture f w n) (line (λ i. f i n) w) 0 (j * w + i) (omega (arith, length_picture n, suc-mul j w, mul-le-mul_right w l))
          ∙ before l
      go before (inr l) =
          let k : n ≡ j = omega arith in
          let p : n * w ≡ j * w = ap (λ (m : ℕ). m * w) k in
          let e : j * w + i - n * w ≡ i = omega arith in
          behind (picture f w n) (line (λ i. f i n) w) (n * w) (j * w + i) (length_picture n) (omega arith)
          ∙ ap (λ (m : ℕ). get_or (line (λ i. f i n) w) m 0) e
          ∙ get_d_line (λ i. f i n) w i a
          ∙ ap (f i) k

  -- the first j rows of a target, with what lies behind them
  pub painted : ℕ → List ℕ → List ℕ
  painted j t = picture f w j ++ drop (j * w) t

  pub painted_none : (t : List ℕ) → t ≡ painted 0 t
  unfolding painted
  painted_none t = sym (ap (λ (k : ℕ). drop k t) (zero-mul w))

  pub length_painted : (j : ℕ) (t : List ℕ) → j * w ≤ length t → length (painted j t) ≡ length t
  unfolding painted
  length_painted j t h = length-append (picture f w j) (drop (j * w) t) ∙ omega (arith, length_picture j, length-drop (j * w) t)

  pub painted_more : (j : ℕ) (t : List ℕ) → (j + 1) * w ≤ length t → sets (painted j t) (j * w) (line (λ i. f i j) w) ≡ painted (j + 1) t
  unfolding painted
  painted_more j t h =
      let row = line (λ i. f i j) w in
      let n : (j + 1) * w ≡ j * w + w = ap (λ (k : ℕ). k * w) (add-one j) ∙ suc-mul j w in
      let k : length row ≡ w = length_line (λ i. f i j) w in
      let m : j * w + length row ≡ (j + 1) * w = omega arith in
      sets_behind (picture f w j) (drop (j * w) t) row (j * w) (length_picture j) (omega (arith, length-drop (j * w) t))
      ∙ sym (append_assoc (picture f w j) row (drop (length row) (drop (j * w) t)))
      ∙ ap (λ (l : List ℕ). (picture f w j ++ row) ++ l) (drop-drop (length row) (j * w) t ∙ ap (λ (k : ℕ). drop k t) m)
      ∙ ap (λ (k : ℕ). picture f w k ++ drop ((j + 1) * w) t) (sym (add-one j))

  pub painted_all : (n : ℕ) (t : List ℕ) → length t ≡ n * w → painted n t ≡ picture f w n
  unfolding painted
  painted_all n t e = ap (λ (l : List ℕ). picture f w n ++ l) (drop_of_length-le t {i = n * w} (omega arith)) ∙ append-nil (picture f w n)

pub picture_ext : (f g : ℕ → ℕ → ℕ) (w n : ℕ) → ((i j : ℕ) → i < w → j < n → f i j ≡ g i j) → picture f w n ≡ picture g w n
picture_ext f g w zero h = refl
picture_ext f g w (suc n) h =
    ap (λ (l : List ℕ). l ++ line (λ i. f i n) w) (picture_ext f g w n (λ i j a b. h i j a (omega arith)))
    ∙ ap (λ (l : List ℕ). picture g w n ++ l) (line_ext (λ i. f i n) (λ i. g i n) w (λ i a. h i n a (omega arith)))
