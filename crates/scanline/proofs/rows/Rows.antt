-- `write_rows` by place: what stands at each place of a list after rows were written to it.
use Rattle.std.proofs.Common.{ℕ, zero, suc, ◌+◌, ◌-◌, ◌*◌, ◌≤◌, ◌<◌, ◌≡◌, refl, sym, ap, ◌∙◌, Bool, true, false, cond, ◌&&◌, List, [], ◌∷◌, ◌⊎◌, inl, inr, ◌≢◌, mul-le-mul_right, mul-le-mul_left, mul_comm, not-suc-le-zero, add-zero, arith, leb, ltb, length, get_or, set, length-set, get_or-set_same, get_or-set_other, ltb-true, ltb-false, leb-true, leb-false}
use Rattle.std.proofs.lemmas.List.Edits.{sets}
use lib.Seq.{length-sets}
use Rattle.geom.proofs.basics.Tests.{lt_or_le}
use Rattle.scanline.specs.Pixels.{write_rows}

-- Places of rows -----------------------------------------------------------------------------------------------------

-- a place in a row lies before the next row
pub row_before : (w r r' c : ℕ) → c < w → r < r' → r * w + c < r' * w
row_before w r r' c h l = omega (arith, mul-le-mul_right w l)

-- row r of n, w wide, ends within n * w
pub row_end : (w n r : ℕ) → r < n → r * w + w ≤ n * w
row_end w n r l = omega (arith, mul-le-mul_right w l)

-- a narrower row's place is no later
pub row_le : (r v w : ℕ) → v ≤ w → r * v ≤ r * w
row_le r v w h = mul-le-mul_left r h

-- fewer rows of a picture that there is room for
pub rows_room : (c w h n : ℕ) → n ≤ h → w * h ≤ c → n * w ≤ c
rows_room c w h n l m = omega (arith, mul-le-mul_right w l, mul_comm w h)

-- One run of stores --------------------------------------------------------------------------------------------------

-- a place that a run of so many from `at` on leaves alone
abbrev pub Off : ℕ → ℕ → ℕ → Type 0
Off at n i = (i < at) ⊎ (at + n ≤ i)

-- a place in another part of so many
pub other_part : (c j i x : ℕ) → x < c → j ≢ i → Off (i * c) c (j * c + x)
other_part c j i x h ne = go (lt_or_le j i)
  where
    go : (j < i) ⊎ (i ≤ j) → Off (i * c) c (j * c + x)
    go (inl k) = inl (row_before c j i x h k)
    go (inr k) =
        let l : suc i ≤ j = omega arith in
        inr (omega (arith, mul-le-mul_right c l))

sets_before : (s : List ℕ) (at : ℕ) (vs : List ℕ) (i d : ℕ) → i < at → get_or (sets s at vs) i d ≡ get_or s i d
sets_before s at [] i d h = refl
sets_before s at (v ∷ vs) i d h = sets_before (set s at v) (suc at) vs i d (omega arith) ∙ get_or-set_other s at i v d (omega arith)

sets_after : (s : List ℕ) (at : ℕ) (vs : List ℕ) (i d : ℕ) → at + length vs ≤ i → get_or (sets s at vs) i d ≡ get_or s i d
sets_after s at [] i d h = refl
sets_after s at (v ∷ vs) i d h = sets_after (set s at v) (suc at) vs i d (omega arith) ∙ get_or-set_other s at i v d (omega arith)

pub sets_off : (s : List ℕ) (at : ℕ) (vs : List ℕ) (i d : ℕ) → Off at (length vs) i → get_or (sets s at vs) i d ≡ get_or s i d
sets_off s at vs i d (inl h) = sets_before s at vs i d h
sets_off s at vs i d (inr h) = sets_after s at vs i d h

pub sets_on : (s : List ℕ) (at : ℕ) (vs : List ℕ) (j d : ℕ) → j < length vs → at + j < length s → get_or (sets s at vs) (at + j) d ≡ get_or vs j d
sets_on s at [] j d h l = absurd (not-suc-le-zero h)
sets_on s at (v ∷ vs) zero d h l =
    ap (λ (i : ℕ). get_or (sets (set s at v) (suc at) vs) i d) (add-zero at)
    ∙ sets_before (set s at v) (suc at) vs at d (omega arith)
    ∙ get_or-set_same s at v d (omega arith)
sets_on s at (v ∷ vs) (suc j) d h l =
    let e : at + suc j ≡ suc at + j = omega arith in
    ap (λ (i : ℕ). get_or (sets (set s at v) (suc at) vs) i d) e
    ∙ sets_on (set s at v) (suc at) vs j d (omega arith) (omega (arith, length-set s at v))

-- Rows, wherever they are --------------------------------------------------------------------------------------------

pub length_write_rows : (n : ℕ) (at : ℕ → ℕ) (row : ℕ → List ℕ) (s : List ℕ) → length (write_rows n at row s) ≡ length s
unfolding write_rows
length_write_rows zero at row s = refl
length_write_rows (suc n) at row s = length-sets (write_rows n at row s) (at n) (row n) ∙ length_write_rows n at row s

-- what no row covers stays
rows_off : (n : ℕ) (at : ℕ → ℕ) (row : ℕ → List ℕ) (s : List ℕ) (i d : ℕ)
    → ((r : ℕ) → r < n → Off (at r) (length (row r)) i) → get_or (write_rows n at row s) i d ≡ get_or s i d
unfolding write_rows
rows_off zero at row s i d h = refl
rows_off (suc n) at row s i d h =
    sets_off (write_rows n at row s) (at n) (row n) i d (h n (omega arith)) ∙ rows_off n at row s i d (λ r l. h r (omega arith))

-- what a row covers and no later one is the row's
rows_on : (n : ℕ) (at : ℕ → ℕ) (row : ℕ → List ℕ) (s : List ℕ) (r j d : ℕ) → r < n → j < length (row r) → at r + j < length s
    → ((r' : ℕ) → r < r' → r' < n → Off (at r') (length (row r')) (at r + j))
    → get_or (write_rows n at row s) (at r + j) d ≡ get_or (row r) j d
unfolding write_rows
rows_on zero at row s r j d l h m later = absurd (not-suc-le-zero l)
rows_on (suc n) at row s r j d l h m later = go (lt_or_le r n) (λ k. rows_on n at row s r j d k h m (λ r' a b. later r' a (omega arith)))
  where
    go : (r < n) ⊎ (n ≤ r) → (r < n → get_or (write_rows n at row s) (at r + j) d ≡ get_or (row r) j d)
        → get_or (sets (write_rows n at row s) (at n) (row n)) (at r + j) d ≡ get_or (row r) j d
    go (inl k) ih = sets_off (write_rows n at row s) (at n) (row n) (at r + j) d (later n k (omega arith)) ∙ ih k
    go (inr k) ih =
        let e : r ≡ n = omega arith in
        rw (← e) (sets_on (write_rows r at row s) (at r) (row r) j d h (omega (arith, length_write_rows r at row s)))

-- Rows of one picture ------------------------------------------------------------------------------------------------

-- Row r of the n rows is written `off` columns into row `first + r` of a picture, `pitch` wide, that begins at `base`.
module _ (n : ℕ) (at : ℕ → ℕ) (row : ℕ → List ℕ) (s : List ℕ) (base first pitch off : ℕ)
    (place : (r : ℕ) → at r ≡ base + (first + r) * pitch + off) (fits : (r : ℕ) → r < n → off + length (row r) ≤ pitch) where
  -- another row of the picture
  other_row : (y x r : ℕ) → x < pitch → r < n → y ≢ first + r → Off (at r) (length (row r)) (base + y * pitch + x)
  other_row y x r h l ne = go (lt_or_le y (first + r))
    where
      go : (y < first + r) ⊎ (first + r ≤ y) → Off (at r) (length (row r)) (base + y * pitch + x)
      go (inl k) = inl (omega (arith, place r, row_before pitch y (first + r) x h k))
      go (inr k) =
          let m : first + r < y = omega arith in
          inr (omega (arith, place r, fits r l, mul-le-mul_right pitch m))

  -- the pixel at column x of row y, where no row was written
  pub pixel_off : (y x d : ℕ) → x < pitch → ((r : ℕ) → r < n → y ≡ first + r → Off off (length (row r)) x)
      → get_or (write_rows n at row s) (base + y * pitch + x) d ≡ get_or s (base + y * pitch + x) d
  pixel_off y x d h out = rows_off n at row s (base + y * pitch + x) d each
    where
      each : (r : ℕ) → r < n → Off (at r) (length (row r)) (base + y * pitch + x)
      each r l = go (lt_or_le y (first + r)) (lt_or_le (first + r) y)
        where
          here : y ≡ first + r → Off off (length (row r)) x → Off (at r) (length (row r)) (base + y * pitch + x)
          here e (inl k) = rw e (inl (omega (arith, place r)))
          here e (inr k) = rw e (inr (omega (arith, place r)))

          go : (y < first + r) ⊎ (first + r ≤ y) → (first + r < y) ⊎ (y ≤ first + r) → Off (at r) (length (row r)) (base + y * pitch + x)
          go (inl k) m = other_row y x r h l (omega arith)
          go (inr k) (inl m) = other_row y x r h l (omega arith)
          go (inr k) (inr m) = here (omega arith) (out r l (omega arith))

  -- and where one was
  pub pixel_on : (y x r j d : ℕ) → y ≡ first + r → x ≡ off + j → r < n → j < length (row r) → base + y * pitch + x < length s
      → get_or (write_rows n at row s) (base + y * pitch + x) d ≡ get_or (row r) j d
  pixel_on y x r j d ey ex l h m =
      let e : base + y * pitch + x ≡ at r + j = rw (ey, ex) (omega (arith, place r)) in
      let h' : x < pitch = omega (arith, fits r l) in
      rw e (rows_on n at row s r j d l h (omega arith) (λ r' a b. rw (← e) (other_row y x r' h' b (omega arith))))

  -- what lies off the c pixels from the picture's beginning on, if these hold the rows
  pub part_off : (c i d : ℕ) → ((r : ℕ) → r < n → suc (first + r) * pitch ≤ c) → Off base c i → get_or (write_rows n at row s) i d ≡ get_or s i d
  part_off c i d h (inl k) = rows_off n at row s i d (λ r l. inl (omega (arith, place r)))
  part_off c i d h (inr k) = rows_off n at row s i d (λ r l. inr (omega (arith, place r, fits r l, h r l)))

  -- all of the picture's pixels in one equation
  pub pixel_of : (y x d : ℕ) → x < pitch → base + y * pitch + x < length s
      → get_or (write_rows n at row s) (base + y * pitch + x) d
      ≡ cond (leb first y && ltb y (first + n) && (leb off x && ltb x (off + length (row (y - first)))))
      (get_or (row (y - first)) (x - off) d)
      (get_or s (base + y * pitch + x) d)
  pixel_of y x d h m = go (leb first y) refl (ltb y (first + n)) refl (leb off x) refl (ltb x (off + length (row (y - first)))) refl
    where
      go : (a : Bool) → leb first y ≡ a → (b : Bool) → ltb y (first + n) ≡ b → (e : Bool) → leb off x ≡ e
          → (f : Bool) → ltb x (off + length (row (y - first))) ≡ f
          → get_or (write_rows n at row s) (base + y * pitch + x) d
          ≡ cond (a && b && (e && f)) (get_or (row (y - first)) (x - off) d) (get_or s (base + y * pitch + x) d)
      go true p true q true u true v =
          let ey : first + (y - first) ≡ y = omega (arith, leb-true) in
          let ex : off + (x - off) ≡ x = omega (arith, leb-true) in
          pixel_on y x (y - first) (x - off) d (sym ey) (sym ex) (omega (arith, ltb-true)) (omega (arith, ltb-true)) m
      go true p true q true u false v = pixel_off y x d h late
        where
          late : (r : ℕ) → r < n → y ≡ first + r → Off off (length (row r)) x
          late r l k =
              let e : r ≡ y - first = omega arith in
              inr (rw e (omega (arith, ltb-false)))
      go true p true q false u f v = pixel_off y x d h (λ r l k. inl (omega (arith, leb-false)))
      go true p false q e u f v = pixel_off y x d h (λ r l k. absurd (omega (arith, ltb-false)))
      go false p b q e u f v = pixel_off y x d h (λ r l k. absurd (omega (arith, leb-false)))
