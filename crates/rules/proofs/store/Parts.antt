-- A write that keeps to its part of the store: what lies off the part stays, and two such writes come to the same in either order.
use Prim.Native.Nat.{ℕ, zero, suc, ◌+◌, ◌*◌, ◌≤◌, ◌<◌}
use mathlib.Core.Path.{◌≡◌, refl, sym, ap, ◌∙◌}
use mathlib.Core.Bool.{Bool, true, false, cond}
use mathlib.Core.List.{List, []}
use mathlib.Core.Logic.{◌⊎◌, inl, inr, ◌≢◌}
use native.Mathlib.Nat.{mul-le-mul_right}
use native.Mathlib.Omega.{arith}
use lib.ListN.{length, get_or}
use lib.Seq.{sets}
use Rattle.geom.proofs.basics.Tests.{lt_or_le}
use Rattle.scanline.specs.Altered.{altered}
use Rattle.scanline.specs.Pixels.{write_rows}
use Rattle.scanline.proofs.rows.Rows.{Off, length_write_rows, part_off}
use Rattle.scanline.proofs.rows.Written.{rows_comm}
use Rattle.scanline.proofs.rows.Altered.{altered_square}

-- f writes n rows, the same to every list: row r goes `off` columns into row `first + r` of a picture, `pitch` wide, that begins at `base`;
-- and the c places from there on hold these rows
pub record Inside (base c : ℕ) (f : List ℕ → List ℕ) : Type 0 where
  pub n : ℕ
  pub first : ℕ
  pub pitch : ℕ
  pub off : ℕ
  pub row : ℕ → List ℕ
  pub is : (s : List ℕ) → f s ≡ write_rows n (λ r. base + (first + r) * pitch + off) row s
  pub fits : (r : ℕ) → r < n → off + length (row r) ≤ pitch
  pub room : (r : ℕ) → r < n → suc (first + r) * pitch ≤ c

-- Which writes do ------------------------------------------------------------------------------------------------------

-- one that writes nothing
pub inside_none : (base c : ℕ) → Inside base c (λ s. s)
unfolding write_rows
inside_none base c =
    record {
      n = 0;
      first = 0;
      pitch = 0;
      off = 0;
      row = λ r. [];
      is = λ s. refl;
      fits = λ r l. omega arith;
      room = λ r l. omega arith;
    }

-- one of two, by a test
pub inside_cond : {base c : ℕ} {f g : List ℕ → List ℕ} (t : Bool) → (t ≡ true → Inside base c f) → (t ≡ false → Inside base c g)
    → Inside base c (λ s. cond t (f s) (g s))
inside_cond true p q = p refl
inside_cond false p q = q refl

-- What they leave ------------------------------------------------------------------------------------------------------

module _ {base c : ℕ} {f : List ℕ → List ℕ} (p : Inside base c f) where
  pub inside_length : (s : List ℕ) → length (f s) ≡ length s
  inside_length s = ap length (p.is s) ∙ length_write_rows p.n _ p.row s

  pub inside_off : (s : List ℕ) (i d : ℕ) → Off base c i → get_or (f s) i d ≡ get_or s i d
  inside_off s i d o =
      ap (λ (l : List ℕ). get_or l i d) (p.is s)
      ∙ part_off p.n _ p.row s base p.first p.pitch p.off (λ r. refl) p.fits c i d p.room o

-- Two of them ----------------------------------------------------------------------------------------------------------

-- rows that end by k and rows that begin from k on, in either order
rows_apart : (n : ℕ) (at : ℕ → ℕ) (row : ℕ → List ℕ) (m : ℕ) (at' : ℕ → ℕ) (row' : ℕ → List ℕ) (s : List ℕ) (k : ℕ)
    → ((r : ℕ) → r < n → at r + length (row r) ≤ k) → ((r : ℕ) → r < m → k ≤ at' r)
    → write_rows m at' row' (write_rows n at row s) ≡ write_rows n at row (write_rows m at' row' s)
unfolding write_rows
rows_apart n at row zero at' row' s k h h' = refl
rows_apart n at row (suc m) at' row' s k h h' =
    let e : k ≤ at' m = h' m (omega arith) in
    ap (λ (t : List ℕ). sets t (at' m) (row' m)) (rows_apart n at row m at' row' s k h (λ r l. h' r (omega arith)))
    ∙ rows_comm n at row (write_rows m at' row' s) (at' m) (row' m) (λ r l. omega (arith, h r l))

before : {base c base' c' : ℕ} {f f' : List ℕ → List ℕ} → Inside base c f → Inside base' c' f' → base + c ≤ base' → (s : List ℕ)
    → f' (f s) ≡ f (f' s)
before {base} {c} {base'} {f} {f'} p q l s =
    ap f' (p.is s)
    ∙ q.is _
    ∙ rows_apart p.n _ p.row q.n _ q.row s base' (λ r k. omega (arith, p.fits r k, p.room r k)) (λ r k. omega arith)
    ∙ sym (p.is _)
    ∙ ap f (sym (q.is s))

-- writes to two different parts of c each
pub parts_comm : (c i j : ℕ) {f g : List ℕ → List ℕ} → i ≢ j → Inside (i * c) c f → Inside (j * c) c g → (s : List ℕ) → g (f s) ≡ f (g s)
parts_comm c i j {f} {g} ne p q s = go (lt_or_le i j)
  where
    go : (i < j) ⊎ (j ≤ i) → g (f s) ≡ f (g s)
    go (inl h) = before p q (omega (arith, mul-le-mul_right c h)) s
    go (inr h) =
        let l : suc j ≤ i = omega arith in
        sym (before q p (omega (arith, mul-le-mul_right c l)) s)

-- a place lies off one of the two parts
off_one : (c i j k : ℕ) → i ≢ j → Off (i * c) c k ⊎ Off (j * c) c k
off_one c i j k ne = go (lt_or_le k (i * c)) (lt_or_le k (i * c + c)) (lt_or_le i j)
  where
    go : (k < i * c) ⊎ (i * c ≤ k) → (k < i * c + c) ⊎ (i * c + c ≤ k) → (i < j) ⊎ (j ≤ i) → Off (i * c) c k ⊎ Off (j * c) c k
    go (inl a) b h = inl (inl a)
    go (inr a) (inr b) h = inl (inr b)
    go (inr a) (inl b) (inl h) = inr (inl (omega (arith, mul-le-mul_right c h)))
    go (inr a) (inl b) (inr h) = let l : suc j ≤ i = omega arith in inr (inr (omega (arith, mul-le-mul_right c l)))

-- a write alters as many pixels after a write to another part as before it: at each place one of the two writes leaves what is there
pub parts_altered : (c i j : ℕ) {f g : List ℕ → List ℕ} → i ≢ j → Inside (i * c) c f → Inside (j * c) c g → (s : List ℕ)
    → altered (g s) (f (g s)) ≡ altered s (f s)
parts_altered c i j {f} {g} ne p q s =
    altered_square s (f s) (g s) (f (g s)) (inside_length p s) (inside_length q s) (inside_length p (g s) ∙ inside_length q s) each
  where
    each : (k : ℕ)
        → ((get_or s k 0 ≡ get_or (f s) k 0) × (get_or (g s) k 0 ≡ get_or (f (g s)) k 0))
        ⊎ ((get_or s k 0 ≡ get_or (g s) k 0) × (get_or (f s) k 0 ≡ get_or (f (g s)) k 0))
    each k = go (off_one c i j k ne)
      where
        go : Off (i * c) c k ⊎ Off (j * c) c k
            → ((get_or s k 0 ≡ get_or (f s) k 0) × (get_or (g s) k 0 ≡ get_or (f (g s)) k 0))
            ⊎ ((get_or s k 0 ≡ get_or (g s) k 0) × (get_or (f s) k 0 ≡ get_or (f (g s)) k 0))
        go (inl o) = inl (sym (inside_off p s k 0 o), sym (inside_off p (g s) k 0 o))
        go (inr o) = inr (sym (inside_off q s k 0 o), sym (inside_off q (f s) k 0 o) ∙ ap (λ (l : List ℕ). get_or l k 0) (parts_comm c i j ne p q s))
