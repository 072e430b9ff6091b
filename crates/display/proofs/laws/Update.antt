-- Sixteen windows, one after the other: of those passed it is known where they go; of those that are left the rule says what it says of all.
use Rattle.std.proofs.Common.{ℕ, suc, ◌+◌, ◌*◌, ◌≤◌, ◌<◌, ◌≡◌, refl, sym, ap, ◌∙◌, Bool, true, false, not, ◌&&◌, ◌||◌, List, [], ◌∷◌, map, length, drop, get_or, set, arith, add-one, add-zero, zero-add, mul-le-mul_right, length-set, drop-cons}
use Rattle.std.proofs.Math.ListN.{get_or-map}
use Rattle.std.proofs.Math.Seq.{drop-length}
use Rattle.geom.specs.declared.Rect.{Rect}
use Rattle.geom.specs.declared.inner.rect16.Rect16.{Rect16}
use Rattle.geom.specs.Rect16.{Small, rect_of, no_rect16}
use Rattle.geom.proofs.basics.Lists.{set_in}
use Rattle.rules.specs.Displays.{updated_at, resized_store, fits, every_by_id}
use Rattle.rules.proofs.store.Resize.{length_resized}
use Rattle.std.specs.List.{list_all}
use Rattle.geom.proofs.basics.Lists.{map_set}
use Rattle.display.specs.declared.update.Move.{Move}
use Rattle.display.specs.inner.Update.{Moves, moves_of, place, resizes, MovesTo, all_fit, resized_one, all_resized}

-- Where each goes ------------------------------------------------------------------------------------------------------

abbrev moves : List Rect16 → List Bool → Moves
moves to flags = record { areas = to; resizes = flags }

module _ {ds : List Rect} {areas : List Rect16} {used maximised : List Bool} where
  -- one window more
  pub moves_more : {to : List Rect16} {flags : List Bool} {n : ℕ} → MovesTo ds areas used maximised n (moves to flags) → n < 16 → (a : Rect16) (b : Bool)
      → b ≡ get_or used n false && get_or maximised n false → (rect_of a ≡ updated_at ds b (place areas n)) × Small (rect_of a)
      → MovesTo ds areas used maximised (n + 1) (moves (set to n a) (set flags n b))
  moves_more {to} {flags} {n} q l a b e p = record {
    all = length-set to n a ∙ q.all;
    flags = length-set flags n b ∙ q.flags;
    resized = λ i h. set_in (λ (t : Bool). t ≡ get_or used i false && get_or maximised i false) flags n i b false (λ _. omega (arith, q.flags))
        (λ j. rw j e) (λ j. q.resized i (omega (arith, h, j)));
    at = λ i h. set_in (λ (x : Rect16). rect_of x ≡ updated_at ds (get_or (set flags n b) i false) (place areas i)) to n i a no_rect16 (λ _. omega (arith, q.all))
        (λ j. flag_at i (λ (t : Bool). rect_of a ≡ updated_at ds t (place areas i)) (λ _. rw j p.0) (λ k. absurd (k j)))
        (λ j. flag_at i (λ (t : Bool). place to i ≡ updated_at ds t (place areas i)) (λ k. absurd (j k)) (λ _. q.at i (omega (arith, h, j))));
    small = λ i h. set_in (λ (x : Rect16). Small (rect_of x)) to n i a no_rect16 (λ _. omega (arith, q.all)) (λ _. p.1) (λ j. q.small i (omega (arith, h, j)));
  }
    where
      flag_at : (i : ℕ) (P : Bool → Type 0) → (i ≡ n → P b) → ((i ≡ n → ⊥) → P (get_or flags i false)) → P (get_or (set flags n b) i false)
      flag_at i P = set_in P flags n i b false (λ _. omega (arith, q.flags))

none_left : (l : List Rect16) (i : ℕ) → i ≡ length l → drop i l ≡ []
none_left l i e = rw e (drop-length l)

-- one window more, of those that are held together
pub moves_set : (ms : List Move) (n : ℕ) (m : Move) → moves_of (set ms n m) ≡ moves (set (map (λ m. m.to) ms) n m.to) (set (map (λ m. m.resizes) ms) n m.resizes)
moves_set ms n m = λ i. record { areas = map_set (λ m. m.to) ms n m i; resizes = map_set (λ m. m.resizes) ms n m i }

-- what is held of one window
abbrev pub no_move : Move
no_move = record { to = no_rect16; resizes = false }

pub to_at : (ms : List Move) (i : ℕ) → place (moves_of ms).areas i ≡ rect_of (get_or ms i no_move).to
to_at ms i = ap rect_of (get_or-map (λ m. m.to) ms i no_move)

pub flag_at : (ms : List Move) (i : ℕ) → resizes (moves_of ms) i ≡ (get_or ms i no_move).resizes
flag_at ms i = get_or-map (λ m. m.resizes) ms i no_move

-- Question 6 of all ----------------------------------------------------------------------------------------------------

-- the windows from number k on, whose flags f has by number
every_is : (c : ℕ) (f : ℕ → Bool) (k : ℕ) (ms : List Move) → ((i : ℕ) → i < length ms → f (k + i) ≡ (get_or ms i no_move).resizes)
    → list_all (λ m. not m.resizes || fits c (rect_of m.to)) ms ≡ every_by_id (λ i a. not (f i) || fits c (rect_of a)) k (map (λ m. m.to) ms)
every_is c f k [] h = refl
every_is c f k (m ∷ ms) h =
    let here : f k ≡ m.resizes = ap f (sym (add-zero k)) ∙ h 0 (omega arith) in
    rw here
    (ap (λ (b : Bool). (not m.resizes || fits c (rect_of m.to)) && b)
    (every_is c f (suc k) ms (λ i l. let e : suc k + i ≡ k + suc i = omega arith in ap f e ∙ h (suc i) (omega arith))))

pub fit_is : (c : ℕ) (ms : List Move) → list_all (λ m. not m.resizes || fits c (rect_of m.to)) ms ≡ all_fit c (moves_of ms)
unfolding all_fit
fit_is c ms = every_is c (resizes (moves_of ms)) 0 ms (λ i _. ap (resizes (moves_of ms)) (zero-add i) ∙ flag_at ms i)

-- The pixels -----------------------------------------------------------------------------------------------------------

-- those of the first i windows are resized
pub record Resizing (c : ℕ) (old : List Rect16) (m : Moves) (s t : List ℕ) (i : ℕ) : Type 0 where
  pub size : length m.areas ≡ 16
  pub within : i ≤ 16
  pub same : length t ≡ length s
  pub so_far : all_resized c old m.resizes 0 m.areas s ≡ all_resized c old m.resizes i (drop i m.areas) t

module _ {c : ℕ} {old : List Rect16} {m : Moves} {s t : List ℕ} {i : ℕ} (q : Resizing c old m s t i) where
  module _ (l : i < 16) where
    one : all_resized c old m.resizes 0 m.areas s
        ≡ all_resized c old m.resizes (suc i) (drop (suc i) m.areas) (resized_one c old m.resizes i (get_or m.areas i no_rect16) t)
    unfolding all_resized
    one =
        q.so_far
        ∙ ap (λ (l : List Rect16). all_resized c old m.resizes i l t) (drop-cons m.areas i no_rect16 (omega (arith, q.size)))

    pub resizes_on : resizes m i ≡ true → (u : List ℕ) → u ≡ resized_store (i * c) c (place old i) (place m.areas i) t → Resizing c old m s u (i + 1)
    resizes_on e u is =
        record {
          size = q.size;
          within = omega arith;
          same = ap length is ∙ length_resized (i * c) c _ _ _ _ t ∙ q.same;
          so_far = one ∙ rw (e, add-one, is) refl;
        }

    pub skips : resizes m i ≡ false → Resizing c old m s t (i + 1)
    skips e = record { size = q.size; within = omega arith; same = q.same; so_far = one ∙ rw (e, add-one) refl }

  pub resized : 16 ≤ i → t ≡ all_resized c old m.resizes 0 m.areas s
  unfolding all_resized
  resized l =
      let n : i ≡ length m.areas = omega (arith, q.size, q.within) in
      sym (q.so_far ∙ ap (λ (l : List Rect16). all_resized c old m.resizes i l t) (none_left m.areas i n))

  -- the pixels of window i lie in the store
  pub room : length s ≡ 16 * c → i < 16 → i * c + c ≤ length t
  room e l = let h : suc i * c ≤ 16 * c = mul-le-mul_right c l in omega (arith, q.same)
