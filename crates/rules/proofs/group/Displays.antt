-- Displays and maximising: lists by id entry by entry, the display answered is one that was added or (0,0,0,0), and what is put there fits.
use Prim.Native.Nat.{ℕ, zero, suc, ◌+◌, ◌*◌, ◌≤◌, ◌<◌}
use mathlib.Core.Path.{◌≡◌, refl, sym, ap, ◌∙◌}
use mathlib.Core.Bool.{Bool, true, false, not, ◌&&◌, ◌||◌}
use mathlib.Core.List.{List, [], ◌∷◌, ◌++◌, map}
use mathlib.Core.Option.{Option, none, some}
use native.Mathlib.Omega.{arith}
use lib.ListN.{length, get_or, length-append}
use borrow.Author.Tests.{ltb-true, leb-true, not-true}
use Rattle.geom.specs.declared.Rect.{Rect}
use Rattle.geom.specs.Questions.{small}
use Rattle.geom.specs.Geom.{left, top, width, height, right, bottom, is_empty, small_rect}
use Rattle.geom.specs.Displays.{Located, on, closest, answered}
use Rattle.geom.proofs.basics.Tests.{fst, snd}
use Rattle.geom.proofs.basics.Lists.{all_append, all_imp}
use Rattle.geom.proofs.geometry.Displays.{display_in}
use Rattle.window.specs.declared.Event.TheVariants as Event
use Rattle.window.specs.Window.{Win}
use Rattle.rules.specs.Group.{Group, some_win, the_win, win_at, win, is_maximised, with_displays}
use Rattle.rules.specs.Displays.{on_screen, room_for, locate, on_only, kept_at, updated_at, with_at, resized_to, fits, updated, display_of, each_by_id, every_by_id, updated_win, update_fits, update_store, update_stores, every_fits, all_updated}
use Rattle.rules.proofs.store.Update.{Own, own_update, length_stores, each_own}
use Rattle.rules.proofs.group.Invariant.{WinOk, Screen, Ok, new_ok, ok_windows, ok_displays, pushed_few}

-- Lists by id --------------------------------------------------------------------------------------------------------

module _ {A : Type 0} where
  pub length_each : (f : ℕ → A → A) (i : ℕ) (l : List A) → length (each_by_id f i l) ≡ length l
  length_each f i [] = refl
  length_each f i (a ∷ l) = ap suc (length_each f (suc i) l)

  -- an entry; past the end stands the default, which f leaves
  pub each_at : (f : ℕ → A → A) (i : ℕ) (l : List A) (j k : ℕ) (d : A) → k ≡ i + j → f k d ≡ d → get_or (each_by_id f i l) j d ≡ f k (get_or l j d)
  each_at f i [] j k d e h = sym h
  each_at f i (a ∷ l) zero k d e h = let q : i ≡ k = omega arith in ap (λ (n : ℕ). f n a) q
  each_at f i (a ∷ l) (suc j) k d e h = each_at f (suc i) l j k d (omega arith) h

  pub each_in : (f : ℕ → A → A) (i : ℕ) (l : List A) (j k : ℕ) (d : A) → k ≡ i + j → j < length l → get_or (each_by_id f i l) j d ≡ f k (get_or l j d)
  each_in f i [] j k d e h = absurd (omega arith)
  each_in f i (a ∷ l) zero k d e h = let q : i ≡ k = omega arith in ap (λ (n : ℕ). f n a) q
  each_in f i (a ∷ l) (suc j) k d e h = each_in f (suc i) l j k d (omega arith) (omega arith)

  pub every_at : (p : ℕ → A → Bool) (i : ℕ) (l : List A) (j k : ℕ) (d : A) → k ≡ i + j → p k d ≡ true → every_by_id p i l ≡ true → p k (get_or l j d) ≡ true
  every_at p i [] j k d e h t = h
  every_at p i (a ∷ l) zero k d e h t = let q : i ≡ k = omega arith in ap (λ (n : ℕ). p n a) (sym q) ∙ fst (p i a) _ t
  every_at p i (a ∷ l) (suc j) k d e h t = every_at p (suc i) l j k d (omega arith) h (snd (p i a) _ t)

-- what an entry becomes, or whether it passes, depends on a part of it alone
module _ {A B : Type 0} (m : A → B) where
  pub each_map : (f : ℕ → A → A) (h : ℕ → B → B) → ((id : ℕ) (a : A) → m (f id a) ≡ h id (m a)) → (i : ℕ) (l : List A)
      → map m (each_by_id f i l) ≡ each_by_id h i (map m l)
  each_map f h e i [] = refl
  each_map f h e i (a ∷ l) = rw (e i a, each_map f h e (suc i) l)

  pub every_map : (p : ℕ → A → Bool) (q : ℕ → B → Bool) → ((id : ℕ) (a : A) → p id a ≡ q id (m a)) → (i : ℕ) (l : List A)
      → every_by_id p i l ≡ every_by_id q i (map m l)
  every_map p q e i [] = refl
  every_map p q e i (a ∷ l) = rw (e i a, every_map p q e (suc i) l)

-- The display answered -----------------------------------------------------------------------------------------------

-- a display that passes question 15
pub screen : (r : Rect) → on_screen r ≡ true → Screen r
screen r t =
    let ends : small (right r) && small (bottom r) ≡ true = snd (not (is_empty r)) _ t in
    record { solid = not-true (is_empty r) (fst (not (is_empty r)) _ t); right≤ = leb-true _ _ (fst _ _ ends); bottom≤ = leb-true _ _ (snd (small (right r)) _ ends) }

-- it has small numbers
record Low (r : Rect) : Type 0 where
  left≤ : left r ≤ 32767
  top≤ : top r ≤ 32767
  width≤ : width r ≤ 32767
  height≤ : height r ≤ 32767

low_screen : (r : Rect) → Screen r → Low r
low_screen r s = omega (arith, s.right≤, s.bottom≤)

low_at : (g : Group) → Ok g → (r : Rect) → Low (answered (locate g.displays r))
low_at g ok r = display_in Low (left r) (top r) g.displays (omega arith) (all_imp Screen Low low_screen g.displays ok.displays.each)

low_only : (a : Located) → Low (answered a) → Low (on_only a)
low_only (on d) l = l
low_only (closest d) l = omega arith

-- What is put there --------------------------------------------------------------------------------------------------

taken_ok : (c : ℕ) (d : Rect) (w : Win) → Low d → fits c d ≡ true → WinOk c w → WinOk c (resized_to d w)
taken_ok c d w l f ok = omega (arith, leb-true, l.left≤, l.top≤, l.width≤, l.height≤, pushed_few w.queue Event.Resize ok.queue≤)

kept_ok : (c : ℕ) (a : Located) (w : Win) → Low (answered a) → WinOk c w → WinOk c (with_at (kept_at a w.at) w)
kept_ok c (on d) w l ok = omega (arith, ok.left≤, ok.top≤, ok.width≤, ok.height≤, ok.area≤, ok.queue≤)
kept_ok c (closest d) w l ok = omega (arith, l.left≤, l.top≤, ok.left≤, ok.top≤, ok.width≤, ok.height≤, ok.area≤, ok.queue≤)

pub maximised_ok : (g : Group) (id : ℕ) → Ok g → fits g.c (display_of g id) ≡ true → WinOk g.c (resized_to (display_of g id) (win g id))
maximised_ok g id ok f = taken_ok g.c (display_of g id) (win g id) (low_only (locate g.displays (win g id).at) (low_at g ok (win g id).at)) f (ok.fits id)

module _ (g : Group) (ok : Ok g) where
  updated_ok : (m : Bool) (w : Win) → not m || fits g.c (updated_at g.displays true w.at) ≡ true → WinOk g.c w → WinOk g.c (updated g.displays m w)
  updated_ok true w f h = taken_ok g.c _ w (low_at g ok w.at) f h
  updated_ok false w f h = kept_ok g.c (locate g.displays w.at) w (low_at g ok w.at) h

  -- a window of an id after `update_dims`
  pub window_at_lem : (id : ℕ) → win_at (all_updated g) id ≡ updated_win g id (win_at g id)
  window_at_lem id = each_at (updated_win g) 0 g.windows id id none (omega arith) refl

  pub used_updated : (id : ℕ) (o : Option Win) → some_win (updated_win g id o) ≡ some_win o
  used_updated id none = refl
  used_updated id (some w) = refl

  pub fits_at : (id : ℕ) → every_fits g ≡ true → update_fits g id (win_at g id) ≡ true
  fits_at id = every_at (update_fits g) 0 g.windows id id none (omega arith) refl

  pub ok_updated : every_fits g ≡ true → Ok (all_updated g)
  ok_updated f =
      ok_windows _ g ok (length_each (updated_win g) 0 g.windows ∙ ok.sixteen)
      (λ id s. ap some_win (window_at_lem id) ∙ used_updated id (win_at g id) ∙ ok.shown_used id s)
      (λ id. rw (window_at_lem id) (each id (win_at g id) (fits_at id f) (ok.fits id)))
    where
      each : (id : ℕ) (o : Option Win) → update_fits g id o ≡ true → WinOk g.c (the_win o) → WinOk g.c (the_win (updated_win g id o))
      each id none f h = new_ok g.c
      each id (some w) f h = updated_ok (is_maximised g id) w f h

  -- its pixels, which its own rule alone makes
  module _ (f : every_fits g ≡ true) where
    pub own_at : (id : ℕ) → Own (id * g.c) g.c (update_store g id (win_at g id))
    own_at id = own_update g id (win_at g id) (ok.fits id).area≤ (fits_at id f)

    from : (n id : ℕ) → id ≡ 0 + n → get_or g.windows n none ≡ win_at g id
    from n id e = let q : n ≡ id = omega arith in ap (λ (k : ℕ). get_or g.windows k none) q

    pub length_updated : (s : List ℕ) → length (update_stores g 0 g.windows s) ≡ length s
    length_updated s = length_stores g (win_at g) own_at g.windows 0 s from

    pub stored_at : (s : List ℕ) (id x : ℕ) → x < g.c
        → get_or (update_stores g 0 g.windows s) (id * g.c + x) 0 ≡ get_or (update_store g id (win_at g id) s) (id * g.c + x) 0
    stored_at s id x hx = each_own g (win_at g) own_at g.windows 0 id x s from (omega arith) hx

  -- a display is added
  pub ok_added : (r : Rect) → small_rect r && on_screen r && room_for g.displays ≡ true → Ok (with_displays (g.displays ++ (r ∷ [])) g)
  ok_added r u =
      let h = ok.displays in
      ok_displays (g.displays ++ (r ∷ [])) g.maximised g ok
      (record {
        few = omega (arith, length-append g.displays (r ∷ []), ltb-true (length g.displays) 8 (snd (small_rect r && on_screen r) _ u));
        each = all_append Screen g.displays (r ∷ []) h.each (screen r (snd (small_rect r) _ (fst (small_rect r && on_screen r) _ u)), tt);
        flags = h.flags;
      })
