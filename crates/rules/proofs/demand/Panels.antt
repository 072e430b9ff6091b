-- An act reads and writes its own window and that window's part of the store only, so acts on two windows come to the same in either order.
use Prim.Native.Nat.{ℕ, ◌*◌, ◌≤◌}
use mathlib.Core.Path.{◌≡◌, refl, sym, ap, ◌∙◌}
use mathlib.Core.Bool.{Bool, true, false, cond}
use mathlib.Core.List.{List, [], ◌∷◌, ◌++◌, map}
use mathlib.Core.Logic.{◌≢◌}
use mathlib.Core.Option.{Option, some}
use lib.Dec.{leb, eqb}
use lib.Seq.{set_comm, set-get_or, get_or-set_other}
use borrow.Author.Tests.{eqb-true}
use Rattle.geom.specs.Questions.{Question, ◌is◌, asked}
use Rattle.geom.specs.Geom.{width, height, small_rect, is_empty, meets, common}
use Rattle.geom.proofs.basics.Tests.{is_false, cond_no}
use Rattle.geom.proofs.basics.Lists.{All}
use Rattle.scanline.specs.Altered.{altered}
use Rattle.scanline.proofs.rows.Altered.{altered_same, altered_cond}
use Rattle.window.specs.Window.{Win}
use Rattle.rules.specs.Group as Group
use Rattle.rules.specs.Store as Store
use Rattle.rules.specs.Group.{Group, win_at, some_win, the_win, with_windows, set_win, with_mark}
use Rattle.rules.specs.Store.{bounds, dirtied, filled_at, blit_at}
use Rattle.rules.specs.Calls.{Call, does, after}
use Rattle.rules.specs.Panels.{Write, fill, blit, mark, Act, on, Interleaves, none, first, second, State, call_of, outcome, acted, played, Reply, reply, replies, redrawn, EitherOrder}
use Rattle.rules.proofs.store.Parts.{Inside, inside_none, inside_cond, inside_length, parts_comm, parts_altered}
use Rattle.rules.proofs.store.Fill.{fill_inside}
use Rattle.rules.proofs.store.Blit.{blit_inside}
use Rattle.rules.proofs.group.Invariant.{Ok}
use Rattle.rules.proofs.group.Kept.{ok_does, ok_after}

-- One act --------------------------------------------------------------------------------------------------------------

-- what an act reads of session and store: whether the store is whole, C, and the place of its window
record Seen : Type 0 where
  whole : Bool
  c : ℕ
  window : Option Win

abbrev seen : ℕ → State → Seen
seen i h = record { whole = Store.whole h.group h.store; c = h.group.c; window = win_at h.group i }

-- the questions that it asks
abbrev asks : Write → Seen → List Question
asks (fill a v) o = (1 is o.whole) ∷ (3 is some_win o.window) ∷ (5 is small_rect a) ∷ []
asks (blit a d stride) o = (1 is o.whole) ∷ (3 is some_win o.window) ∷ (5 is small_rect a) ∷ (7 is leb 1 stride) ∷ []
asks mark o = (3 is some_win o.window) ∷ []

abbrev yes : Write → Seen → Bool
yes w o = eqb (asked (asks w o)) 0

-- its window's place after an accepted one
abbrev changed : Write → Option Win → Option Win
changed (fill a v) o = cond (meets a (bounds (the_win o))) (some (dirtied (common a (bounds (the_win o))) (the_win o))) o
changed (blit a d stride) o = cond (is_empty a) o (some (dirtied a (the_win o)))
changed mark o = some (with_mark (the_win o))

-- and after any
abbrev window_after : Write → Seen → Option Win
window_after w o = cond (yes w o) (changed w o.window) o.window

abbrev store_after : ℕ → Write → Seen → List ℕ → List ℕ
store_after i (fill a v) o s = cond (yes (fill a v) o) (filled_at (i * o.c) (the_win o.window) a v s) s
store_after i (blit a d stride) o s = cond (yes (blit a d stride) o) (blit_at (i * o.c) (the_win o.window) a d stride s) s
store_after i mark o s = s

-- an act by what it reads
abbrev by_seen : State → ℕ → Write → Seen → State
by_seen h i w o = record { group = set_win i (window_after w o) h.group; store = store_after i w o h.store }

-- a test between two groups that differ at window i
cond_set : (g : Group) (i : ℕ) (t : Bool) (x y : Option Win) {a b : Group} → a ≡ set_win i x g → b ≡ set_win i y g
    → cond t a b ≡ set_win i (cond t x y) g
cond_set g i true x y p q = p
cond_set g i false x y p q = q

unchanged : (g : Group) (i : ℕ) → g ≡ set_win i (win_at g i) g
unchanged g i = ap (λ (ws : List (Option Win)). with_windows ws g) (sym (set-get_or g.windows i _))

-- the questions are asked first
by_yes : (h : State) (i : ℕ) (w : Write) {g' : Group} → g' ≡ set_win i (changed w (win_at h.group i)) h.group
    → record { group = cond (yes w (seen i h)) g' h.group; store = store_after i w (seen i h) h.store } ≡ by_seen h i w (seen i h)
by_yes h i w e =
    ap (λ (k : Group). record { group = k; store = store_after i w (seen i h) h.store })
    (cond_set h.group i (yes w (seen i h)) (changed w (win_at h.group i)) (win_at h.group i) e (unchanged h.group i))

acts : (h : State) (i : ℕ) (w : Write) → acted h (on i w) ≡ by_seen h i w (seen i h)
unfolding does Store.fill Store.blit Group.mark
acts h i (fill a v) = by_yes h i (fill a v) (cond_set h.group i (meets a (bounds (the_win (win_at h.group i)))) _ _ refl (unchanged h.group i))
acts h i (blit a d stride) = by_yes h i (blit a d stride) (cond_set h.group i (is_empty a) _ _ (unchanged h.group i) refl)
acts h i mark = by_yes h i mark refl

answer_is : (h : State) (i : ℕ) (w : Write) → (outcome h (on i w)).answer ≡ asked (asks w (seen i h))
unfolding does Store.fill Store.blit Group.mark
answer_is h i (fill a v) = refl
answer_is h i (blit a d stride) = refl
answer_is h i mark = refl

altered_is : (h : State) (i : ℕ) (w : Write) → (outcome h (on i w)).altered ≡ altered h.store (store_after i w (seen i h) h.store)
unfolding does Store.fill Store.blit Group.mark
altered_is h i (fill a v) = altered_cond (yes (fill a v) (seen i h)) h.store _
altered_is h i (blit a d stride) = altered_cond (yes (blit a d stride) (seen i h)) h.store _
altered_is h i mark = sym (altered_same h.store)

-- it keeps to its window's part of the store
store_inside : (i : ℕ) (w : Write) (o : Seen) → width (the_win o.window).at * height (the_win o.window).at ≤ o.c
    → Inside (i * o.c) o.c (store_after i w o)
unfolding filled_at blit_at
store_inside i (fill a v) o was =
    inside_cond (yes (fill a v) o)
    (λ y. inside_cond (meets a (bounds (the_win o.window))) (fill_inside (i * o.c) o.c (the_win o.window) a v was) (λ m. inside_none _ _))
    (λ y. inside_none _ _)
store_inside i (blit a d stride) o was =
    inside_cond (yes (blit a d stride) o)
    (λ y. inside_cond (is_empty a) (λ m. inside_none _ _) (λ m. blit_inside (the_win o.window) a d stride (i * o.c) o.c was))
    (λ y. inside_none _ _)
store_inside i mark o was = inside_none _ _

-- Two acts on different windows ------------------------------------------------------------------------------------------

-- an act does not change what one on another window reads
seen_other : (h : State) → Ok h.group → (a : Act) (j : ℕ) → j ≢ a.window → seen j (acted h a) ≡ seen j h
seen_other h ok a j ne =
    let i = a.window in
    let o = seen i h in
    ap (seen j) (acts h i a.write)
    ∙ (λ k. record {
      whole = eqb (inside_length (store_inside i a.write o (ok.fits i).area≤) h.store k) (16 * h.group.c);
      c = h.group.c;
      window = get_or-set_other h.group.windows i j (window_after a.write o) Option.none ne k;
    })

-- one after the other, each by what it reads before both
both : (h : State) → Ok h.group → (a b : Act) → b.window ≢ a.window
    → acted (acted h a) b ≡ by_seen (by_seen h a.window a.write (seen a.window h)) b.window b.write (seen b.window h)
both h ok a b ne =
    acts (acted h a) b.window b.write
    ∙ ap (by_seen (acted h a) b.window b.write) (seen_other h ok a b.window ne)
    ∙ ap (λ (k : State). by_seen k b.window b.write (seen b.window h)) (acts h a.window a.write)

-- two acts in either order
pub acts_comm : (h : State) → Ok h.group → (a b : Act) → a.window ≢ b.window → acted (acted h a) b ≡ acted (acted h b) a
acts_comm h ok a b ne =
    let i = a.window in
    let j = b.window in
    let o = seen i h in
    let q = seen j h in
    both h ok a b (λ e. ne (sym e))
    ∙ (λ k. record {
      group = with_windows (set_comm h.group.windows i j (window_after a.write o) (window_after b.write q) ne k) h.group;
      store = parts_comm h.group.c i j ne
          (store_inside i a.write o (ok.fits i).area≤) (store_inside j b.write q (ok.fits j).area≤) h.store k;
    })
    ∙ sym (both h ok b a ne)

-- an act on another window changes neither answer nor count
reply_other : (h : State) → Ok h.group → (a b : Act) → a.window ≢ b.window → reply (outcome (acted h b) a) ≡ reply (outcome h a)
reply_other h ok a b ne =
    let i = a.window in
    let j = b.window in
    let o = seen i h in
    let q = seen j h in
    let same : seen i (acted h b) ≡ o = seen_other h ok b i ne in
    let answer : (outcome (acted h b) a).answer ≡ (outcome h a).answer =
    answer_is (acted h b) i a.write ∙ ap (λ (x : Seen). asked (asks a.write x)) same ∙ sym (answer_is h i a.write) in
    let count : (outcome (acted h b) a).altered ≡ (outcome h a).altered =
    altered_is (acted h b) i a.write
    ∙ ap (λ (x : Seen). altered (acted h b).store (store_after i a.write x (acted h b).store)) same
    ∙ ap (λ (k : State). altered k.store (store_after i a.write o k.store)) (acts h j b.write)
    ∙ parts_altered h.group.c i j ne
    (store_inside i a.write o (ok.fits i).area≤) (store_inside j b.write q (ok.fits j).area≤) h.store
    ∙ sym (altered_is h i a.write) in
    λ k. record { answer = answer k; altered = count k }

-- Lists of acts --------------------------------------------------------------------------------------------------------

abbrev AllOn : ℕ → List Act → Type 0
AllOn i l = All (λ (a : Act). a.window ≡ i) l

all_on : (i : ℕ) (us : List Write) → AllOn i (map (on i) us)
all_on i [] = tt
all_on i (u ∷ us) = (refl, all_on i us)

ok_acted : (h : State) (a : Act) → Ok h.group → Ok (acted h a).group
ok_acted h a ok = ok_does h.group (call_of a.window a.write h.store) ok

mirrored : {xs ys zs : List Act} → Interleaves xs ys zs → Interleaves ys xs zs
mirrored none = none
mirrored (first r) = second (mirrored r)
mirrored (second r) = first (mirrored r)

module _ (i j : ℕ) (ne : i ≢ j) where
  apart : {m n : ℕ} → m ≡ i → n ≡ j → m ≢ n
  apart p q e = ne (sym p ∙ e ∙ q)

  -- an act on j moves past a list on i
  past : (h : State) → Ok h.group → (b : Act) → b.window ≡ j → (xs ys : List Act) → AllOn i xs
      → played (acted h b) (xs ++ ys) ≡ played h (xs ++ (b ∷ ys))
  unfolding played
  past h ok b q [] ys p = refl
  past h ok b q (a ∷ xs) ys p =
      ap (λ (k : State). played k (xs ++ ys)) (sym (acts_comm h ok a b (apart p.0 q)))
      ∙ past (acted h a) (ok_acted h a ok) b q xs ys p.1

  -- so an interleaving comes to the one list after the other
  one_after_other : (h : State) → Ok h.group → {xs ys zs : List Act} → Interleaves xs ys zs → AllOn i xs → AllOn j ys
      → played h zs ≡ played h (xs ++ ys)
  unfolding played
  one_after_other h ok none p q = refl
  one_after_other h ok (first {a} r) p q = one_after_other (acted h a) (ok_acted h a ok) r p.1 q
  one_after_other h ok (second {a} {xs} {ys} r) p q =
      one_after_other (acted h a) (ok_acted h a ok) r p q.1 ∙ past h ok a q.0 xs ys p

  -- an act on j changes no reply to a list on i
  unheard : (h : State) → Ok h.group → (b : Act) → b.window ≡ j → (xs : List Act) → AllOn i xs → replies i (acted h b) xs ≡ replies i h xs
  unfolding replies
  unheard h ok b q [] p = refl
  unheard h ok b q (a ∷ xs) p =
      let d = apart p.0 q in
      let rest : replies i (acted (acted h b) a) xs ≡ replies i (acted h a) xs =
      ap (λ (k : State). replies i k xs) (sym (acts_comm h ok a b d)) ∙ unheard (acted h a) (ok_acted h a ok) b q xs p.1 in
      λ k. cond (eqb a.window i) (reply_other h ok a b d k ∷ rest k) (rest k)

  own_replies : (h : State) → Ok h.group → {xs ys zs : List Act} → Interleaves xs ys zs → AllOn i xs → AllOn j ys → replies i h zs ≡ replies i h xs
  unfolding replies
  own_replies h ok none p q = refl
  own_replies h ok (first {a} r) p q =
      ap (λ (l : List Reply). cond (eqb a.window i) (reply (outcome h a) ∷ l) l) (own_replies (acted h a) (ok_acted h a ok) r p.1 q)
  own_replies h ok (second {a} {xs} {ys} {zs} r) p q =
      cond_no (λ (l : List Reply). l ≡ replies i h xs) (eqb a.window i) _ _ (is_false (λ e. ne (sym (eqb-true _ _ e) ∙ q.0)))
      (own_replies (acted h a) (ok_acted h a ok) r p q.1 ∙ unheard h ok a q.0 xs p)

-- The promise ------------------------------------------------------------------------------------------------------------

pub either_order : EitherOrder
unfolding EitherOrder
either_order c ks s i j ne us vs zs r =
    let e : State = record { group = after c ks; store = s } in
    let ok = ok_after c ks in
    let end = one_after_other i j ne e ok r (all_on i us) (all_on j vs) in
    record {
      end = end;
      redraw = λ forced w h screen. ap (λ (k : State). redrawn k forced w h screen) end;
      one = own_replies i j ne e ok r (all_on i us) (all_on j vs);
      other = own_replies j i (λ k. ne (sym k)) e ok (mirrored r) (all_on j vs) (all_on i us);
    }

-- so any two interleavings leave the same
pub any_two : (c : ℕ) (ks : List Call) (s : List ℕ) (i j : ℕ) → i ≢ j → (us vs : List Write) (zs zs' : List Act)
    → Interleaves (map (on i) us) (map (on j) vs) zs → Interleaves (map (on i) us) (map (on j) vs) zs'
    → played (record { group = after c ks; store = s }) zs ≡ played (record { group = after c ks; store = s }) zs'
unfolding EitherOrder
any_two c ks s i j ne us vs zs zs' r r' = (either_order c ks s i j ne us vs zs r).end ∙ sym (either_order c ks s i j ne us vs zs' r').end
