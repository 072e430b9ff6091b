-- The calls that are lent the store: their first two questions, their two ends, and where the window's pixels lie.
use Prim.Native.Nat.{ℕ, suc, ◌*◌, ◌+◌, ◌≤◌, ◌<◌}
use mathlib.Core.Path.{◌≡◌, refl, sym, ap, subst, ◌∙◌}
use mathlib.Core.Bool.{Bool, true, false, cond, ◌&&◌}
use mathlib.Core.List.{List, ◌∷◌}
use mathlib.Core.Option.{Option, none, some}
use native.Mathlib.Nat.{mul-le-mul_right}
use native.Mathlib.Omega.{arith}
use lib.Dec.{ltb, eqb, eqb-suc-zero}
use lib.ListN.{length, set}
use lib.Seq.{set-get_or}
use borrow.Author.Tests.{leb-true, ltb-true, lt-ltb, eq-eqb, ne_eqb}
use Rattle.std.specs.Prelude.{Result, Ok, Err}
use Rattle.geom.specs.declared.Rect.{Rect}
use Rattle.geom.specs.declared.refusal.Refusal.{Refusal}
use Rattle.geom.specs.declared.refusal.Refusal.TheVariants.{StoreLength, UnknownId}
use Rattle.geom.specs.Refusals.{number}
use Rattle.geom.specs.Questions.{Question, ◌is◌, asked, small}
use Rattle.geom.specs.Geom.{small_rect}
use Rattle.geom.specs.declared.inner.rect16.Rect16.{Rect16}
use Rattle.geom.specs.Rect16.{Small, rect_of}
use Rattle.geom.proofs.basics.Tests.{clash, fst, snd}
use Rattle.scanline.specs.Pixels.{resized_at}
use Rattle.scanline.specs.Altered.{altered}
use Rattle.scanline.proofs.rows.Altered.{altered_same}
use Rattle.window.specs.declared.Window.{Window}
use Rattle.window.specs.Window.{Win}
use Rattle.window.specs.Represents.{win_of, RepWindow}
use Rattle.rules.specs.Group.{Group, used, win, win_at, the_win, some_win, with_windows, set_win}
use Rattle.rules.specs.Store.{whole}
use Rattle.rules.specs.Calls.{Call, does, accepted}
use Rattle.rules.specs.Panels.{Write, call_of}
use Rattle.rules.specs.Conditions.{lent_store}
use Rattle.rules.proofs.group.Refused.{refused_store}
use Rattle.rules.proofs.group.Invariant.{WinOk}
use Rattle.windows.specs.declared.Shared.{Shared}
use Rattle.windows.specs.declared.Session.{Session}
use Rattle.windows.specs.View.{group, window_at, holding, ruled, Given, MeetsStore, MeetsAltered, done, written}
use Rattle.windows.specs.inner.One.{At, with_window}
use Rattle.windows.specs.inner.Lent.{questions, Begins}
use Rattle.windows.specs.inner.Sharing.{with_maximised, indebted}
use Rattle.windows.specs.inner.Pixels.{Becomes, RowsIn, Paints, Resizable}
use Rattle.windows.proofs.laws.Session.{used_at, win_at_lem, put_window, put_group, put_rep, given_ok, refuses, gives}
use Rattle.windows.proofs.laws.Refused.{before}
use Rattle.windows.proofs.laws.Shared.{Shares, same_shared}
use Rattle.windows.proofs.laws.One.{rewrites, asks_used, own}

-- Question 5 ---------------------------------------------------------------------------------------------------------

pub small_rect_lem : (a : Rect) → small_rect a ≡ true → Small a
small_rect_lem a h = search (fst, snd, leb-true)

pub small_size_lem : (w h : ℕ) → small w && small h ≡ true → (w ≤ 32767) × (h ≤ 32767)
small_size_lem w h e = search (fst, snd, leb-true)

-- Questions 1 and 3 --------------------------------------------------------------------------------------------------

-- the rule of a call that is lent the store and names the window id. It asks 1 and 3, and then the rest. The window becomes f of it, the
-- store F of the window, and the group G of the group with that window
pub record Rule (call : Call) (id : ℕ) (store : List ℕ) (rest : Group → List Question) (f : Group → Win → Win) (F : Group → Win → List ℕ) (G : Group → Group) :
    Type 0 where
  pub lent : lent_store call ≡ some store
  pub asks : (g : Group) → (does g call).answer ≡ asked ((1 is whole g store) ∷ (3 is used g id) ∷ rest g)
  pub after : (g : Group) → used g id ≡ true → (does g call).group ≡ cond (accepted g call) (G (set_win id (some (f g (win g id))) g)) g
  pub stored : (g : Group) → (does g call).store ≡ cond (accepted g call) (F g (win g id)) store

pub c_is : (s : Session) → (group s).c ≡ s.shared.c
unfolding group
c_is s = refl

-- a session that holds the window of the id at this place
module _ {s : Session} {id at : ℕ} (h : Given s) (p : At id at) (store : List ℕ) where
  -- the questions as the code asks them
  abbrev pub asks_first : List Question → List Question
  asks_first rest = questions id (window_at s at).used s.shared.c (length store) rest

  module _ {base : ℕ} (b : Begins id (window_at s at).used s.shared.c (length store) base) where
    pub low : id < 16
    low = ltb-true id 16 (fst (ltb id 16) (window_at s at).used b.in_use)

    pub there : at ≡ id
    there = p.same low

    pub in_use : (window_at s at).used ≡ true
    in_use = snd (ltb id 16) (window_at s at).used b.in_use

    is_used : (window_at s id).used ≡ true
    is_used = ap (λ (j : ℕ). (window_at s j).used) (sym there) ∙ in_use

    first_asked : (rest : List Question) → asked (asks_first rest) ≡ asked rest
    first_asked rest = rw (eq-eqb (length store) (16 * s.shared.c) b.whole, lt-ltb id 16 low, in_use)

    -- The window's pixels

    pub rep : RepWindow (window_at s at)
    rep = h.rep.each at p.inside

    pub size : WinOk s.shared.c (win_of (window_at s at))
    unfolding group
    size = subst (WinOk s.shared.c) (win_at_lem s at in_use) ((given_ok s h).fits at)

    -- its C pixels lie in the store
    pub ends : base + s.shared.c ≤ length store
    ends = let m : suc id * s.shared.c ≤ 16 * s.shared.c = mul-le-mul_right s.shared.c low in omega (arith, b.whole, b.begins)

    -- and its rows in them
    pub stored : RowsIn (length store) base (window_at s at).at
    stored = record { small = rep.at; room = omega (arith, ends, size.area≤) }

    -- its pixels can go to another place and size that fits C
    pub resizable : (to : Rect16) → Small (rect_of to) → to.w * to.h ≤ s.shared.c → Resizable (length store) base s.shared.c to (window_at s at)
    resizable to small fits = record { rep = rep; room = ends; old = size.area≤; new = fits; small = small }

    -- where they begin, by the rule
    pub resized_there : (w h w' h' : ℕ) {t : List ℕ} → t ≡ resized_at base s.shared.c w h w' h' store
        → t ≡ resized_at (id * (group s).c) (group s).c w h w' h' store
    unfolding group
    resized_there w h w' h' e = e ∙ ap (λ (j : ℕ). resized_at j s.shared.c w h w' h' store) b.begins

    -- its flag is another, and a full redraw is owed
    pub flagged : (on : Bool) {k : Shared} → k ≡ indebted (with_maximised at on s.shared) → k ≡ indebted (with_maximised id on s.shared)
    flagged on e = e ∙ ap (λ (j : ℕ). indebted (with_maximised j on s.shared)) there

  module _ {call : Call} {rest : Group → List Question} {f : Group → Win → Win} {F : Group → Win → List ℕ} {G : Group → Group}
      (rule : Rule call id store rest f F G) where
    answers : (does (group s) call).answer ≡ asked (asks_first (rest (group s)))
    unfolding group
    answers =
        rule.asks (group s)
        ∙ (λ i. asked ((1 is eqb (length store) (16 * s.shared.c)) ∷ (3 is asks_used s at (own h p) i) ∷ rest (group s)))

    refused : (refusal : Refusal) → asked (asks_first (rest (group s))) ≡ number refusal → MeetsStore call s (done s (number refusal)) store
    refused refusal e =
        let n = before refusal in
        let q : (does (group s) call).answer ≡ suc n.0 = answers ∙ e ∙ n.1 in
        subst (λ (a : ℕ). MeetsStore call s (done s a) store) (sym n.1)
        (record {
          meets = refuses call s n.0 h q;
          stored = sym (refused_store (group s) call store rule.lent (ap (λ (a : ℕ). eqb a 0) q ∙ eqb-suc-zero n.0));
        })

    -- question 1 or 3 is answered no
    pub not_begun : (refusal : Refusal) → ((others : List Question) → asked (asks_first others) ≡ number refusal)
        → MeetsStore call s (done s (number refusal)) store
    not_begun refusal e = refused refusal (e (rest (group s)))

    -- question 1 is
    pub not_whole : (length store ≡ 16 * s.shared.c → ⊥) → MeetsStore call s (done s 1) store
    not_whole n = not_begun StoreLength (λ others. rw (ne_eqb (length store) (16 * s.shared.c) n))

    -- question 3 is, as the code asks it
    pub not_used : {b : Bool} → length store ≡ 16 * s.shared.c → b ≡ ltb id 16 && (window_at s at).used → b ≡ false
        → MeetsStore call s (done s 3) store
    not_used e u t =
        let n : ltb id 16 && (window_at s at).used ≡ false = sym u ∙ t in
        not_begun UnknownId (λ others. rw (eq-eqb (length store) (16 * s.shared.c) e, n))

    module _ {base : ℕ} (b : Begins id (window_at s at).used s.shared.c (length store) base) where
      -- a later one is
      pub no : (refusal : Refusal) → asked (rest (group s)) ≡ number refusal → MeetsStore call s (done s (number refusal)) store
      no refusal e = refused refusal (first_asked b (rest (group s)) ∙ e)

      put : {K : Shared → Shared} → Shares K G → (r : Window) (t : List ℕ)
          → (does (group s) call).answer ≡ 0
          → Becomes (window_at s id) (f (group s) (win_of (window_at s id))) r → t ≡ F (group s) (win_of (window_at s id))
          → MeetsStore call s (done (with_window id r (K s.shared) s) 0) t
      unfolding group
      put {K} shares r t z c e =
          let u = is_used b in
          let y : accepted (group s) call ≡ true = ap (λ (n : ℕ). eqb n 0) z in
          let v : win_of (window_at s id) ≡ win (group s) id = sym (win_at_lem s id u) in
          let k = put_rep s id r h.rep c.rep in
          record {
            meets =
                gives call s (with_window id r (K s.shared) s) h (shares.rep (put_window id r s) k) z
                (shares.group (put_window id r s) k
                ∙ ap G (put_group s id r (c.used ∙ u) ∙ ap (λ (x : Win). set_win id (some x) (group s)) (c.is ∙ ap (f (group s)) v))
                ∙ sym (rule.after (group s) (used_at s id ∙ u) ∙ rw y));
            stored = e ∙ ap (F (group s)) v ∙ sym (rule.stored (group s) ∙ rw y);
          }

      -- all are answered yes
      pub yes : {K : Shared → Shared} → Shares K G → {r : Window} {t : List ℕ} → asked (rest (group s)) ≡ 0
          → Becomes (window_at s at) (f (group s) (win_of (window_at s at))) r → t ≡ F (group s) (win_of (window_at s at))
          → MeetsStore call s (done (with_window at r (K s.shared) s) 0) t
      yes {K} shares {r} {t} e =
          subst
          (λ (j : ℕ). Becomes (window_at s j) (f (group s) (win_of (window_at s j))) r → t ≡ F (group s) (win_of (window_at s j))
          → MeetsStore call s (done (with_window j r (K s.shared) s) 0) t)
          (sym (there b)) (put shares r t (answers ∙ first_asked b (rest (group s)) ∙ e))

-- Pixels altered -----------------------------------------------------------------------------------------------------

-- a fill or a blit hands back how many pixels of the store differ, refused or not
pub record Counts (call : Call) (store : List ℕ) : Type 0 where
  pub counts : (g : Group) → (does g call).altered ≡ altered store (does g call).store

module _ {s : Session} {id at : ℕ} (h : Given s) (p : At id at) (u : Write) (store : List ℕ) (c : Counts (call_of id u store) store) where
  counted : {t : List ℕ} {r : Session} {a n : ℕ} → MeetsStore (call_of id u store) s (done r a) t → n ≡ altered store t
      → n ≡ (does (group s) (call_of id u store)).altered
  counted meets e = e ∙ ap (altered store) meets.stored ∙ sym (c.counts (group s))

  -- of a refused one, which leaves the store as it was
  pub refused_one : (refusal : Refusal) → MeetsStore (call_of id u store) s (done s (number refusal)) store
      → MeetsAltered id u store s (written s (Err refusal)) store
  refused_one refusal meets =
      let n = before refusal in
      record {
        meets = meets;
        altered = counted meets (sym (altered_same store));
        whole = λ z. absurd (omega (arith, sym n.1 ∙ z));
      }

  -- the same of an answer that is that refusal
  pub refused_as : (refusal : Refusal) {r : Result ℕ Refusal} → r ≡ Err refusal
      → MeetsStore (call_of id u store) s (done s (number refusal)) store → MeetsAltered id u store s (written s r) store
  refused_as refusal e meets =
      subst (λ (r : Result ℕ Refusal). MeetsAltered id u store s (written s r) store) (sym e) (refused_one refusal meets)

  -- of an accepted one: its window becomes what the rule says, and all else stays
  pub accepted_one : {base : ℕ} {r : Window} {t : List ℕ} {n : ℕ} → Begins id (window_at s at).used s.shared.c (length store) base
      → r ≡ holding (ruled u (win_of (window_at s at))) (window_at s at)
      → MeetsStore (call_of id u store) s (done (with_window at r s.shared s) 0) t
      → n ≡ altered store t → MeetsAltered id u store s (written (with_window at r s.shared s) (Ok n)) t
  accepted_one b v meets e =
      record { meets = meets; altered = counted meets e; whole = λ _. rewrites u (low h p store b) v s at (own h p) }

  -- the same by its rule
  pub painted : (F : ℕ → Win → List ℕ) {rest : Group → List Question} {base : ℕ} {r : Window} {t : List ℕ} {n : ℕ}
      → Rule (call_of id u store) id store rest (λ _. ruled u) (λ g. F (id * g.c)) (λ g. g)
      → Begins id (window_at s at).used s.shared.c (length store) base → asked (rest (group s)) ≡ 0
      → Paints (window_at s at) (ruled u (win_of (window_at s at))) (F base (win_of (window_at s at))) store r t n
      → MeetsAltered id u store s (written (with_window at r s.shared s) (Ok n)) t
  unfolding group
  painted F rule b e q =
      accepted_one b q.whole
      (yes h p store rule b same_shared e q.window (q.counted.pixels ∙ ap (λ (j : ℕ). F j (win_of (window_at s at))) b.begins))
      q.counted.altered

  -- where that is said of every window with its place and its damage
  pub accepted_as : (F : ℕ → Win → List ℕ) {rest : Group → List Question} {base : ℕ} {r : Window → Window} {t : List ℕ} {n : ℕ}
      → Rule (call_of id u store) id store rest (λ _. ruled u) (λ g. F (id * g.c)) (λ g. g)
      → Begins id (window_at s at).used s.shared.c (length store) base → asked (rest (group s)) ≡ 0
      → ((w : Window) → RepWindow w → w.at ≡ (window_at s at).at → w.damage ≡ (window_at s at).damage
      → Paints w (ruled u (win_of w)) (F base (win_of w)) store (r w) t n)
      → MeetsAltered id u store s (written (with_window at (r (window_at s at)) s.shared s) (Ok n)) t
  accepted_as F rule b e q = painted F rule b e (q (window_at s at) (rep h p store b) refl refl)

-- A window put back --------------------------------------------------------------------------------------------------

some_win_lem : (o : Option Win) → some_win o ≡ true → some (the_win o) ≡ o
some_win_lem none e = clash e refl
some_win_lem (some w) e = refl

-- as it was
pub set_same : (g : Group) (id : ℕ) → used g id ≡ true → set_win id (some (win g id)) g ≡ g
set_same g id u =
    ap (λ (ws : List (Option Win)). with_windows ws g)
    (ap (set g.windows id) (some_win_lem (win_at g id) u) ∙ set-get_or g.windows id none)

-- changed where a test passes
pub set_if : (g : Group) (id : ℕ) (t : Bool) (v : Win) → used g id ≡ true
    → cond t (set_win id (some v) g) g ≡ set_win id (some (cond t v (win g id))) g
set_if g id true v u = refl
set_if g id false v u = sym (set_same g id u)

-- where it fails
pub set_unless : (g : Group) (id : ℕ) (t : Bool) (v : Win) → used g id ≡ true
    → cond t g (set_win id (some v) g) ≡ set_win id (some (cond t (win g id) v)) g
set_unless g id true v u = sym (set_same g id u)
set_unless g id false v u = refl
