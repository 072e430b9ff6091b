-- A law of the window that lies at an id's place, in every session that holds it.
use Prim.Native.Nat.{ℕ, ◌<◌}
use mathlib.Core.Path.{◌≡◌, refl, sym, ap, subst, ◌∙◌}
use mathlib.Core.Bool.{Bool, true, false, ◌&&◌}
use mathlib.Core.List.{List}
use mathlib.Core.Logic.{⊎_elim}
use mathlib.Core.Option.{Option}
use lib.Dec.{ltb}
use lib.Seq.{set-get_or}
use borrow.Author.Tests.{ltb-true, lt-ltb, le-ltb}
use Rattle.std.specs.Prelude.{Result}
use Rattle.geom.specs.declared.inner.rect16.Rect16.{Rect16}
use Rattle.geom.specs.declared.refusal.Refusal.{Refusal}
use Rattle.geom.proofs.basics.Tests.{fst, snd, lt_or_le}
use Rattle.window.specs.declared.Window.{Window}
use Rattle.window.specs.declared.damage.Damage.{Damage}
use Rattle.window.specs.Represents.{win_of, RepWindow}
use Rattle.order.specs.Ids.{ids}
use Rattle.order.specs.inner.Order.{render_idx}
use Rattle.rules.specs.Group.{used}
use Rattle.rules.specs.Calls.{Call}
use Rattle.rules.specs.Panels.{Write}
use Rattle.windows.specs.declared.Shared.{Shared}
use Rattle.windows.specs.declared.Session.{Session}
use Rattle.windows.specs.View.{Done, Written, blank, group, window_at, holding, ruled, rewritten, done, written, Given, Meets, MeetsStore, MeetsAltered, MeetsMark}
use Rattle.windows.specs.inner.One.{At, Holds, Held, Changed, with_window, MeetsAt, MeetsMarkAt}
use Rattle.windows.proofs.laws.Session.{used_at, used_past}

-- Parts of a session ---------------------------------------------------------------------------------------------------

-- a new share alone
pub shares : (P : Session → Type 0) (s : Session) (at : ℕ) (k : Shared) → P (record { windows = s.windows; shared = k; displays = s.displays }) → P (with_window at (window_at s at) k s)
shares P s at k = subst (λ (l : List Window). P (record { windows = l; shared = k; displays = s.displays })) (sym (set-get_or s.windows at blank))

-- what was there is put back
pub put_back : (s : Session) (at : ℕ) {w : Window} {k : Shared} → window_at s at ≡ w → s.shared ≡ k → with_window at w k s ≡ s
put_back s at {w} {k} is same =
    ap (λ (v : Window). with_window at v k s) (sym is)
    ∙ ap (λ (m : Shared). with_window at (window_at s at) m s) (sym same)
    ∙ ap (λ (l : List Window). record { windows = l; shared = s.shared; displays = s.displays }) (set-get_or s.windows at blank)

-- a place that was found in what is shared is the session's
pub same_place : (id : ℕ) (o : Option ℕ) {k m : Shared} → m ≡ k → o ≡ render_idx id (ids k.shown k.order) → o ≡ render_idx id (ids m.shown m.order)
same_place id o same = subst (λ (j : Shared). o ≡ render_idx id (ids j.shown j.order)) (sym same)

-- Fields of a window --------------------------------------------------------------------------------------------------

-- the window with another use, place and damage
abbrev pub fields : Bool → Rect16 → Damage → Window → Window
fields u a d w = record { queue = w.queue; damage = d; at = a; cursor = w.cursor; used = u; marked = w.marked }

-- what holds of it holds of a window that has them
pub by_fields : (P : Window → Type 0) {u : Bool} {a : Rect16} {d : Damage} (w : Window) → w.used ≡ u → w.at ≡ a
    → w.damage ≡ d → P (fields u a d w) → P w
by_fields P w u a d = subst P (λ i. fields (sym u i) (sym a i) (sym d i) w)

-- Sessions that hold a window -----------------------------------------------------------------------------------------

-- a session that holds the window of an id in use
pub record Here (id : ℕ) (w : Window) (k : Shared) (s : Session) : Type 0 where
  pub given : Given s
  pub low : id < 16
  pub window : window_at s id ≡ w
  pub shared : s.shared ≡ k
  pub used : (window_at s id).used ≡ true
  pub rep : RepWindow (window_at s id)

-- The ends of a function of one window --------------------------------------------------------------------------------

module _ {id : ℕ} {w : Window} {k : Shared} where
  put_same : (s : Session) (at : ℕ) → Holds id w k s at → with_window at w k s ≡ s
  put_same s at h = put_back s at h.window h.shared

  pub stays : (P : Session → Session → Type 0) → ((s : Session) → Given s → P s s) → (s : Session) (at : ℕ) → Holds id w k s at → P s (with_window at w k s)
  stays P law s at h = subst (P s) (sym (put_same s at h)) (law s h.given)

  -- the window of an id below 16
  pub changes : (P : Session → ℕ → Window → Shared → Type 0) → id < 16
      → ((s : Session) → Given s → window_at s id ≡ w → s.shared ≡ k → P s id (window_at s id) s.shared)
      → (s : Session) (at : ℕ) → Holds id w k s at → P s at w k
  changes P l law s at h =
      let q : at ≡ id = h.place.same l in
      let is : window_at s id ≡ w = ap (window_at s) (sym q) ∙ h.window in
      subst (λ (j : ℕ). P s j w k) (sym q) (subst (λ (v : Window). P s id v k) is (subst (P s id (window_at s id)) h.shared (law s h.given is h.shared)))

  -- the window that a fill, a blit or a mark leaves of it makes all of the session that it leaves
  pub rewrites : (u : Write) {r : Window} → id < 16 → r ≡ holding (ruled u (win_of w)) w → (s : Session) (at : ℕ) → Holds id w k s at
      → with_window at r k s ≡ rewritten id u s
  rewrites u l e s at h =
      ap (λ (v : Window). with_window at v k s) e
      ∙ changes (λ s at w k. with_window at (holding (ruled u (win_of w)) w) k s ≡ rewritten id u s) l (λ s _ _ _. refl) s at h

  -- question 3, as the code asks it
  pub asks_used : (s : Session) (at : ℕ) → Holds id w k s at → used (group s) id ≡ ltb id 16 && w.used
  asks_used s at h = ⊎_elim (λ l. rw (lt-ltb id 16 l) (used_at s id ∙ ap (λ (v : Window). v.used) (ap (window_at s) (sym (h.place.same l)) ∙ h.window)))
      (λ l. rw (le-ltb id 16 l) (used_past s id h.given.rep l)) (lt_or_le id 16)

  -- it passed: the session holds the window of an id in use
  pub here : ltb id 16 && w.used ≡ true → {s : Session} {at : ℕ} → Holds id w k s at → Here id w k s
  here u {s} h =
      let l : id < 16 = ltb-true id 16 (fst (ltb id 16) w.used u) in
      let is : window_at s id ≡ w = ap (window_at s) (sym (h.place.same l)) ∙ h.window in
      record {
        given = h.given;
        low = l;
        window = is;
        shared = h.shared;
        used = ap (λ (v : Window). v.used) is ∙ snd (ltb id 16) w.used u;
        rep = h.given.rep.each id l;
      }

  pub accepts : (P : Session → ℕ → Window → Shared → Type 0) → ltb id 16 && w.used ≡ true
      → ((s : Session) → Here id w k s → P s id (window_at s id) s.shared) → (s : Session) (at : ℕ) → Holds id w k s at → P s at w k
  accepts P u law s at h =
      let q = here u h in
      subst (λ (j : ℕ). P s j w k) (sym (h.place.same q.low))
      (subst (λ (v : Window). P s id v k) q.window (subst (P s id (window_at s id)) q.shared (law s q)))

  -- it failed: everything is as it was
  pub not_used : (P : Session → Session → Type 0) → ltb id 16 && w.used ≡ false → ((s : Session) → Given s → used (group s) id ≡ false → P s s)
      → (s : Session) (at : ℕ) → Holds id w k s at → P s (with_window at w k s)
  not_used P n law s at h = subst (P s) (sym (put_same s at h)) (law s h.given (asks_used s at h ∙ n))

-- The window of a session at hand -------------------------------------------------------------------------------------

-- `MeetsAt` of a call that is lent the store, which it leaves as `store`
abbrev pub MeetsStoreAt : Call → ℕ → Window → Shared → Changed → List ℕ → Type 0
MeetsStoreAt call id w k r store =
    (s : Session) (at : ℕ) → Holds id w k s at → MeetsStore call s (done (with_window at r.window r.shared s) r.answer) store

-- the same of a fill or a blit, which makes the window v and shares what was shared
abbrev pub MeetsAlteredAt : ℕ → Write → List ℕ → Window → Shared → Window → Result ℕ Refusal → List ℕ → Type 0
MeetsAlteredAt id u p w k v r store =
    (s : Session) (at : ℕ) → Holds id w k s at → MeetsAltered id u p s (written (with_window at v k s) r) store

module _ {id at : ℕ} {s : Session} (h : Given s) (p : At id at) where
  pub own : Holds id (window_at s at) s.shared s at
  own = record { given = h; place = p; window = refl; shared = refl }

  pub held : Held id (window_at s at) s.shared
  held = record { session = s; at = at; holds = own }

  -- what the function of one window made of it is put in its place
  pub by_meets : {call : Call} {r : Done} (d : Changed) → MeetsAt call id (window_at s at) s.shared d
      → r ≡ done (with_window at d.window d.shared s) d.answer → Meets call s r
  by_meets {call} d m e = subst (Meets call s) (sym e) (m s at own)

  pub by_store : {call : Call} {t : List ℕ} {r : Done} (d : Changed) → MeetsStoreAt call id (window_at s at) s.shared d t
      → r ≡ done (with_window at d.window d.shared s) d.answer → MeetsStore call s r t
  by_store {call} {t} d m e = subst (λ (r : Done). MeetsStore call s r t) (sym e) (m s at own)

  pub by_altered : {u : Write} {p t : List ℕ} {r : Written} (v : Window) (a : Result ℕ Refusal)
      → MeetsAlteredAt id u p (window_at s at) s.shared v a t → r ≡ written (with_window at v s.shared s) a
      → MeetsAltered id u p s r t
  by_altered {u} {p} {t} v a m e = subst (λ (r : Written). MeetsAltered id u p s r t) (sym e) (m s at own)

  pub by_mark : {r : Done} (d : Changed) → MeetsMarkAt id (window_at s at) s.shared d → r ≡ done (with_window at d.window d.shared s) d.answer
      → MeetsMark id s r
  by_mark d m e = subst (MeetsMark id s) (sym e) (m s at own)
