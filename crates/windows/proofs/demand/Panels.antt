-- A call changes its own window by that window and its answer alone, and two interleavings answer each list alike.
use Prim.Native.Nat.{ℕ, zero, suc}
use mathlib.Core.Path.{◌≡◌, refl, sym, ap, subst, ◌∙◌}
use mathlib.Core.Bool.{Bool, true, false, cond}
use mathlib.Core.List.{List, [], ◌∷◌, map}
use mathlib.Core.Logic.{◌≢◌}
use lib.Dec.{eqb}
use lib.ListN.{set, get_or}
use lib.Seq.{set_comm, set-get_or, get_or-set_other}
use borrow.Author.Tests.{eqb-true, eq-eqb, ne_eqb}
use Rattle.geom.proofs.basics.Tests.{clash}
use Rattle.geom.proofs.basics.Lists.{All}
use Rattle.window.specs.declared.Window.{Window}
use Rattle.window.specs.Represents.{win_of}
use Rattle.rules.specs.Group.{Group, Outcome}
use Rattle.rules.specs.Calls.{Call, Made, Redraw, does, after}
use Rattle.rules.specs.Conditions.{lent_screen}
use Rattle.rules.specs.Panels.{Write, Act, on, call_of, Interleaves, first, second, State, left, outcome, acted, played, Reply, reply, replies, redrawn, EitherOrder}
use Rattle.rules.specs.Panels as Rule
use Rattle.rules.proofs.demand.Panels.{either_order, any_two}
use Rattle.windows.specs.declared.Session.{Session}
use Rattle.windows.specs.View.{blank, group, window_at, holding, ruled, rewritten, done, Meets}
use Rattle.windows.specs.Run.{calls, LeftAs, Kept}
use Rattle.windows.specs.Panels.{Acted, filled, blitted, marked, SameEnd, ProgramEitherOrder}
use Rattle.windows.specs.Panels as Spec
use Rattle.windows.proofs.demand.Runs.{reached}

-- One call ---------------------------------------------------------------------------------------------------------------

abbrev call_at : Act → List ℕ → Call
call_at a p = call_of a.window a.write p

-- what the three contracts have in common
record Step (a : Act) (s : Session) (p : List ℕ) (t : Session) (q : List ℕ) : Type 0 where
  answer : ℕ
  meets : Meets (call_at a p) s (done t answer)
  stored : q ≡ left a.write p (does (group s) (call_at a p))
  whole : answer ≡ 0 → t ≡ rewritten a.window a.write s

data Steps : Session → List ℕ → List Act → Session → List ℕ → Type 0 where
  none : {s : Session} {p : List ℕ} → Steps s p [] s p
  next : {s s' t : Session} {p p' q : List ℕ} {a : Act} {zs : List Act} → Step a s p s' p' → Steps s' p' zs t q → Steps s p (a ∷ zs) t q

steps : {s t : Session} {p q : List ℕ} {zs : List Act} → Acted s p zs t q → Steps s p zs t q
steps Spec.none = none
steps (filled k r) = next (record { answer = _; meets = k.meets.meets; stored = k.meets.stored; whole = k.whole }) (steps r)
steps (blitted k r) = next (record { answer = _; meets = k.meets.meets; stored = k.meets.stored; whole = k.whole }) (steps r)
steps (marked k r) = next (record { answer = _; meets = k.meets; stored = refl; whole = k.whole }) (steps r)

-- The group and the store ------------------------------------------------------------------------------------------------

abbrev state : Session → List ℕ → State
state s p = record { group = group s; store = p }

-- a call leaves what the rule plays
step_state : {a : Act} {s t : Session} {p q : List ℕ} → Step a s p t q → state t q ≡ acted (state s p) a
step_state k = λ x. record { group = k.meets.after x; store = k.stored x }

ends : {s t : Session} {p q : List ℕ} {zs : List Act} → Steps s p zs t q → state t q ≡ played (state s p) zs
unfolding played
ends none = refl
ends (next {zs = zs} k r) = ends r ∙ ap (λ (h : State). played h zs) (step_state k)

-- The windows ------------------------------------------------------------------------------------------------------------

-- the session with window i changed by f
abbrev adjust : ℕ → (Window → Window) → Session → Session
adjust i f s = record { windows = set s.windows i (f (window_at s i)); shared = s.shared; displays = s.displays }

with_windows_lem : {l m : List Window} (s : Session) → l ≡ m
    → ◌≡◌ {A = Session} (record { windows = l; shared = s.shared; displays = s.displays }) (record { windows = m; shared = s.shared; displays = s.displays })
with_windows_lem s e = ap (λ (l : List Window). record { windows = l; shared = s.shared; displays = s.displays }) e

adjust_none : (i : ℕ) (s : Session) → adjust i (λ w. w) s ≡ s
adjust_none i s = with_windows_lem s (set-get_or s.windows i blank)

adjust_twice : (i : ℕ) (f g : Window → Window) (s : Session) → adjust i g (adjust i f s) ≡ adjust i (λ w. g (f w)) s
adjust_twice i f g s = with_windows_lem s (go s.windows i)
  where
    go : (l : List Window) (i : ℕ)
        → set (set l i (f (get_or l i blank))) i (g (get_or (set l i (f (get_or l i blank))) i blank)) ≡ set l i (g (f (get_or l i blank)))
    go [] i = refl
    go (w ∷ l) zero = refl
    go (w ∷ l) (suc i) = ap (λ (m : List Window). w ∷ m) (go l i)

adjust_comm : (i j : ℕ) → i ≢ j → (f g : Window → Window) (s : Session) → adjust j g (adjust i f s) ≡ adjust i f (adjust j g s)
adjust_comm i j ne f g s =
    let l = s.windows in
    let x = f (get_or l i blank) in
    let y = g (get_or l j blank) in
    with_windows_lem s
    (ap (λ (w : Window). set (set l i x) j (g w)) (get_or-set_other l i j x blank (λ e. ne (sym e)))
    ∙ set_comm l i j x y ne
    ∙ ap (λ (w : Window). set (set l j y) i (f w)) (sym (get_or-set_other l j i y blank ne)))

-- a window after a call on it that answered n
abbrev own : Write → ℕ → Window → Window
own u n w = cond (eqb n 0) (holding (ruled u (win_of w)) w) w

step_whole : {a : Act} {s t : Session} {p q : List ℕ} → Step a s p t q → t ≡ adjust a.window (own a.write (outcome (state s p) a).answer) s
step_whole {a} {s} {t} {p} k = go (eqb n 0) refl
  where
    n : ℕ
    n = (outcome (state s p) a).answer

    go : (b : Bool) → eqb n 0 ≡ b → t ≡ adjust a.window (λ w. cond b (holding (ruled a.write (win_of w)) w) w) s
    go true e = k.whole (k.meets.answer ∙ eqb-true n 0 e)
    go false e = k.meets.same (λ z. clash (eq-eqb n 0 (sym k.meets.answer ∙ z)) e) ∙ sym (adjust_none a.window s)

-- a window after the calls of a list on it that were answered so
abbrev window_after : List Act → List Reply → Window → Window
window_after [] rs w = w
window_after (a ∷ l) [] w = w
window_after (a ∷ l) (r ∷ rs) w = window_after l rs (own a.write r.answer w)

-- Replies to the calls on one window -------------------------------------------------------------------------------------

module _ (i : ℕ) (h : State) (a : Act) (zs : List Act) where
  heard : a.window ≡ i → replies i h (a ∷ zs) ≡ reply (outcome h a) ∷ replies i (acted h a) zs
  unfolding replies
  heard e = rw (eq-eqb a.window i e)

  unheard : a.window ≢ i → replies i h (a ∷ zs) ≡ replies i (acted h a) zs
  unfolding replies
  unheard n = rw (ne_eqb a.window i n)

-- An interleaving --------------------------------------------------------------------------------------------------------

abbrev AllOn : ℕ → List Act → Type 0
AllOn i l = All (λ (a : Act). a.window ≡ i) l

all_on : (i : ℕ) (us : List Write) → AllOn i (map (on i) us)
all_on i [] = tt
all_on i (u ∷ us) = (refl, all_on i us)

module _ (i j : ℕ) (ne : i ≢ j) where
  -- the session in which the calls xs on i and ys on j were answered so
  abbrev session_after : List Act → List Reply → List Act → List Reply → Session → Session
  session_after xs rs ys os s = adjust i (window_after xs rs) (adjust j (window_after ys os) s)

  -- both windows are changed by their own calls alone
  whole_end : {xs ys zs : List Act} → Interleaves xs ys zs → AllOn i xs → AllOn j ys → {s t : Session} {p q : List ℕ} → Steps s p zs t q
      → t ≡ session_after xs (replies i (state s p) zs) ys (replies j (state s p) zs) s
  whole_end Rule.none h k {s} none = sym (ap (adjust i (λ w. w)) (adjust_none j s) ∙ adjust_none i s)
  whole_end (first {a} {xs} {ys} {zs} r) h k (next {s} {s'} {p = p} m l) =
      let e = state s p in
      let f = own a.write (outcome e a).answer in
      let rs = replies i (acted e a) zs in
      let os = replies j (acted e a) zs in
      let off : a.window ≢ j = λ x. ne (sym h.0 ∙ x) in
      whole_end r h.1 k l
      ∙ ap (λ (x : State). session_after xs (replies i x zs) ys (replies j x zs) s') (step_state m)
      ∙ ap (session_after xs rs ys os) (step_whole m ∙ ap (λ (n : ℕ). adjust n f s) h.0)
      ∙ ap (adjust i (window_after xs rs)) (adjust_comm i j ne f (window_after ys os) s)
      ∙ adjust_twice i f (window_after xs rs) (adjust j (window_after ys os) s)
      ∙ sym (λ x. session_after (a ∷ xs) (heard i e a zs h.0 x) ys (unheard j e a zs off x) s)
  whole_end (second {a} {xs} {ys} {zs} r) h k (next {s} {s'} {p = p} m l) =
      let e = state s p in
      let g = own a.write (outcome e a).answer in
      let rs = replies i (acted e a) zs in
      let os = replies j (acted e a) zs in
      let off : a.window ≢ i = λ x. ne (sym x ∙ k.0) in
      whole_end r h k.1 l
      ∙ ap (λ (x : State). session_after xs (replies i x zs) ys (replies j x zs) s') (step_state m)
      ∙ ap (session_after xs rs ys os) (step_whole m ∙ ap (λ (n : ℕ). adjust n g s) k.0)
      ∙ ap (adjust i (window_after xs rs)) (adjust_twice j g (window_after ys os) s)
      ∙ sym (λ x. session_after xs (unheard i e a zs off x) (a ∷ ys) (heard j e a zs k.0 x) s)

-- Two ends ---------------------------------------------------------------------------------------------------------------

-- a redraw of session t, lent the store q, is the rule's
redraw_is : (forced : Bool) (w h : ℕ) (screen : List ℕ) {r : Made} {t u : Session} {q : List ℕ} → r.call ≡ Redraw forced w h q screen → Kept r t u
    → (r.answer ≡ (redrawn (state t q) forced w h screen).answer)
    × (r.screen ≡ (redrawn (state t q) forced w h screen).screen)
    × (group u ≡ (redrawn (state t q) forced w h screen).group)
redraw_is forced w h screen {r} {t} e k = (
  k.meets.answer ∙ ap (λ (c : Call). (does (group t) c).answer) e,
  subst (λ (c : Call). LeftAs (lent_screen c) r.screen (does (group t) c).screen) e k.shown,
  k.meets.after ∙ ap (λ (c : Call). (does (group t) c).group) e,
)

same_end : (t t' : Session) (q q' : List ℕ) → t ≡ t' → q ≡ q' → SameEnd t q t' q'
same_end t t' q q' session store =
    record {
      session = session;
      store = store;
      redraw = λ forced w h screen r r' u u' d d' k k'.
          let o : redrawn (state t q) forced w h screen ≡ redrawn (state t' q') forced w h screen = λ x. redrawn (state (session x) (store x)) forced w h screen in
          let x = redraw_is forced w h screen d k in
          let y = redraw_is forced w h screen d' k' in (
            x.0 ∙ ap (λ (z : Outcome). z.answer) o ∙ sym y.0,
            x.1 ∙ ap (λ (z : Outcome). z.screen) o ∙ sym y.1,
            x.2 ∙ ap (λ (z : Outcome). z.group) o ∙ sym y.2,
          );
    }

pub program_either_order : ProgramEitherOrder
unfolding ProgramEitherOrder EitherOrder
program_either_order c ms s run p i j ne us vs zs zs' h h' t t' q q' a a' =
    let e : State = record { group = after c (calls ms); store = p } in
    let from : state s p ≡ e = ap (λ (g : Group). record { group = g; store = p }) (reached run) in
    let xs = map (on i) us in
    let ys = map (on j) vs in
    let o = either_order c (calls ms) p i j ne us vs zs h in
    let o' = either_order c (calls ms) p i j ne us vs zs' h' in
    let rs : replies i (state s p) zs ≡ replies i (state s p) zs' =
    ap (λ (k : State). replies i k zs) from ∙ o.one ∙ sym o'.one ∙ ap (λ (k : State). replies i k zs') (sym from) in
    let os : replies j (state s p) zs ≡ replies j (state s p) zs' =
    ap (λ (k : State). replies j k zs) from ∙ o.other ∙ sym o'.other ∙ ap (λ (k : State). replies j k zs') (sym from) in
    let end : state t q ≡ state t' q' =
    ends (steps a)
    ∙ ap (λ (k : State). played k zs) from
    ∙ any_two c (calls ms) p i j ne us vs zs zs' h h'
    ∙ ap (λ (k : State). played k zs') (sym from)
    ∙ sym (ends (steps a')) in
    same_end t t' q q'
    (whole_end i j ne h (all_on i us) (all_on j vs) (steps a)
    ∙ (λ x. session_after i j ne xs (rs x) ys (os x) s)
    ∙ sym (whole_end i j ne h' (all_on i us) (all_on j vs) (steps a')))
    (ap (λ (k : State). k.store) end)
