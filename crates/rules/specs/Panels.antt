-- Document 02, "Two panels written in either order."
use Rattle.std.specs.Prelude.{ℕ, ◌≡◌, Bool, cond, List, [], ◌∷◌, ◌++◌, map, ◌≢◌, eqb}
use Rattle.geom.specs.declared.Rect.{Rect}
use Rattle.rules.specs.Group.{Group, Outcome}
use Rattle.rules.specs.Calls as Calls
use Rattle.rules.specs.Calls.{Call, does, after}

-- Lists of writes -------------------------------------------------------------------------------------------------------

-- "fills, blits and marks", with any arguments
pub data Write : Type 0 where
  fill : Rect → ℕ → Write
  blit : Rect → List ℕ → ℕ → Write
  mark : Write

-- one of them on a window, whose id may be in use or not
pub record Act : Type 0 where
  pub window : ℕ
  pub write : Write

abbrev pub on : ℕ → Write → Act
on id w = record { window = id; write = w }

-- "every interleaving that keeps each list's own order": each of its calls is the next of the one list or of the other
pub data Interleaves : List Act → List Act → List Act → Type 0 where
  none : Interleaves [] [] []
  first : {a : Act} {xs ys zs : List Act} → Interleaves xs ys zs → Interleaves (a ∷ xs) ys (a ∷ zs)
  second : {a : Act} {xs ys zs : List Act} → Interleaves xs ys zs → Interleaves xs (a ∷ ys) (a ∷ zs)

-- What they leave ---------------------------------------------------------------------------------------------------------

-- "session and store": the group that the session holds, and the store, which each call is lent as the last one left it
pub record State : Type 0 where
  pub group : Group
  pub store : List ℕ

abbrev pub call_of : ℕ → Write → List ℕ → Call
call_of id (fill a v) s = Calls.Fill id a v s
call_of id (blit a d stride) s = Calls.Blit id a d stride s
call_of id mark s = Calls.Mark id

abbrev pub outcome : State → Act → Outcome
outcome h a = does h.group (call_of a.window a.write h.store)

-- the store that a call leaves; a mark is lent none
abbrev pub left : Write → List ℕ → Outcome → List ℕ
left (fill a v) s o = o.store
left (blit a d stride) s o = o.store
left mark s o = s

abbrev pub acted : State → Act → State
acted h a = record { group = (outcome h a).group; store = left a.write h.store (outcome h a) }

unfoldable pub played : State → List Act → State
played h [] = h
played h (a ∷ l) = played (acted h a) l

-- what a call hands back: its answer, and how many pixels it altered
pub record Reply : Type 0 where
  pub answer : ℕ
  pub altered : ℕ

abbrev pub reply : Outcome → Reply
reply o = record { answer = o.answer; altered = o.altered }

-- the replies to the calls on a window, in their order
unfoldable pub replies : ℕ → State → List Act → List Reply
replies id h [] = []
replies id h (a ∷ l) = cond (eqb a.window id) (reply (outcome h a) ∷ replies id (acted h a) l) (replies id (acted h a) l)

-- the next redraw
abbrev pub redrawn : State → Bool → ℕ → ℕ → List ℕ → Outcome
redrawn e forced w h screen = does e.group (Calls.Redraw forced w h e.store screen)

-- The promise -----------------------------------------------------------------------------------------------------------

-- the interleaving zs of a list us on window i and a list vs on window j, beside the one list after the other
pub record Agrees (e : State) (i j : ℕ) (us vs : List Write) (zs : List Act) : Type 0 where
  -- "gives the same session and store"
  pub end : played e zs ≡ played e (map (on i) us ++ map (on j) vs)
  -- "and so the same next redraw": answer, screen and group, forced or not, at any size and on any screen
  pub redraw : (forced : Bool) (w h : ℕ) (screen : List ℕ)
      → redrawn (played e zs) forced w h screen ≡ redrawn (played e (map (on i) us ++ map (on j) vs)) forced w h screen
  -- each list is answered, and its altered pixels are counted, as if there were no other
  pub one : replies i e zs ≡ replies i e (map (on i) us)
  pub other : replies j e zs ≡ replies j e (map (on j) vs)

-- "From any one session and store, for every two lists of fills, blits and marks, one on each of two different windows": a group that any
-- list of calls leaves, a store of any length, and calls that may be refused
unfoldable pub EitherOrder : Type 0
EitherOrder =
    (c : ℕ) (ks : List Call) (s : List ℕ) (i j : ℕ) → i ≢ j → (us vs : List Write) (zs : List Act) →
    Interleaves (map (on i) us) (map (on j) vs) zs → Agrees (record { group = after c ks; store = s }) i j us vs zs
