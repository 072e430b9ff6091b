-- Document 02, "Two panels written in either order", of the program: the calls that the panels made, each meeting its contract.
use Rattle.std.specs.Prelude.{ℕ, ◌≡◌, Bool, List, [], ◌∷◌, map, ◌≢◌}
use Rattle.geom.specs.declared.Rect.{Rect}
use Rattle.rules.specs.Calls.{Made, Redraw}
use Rattle.rules.specs.Panels.{Write, fill, blit, mark, Act, on, Interleaves}
use Rattle.windows.specs.declared.Session.{Session}
use Rattle.windows.specs.View.{group, Done, Written, MeetsAltered, MeetsMark}
use Rattle.windows.specs.Run.{Kept, Run}

-- The calls that were made ----------------------------------------------------------------------------------------------

-- "lists of fills, blits and marks": these calls, made in this order from session s and store p on, each meeting its
-- contract and getting the session and, where it is lent one, the store that the last one gave, led to session t and
-- store q
pub data Acted : Session → List ℕ → List Act → Session → List ℕ → Type 0 where
  none : {s : Session} {p : List ℕ} → Acted s p [] s p
  filled : {id v : ℕ} {a : Rect} {s t : Session} {r : Written} {p l q : List ℕ} {zs : List Act}
      → MeetsAltered id (fill a v) p s r l → Acted r.session l zs t q → Acted s p (on id (fill a v) ∷ zs) t q
  blitted : {id stride : ℕ} {a : Rect} {s t : Session} {r : Written} {d p l q : List ℕ} {zs : List Act}
      → MeetsAltered id (blit a d stride) p s r l → Acted r.session l zs t q → Acted s p (on id (blit a d stride) ∷ zs) t q
  marked : {id : ℕ} {s t : Session} {r : Done} {p q : List ℕ} {zs : List Act}
      → MeetsMark id s r → Acted r.session p zs t q → Acted s p (on id mark ∷ zs) t q

-- What they promise -----------------------------------------------------------------------------------------------------

-- of two such lists, which led to session t and store q, and to session t' and store q'
pub record SameEnd (t : Session) (q : List ℕ) (t' : Session) (q' : List ℕ) : Type 0 where
  -- "gives the same session and store": the same values, places of arrays past a count included
  pub session : t ≡ t'
  pub store : q ≡ q'
  -- "and so the same next redraw": r is a redraw of the one end and r' of the other, with the same arguments and lent the same screen. They
  -- answer the same, and leave the same screen, and sessions that hold the same group
  pub redraw : (forced : Bool) (w h : ℕ) (screen : List ℕ) (r r' : Made) (u u' : Session)
      → r.call ≡ Redraw forced w h q screen → r'.call ≡ Redraw forced w h q' screen → Kept r t u → Kept r' t' u'
      → (r.answer ≡ r'.answer) × (r.screen ≡ r'.screen) × (group u ≡ group u')

-- "From any one session and store, for every two lists of fills, blits and marks, one on each of two different windows, every interleaving
-- that keeps each list's own order gives the same session and store, and so the same next redraw": any two interleavings, after any run
unfoldable pub ProgramEitherOrder : Type 0
ProgramEitherOrder =
    (c : ℕ) (ms : List Made) (s : Session) → Run c ms s → (p : List ℕ) (i j : ℕ) → i ≢ j → (us vs : List Write) (zs zs' : List Act) →
    Interleaves (map (on i) us) (map (on j) vs) zs → Interleaves (map (on i) us) (map (on j) vs) zs' →
    (t t' : Session) (q q' : List ℕ) → Acted s p zs t q → Acted s p zs' t' q' → SameEnd t q t' q'
