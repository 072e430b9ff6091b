-- The induction over a run: its session's group is the rules', and each of its calls was as ruled. Each kind of contract lets a run go on.
use Prim.Native.Nat.{ℕ}
use mathlib.Core.Path.{◌≡◌, refl, sym, ap, subst, ◌∙◌}
use mathlib.Core.List.{List, [], ◌∷◌, ◌++◌, map-append}
use mathlib.Core.Option.{Option, none, some}
use Rattle.rules.specs.Group.{Group, start}
use Rattle.rules.specs.Calls.{Call, Made, does, run, after}
use Rattle.rules.specs.Conditions.{lent_store, lent_screen}
use Rattle.rules.proofs.group.Runs.{after_snoc}
use Rattle.windows.specs.declared.Session.{Session}
use Rattle.windows.specs.View.{Done, group, Meets, MeetsStore, MeetsScreen}
use Rattle.windows.specs.Run.{calls, LeftAs, Kept, Run, started, called, AsRuled}

-- By its contract a call is kept -------------------------------------------------------------------------------------

abbrev pub made : Call → Done → List ℕ → List ℕ → Made
made k r store screen = record { call = k; answer = r.answer; store = store; screen = screen }

unlent : (o : Option (List ℕ)) (l rule : List ℕ) → o ≡ none → LeftAs o l rule
unlent o l rule e = rw e tt

left_as : (o : Option (List ℕ)) {l rule : List ℕ} → l ≡ rule → LeftAs o l rule
left_as none e = tt
left_as (some s) e = e

-- a call that is lent neither; the kin of `Meets` that give an id or an event have it as their field `meets`
pub by_meets : {k : Call} {s : Session} {r : Done} → lent_store k ≡ none → lent_screen k ≡ none → Meets k s r → Kept (made k r [] []) s r.session
by_meets n m h = record { meets = h; stored = unlent _ _ _ n; shown = unlent _ _ _ m }

pub by_store : {k : Call} {s : Session} {r : Done} {l : List ℕ} → lent_screen k ≡ none → MeetsStore k s r l → Kept (made k r l []) s r.session
by_store {k} m h = record { meets = h.meets; stored = left_as (lent_store k) h.stored; shown = unlent _ _ _ m }

-- a call that is lent both never writes the store
pub by_screen : {k : Call} {s : Session} {r : Done} {l : List ℕ} → MeetsScreen k s r l → Kept (made k r (does (group s) k).store l) s r.session
by_screen {k} h = record { meets = h.meets; stored = left_as (lent_store k) refl; shown = left_as (lent_screen k) h.shown }

-- The induction --------------------------------------------------------------------------------------------------------

pub calls_append : (ms more : List Made) → calls (ms ++ more) ≡ calls ms ++ calls more
calls_append ms more = map-append _ ms more

ruled_snoc : (g : Group) (ms : List Made) (m : Made) → AsRuled g ms → AsRuled (run g (calls ms)) (m ∷ []) → AsRuled g (ms ++ (m ∷ []))
unfolding AsRuled run
ruled_snoc g [] m h o = o
ruled_snoc g (k ∷ ms) m h o = (h.0, h.1, h.2, ruled_snoc (does g k.call).group ms m h.3 o)

-- the calls from a place of the list on
pub ruled_from : (g : Group) (ms more : List Made) → AsRuled g (ms ++ more) → AsRuled (run g (calls ms)) more
unfolding AsRuled run
ruled_from g [] more h = h
ruled_from g (k ∷ ms) more h = ruled_from (does g k.call).group ms more h.3

pub reached : {c : ℕ} {ms : List Made} {s : Session} → Run c ms s → group s ≡ after c (calls ms)
unfolding after run
reached (started b) = b.after
reached {c} (called {ms} {s} {t} {m} r k) =
    k.meets.after ∙ ap (λ (g : Group). (does g m.call).group) (reached r) ∙ sym (after_snoc c (calls ms) m.call)
    ∙ ap (after c) (sym (calls_append ms (m ∷ [])))

pub ruled : {c : ℕ} {ms : List Made} {s : Session} → Run c ms s → AsRuled (start c).group ms
unfolding after AsRuled
ruled (started b) = tt
ruled {c} (called {ms} {s} {t} {m} r k) =
    ruled_snoc (start c).group ms m (ruled r)
    (subst (λ (g : Group). AsRuled g (m ∷ [])) (reached r) (k.meets.answer, k.stored, k.shown, tt))
