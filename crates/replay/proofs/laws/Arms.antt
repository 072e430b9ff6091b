-- The last arm of a match: what is known of a kind that no other arm has.
use Prim.Native.Nat.{ℕ, zero, suc, ◌+◌, ◌-◌, ◌≤◌, ◌<◌}
use mathlib.Core.Path.{◌≡◌, refl, ap, ◌∙◌}
use mathlib.Core.Bool.{Bool, true, false, ◌&&◌, ◌||◌}
use mathlib.Core.List.{List, [], ◌∷◌}
use mathlib.Core.Option.{Option}
use mathlib.Core.Logic.{◌⊎◌, inl, inr}
use native.Mathlib.Omega.{arith}
use lib.Dec.{leb, eqb}
use lib.ListN.{take}
use borrow.Author.Tests.{eqb-true, eqb-false, ne_eqb, leb-true, lt-leb}
use Rattle.geom.proofs.basics.Tests.{fst, snd, clash}
use Rattle.script.specs.Kind as Kind
use Rattle.script.specs.Kind.{code_of}
use Rattle.script.specs.declared.kind.Kind.{Kind as AKind}
use Rattle.script.specs.declared.kind.Kind.TheVariants as kind
use Rattle.script.proofs.laws.Kinds.{code_one}
use Rattle.replay.proofs.laws.Nexts.{onward, makes}
use Rattle.rules.specs.Calls.{Call, does}
use Rattle.windows.specs.declared.Session.{Session}
use Rattle.windows.specs.View.{group, done, Meets}
use Rattle.answer_text.specs.Text.{line}
use Rattle.answer_text.specs.Added.{Output, Says, waits}
use Rattle.answer_text.proofs.laws.Added.{same}
use Rattle.replay.specs.declared.player.Player.{Player}
use Rattle.replay.specs.Ready.{Ready, Next}
use Rattle.replay.specs.Played.{Pixels, pixels, Makes, Stores, Writes, stores}
use Rattle.script.specs.declared.shape.Line.{Line}
use Rattle.replay.specs.Called.{Picked, store_call, window_calls, kinds, is_one, within, routes, is_plain, Resizes, OnScreen, OnTarget, is_lent}

-- B, and k is none of the numbers: what a match's last arm knows
abbrev pub NoneOf : ℕ → Type 0 → List ℕ → Type 0
NoneOf k B [] = B
NoneOf k B (j ∷ js) = NoneOf k (B × (k ≡ j → ⊥)) js

-- of the first
before : {k j : ℕ} {B : Type 0} (js : List ℕ) → NoneOf k B (j ∷ js) → B × (k ≡ j → ⊥)
before [] h = h
before (i ∷ js) h = (before js h).0

not_one : (k : ℕ) (B : Type 0) (js : List ℕ) → NoneOf k B js → is_one k js ≡ false
not_one k B [] h = refl
not_one k B (j ∷ js) h = rw (ne_eqb k j (before js h).1) (not_one k (B × (k ≡ j → ⊥)) js h)

-- n numbers from a on
abbrev pub run : ℕ → ℕ → List ℕ
run a zero = []
run a (suc n) = a ∷ run (suc a) n

above_run : (k : ℕ) (B : Type 0) (a n : ℕ) → a ≤ k → NoneOf k B (run a n) → a + n ≤ k
above_run k B a zero l h = omega arith
above_run k B a (suc n) l h =
    let d = (before (run (suc a) n) h).1 in
    omega (arith, above_run k (B × (k ≡ a → ⊥)) (suc a) n (omega arith) h)

-- what a match's arms know of a kind, of its number
abbrev pub AnyOf : AKind → List AKind → Type 0
AnyOf k [] = ⊥
AnyOf k (j ∷ []) = k ≡ j
AnyOf k (j ∷ i ∷ js) = (k ≡ j) ⊎ AnyOf k (i ∷ js)

abbrev every : (AKind → Bool) → List AKind → Bool
every f [] = true
every f (j ∷ js) = f j && every f js

-- a test that passes for each of them
pub any_of : (f : AKind → Bool) {k : AKind} (js : List AKind) → every f js ≡ true → AnyOf k js → f k ≡ true
any_of f [] e h = absurd h
any_of f (j ∷ []) e h = ap f h ∙ fst (f j) true e
any_of f (j ∷ i ∷ js) e (inl h) = ap f h ∙ fst (f j) (every f (i ∷ js)) e
any_of f (j ∷ i ∷ js) e (inr h) = any_of f (i ∷ js) (snd (f j) (every f (i ∷ js)) e) h

pub range_of : (low high : ℕ) (k : AKind) (js : List AKind) → every (λ j. within low high (code_of j)) js ≡ true → AnyOf k js
    → (low ≤ code_of k) × (code_of k ≤ high)
range_of low high k js e h =
    let t = any_of (λ j. within low high (code_of j)) js e h in
    (leb-true low (code_of k) (fst (leb low (code_of k)) (leb (code_of k) high) t), leb-true (code_of k) high (snd (leb low (code_of k)) (leb (code_of k) high) t))

-- the number of a kind that is not this one is another
pub apart : {k j : AKind} → (k ≡ j → ⊥) → code_of k ≡ code_of j → ⊥
apart {k} {j} h e = h (code_one k j e)

-- Events ---------------------------------------------------------------------------------------------------------------

-- a plain call that is none of the windows' calls routes one
pub routes_left : (k : ℕ) (B : Type 0) → NoneOf k B (kinds (window_calls [])) → is_plain k ≡ true → routes k ≡ true
routes_left k B n p = rw (not_one k B (kinds (window_calls [])) n) at p

-- an event that is none of the others is `resized`
pub resized_left : (k : ℕ) (B : Type 0) → routes k ≡ true → NoneOf k B (run Kind.keydown (Kind.resized - Kind.keydown)) → k ≡ Kind.resized
resized_left k B r n =
    let low : Kind.keydown ≤ k = leb-true Kind.keydown k (fst (leb Kind.keydown k) (leb k Kind.resized) r) in
    let high : k ≤ Kind.resized = leb-true k Kind.resized (snd (leb Kind.keydown k) (leb k Kind.resized) r) in
    let last : Kind.resized ≤ k = above_run k B Kind.keydown (Kind.resized - Kind.keydown) low n in
    omega arith

-- a call that resizes windows and is none of the others is a resize
pub resize_left : {k : AKind} → Resizes (code_of k) → (k ≡ kind.Maximise → ⊥) → (k ≡ kind.UpdateDims → ⊥) → code_of k ≡ Kind.resize
resize_left (inl e) m u = e
resize_left {k} (inr h) m u = absurd (omega (arith, apart m, apart u, h.0, h.1))

-- Pixels and lists -----------------------------------------------------------------------------------------------------

outside : (low high k : ℕ) → (low ≤ k → high < k) → within low high k ≡ false
outside low high k h = go (leb low k) refl
  where
    go : (t : Bool) → leb low k ≡ t → t && leb k high ≡ false
    go true e = lt-leb k high (h (leb-true low k e))
    go false e = refl

-- the kinds that are lent a target lie side by side
pub on_target : (k : ℕ) → Kind.look ≤ k → k < suc Kind.look_fit → OnTarget k
on_target k l h = go (eqb k Kind.look) refl
  where
    go : (t : Bool) → eqb k Kind.look ≡ t → OnTarget k
    go true e = inl (eqb-true k Kind.look e)
    go false e = let n = eqb-false k Kind.look e in inr (omega (arith, n))

pub no_target : (k : ℕ) → (k < Kind.look) ⊎ (Kind.look_fit < k) → OnTarget k → ⊥
no_target k (inl h) (inl e) = omega arith
no_target k (inl h) (inr e) = omega arith
no_target k (inr h) (inl e) = omega arith
no_target k (inr h) (inr e) = omega arith

pub not_lent : (k : ℕ) → (OnScreen k → ⊥) → (k ≡ Kind.visible → ⊥) → (k ≡ Kind.hits → ⊥) → (k ≡ Kind.read_sheet → ⊥) → (OnTarget k → ⊥) → (Kind.resize ≤ k → Kind.blit < k) → (Kind.screen ≤ k → Kind.region < k)
    → (Kind.maximise ≤ k → Kind.update_dims < k) → is_lent k ≡ false
not_lent k o v q d t w s m =
    rw (
      outside Kind.resize Kind.blit k w,
      ne_eqb k Kind.redraw (λ e. o (inl e)),
      ne_eqb k Kind.portion (λ e. o (inr e)),
      ne_eqb k Kind.visible v,
      ne_eqb k Kind.hits q,
      ne_eqb k Kind.look (λ e. t (inl e)),
      ne_eqb k Kind.look_fit (λ e. t (inr e)),
      ne_eqb k Kind.read_sheet d,
      outside Kind.screen Kind.region k s,
      outside Kind.maximise Kind.update_dims k m,
    )

-- Every line is played -------------------------------------------------------------------------------------------------

-- the kinds that a function of their own plays, lent no pixels and no list
abbrev pub own : List ℕ
own =
    Kind.passed ∷ Kind.malformed ∷ Kind.start ∷ Kind.create ∷ Kind.pop ∷ Kind.focus ∷ Kind.lend ∷ Kind.lend_screen ∷ Kind.lend_list ∷ Kind.busiest ∷ Kind.share ∷ Kind.lend_target ∷ Kind.display_at ∷ Kind.sheet ∷ Kind.lend_sheet ∷ Kind.stale ∷ Kind.waiting ∷ Kind.window ∷ Kind.session ∷ Kind.who ∷ []

-- the test passes below n
abbrev below : (ℕ → Bool) → ℕ → Bool
below f zero = true
below f (suc n) = f n && below f n

below_at : (f : ℕ → Bool) (n : ℕ) → below f n ≡ true → (k : ℕ) → k < n → f k ≡ true
below_at f zero t k h = absurd (omega arith)
below_at f (suc n) t k h = go (eqb k n) refl (below_at f n (snd (f n) (below f n) t) k)
  where
    go : (s : Bool) → eqb k n ≡ s → (k < n → f k ≡ true) → f k ≡ true
    go true e less = rw (eqb-true k n e) (fst (f n) (below f n) t)
    go false e less = less (omega (arith, eqb-false k n e))

pub plain_left : (k : ℕ) (B : Type 0) → k ≤ Kind.last → is_lent k ≡ false → NoneOf k B own → is_plain k ≡ true
plain_left k B h l n = go (is_plain k) refl (below_at (λ j. is_plain j || (is_one j own || is_lent j)) (suc Kind.last) refl k (omega arith))
  where
    go : (t : Bool) → is_plain k ≡ t → t || (is_one k own || is_lent k) ≡ true → is_plain k ≡ true
    go true e p = e
    go false e p = clash (rw (not_one k B own n, l) at p) refl

-- What a line leaves ---------------------------------------------------------------------------------------------------

-- a line that is passed over leaves the player as it is
pub stays : (p : Player) → Ready p → Next [] p p.session p
stays p h =
    record { ready = h; adds = same (waits p.out) p.out.bytes h.at h.sent; session = refl; lent = refl; screen = refl; list = refl; target = refl; sheet = refl; lines = refl }

-- the plain call that the kind picks was made, and its answer is the line's
pub plain_made : {k : Option Call} (p : Player) {s : Session} {a : ℕ} {o : Output} → Ready p → Picked k (λ c. Meets c p.session (done s a)) → Says (line a []) p.out o
    → Picked k (λ c. (line a [] ≡ line (does (group p.session) c).answer []) × Makes c (line a []) p (onward s o p))
plain_made p {a = a} h m d = record { call = m.call; is = m.is; so = (ap (λ (n : ℕ). line n []) m.so.answer, makes m.call p h m.so d) }

-- the call that is lent the store was made
pub stored_line : {l : Line} {ns : List ℕ} {p : Player} {a : Pixels} {r : Player} {after : List ℕ}
    → Picked (store_call (code_of l.kind) l.count ns (take p.lent a.store)) (λ c. Stores (code_of l.kind) c p a.store r after)
    → Writes l ns p a r (pixels after a.screen)
stored_line m = record { text = _; plays = stores (record { call = m.call; is = m.is; so = (refl, m.so) }) refl }
