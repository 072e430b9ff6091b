-- The search with two places. In a run in order the events of a span stand together: so once the next event comes too late for the first, no later
-- one is in its span either, and the first can be let go.
use Rattle.std.proofs.Common.{ℕ, zero, suc, ◌+◌, ◌-◌, ◌≤◌, ◌<◌, ◌≡◌, refl, sym, ◌∙◌, subst, true, false, List, [], ◌∷◌, ⊎_elim, arith, le_trans, le_antisymm, le-leb, leb-true, lt-ltb, ltb-true, leb, length, get_or}
use borrow.Author.Tests.{lt-leb}
use Rattle.std.proofs.Math.ListN.{length-map}
use Rattle.geom.proofs.basics.Tests.{both, fst, snd, lt_or_le}
use Rattle.busiest.specs.Busiest.{in_span, events, counts, greatest, first, ordered, refused, busiest}
use Rattle.busiest.proofs.laws.Counts.{few, many, greatest_is, first_is, entry}
use Rattle.busiest.proofs.laws.Runs.{Sorted, ordered_yes, ordered_no}

-- the number of events in the span of the event at a place
abbrev from : List ℕ → ℕ → ℕ
from run s = events (get_or run s 0) run

-- events at the places from a on up to b are in the span of the event at a
abbrev Together : List ℕ → ℕ → ℕ → Type 0
Together run a b = (i : ℕ) → a ≤ i → i < b → get_or run i 0 < get_or run a 0 + 1000

-- what has been found, once the run is known to be in order: the events before the first have been counted, those before the place have less
pub record Found (run : List ℕ) (begin next most place : ℕ) : Type 0 where
  pub left : (s : ℕ) → s < begin → from run s ≤ most
  pub best : next - begin ≤ most
  pub less : (s : ℕ) → s < place → from run s < most
  pub inside : place + most ≤ length run
  pub all : Together run place (place + most)

pub record Search (run : List ℕ) (begin next before most place : ℕ) : Type 0 where
  pub forward : begin ≤ next
  pub within : next ≤ length run
  pub sorted : Sorted run next
  pub last : (i : ℕ) → suc i ≡ next → before ≡ get_or run i 0
  pub none : next ≡ 0 → before ≡ 0
  pub together : Together run begin next
  pub found : Sorted run (length run) → Found run begin next most place

pub start : (run : List ℕ) → Search run 0 0 0 0 0
start run =
    record {
      forward = omega arith;
      within = omega arith;
      sorted = λ i j _ l. absurd (omega (arith, l));
      last = λ i e. absurd (omega (arith, e));
      none = λ _. refl;
      together = λ i _ l. absurd (omega (arith, l));
      found = λ _. record {
        left = λ s l. absurd (omega (arith, l));
        best = omega arith;
        less = λ s l. absurd (omega (arith, l));
        inside = omega arith;
        all = λ i _ l. absurd (omega (arith, l));
      };
    }

-- A count that has been passed ---------------------------------------------------------------------------------------

-- No event from `begin` on, for which those from k on come too late, has more than were together at k: what stands before `begin` is earlier than
-- it and not in its span, or has the same time and so the same count.
module _ (run : List ℕ) (o : Sorted run (length run)) (begin most : ℕ) (left : (s : ℕ) → s < begin → from run s ≤ most) where
  counted : (k s : ℕ) → k - begin ≤ most → begin ≤ s → s < length run
      → ((i : ℕ) → k ≤ i → i < length run → get_or run s 0 + 1000 ≤ get_or run i 0) → from run s ≤ most
  counted k s c b l late = ⊎_elim earlier same (lt_or_le 0 begin)
    where
      -- where nothing before is in the span
      stands : ((i : ℕ) → i < begin → get_or run i 0 < get_or run s 0) → from run s ≤ most
      stands h =
          le_trans
          (few (get_or run s 0) run begin k
          (λ i r t.
          let a : get_or run s 0 ≤ get_or run i 0 = leb-true _ _ (fst _ _ t) in
          let z : get_or run i 0 < get_or run s 0 + 1000 = ltb-true _ _ (snd (leb (get_or run s 0) (get_or run i 0)) _ t) in
          (⊎_elim (λ v. absurd (omega (arith, h i v, a))) (λ v. v) (lt_or_le i begin), ⊎_elim (λ v. v) (λ v. absurd (omega (arith, late i v r, z))) (lt_or_le i k))))
          c

      same : begin ≤ 0 → from run s ≤ most
      same z = stands (λ i h. absurd (omega (arith, h, z)))

      earlier : 0 < begin → from run s ≤ most
      earlier z =
          ⊎_elim
          (λ h. stands (λ i v. omega (arith, o i (begin - 1) (omega (arith, v)) (omega (arith, b, l, z)), h)))
          (λ h.
          let e : get_or run s 0 ≡ get_or run (begin - 1) 0 = le_antisymm h (o (begin - 1) s (omega (arith, b)) l) in
          subst (λ (t : ℕ). events t run ≤ most) (sym e) (left (begin - 1) (omega (arith, z))))
          (lt_or_le (get_or run (begin - 1) 0) (get_or run s 0))

-- A turn -------------------------------------------------------------------------------------------------------------

module _ {run : List ℕ} {begin next before most place : ℕ} (q : Search run begin next before most place) where
  -- the next time is below the one before it
  pub falls : next < length run → get_or run next 0 < before → ordered run ≡ false
  falls l h = go next refl
    where
      go : (n : ℕ) → n ≡ next → ordered run ≡ false
      go zero e = absurd (omega (arith, q.none (sym e), h))
      go (suc n) e =
          ordered_no run n (subst (λ (k : ℕ). k < length run) (sym e) l)
          (subst (λ (k : ℕ). get_or run k 0 < get_or run n 0) (sym e) (subst (λ (t : ℕ). get_or run next 0 < t) (q.last n e) h))

  -- the run is in order as far as it was read
  pub whole : length run ≤ next → Sorted run (length run)
  whole l i j a b = q.sorted i j a (omega (arith, l, b))

  module _ (room : next < length run) (up : before ≤ get_or run next 0) where
    under : (i : ℕ) → i < next → get_or run i 0 ≤ get_or run next 0
    under i h =
        let e : suc (next - 1) ≡ next = omega (arith, h) in
        omega (arith, q.sorted i (next - 1) (omega (arith, h)) (omega (arith, h)), q.last (next - 1) e, up)

    -- the event at `begin` is not later than the next
    pub not_later : get_or run begin 0 ≤ get_or run next 0
    not_later =
        ⊎_elim (under begin) (λ h. let e : begin ≡ next = omega (arith, h, q.forward) in rw e (omega arith)) (lt_or_le begin next)

    grown : Sorted run (next + 1)
    grown i j a b =
        ⊎_elim (λ h. q.sorted i j a h)
        (λ h.
        let e : j ≡ next = omega (arith, h, b) in
        rw e (⊎_elim (under i) (λ k. let f : i ≡ next = omega (arith, k, e, a) in rw f (omega arith)) (lt_or_le i next)))
        (lt_or_le j next)

    -- the next event is taken in; what has been found follows
    module _ (near : get_or run next 0 < get_or run begin 0 + 1000) where
      near_all : Together run begin (next + 1)
      near_all i a b =
          ⊎_elim (q.together i a) (λ h. let e : i ≡ next = omega (arith, h, b) in rw e near) (lt_or_le i next)

      taken : {m p : ℕ} → (Sorted run (length run) → Found run begin (next + 1) m p) → Search run begin (next + 1) (get_or run next 0) m p
      taken f =
          record {
            forward = omega (arith, q.forward);
            within = omega (arith, room);
            sorted = grown;
            last = λ i e. let k : i ≡ next = omega (arith, e) in rw k refl;
            none = λ e. absurd (omega (arith, e));
            together = near_all;
            found = f;
          }

      -- more are together than ever before
      pub more : most < next + 1 - begin → Search run begin (next + 1) (get_or run next 0) (next + 1 - begin) begin
      more h =
          taken
          (λ o.
          let f = q.found o in
          record {
            left = λ s l. omega (arith, f.left s l, h);
            best = omega arith;
            less = λ s l. omega (arith, f.left s l, h);
            inside = omega (arith, room, q.forward);
            all = λ i a b. near_all i a (omega (arith, b, q.forward));
          })

      pub no_more : next + 1 - begin ≤ most → Search run begin (next + 1) (get_or run next 0) most place
      no_more h =
          taken (λ o. let f = q.found o in record { left = f.left; best = h; less = f.less; inside = f.inside; all = f.all })

    -- the next event comes too late for the first, which is let go
    pub let_go : get_or run begin 0 + 1000 ≤ get_or run next 0 → Search run (begin + 1) next before most place
    let_go far =
        record {
          forward = omega (arith, ahead);
          within = q.within;
          sorted = q.sorted;
          last = q.last;
          none = q.none;
          together = λ i a b. omega (arith, q.together i (omega (arith, a)) b, q.sorted begin (begin + 1) (omega arith) (omega (arith, a, b)));
          found = λ o.
              let f = q.found o in
              record {
                left = λ s l.
                    ⊎_elim (f.left s)
                    (λ h.
                    let e : s ≡ begin = omega (arith, h, l) in
                    rw e
                    (counted run o begin most f.left next begin f.best (omega arith) (omega (arith, ahead, room))
                    (λ i a b. omega (arith, far, o next i a b))))
                    (lt_or_le s begin);
                best = omega (arith, f.best);
                less = f.less;
                inside = f.inside;
                all = f.all;
              };
        }
      where
        ahead : begin < next
        ahead =
            ⊎_elim (λ h. h) (λ h. let e : begin ≡ next = omega (arith, h, q.forward) in absurd (let k = subst (λ (b : ℕ). get_or run b 0 + 1000 ≤ get_or run next 0) e far in omega (arith, k))) (lt_or_le begin next)

empty : (run : List ℕ) → length run ≡ 0 → run ≡ []
empty [] e = refl
empty (t ∷ ts) e = absurd (omega (arith, e))

-- The end ------------------------------------------------------------------------------------------------------------

module _ {run : List ℕ} {begin next before most place : ℕ} (q : Search run begin next before most place) (end : length run ≤ next) where
  o : Sorted run (length run)
  o = whole q end

  f : Found run begin next most place
  f = q.found o

  -- no event has more
  at_most : (s : ℕ) → s < length run → from run s ≤ most
  at_most s l =
      ⊎_elim (f.left s)
      (λ h. counted run o begin most f.left next s f.best h l (λ i a b. absurd (omega (arith, a, b, end))))
      (lt_or_le s begin)

  at_least : place < length run → most ≤ from run place
  at_least l =
      many (get_or run place 0) run place most f.inside
      (λ i a b.
      both (le-leb _ _ (o place i a (omega (arith, b, f.inside)))) (lt-ltb _ _ (f.all i a b)))

  at : (s : ℕ) → s < length run → get_or (counts run) s 0 ≡ from run s
  at s l = entry (λ t. events t run) run s l

  many_counts : length (counts run) ≡ length run
  many_counts = length-map run (λ t. events t run)

  none_found : length run ≡ 0 → (greatest (counts run) ≡ most) × (first most (counts run) ≡ place)
  none_found e = (rw (empty run e) (omega (arith, f.inside, e)), rw (empty run e) (omega (arith, f.inside, e)))

  one_found : 0 < length run → (greatest (counts run) ≡ most) × (first most (counts run) ≡ place)
  one_found h =
      let one : 1 ≤ most = le_trans (many (get_or run 0 0) run 0 1 (omega (arith, h)) (λ i _ b. let e : i ≡ 0 = omega (arith, b) in rw e own)) (at_most 0 h) in
      let l : place < length run = omega (arith, f.inside, one) in
      let k : place < length (counts run) = omega (arith, l, many_counts) in
      let e : get_or (counts run) place 0 ≡ most = at place l ∙ le_antisymm (at_most place l) (at_least l) in
      let most_of : (i : ℕ) → i < length (counts run) → get_or (counts run) i 0 ≤ most = λ i b. let v : i < length run = omega (arith, b, many_counts) in omega (arith, at i v, at_most i v) in (
        greatest_is (counts run) place most k (omega (arith, e)) most_of,
        first_is (counts run) place most k e (λ i b. omega (arith, at i (omega (arith, b, l)), f.less i b)),
      )
    where
      own : in_span (get_or run 0 0) (get_or run 0 0) ≡ true
      own = let t = get_or run 0 0 in both (le-leb t t (omega arith)) (lt-ltb t (t + 1000) (omega arith))

  pub ends : length run ≤ 4096 → record { answer = 0; count = most; place = place } ≡ busiest run
  ends few = go (⊎_elim one_found (λ h. none_found (omega (arith, h))) (lt_or_le 0 (length run)))
    where
      go : (greatest (counts run) ≡ most) × (first most (counts run) ≡ place) → record { answer = 0; count = most; place = place } ≡ busiest run
      go (g, p) = rw (le-leb (length run) 4096 few, ordered_yes run o, g, p) refl

-- A refusal ----------------------------------------------------------------------------------------------------------

pub too_long : (run : List ℕ) → 4096 < length run → refused 26 ≡ busiest run
too_long run h = rw (lt-leb (length run) 4096 h) refl

pub not_ordered : (run : List ℕ) → length run ≤ 4096 → ordered run ≡ false → refused 27 ≡ busiest run
not_ordered run few e = rw (le-leb (length run) 4096 few, e) refl
