-- Damage as the code holds it: the search for an entry that contains the area, the search for one that merges with it, and the area added.
-- Both searches say of the entries that are left what the rule says of them all.
use Rattle.std.proofs.Common.{ℕ, suc, ◌+◌, ◌-◌, ◌≤◌, ◌<◌, ◌≡◌, refl, sym, ap, subst, ◌∙◌, Bool, true, false, cond, ◌||◌, Some, None, List, [], ◌∷◌, ◌++◌, map, length, get_or, set, take, drop, replicate, arith, add-one, length-set, length-append, take-append-drop, get_or-take, length-take-le, take-suc-set, drop-set-lt, le-leb}
use Rattle.std.proofs.lemmas.List.{map-append}
use Rattle.std.proofs.Math.ListN.{length-map, get_or-replicate}
use Rattle.std.proofs.Math.Seq.{take-set-lt}
use borrow.Author.Tests.{lt-leb}
use Rattle.std.specs.List.{list_any}
use Rattle.std.proofs.lemmas.List.Recursion.{is_position_or_len}
use Rattle.std.proofs.lemmas.List.Sums.{position_or_len_is}
use Rattle.geom.specs.declared.Rect.{Rect}
use Rattle.geom.specs.declared.inner.rect16.Rect16.{Rect16}
use Rattle.geom.specs.Geom.{rect, is_empty, contains_rect, union}
use Rattle.geom.specs.inner.Fits.{Fits}
use Rattle.geom.specs.Rect16.{Small, rect_of, no_rect16, rect16_of}
use Rattle.geom.proofs.basics.Lists.{set_in, set_case, map_set}
use Rattle.window.specs.declared.damage.Damage.{Damage}
use Rattle.window.specs.Window.{any_contains, merges, merge_or_append, add_dirty}
use Rattle.window.specs.Represents.{Low, rects, RepDamage, with_entries}
use Rattle.window.specs.inner.Changes.{PastAs, MergesAt, JoinedTo, Dirtied}

-- Rectangles in 16 bits ----------------------------------------------------------------------------------------------

pub small_low : (r : Rect) → Small r → Low r
small_low r h = omega arith

pub low_fits : (r : Rect) → Low r → Fits r
low_fits r h = omega arith

pub low_union : (e a : Rect) → Low e → Small a → Low (union e a)
unfolding union
low_union e a l h = omega arith

-- The entries --------------------------------------------------------------------------------------------------------

abbrev pub entry : Damage → ℕ → Rect
entry d i = rect_of (get_or d.areas i no_rect16)

module _ (d : Damage) (ok : RepDamage d) where
  pub rects_count : length (rects d) ≡ d.len
  rects_count = length-map (take d.len d.areas) rect_of ∙ length-take-le d.len d.areas (omega (arith, ok.areas, ok.len))

-- what is past the entries, and the entries, are all of it
pub all_of : (d r : Damage) → RepDamage r → PastAs d r → r ≡ with_entries (rects r) d
all_of d r ok e =
    let n : r.len ≡ length (rects r) = sym (rects_count r ok) in
    let areas : r.areas ≡ map rect16_of (rects r) ++ drop (length (rects r)) d.areas =
    sym (take-append-drop r.len r.areas)
    ∙ (λ i. areas_again (take r.len r.areas) i ++ e i)
    ∙ ap (λ (k : ℕ). map rect16_of (rects r) ++ drop k d.areas) n in
    λ i. record { areas = areas i; len = n i }
  where
    areas_again : (l : List Rect16) → l ≡ map rect16_of (map rect_of l)
    areas_again [] = refl
    areas_again (x ∷ l) = ap (λ (m : List Rect16). x ∷ m) (areas_again l)

-- The searches ------------------------------------------------------------------------------------------------------

pub any_is : (a : Rect) (l : List Rect16) → list_any (λ e. contains_rect (rect_of e) a) l ≡ any_contains (map rect_of l) a
unfolding any_contains
any_is a [] = refl
any_is a (e ∷ l) = ap (λ (b : Bool). contains_rect (rect_of e) a || b) (any_is a l)

-- how many entries stand before the first that merges with the area
abbrev before : Rect → List Rect16 → ℕ
before a [] = 0
before a (e ∷ l) = cond (merges (rect_of e) a) 0 (1 + before a l)

merged_at : (a : Rect) (l : List Rect16) (i : ℕ) → i ≡ before a l → i < length l
    → merge_or_append (map rect_of l) a ≡ set (map rect_of l) i (union (rect_of (get_or l i no_rect16)) a)
unfolding merge_or_append
merged_at a [] i is h = absurd (omega arith)
merged_at a (e ∷ l) i is h = go (merges (rect_of e) a) is (merged_at a l)
  where
    go : (b : Bool) → i ≡ cond b 0 (1 + before a l)
        → ((j : ℕ) → j ≡ before a l → j < length l → merge_or_append (map rect_of l) a ≡ set (map rect_of l) j (union (rect_of (get_or l j no_rect16)) a))
        → cond b (union (rect_of e) a ∷ map rect_of l) (rect_of e ∷ merge_or_append (map rect_of l) a) ≡ set (map rect_of (e ∷ l)) i (union (rect_of (get_or (e ∷ l) i no_rect16)) a)
    go true j ih = rw j refl
    go false j ih =
        let s : i ≡ suc (i - 1) = omega arith in
        rw s (ap (λ (r : List Rect). rect_of e ∷ r) (ih (i - 1) (omega arith) (omega arith)))

none_merges : (a : Rect) (l : List Rect16) → length l ≤ before a l → merge_or_append (map rect_of l) a ≡ map rect_of l ++ (a ∷ [])
unfolding merge_or_append
none_merges a [] h = refl
none_merges a (e ∷ l) h = go (merges (rect_of e) a) h (none_merges a l)
  where
    go : (b : Bool) → suc (length l) ≤ cond b 0 (1 + before a l)
        → (length l ≤ before a l → merge_or_append (map rect_of l) a ≡ map rect_of l ++ (a ∷ []))
        → cond b (union (rect_of e) a ∷ map rect_of l) (rect_of e ∷ merge_or_append (map rect_of l) a) ≡ rect_of e ∷ (map rect_of l ++ (a ∷ []))
    go true j ih = absurd (omega arith)
    go false j ih = ap (λ (r : List Rect). rect_of e ∷ r) (ih (omega arith))

-- the entries as the code reads them, with the first i seen: none of these merges with the area
module _ (d : Damage) (ok : RepDamage d) (a : Rect) (es : List Rect16) (is : es ≡ take d.len d.areas) (i : ℕ) (within : i ≤ length es)
    (none : (k : ℕ) → k < i → merges (rect_of (get_or es k no_rect16)) a ≡ false) where
  seen : (i < length es → merges (rect_of (get_or es i no_rect16)) a ≡ true) → before a es ≡ i
  seen here =
      is_position_or_len (before a) (λ e. merges (rect_of e) a) refl (λ x xs. refl) es
      ∙ position_or_len_is (λ e. merges (rect_of e) a) es i no_rect16 within none here

  pub none_found : length es ≤ i → MergesAt d a None
  none_found past =
      subst (λ (l : List Rect16). merge_or_append (map rect_of l) a ≡ map rect_of l ++ (a ∷ [])) is
      (none_merges a es (omega (arith, seen (λ l. absurd (omega (arith, l))))))

  pub first_found : i < length es → merges (rect_of (get_or es i no_rect16)) a ≡ true → MergesAt d a (Some i)
  first_found inside here =
      let many : length es ≡ d.len = ap (λ (l : List Rect16). length l) is ∙ length-take-le d.len d.areas (omega (arith, ok.areas, ok.len)) in
      let l : i < d.len = omega arith in (
        l,
        subst (λ (l : List Rect16). merge_or_append (map rect_of l) a ≡ set (map rect_of l) i (union (rect_of (get_or es i no_rect16)) a)) is
            (merged_at a es i (sym (seen (λ _. here))) inside)
            ∙ ap (λ (x : Rect16). set (map rect_of (take d.len d.areas)) i (union (rect_of x) a))
            (ap (λ (l : List Rect16). get_or l i no_rect16) is ∙ get_or-take d.len d.areas i no_rect16 l),
      )

-- The area added -----------------------------------------------------------------------------------------------------

pub one_entry : (v : Rect16) (r : Rect) → rect_of v ≡ r → Low r
    → (rects (record { areas = replicate 16 v; len = 1 }) ≡ r ∷ []) × RepDamage (record { areas = replicate 16 v; len = 1 })
one_entry v r e l = (
  ap (λ (x : Rect). x ∷ []) e,
  record {
    areas = refl;
    len = omega arith;
    low = λ i h. rw (get_or-replicate 16 i v no_rect16 (omega arith)) (subst Low (sym e) l);
  },
)

module _ (w h : ℕ) (d : Damage) (a : Rect) (ok : RepDamage d) where
  longer : length (rects d ++ (a ∷ [])) ≡ d.len + 1
  longer = length-append (rects d) (a ∷ []) ∙ ap (λ (k : ℕ). k + 1) (rects_count d ok)

  pub joins_last : d.len < 16 → Small a → (v : Rect16) → rect_of v ≡ a
      → JoinedTo w h d a (record { areas = set d.areas d.len v; len = d.len + 1 })
  joins_last l small v e =
      record {
        rep =
            record {
              areas = length-set d.areas d.len v ∙ ok.areas;
              len = omega arith;
              low =
                  λ j k.
                  set_in (λ (x : Rect16). Low (rect_of x)) d.areas d.len j v no_rect16 (λ _. omega (arith, ok.areas))
                  (λ _. subst Low (sym e) (small_low a small)) (λ n. ok.low j (omega arith));
            };
        past = drop-set-lt (d.len + 1) d.areas d.len v (omega arith);
        is =
            rw (add-one, take-suc-set d.areas d.len v (omega (arith, ok.areas)), le-leb (length (rects d ++ (a ∷ []))) 16 (omega (arith, longer)))
            (map-append rect_of (take d.len d.areas) (v ∷ []) ∙ ap (λ (x : Rect). rects d ++ (x ∷ [])) e);
      }

  pub joins_all : 16 ≤ d.len → w ≤ 32767 → h ≤ 32767 → (v : Rect16) → rect_of v ≡ rect 0 0 w h → JoinedTo w h d a (record { areas = set d.areas 0 v; len = 1 })
  joins_all l p q v e =
      record {
        rep =
            record {
              areas = length-set d.areas 0 v ∙ ok.areas;
              len = omega arith;
              low =
                  λ j k.
                  set_in (λ (x : Rect16). Low (rect_of x)) d.areas 0 j v no_rect16 (λ _. omega (arith, ok.areas))
                  (λ _. subst Low (sym e) (omega arith)) (λ n. absurd (omega arith));
            };
        past = drop-set-lt 1 d.areas 0 v (omega arith);
        is =
            rw (lt-leb (length (rects d ++ (a ∷ []))) 16 (omega (arith, longer)))
            (ap (map rect_of) (take-suc-set d.areas 0 v (omega (arith, ok.areas))) ∙ ap (λ (x : Rect). x ∷ []) e);
      }

  pub dirty_empty : is_empty a ≡ true → Dirtied w h d a d
  unfolding add_dirty
  dirty_empty e = record { rep = ok; past = refl; is = rw e }

  module _ (solid : is_empty a ≡ false) where
    pub dirty_inside : any_contains (rects d) a ≡ true → Dirtied w h d a d
    unfolding add_dirty
    dirty_inside f = record { rep = ok; past = refl; is = rw (solid, f) }

    module _ (away : any_contains (rects d) a ≡ false) where
      pub dirty_merged : (i : ℕ) → MergesAt d a (Some i) → Small a → (v : Rect16) → rect_of v ≡ union (entry d i) a
          → Dirtied w h d a (record { areas = set d.areas i v; len = d.len })
      unfolding add_dirty
      dirty_merged i (l, is) small v e =
          let is_rects : map rect_of (take d.len (set d.areas i v)) ≡ merge_or_append (rects d) a =
          ap (map rect_of) (take-set-lt d.len d.areas i v l) ∙ map_set rect_of (take d.len d.areas) i v ∙ ap (set (rects d) i) e ∙ sym is in
          let few : length (merge_or_append (rects d) a) ≤ 16 =
          omega (arith, ap length is, length-set (rects d) i (union (entry d i) a), rects_count d ok, ok.len) in
          record {
            rep =
                record {
                  areas = length-set d.areas i v ∙ ok.areas;
                  len = ok.len;
                  low =
                      λ j k.
                      set_case (λ (x : Rect16). Low (rect_of x)) d.areas i j v no_rect16
                      (λ _. subst Low (sym e) (low_union (entry d i) a (ok.low i l) small)) (ok.low j k);
                };
            past = drop-set-lt d.len d.areas i v l;
            is = rw (solid, away, is_rects, le-leb (length (merge_or_append (rects d) a)) 16 few) refl;
          }

      pub dirty_joined : MergesAt d a None → (r : Damage) → JoinedTo w h d a r → Dirtied w h d a r
      unfolding add_dirty
      dirty_joined none r j = record { rep = j.rep; past = j.past; is = rw (solid, away, none) j.is }
