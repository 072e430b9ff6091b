-- The end of a line: a call that the tables have is shaped as promised, and what the code tests is what `accepts` says.
use Rattle.std.proofs.Common.{ℕ, suc, ◌+◌, ◌≤◌, ◌<◌, min, ◌≡◌, refl, sym, ap, subst, ◌∙◌, Bool, true, false, cond, ◌&&◌, List, [], arith, add-one, leb, eqb, length, take, get_or, get_or-take, length-take-le, take_all, take-suc, take-take, eqb-true, ne_eqb, leb-true, lt-ltb, le-ltb}
use Rattle.std.proofs.Math.Option.{Option, none, some}
use Rattle.geom.proofs.basics.Tests.{fst, snd, clash}
use Rattle.script.proofs.laws.Kinds.{Found, passing, take_min}
use Rattle.script.proofs.laws.Bytes.{bytes_at}
use Rattle.script.specs.declared.Reading.{Reading}
use Rattle.script.specs.declared.Reading.TheVariants.{InWord, Between, InNumber, InName, AfterName}
use Rattle.script.specs.declared.kind.Kind.{Kind as AKind}
use Rattle.script.specs.declared.kind.Kind.TheVariants.{Passed, Malformed}
use Rattle.script.specs.declared.shape.Line.{Line}
use Rattle.script.specs.Kind as Kind
use Rattle.script.specs.Kind.{code_of}
use Rattle.script.specs.Script.{silent, malformed, call, begun, Row, table, row_in, counted_by, counted, is_event, ranged, name_fits, accepts, complete, heard_of, Shaped, kind_of}
use Rattle.script.specs.Machine.{ends, state_of, no_call, Checked, Ended}

-- A call ---------------------------------------------------------------------------------------------------------------

cond_same : {A : Type 0} (t : Bool) {x x' y y' : A} → (t ≡ true → x ≡ x') → y ≡ y' → cond t x y ≡ cond t x' y'
cond_same true f e = f refl
cond_same false f e = e

-- how many numbers a line of a row has at least, and at most
abbrev needed : Option Row → ℕ
needed none = 0
needed (some r) = r.numbers

abbrev allowed : Option Row → ℕ
allowed none = 0
allowed (some r) = r.numbers + r.more

module _ (k n : ℕ) (h : counted k n ≡ true) where
  -- the kind is that of a row
  known : (Kind.start ≤ k) × (k ≤ Kind.last)
  unfolding table
  known =
      let q : Found (λ r. leb Kind.start r.kind && leb r.kind Kind.last) k n = passing (λ r. leb Kind.start r.kind && leb r.kind Kind.last) refl k n h in
      let e : k ≡ q.row.kind = q.kind in (
        rw e (leb-true Kind.start q.row.kind (fst (leb Kind.start q.row.kind) _ q.passes)),
        rw e (leb-true q.row.kind Kind.last (snd (leb Kind.start q.row.kind) _ q.passes)),
      )

  enough : (j : ℕ) → k ≡ j → needed (row_in j table) ≤ n
  unfolding counted
  enough j e = go (row_in j table) (subst (λ (x : ℕ). counted x n ≡ true) e h)
    where
      go : (r : Option Row) → counted_by r n ≡ true → needed r ≤ n
      go none c = omega arith
      go (some r) c = leb-true r.numbers n (fst (leb r.numbers n) _ c)

  not_above : (j : ℕ) → k ≡ j → n ≤ allowed (row_in j table)
  unfolding counted
  not_above j e = go (row_in j table) (subst (λ (x : ℕ). counted x n ≡ true) e h)
    where
      go : (r : Option Row) → counted_by r n ≡ true → n ≤ allowed r
      go none c = clash c refl
      go (some r) c = leb-true n (r.numbers + r.more) (snd (leb r.numbers n) _ c)

  -- no line has more than 384,006 numbers
  pub not_over : n ≤ 384006
  unfolding table
  not_over =
      let q : Found (λ r. leb (r.numbers + r.more) 384006) k n = passing (λ r. leb (r.numbers + r.more) 384006) refl k n h in
      omega (
        arith,
        leb-true n (q.row.numbers + q.row.more) (snd (leb q.row.numbers n) _ q.numbers),
        leb-true (q.row.numbers + q.row.more) 384006 q.passes,
      )

  -- the numbers that are tested are among the first n
  ranged_take : (ns : List ℕ) → ranged k n (take n ns) ≡ ranged k n ns
  unfolding is_event ranged table
  ranged_take ns =
      cond_same (eqb k Kind.mousedown) (λ e. at 2 (enough Kind.mousedown (eqb-true k Kind.mousedown e)))
      (cond_same (eqb k Kind.mouseup) (λ e. at 2 (enough Kind.mouseup (eqb-true k Kind.mouseup e)))
      (cond_same (eqb k Kind.mouseclick) (λ e. let c = enough Kind.mouseclick (eqb-true k Kind.mouseclick e) in
      rw (get_or-take n ns 2 0 (omega arith), get_or-take n ns 3 0 (omega arith)))
      (cond_same (eqb k Kind.redraw) (λ e. rw (get_or-take n ns 0 0 (omega (arith, enough Kind.redraw (eqb-true k Kind.redraw e)))))
      (cond_same (eqb k Kind.begin) (λ e. rw (get_or-take n ns 0 0 (omega (arith, enough Kind.begin (eqb-true k Kind.begin e)))))
      (cond_same (eqb k Kind.dim) (λ e. rw (get_or-take n ns 0 0 (omega (arith, enough Kind.dim (eqb-true k Kind.dim e)))))
      (cond_same (eqb k Kind.set_scanline) (λ e. rw (get_or-take n ns 5 0 (omega (arith, enough Kind.set_scanline (eqb-true k Kind.set_scanline e)))))
      (cond_same (eqb k Kind.read_sheet) (λ e. rw (take-take n n ns (omega arith)))
      (cond_same (eqb k Kind.who) (λ e. event_take (enough Kind.who (eqb-true k Kind.who e))) refl))))))))
    where
      at : (i : ℕ) → suc i ≤ n → leb (get_or (take n ns) i 0) 255 ≡ leb (get_or ns i 0) 255
      at i g = rw (get_or-take n ns i 0 g)

      event_take : 5 ≤ n → is_event (take n ns) ≡ is_event ns
      event_take g = rw (get_or-take n ns 0 0 (omega arith), get_or-take n ns 3 0 (omega arith), get_or-take n ns 4 0 (omega arith))

-- what the code tests
abbrev pub passes : ℕ → ℕ → ℕ → List ℕ → Bool
passes k n m ns = counted k n && (ranged k n ns && name_fits k m)

-- a line that is no call
pub no_shape : (k : ℕ) (ns : List ℕ) → k ≤ Kind.malformed → Shaped k 0 0 ns
no_shape k ns h =
    record {
      few = omega arith;
      named = omega arith;
      kinds = omega arith;
      blit = λ e. omega arith;
      scan = λ e. omega arith;
      fills = λ e. omega arith;
      sets = λ e. omega arith;
      rgn = λ e. omega arith;
      down = λ e. omega arith;
      up = λ e. omega arith;
      click = λ e. omega arith;
      forced = λ e. omega arith;
      who = λ e. omega arith;
      bytes = λ e. omega arith;
    }

-- the numbers of `who`
event_fits : (ns : List ℕ) → is_event ns ≡ true → (1 ≤ get_or ns 0 0) × (get_or ns 0 0 ≤ 9) × (get_or ns 3 0 ≤ 255) × (get_or ns 4 0 ≤ 255)
unfolding is_event
event_fits ns h =
    let low = leb 1 (get_or ns 0 0) in
    let high = leb (get_or ns 0 0) 9 in
    let button = leb (get_or ns 3 0) 255 in
    let count = leb (get_or ns 4 0) 255 in
    let bytes = snd high (button && count) (snd low (high && (button && count)) h) in (
      leb-true 1 (get_or ns 0 0) (fst low (high && (button && count)) h),
      leb-true (get_or ns 0 0) 9 (fst high (button && count) (snd low (high && (button && count)) h)),
      leb-true (get_or ns 3 0) 255 (fst button count bytes),
      leb-true (get_or ns 4 0) 255 (snd button count bytes),
    )

module _ (k n m : ℕ) (ns : List ℕ) (few : n ≤ 384006) (long : m ≤ 64) (room : length ns ≡ 384006) where
  accepts_is : (name : List ℕ) → length name ≡ 64 → accepts k (take n ns) (take m name) ≡ passes k n m ns
  unfolding accepts
  accepts_is name full =
      rw (length-take-le n ns (omega arith), length-take-le m name (omega arith)) (go (counted k n) refl)
    where
      go : (t : Bool) → counted k n ≡ t → counted k n && ranged k n (take n ns) && name_fits k m ≡ passes k n m ns
      go true e = rw (e, ranged_take k n e ns)
      go false e = rw e

  shaped : passes k n m ns ≡ true → Shaped k n m ns
  unfolding ranged table
  shaped p =
      let h : counted k n ≡ true = fst (counted k n) (ranged k n ns && name_fits k m) p in
      let r : ranged k n ns ≡ true = fst (ranged k n ns) (name_fits k m) (snd (counted k n) (ranged k n ns && name_fits k m) p) in
      record {
        few = few;
        named = long;
        kinds = (known k n h).1;
        blit = λ e. enough k n h Kind.blit e;
        scan = λ e. enough k n h Kind.scanline e;
        fills = λ e. enough k n h Kind.fill_scanline e;
        sets = λ e. (enough k n h Kind.set_scanline e, leb-true (6 + get_or ns 5 0) n (subst (λ (x : ℕ). ranged x n ns ≡ true) e r), not_above k n h Kind.set_scanline e);
        rgn = λ e. enough k n h Kind.region e;
        down = λ e. leb-true (get_or ns 2 0) 255 (subst (λ (x : ℕ). ranged x n ns ≡ true) e r);
        up = λ e. leb-true (get_or ns 2 0) 255 (subst (λ (x : ℕ). ranged x n ns ≡ true) e r);
        click =
            λ e.
            let q : leb (get_or ns 2 0) 255 && leb (get_or ns 3 0) 255 ≡ true = subst (λ (x : ℕ). ranged x n ns ≡ true) e r in (
              leb-true (get_or ns 2 0) 255 (fst (leb (get_or ns 2 0) 255) (leb (get_or ns 3 0) 255) q),
              leb-true (get_or ns 3 0) 255 (snd (leb (get_or ns 2 0) 255) (leb (get_or ns 3 0) 255) q),
            );
        forced = λ e. leb-true (get_or ns 0 0) 1 (subst (λ (x : ℕ). ranged x n ns ≡ true) e r);
        who = λ e. event_fits ns (subst (λ (x : ℕ). ranged x n ns ≡ true) e r);
        bytes = λ e. (not_above k n h Kind.read_sheet e, λ i l. bytes_at ns n i (omega arith) (subst (λ (x : ℕ). ranged x n ns ≡ true) e r) l);
      }

module _ (kind : AKind) (n m : ℕ) (ns : List ℕ) (few : n ≤ 384006) (long : m ≤ 64) (room : length ns ≡ 384006) where
  pub is_call : passes (code_of kind) n m ns ≡ true → Checked (code_of kind) n m ns (record { kind = kind; count = n; name = m })
  unfolding heard_of complete
  is_call p =
      let k : ℕ = code_of kind in
      let h : counted k n ≡ true = fst (counted k n) (ranged k n ns && name_fits k m) p in
      let z : eqb k Kind.passed ≡ false = ne_eqb k Kind.passed (λ e. omega (arith, (known k n h).0)) in
      let o : eqb k Kind.malformed ≡ false = ne_eqb k Kind.malformed (λ e. omega (arith, (known k n h).0)) in
      record { shaped = shaped k n m ns few long room p; heard = λ name full. rw (accepts_is k n m ns few long room name full ∙ p, z, o) }

  pub no_call_lem : passes (code_of kind) n m ns ≡ false → {l : Line} → l ≡ no_call Malformed → Checked (code_of kind) n m ns l
  unfolding heard_of complete
  no_call_lem p e =
      subst (Checked (code_of kind) n m ns) (sym e)
      (record { shaped = no_shape Kind.malformed ns (omega arith); heard = λ name full. rw (accepts_is (code_of kind) n m ns few long room name full ∙ p) })

-- A reading ------------------------------------------------------------------------------------------------------------

-- a word that is no name is no call either
begins : (k : ℕ) → complete (call k [] []) ≡ complete (begun k)
unfolding complete accepts counted table
begins k = go (eqb k Kind.malformed) refl
  where
    go : (t : Bool) → eqb k Kind.malformed ≡ t → complete (call k [] []) ≡ complete (begun k)
    go true e = rw (eqb-true k Kind.malformed e)
    go false e = rw e

-- no more is taken of a list than it has
at_most : (n : ℕ) {m limit : ℕ} (l : List ℕ) → length l ≡ limit → m ≡ min n limit → take m l ≡ take n l
at_most n l e f = ap (λ (i : ℕ). take i l) (f ∙ ap (min n) (sym e)) ∙ take_min n l

module _ (w ns : List ℕ) (room : length ns ≡ 384006) {l : Line} where
  pub ends_word : {letters : ℕ} {k : ℕ} → k ≡ kind_of (take letters w) → Checked k 0 0 ns l → Ended (InWord letters) w ns l
  unfolding ends
  ends_word {letters} {k} f c = record { shaped = c.shaped; heard = λ name full. c.heard name full ∙ begins k ∙ ap (λ (x : ℕ). complete (begun x)) f }

  pub ends_between : {kind : AKind} {count n : ℕ} → n ≡ min count 384006 → Checked (code_of kind) n 0 ns l → Ended (Between kind count) w ns l
  unfolding ends
  ends_between {kind} {count} f c =
      record { shaped = c.shaped; heard = λ name full. c.heard name full ∙ ap (λ (x : List ℕ). complete (call (code_of kind) x [])) (at_most count ns room f) }

  pub ends_number : {kind : AKind} {count : ℕ} → count < 384006 → Checked (code_of kind) (count + 1) 0 ns l → Ended (InNumber kind count) w ns l
  unfolding ends
  ends_number {kind} {count} h c =
      record {
        shaped = c.shaped;
        heard =
            λ name full.
            c.heard name full
            ∙ rw (length-take-le count ns (omega arith), lt-ltb count 384006 h, add-one, take-suc ns count 0 (omega arith));
      }

  named : (kind : AKind) (count size : ℕ) {n m : ℕ} → m ≡ min size 64 → n ≡ min count 384006 → Checked (code_of kind) n m ns l → (name : List ℕ)
      → length name ≡ 64 → heard_of l ns name ≡ complete (call (code_of kind) (take count ns) (take size name))
  named kind count size f g c name full = c.heard name full ∙ rw (at_most size name full f, at_most count ns room g)

  pub ends_name : {kind : AKind} {count size n m : ℕ} → m ≡ min size 64 → n ≡ min count 384006 → Checked (code_of kind) n m ns l
      → Ended (InName kind count size) w ns l
  unfolding ends
  ends_name f g c = record { shaped = c.shaped; heard = named _ _ _ f g c }

  pub ends_after : {kind : AKind} {count size n m : ℕ} → m ≡ min size 64 → n ≡ min count 384006 → Checked (code_of kind) n m ns l
      → Ended (AfterName kind count size) w ns l
  unfolding ends
  ends_after f g c = record { shaped = c.shaped; heard = named _ _ _ f g c }

-- nothing, or a malformed line
module _ (w ns : List ℕ) {l : Line} where
  pub ends_silent : (r : Reading) → ((name : List ℕ) → ends (state_of r w ns name) ≡ silent) → l ≡ no_call Passed → Ended r w ns l
  unfolding heard_of
  ends_silent r f i = subst (Ended r w ns) (sym i) (record { shaped = no_shape Kind.passed ns (omega arith); heard = λ name _. sym (f name) })

  pub ends_malformed : (r : Reading) → ((name : List ℕ) → ends (state_of r w ns name) ≡ malformed) → l ≡ no_call Malformed → Ended r w ns l
  unfolding heard_of
  ends_malformed r f i = subst (Ended r w ns) (sym i) (record { shaped = no_shape Kind.malformed ns (omega arith); heard = λ name _. sym (f name) })

-- one number too many
pub no_number : (kind : AKind) (count : ℕ) (w ns : List ℕ) → length ns ≡ 384006 → 384006 ≤ count → (name : List ℕ)
    → ends (state_of (InNumber kind count) w ns name) ≡ malformed
unfolding ends
no_number kind count w ns room h name = rw (take_all count ns (omega arith), le-ltb (length ns) 384006 (omega arith))
