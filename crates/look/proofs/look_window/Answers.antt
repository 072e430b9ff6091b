-- `look_window`: each end by its law; the rows are written in whole quarters, which is the rule's target.
use Rattle.std.proofs.Common.{◌≡◌, ℕ, ◌*◌, ◌≤◌, Bool, true, false, ◌&&◌, eqb, leb, List, length, sym, refl, ◌∙◌, subst}
use Rattle.look.specs.declared.Look.{Look}
use Rattle.look.specs.declared.Sizes.{Sizes}
use Rattle.look.specs.declared.Steps.{Steps}
use Rattle.look.specs.Floats.{allowed}
use Rattle.look.specs.View.{shown, target_fits}
use Rattle.look.specs.Quarters.{steps_of, place_quarters}
use Rattle.look.specs.Agree.{Small}
use Rattle.look.specs.inner.Steps.{Stepping, Looks}
use Rattle.look.proofs.laws.Ends.{stepped, wrong, fitting, stepping, quarters_view, says_22, says_23, says_0}
use Rattle.look.proofs.look_window.Goals as goal

-- question 23, as the code asks it
same_23 : (a b c d e : Bool) → (a && b) && ((c && d) && e) ≡ a && b && (c && d) && e
same_23 true true c d e = refl
same_23 true false c d e = refl
same_23 false b c d e = refl

asks_23 : (len tw th : ℕ) → target_fits len tw th ≡ leb 1 tw && leb tw 32767 && (leb 1 th && leb th 32767) && eqb len (tw * th)
asks_23 len tw th = same_23 (leb 1 tw) (leb tw 32767) (leb 1 th) (leb th 32767) (eqb len (tw * th))

-- the sizes, once both questions are answered
small : (s : Sizes) (len : ℕ) → s.w ≤ 32767 → s.h ≤ 32767 → target_fits len s.tw s.th ≡ true → Small s
small s len w h e = let f = fitting len s.tw s.th e in record { w = w; h = h; tw = f.0; th = f.1 }

module _ (l : Look) (s : Sizes) (t : Steps) (e : (allowed l ≡ true) × (steps_of l s ≡ t)) (m : Small s) where
  steps_on : Stepping t
  steps_on = subst (λ (u : Steps). Stepping u) e.1 (stepping l s e.0 m)

  written : (base : ℕ) (store before after : List ℕ) → target_fits (length before) s.tw s.th ≡ true
      → after ≡ shown (place_quarters t.x t.step) (place_quarters t.y t.step) s base store → Looks l s base store before 0 after
  written base store before after f q =
      says_0 l s base store before after e.0 f
      (subst (λ (u : Steps). after ≡ shown (place_quarters u.x u.step) (place_quarters u.y u.step) s base store) (sym e.1) q
      ∙ quarters_view l s e.0 m base store)

pub returns-in_default : goal.returns-in_default
returns-in_default c =
    let a = c.args in
    let s : Sizes = record { w = a.w; h = a.h; tw = a.tw; th = a.th } in
    says_22 a.look s a.base a.store.now a.target.now (wrong a.look s (sym c.whole_of.ensures ∙ c.in_default.is))

pub returns-then-not-pixels_fit : goal.returns-then-not-pixels_fit
returns-then-not-pixels_fit c =
    let a = c.args in
    let s : Sizes = record { w = a.w; h = a.h; tw = a.tw; th = a.th } in
    says_23 a.look s a.base a.store.now a.target.now
    (stepped a.look s _ (sym c.whole_of.ensures ∙ c.in-Some.is)).0
    (asks_23 (length a.target.now) a.tw a.th ∙ sym c.pixels_fit.ensures ∙ c.if-not-pixels_fit.true)

-- the sizes, where both questions are answered
abbrev sizes : ℕ → ℕ → ℕ → ℕ → Sizes
sizes w h tw th = record { w = w; h = h; tw = tw; th = th }

pub look_rows-requires : goal.look_rows-requires
look_rows-requires c =
    let a = c.args in
    let s = sizes a.w a.h a.tw a.th in
    let f : target_fits (length a.target.now) a.tw a.th ≡ true =
    asks_23 (length a.target.now) a.tw a.th ∙ sym c.pixels_fit.ensures ∙ c.if-not-pixels_fit.false in
    let m = small s (length a.target.now) c.requires.0 c.requires.1 f in
    (steps_on a.look s _ (stepped a.look s _ (sym c.whole_of.ensures ∙ c.in-Some.is)) m, (fitting (length a.target.now) a.tw a.th f).2, m.th, c.requires.2)

pub returns : goal.returns
returns c =
    let a = c.args in
    let s = sizes a.w a.h a.tw a.th in
    let f : target_fits (length a.target.now) a.tw a.th ≡ true =
    asks_23 (length a.target.now) a.tw a.th ∙ sym c.pixels_fit.ensures ∙ c.if-not-pixels_fit.false in
    let m = small s (length a.target.now) c.requires.0 c.requires.1 f in
    written a.look s _ (stepped a.look s _ (sym c.whole_of.ensures ∙ c.in-Some.is)) m a.base a.store.now a.target.now _ f c.look_rows.ensures
