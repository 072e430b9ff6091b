-- All of the windows from there on are held, each read where it lies.
use Rattle.std.proofs.Common.{ℕ, ◌+◌, ◌-◌, ◌≤◌, ◌<◌, ◌≡◌, refl, sym, ap, subst, ◌∙◌, List, length, take, drop, get_or, map, arith, length-take-le, length-drop, get_or-drop, get_or-take}
use Rattle.std.proofs.lemmas.List.{take_rest}
use Rattle.geom.specs.declared.Rect.{Rect}
use Rattle.window.specs.declared.ids.WinId.{WinId}
use Rattle.window.specs.inner.Ids.{no_id}
use Rattle.order.specs.inner.Rects.{Holds}
use Rattle.order.proofs.laws.Rects.{fill_all, filled, fill_more}
use Rattle.windows.specs.declared.Session.{Session}
use Rattle.windows.specs.View.{Given}
use Rattle.windows.proofs.laws.Above.{lies, lies_higher}
use Rattle.windows.proofs.laws.Places.{id_low}
use Rattle.windows.proofs.inner.frames.rects_from.Goals as goal

-- the windows of the order from place p on, as the slice a gives them
module _ (s : Session) (h : Given s) (a : List WinId) (is : a ≡ take s.shared.shown s.shared.order) (p : ℕ) where
  abbrev rest : List WinId
  rest = take (length a - p) (drop p a)

  count : length a ≡ s.shared.shown
  count = ap length is ∙ length-take-le s.shared.shown s.shared.order (omega (arith, h.rep.shown, h.rep.order))

  rest_is : rest ≡ drop p (take s.shared.shown s.shared.order)
  rest_is = take_rest a p ∙ ap (drop p) is

  few : length rest ≤ 16
  few = omega (arith, ap length (take_rest a p), length-drop p a, count, h.rep.shown)

  low : (j : ℕ) → j < length rest → (get_or rest j no_id).0 < 16
  low j k =
      let inside : p + j < s.shared.shown = omega (arith, k, ap length (take_rest a p), length-drop p a, count) in
      let read : get_or rest j no_id ≡ get_or s.shared.order (p + j) no_id =
      ap (λ (l : List WinId). get_or l j no_id) rest_is
      ∙ get_or-drop p (take s.shared.shown s.shared.order) j no_id
      ∙ get_or-take s.shared.shown s.shared.order (p + j) no_id inside in
      id_low s h (p + j) inside (get_or rest j no_id) read

pub loop-id-init : goal.loop-id-init
loop-id-init c = c.none-list.ensures

pub bounds-s-id : goal.bounds-s-id
bounds-s-id c = low c.args.s.now c.requires.0 c.in_order.result.now c.in_order.ensures c.args.p.0 c.loop-id.id-index c.loop-id-test.true

pub push-requires : goal.push-requires
push-requires c =
    let s = c.args.s.now in
    let a = c.in_order.result.now in
    let l = rest s c.requires.0 a c.in_order.ensures c.args.p.0 in
    let n = filled (λ v. lies s v.0) l c.loop-id.invariant c.loop-id.auto.id-index-end in
    omega (arith, n, c.loop-id-test.true, few s c.requires.0 a c.in_order.ensures c.args.p.0)

pub loop-id-preserved : goal.loop-id-preserved
loop-id-preserved c =
    let s = c.args.s.now in
    let l = rest s c.requires.0 c.in_order.result.now c.in_order.ensures c.args.p.0 in
    subst (λ (rs : List Rect). Holds c.push.new.self rs) (sym (fill_more (λ v. lies s v.0) l c.loop-id.id-index no_id c.loop-id-test.true))
    (c.push.ensures _ c.loop-id.invariant)

pub returns : goal.returns
returns c =
    let s = c.args.s.now in
    let a = c.in_order.result.now in
    let l = rest s c.requires.0 a c.in_order.ensures c.args.p.0 in
    subst (λ (rs : List Rect). Holds c.loop-id.list rs)
    (ap (map (λ v. lies s v.0)) (rest_is s c.requires.0 a c.in_order.ensures c.args.p.0) ∙ lies_higher s c.requires.0 c.args.p.0)
    (fill_all (λ v. lies s v.0) l c.loop-id.invariant c.loop-id-test.false)
