-- The focus is aimed at, if it has a place in the order.
use mathlib.Core.Path.{sym, ap, ◌∙◌}
use Rattle.order.specs.inner.Order.{idx_of}
use Rattle.windows.proofs.laws.Places.{is_shown, isnt_shown}
use Rattle.windows.proofs.laws.Frames.{shown_used}
use Rattle.windows.proofs.laws.Routing.{key_tellable, no_focus, focus_told}
use Rattle.windows.specs.inner.Aimed.{point_x, point_y}
use Rattle.windows.proofs.laws.Taker.{refused_taker, told_taker, goes_focus}
use Rattle.windows.proofs.inner.events.aim_key.Goals as goal

pub returns-in_default : goal.returns-in_default
returns-in_default c =
    let s = c.args.s.now in
    let e = c.args.e in
    refused_taker s e 10
    (no_focus s e c.requires.0 c.requires.1
    (isnt_shown s c.requires.0 s.shared.focus.0 (sym (ap idx_of c.in_default.is) ∙ c.place_of.ensures)))

pub returns : goal.returns
returns c =
    let s = c.args.s.now in
    let e = c.args.e in
    let known = is_shown s c.requires.0 s.shared.focus.0 _ (sym (ap idx_of c.in-Some.is) ∙ c.place_of.ensures) in
    let u = shown_used s s.shared.focus.0 c.requires.0 known in
    record {
      inside = u.0;
      able = key_tellable e s.shared.grab c.requires.1;
      told = λ v n to.
          told_taker s e _ s.shared.focus.0 (point_x e) (point_y e) (goes_focus s e c.requires.1)
          (focus_told s e c.requires.0 c.requires.1 known u.1 v n to);
    }
