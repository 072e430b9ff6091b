-- Each branch says what its kind writes; the player stays as it was, but for its output.
use Rattle.std.proofs.Common.{◌≤◌, refl, ap, arith, [], ◌∷◌}
use mathlib.Core.Logic.{inl, inr}
use Rattle.script.specs.Kind.{code_of}
use Rattle.script.specs.Kind as Kind
use Rattle.script.specs.declared.kind.Kind.TheVariants as kind
use Rattle.replay.specs.Called.{OnShow}
use Rattle.replay.specs.Played.{shows_pixels, shows_rect, shows_part}
use Rattle.replay.proofs.laws.Nexts.{tells}
use Rattle.replay.proofs.laws.Arms.{apart, range_of}
use Rattle.replay.proofs.laws.Shows.{screen_shown}
use Rattle.replay.proofs.player.Player.shown.Goals as goal

pub returns-in-Pixels : goal.returns-in-Pixels
returns-in-Pixels g c =
    record { text = _; plays = shows_pixels (ap code_of c.in-Pixels.is) refl (tells c.args.self.now c.requires.0 c.pixels.ensures) refl }

pub returns-in-Screen : goal.returns-in-Screen
returns-in-Screen g c =
    let k : OnShow (code_of c.args.line.kind) = elim c.in-Screen.is [ inl e ↦ inl (ap code_of e) | inr e ↦ inr (ap code_of e) ] in
    screen_shown c.args.self.now c.requires.0 k c.screen.ensures

pub returns-in-Scanline : goal.returns-in-Scanline
returns-in-Scanline g c =
    let r = range_of Kind.scanline Kind.region c.args.line.kind (kind.Scanline ∷ kind.FillScanline ∷ kind.SetScanline ∷ kind.Region ∷ []) refl c.in-Scanline.is in
    record { text = _; plays = shows_part r.0 r.1 refl (tells c.args.self.now c.requires.0 c.pixel_line.ensures) refl }

pub returns-in_default : goal.returns-in_default
returns-in_default g c =
    let d = c.in_default in
    let s = c.requires.2 in
    let k = code_of c.args.line.kind in
    let pixels = apart d.not-Pixels in
    let screen = apart d.not-Screen in
    let picture = apart d.not-Picture in
    let low : Kind.intersect ≤ k = omega (arith, s.0, pixels, screen, picture) in
    let scanline = apart d.not-Scanline in
    let fill = apart d.not-FillScanline in
    let set = apart d.not-SetScanline in
    let region = apart d.not-Region in
    let high : k ≤ Kind.within = omega (arith, s.1, scanline, fill, set, region) in
    record { text = _; plays = shows_rect low high refl (tells c.args.self.now c.requires.0 c.rect_line.ensures) refl }
