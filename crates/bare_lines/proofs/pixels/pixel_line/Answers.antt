-- The kind chooses the arm.
use Rattle.std.proofs.Common.{ℕ, ◌≡◌, ◌∙◌, rules, List}
use Rattle.script.specs.declared.kind.Kind.{Kind as AKind}
use Rattle.script.specs.declared.kind.Kind.TheVariants as kind
use Rattle.script.specs.Kind.{code_of}
use Rattle.bare_lines.specs.Told.{pixel_line, scanline_line, fill_line, set_line, region_line}
use Rattle.answer_text.proofs.laws.Added.{told}
use Rattle.script.proofs.laws.Kinds.{other_kind}
use Rattle.bare_lines.proofs.laws.Parts.{scanline_front, fill_front, set_front, region_front}
use Rattle.bare_lines.proofs.pixels.pixel_line.Goals as goal

-- the text of a line by its kind
module _ (n : ℕ) (ns : List ℕ) {k : AKind} where
  is_scanline : k ≡ kind.Scanline → scanline_line n ns ≡ pixel_line (code_of k) n ns
  unfolding pixel_line
  is_scanline e = rw e

  is_fill : k ≡ kind.FillScanline → fill_line n ns ≡ pixel_line (code_of k) n ns
  unfolding pixel_line
  is_fill e = rw e

  is_set : k ≡ kind.SetScanline → set_line n ns ≡ pixel_line (code_of k) n ns
  unfolding pixel_line
  is_set e = rw e

  is_region : (k ≡ kind.Scanline → ⊥) → (k ≡ kind.FillScanline → ⊥) → (k ≡ kind.SetScanline → ⊥) → region_line n ns ≡ pixel_line (code_of k) n ns
  unfolding pixel_line
  is_region f g h = rw (other_kind k kind.Scanline f, other_kind k kind.FillScanline g, other_kind k kind.SetScanline h)

pub returns-in-Scanline : goal.returns-in-Scanline
returns-in-Scanline c =
    let ns = c.args.ns.now in
    let n = c.args.line.count in
    told (λ ps. ps) (scanline_front n ns (search rules) (search rules) ∙ is_scanline n ns c.in-Scanline.is) c.scanline.ensures

pub returns-in-FillScanline : goal.returns-in-FillScanline
returns-in-FillScanline c =
    let ns = c.args.ns.now in
    let n = c.args.line.count in
    told (λ ps. ps) (fill_front n ns (search rules) (search rules) ∙ is_fill n ns c.in-FillScanline.is) c.fill_scanline.ensures

pub returns-in-SetScanline : goal.returns-in-SetScanline
returns-in-SetScanline c =
    let ns = c.args.ns.now in
    let n = c.args.line.count in
    told (λ ps. ps) (set_front n ns (search rules) (search rules) ∙ is_set n ns c.in-SetScanline.is) c.set_scanline.ensures

pub returns-in_default : goal.returns-in_default
returns-in_default c =
    let ns = c.args.ns.now in
    let n = c.args.line.count in
    let d = c.in_default in
    told (λ ps. ps) (region_front n ns (search rules) (search rules) ∙ is_region n ns d.not-Scanline d.not-FillScanline d.not-SetScanline) c.region.ensures
