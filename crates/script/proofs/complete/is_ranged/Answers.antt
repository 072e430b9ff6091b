-- One kind after the other.
use Rattle.std.proofs.Common.{inl, inr, le-leb}
use Rattle.std.proofs.lemmas.Bool.{lt-leb}
use Rattle.script.specs.declared.kind.Kind.TheVariants.{MouseDown, MouseUp, MouseClick, Redraw, Begin, Dim, SetScanline, ReadSheet, Who}
use Rattle.script.specs.Script.{ranged}
use Rattle.script.proofs.laws.Kinds.{other_kind}
use Rattle.script.proofs.complete.is_ranged.Goals as goal

pub returns-in-MouseDown : goal.returns-in-MouseDown
unfolding ranged
returns-in-MouseDown c = elim c.in-MouseDown.is [ inl e ↦ rw e | inr e ↦ rw e ]

pub returns-then-numbers-le255 : goal.returns-then-numbers-le255
unfolding ranged
returns-then-numbers-le255 c = rw (c.in-MouseClick.is, le-leb _ 255 c.if-numbers-le255.true)

pub returns-else-numbers-le255 : goal.returns-else-numbers-le255
unfolding ranged
returns-else-numbers-le255 c = rw (c.in-MouseClick.is, lt-leb _ 255 c.if-numbers-le255.false)

pub returns-in-Redraw : goal.returns-in-Redraw
unfolding ranged
returns-in-Redraw c = elim c.in-Redraw.is [ inl e ↦ rw e | inr (inl e) ↦ rw e | inr (inr e) ↦ rw e ]

pub returns-in-SetScanline : goal.returns-in-SetScanline
unfolding ranged
returns-in-SetScanline c = rw c.in-SetScanline.is

pub returns-in-ReadSheet : goal.returns-in-ReadSheet
unfolding ranged
returns-in-ReadSheet c = rw c.in-ReadSheet.is c.are_bytes.ensures

pub returns-in-Who : goal.returns-in-Who
unfolding ranged
returns-in-Who c = rw c.in-Who.is c.is_event.ensures

pub returns-in_default : goal.returns-in_default
unfolding ranged
returns-in_default c =
    let k = c.args.kind in
    rw (
      other_kind k MouseDown c.in_default.not-MouseDown,
      other_kind k MouseUp c.in_default.not-MouseUp,
      other_kind k MouseClick c.in_default.not-MouseClick,
      other_kind k Redraw c.in_default.not-Redraw,
      other_kind k Begin c.in_default.not-Begin,
      other_kind k Dim c.in_default.not-Dim,
      other_kind k SetScanline c.in_default.not-SetScanline,
      other_kind k ReadSheet c.in_default.not-ReadSheet,
      other_kind k Who c.in_default.not-Who,
    )
