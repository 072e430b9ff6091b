-- Room is made, and the space and the number are put behind what waits.
use Rattle.std.proofs.Common.{refl, arith, ap, ◌∙◌, [], ◌∷◌, List, ℕ, ◌++◌, append_assoc}
use Rattle.answer_text.specs.Text.{spelled, decimal}
use Rattle.answer_text.proofs.laws.Put.{placed}
use Rattle.answer_text.proofs.Output.more.Goals as goal

pub returns : goal.returns
unfolding spelled
returns g c =
    let before = c.self.inside.block.items in
    let put =
    c.put_number.ensures.put
    ∙ ap (λ (l : List ℕ). l ++ decimal c.wide.result) c.push.ensures.items
    ∙ append_assoc before (32 ∷ []) (decimal c.wide.result)
    ∙ ap (λ (n : ℕ). before ++ (32 ∷ decimal n)) c.wide.ensures in
    placed _ c.self.view_is c.make_room.ensures put refl (omega (arith, c.put_number.ensures.len, c.push.ensures.len))
