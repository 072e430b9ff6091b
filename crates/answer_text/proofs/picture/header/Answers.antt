-- The bytes that were put are those of the header, in this order.
use Rattle.std.proofs.Common.{◌∙◌, [], ◌∷◌, ◌++◌}
use Rattle.answer_text.specs.Text.{decimal, spelled}
use Rattle.answer_text.specs.Picture.{header}
use Rattle.answer_text.proofs.laws.Pixels.{grows, header_is}
use Rattle.answer_text.proofs.picture.header.Goals as goal

pub returns : goal.returns
unfolding spelled
returns c =
    let w = c.from.result in
    let h = c.from-2.result in
    let p = grows [] (80 ∷ []) c.requires c.push.ensures.items in
    let six = grows (80 ∷ []) (54 ∷ []) p c.push-2.ensures.items in
    let magic = grows (80 ∷ 54 ∷ []) (10 ∷ []) six c.push-3.ensures.items in
    let width = grows (80 ∷ 54 ∷ 10 ∷ []) (decimal w) magic c.put_number.ensures.put in
    let space = grows (80 ∷ 54 ∷ 10 ∷ decimal w) (32 ∷ []) width c.push-4.ensures.items in
    let height = grows ((80 ∷ 54 ∷ 10 ∷ decimal w) ++ (32 ∷ [])) (decimal h) space c.put_number-2.ensures.put in
    let size = grows (((80 ∷ 54 ∷ 10 ∷ decimal w) ++ (32 ∷ [])) ++ decimal h) (10 ∷ []) height c.push-5.ensures.items in
    let depth = grows ((((80 ∷ 54 ∷ 10 ∷ decimal w) ++ (32 ∷ [])) ++ decimal h) ++ (10 ∷ [])) (decimal 255) size c.put_number-3.ensures.put in
    grows (((((80 ∷ 54 ∷ 10 ∷ decimal w) ++ (32 ∷ [])) ++ decimal h) ++ (10 ∷ [])) ++ decimal 255) (10 ∷ []) depth c.push-6.ensures.items
    ∙ header_is w h
    ∙ (λ i. header (c.from.ensures i) (c.from-2.ensures i))
