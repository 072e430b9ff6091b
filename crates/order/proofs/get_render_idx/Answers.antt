-- The first of the windows that is the one asked for.
use Rattle.std.proofs.Common.{◌≡◌, eqb, option_map, rules, tests}
use Rattle.std.proofs.lemmas.Iterator.{YieldsList-from_slice}
use Rattle.std.proofs.lemmas.Iterator.Search.{position_from_yields_List}
use Rattle.order.proofs.laws.Order.{place_found}
use Rattle.order.proofs.get_render_idx.Goals as goal

pub returns : goal.returns
returns c =
    let l = c.args.shown.now in
    let id = c.args.id.0 in
    let found = place_found id l c.position.result
    (position_from_yields_List (λ w. eqb w.0 id) _ _ c.position.result c.position.ensures.ran
    (YieldsList-from_slice l cc) (λ x b q k. search (rules, tests))) in
    let is : c.map.result ≡ option_map (λ p. record { 0 = p }) c.position.result = search rules in
    rw is found
