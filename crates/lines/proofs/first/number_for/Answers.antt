-- `first::number_for` meets its contract: the place of a name in the table is how many rows stand before its own. Assumes nothing.
use Rattle.std.proofs.Common.{rules, tests, refl, ◌∙◌, nat_eq}
use Rattle.std.specs.Cmp.Lexicographic.{pointwise}
use Rattle.std.proofs.lemmas.Iterator.{YieldsList-from_slice}
use Rattle.std.proofs.lemmas.Iterator.Search.{position_from_yields_List}
use Rattle.lines.specs.Forms.{forms}
use Rattle.lines.proofs.Naming.{placed}
use Rattle.lines.proofs.first.number_for.Goals as goal

pub returns : goal.returns
returns c =
    let name = c.args.name.now in
    let rows = c.iter.result.rest.now in
    position_from_yields_List (λ x. pointwise nat_eq name x.0.now) _ _ c.position.result c.position.ensures.ran (YieldsList-from_slice rows refl) (λ x b q k. search (rules, tests))
    ∙ placed (λ x. x.0.now) name rows forms (search rules)
