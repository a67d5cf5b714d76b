use Rattle.std.proofs.Common.{◌≡◌, [], ◌∷◌, ◌∙◌, ap, refl}
use Rattle.toml.specs.Data.{array}
use Rattle.toml.specs.View.{items_view}
use Rattle.toml.proofs.Views.{view-Array}
use Rattle.carrier_plan.specs.PlanOf.{is_pair, piece_of}
use Rattle.carrier_plan.proofs.Values.{pair_is_pair, pair_reads, pair_depth}
use Rattle.carrier_plan.proofs.printing.pair.Goals as goal

-- the values that were put into the array
built : (c : goal.In_ok-push-2) → c.push-2.new.self.items ≡ c.number.result ∷ c.number-2.result ∷ []
built c = rw (c.in_ok-push-2.ensures.items, c.in_ok-push.ensures.items, c.new-numbers.ensures.items) refl

pub returns-clause-pair : goal.returns-clause-pair
returns-clause-pair c =
    ap is_pair (view-Array c.push-2.new.self) ∙ ap (λ vs. is_pair (array (items_view vs))) (built c)
    ∙ pair_is_pair c.number.result c.number-2.result c.args.piece.start c.args.piece.size c.number.ensures.value c.number-2.ensures.value

pub returns-clause-reads : goal.returns-clause-reads
returns-clause-reads c spot =
    ap (piece_of spot) (view-Array c.push-2.new.self) ∙ ap (λ vs. piece_of spot (array (items_view vs))) (built c)
    ∙ pair_reads spot c.number.result c.number-2.result c.args.piece c.number.ensures.value c.number-2.ensures.value c.number.ensures.range c.number-2.ensures.range

pub returns-clause-depth : goal.returns-clause-depth
returns-clause-depth c =
    rw (view-Array c.push-2.new.self, built c) (pair_depth c.number.result c.number-2.result c.args.piece.start c.args.piece.size c.number.ensures.value c.number-2.ensures.value)
