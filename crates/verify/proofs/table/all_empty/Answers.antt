-- `verify::table::all_empty` meets its contract: what the library says of `all` is the definition.
use Rattle.std.proofs.Common.{ℕ, eqb, take, ◌∙◌, rules}
use Rattle.std.proofs.lemmas.Iterator.{YieldsList-from_slice}
use Rattle.std.proofs.lemmas.Iterator.Search.{all_from_yields_List}
use Rattle.verify.proofs.Tabling.{all_empty_front}
use Rattle.verify.proofs.table.all_empty.Goals as goal

pub returns : goal.returns
returns c =
    all_from_yields_List (λ (head : ℕ). eqb head 0) _ _ _ c.all.ensures.ran
    (YieldsList-from_slice (take c.args.count c.args.buckets.now) cc) (λ x b q k. search rules)
    ∙ all_empty_front c.args.buckets.now c.args.count c.requires
