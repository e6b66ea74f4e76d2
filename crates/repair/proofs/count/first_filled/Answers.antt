-- `repair::count::first_filled` meets its contract: what the library says of `position` is the definition.
use Rattle.std.proofs.Common.{◌≡◌, ℕ, eqb, not, take, ◌∙◌, rules}
use Rattle.std.specs.List.{position_from}
use Rattle.std.proofs.lemmas.Iterator.{YieldsList-from_slice}
use Rattle.std.proofs.lemmas.Iterator.Search.{position_from_yields_List}
use Rattle.std.proofs.lemmas.Iterator.Adapters.{position_from-zero}
use Rattle.repair.proofs.Tallying.{filled_at, none_filled}
use Rattle.repair.proofs.count.first_filled.Goals as goal

pub returns-in-Some : goal.returns-in-Some
returns-in-Some c =
    let at : c.position.result ≡ position_from (λ (head : ℕ). not (eqb head 0)) 0 (take c.args.index c.args.buckets.now) =
    position_from_yields_List (λ (head : ℕ). not (eqb head 0)) _ _ _ c.position.ensures.ran
    (YieldsList-from_slice (take c.args.index c.args.buckets.now) cc) (λ x b q k. search rules)
    ∙ position_from-zero (λ (head : ℕ). not (eqb head 0)) (take c.args.index c.args.buckets.now) in
    search filled_at

pub returns-in-None : goal.returns-in-None
returns-in-None c =
    let at : c.position.result ≡ position_from (λ (head : ℕ). not (eqb head 0)) 0 (take c.args.index c.args.buckets.now) =
    position_from_yields_List (λ (head : ℕ). not (eqb head 0)) _ _ _ c.position.ensures.ran
    (YieldsList-from_slice (take c.args.index c.args.buckets.now) cc) (λ x b q k. search rules)
    ∙ position_from-zero (λ (head : ℕ). not (eqb head 0)) (take c.args.index c.args.buckets.now) in
    search none_filled
