-- `script::scan::find` meets its contract: what the search answers is where the byte first stands.
use Rattle.std.proofs.Common.{rules, arith, ℕ, ◌==◌, Bool, cond, ltb, List, length, Option, Some, None, ◌≡◌}
use Rattle.std.specs.Prelude.{unwrap_or}
use Rattle.std.proofs.lemmas.Bool.Decides.{nat_tests}
use Rattle.std.proofs.lemmas.Iterator.{YieldsList-from_slice}
use Rattle.std.proofs.lemmas.Iterator.Search.{position_from_yields_List}
use Rattle.std.proofs.lemmas.List.Sums.{prefix_len-le-length}
use Rattle.std.specs.List.{position_or_len}
use Rattle.script.proofs.scan.find.Goals as goal

-- the first place, or behind them all
first_or_end : (p : ℕ → Bool) (xs : List ℕ) (o : Option ℕ)
    → o ≡ cond (ltb (position_or_len p xs) (length xs)) (Some (position_or_len p xs)) None
    → unwrap_or o (length xs) ≡ position_or_len p xs
first_or_end p xs o e = rw e (grind (arith, nat_tests, prefix_len-le-length))

pub returns-clause-value : goal.returns-clause-value
returns-clause-value c =
    let e = position_from_yields_List (λ (b : ℕ). b == c.args.mark) _ _ _ c.position.ensures.ran (YieldsList-from_slice c.args.text.now cc) (λ x b q k. search rules) in
    rw c.unwrap_or.ensures (first_or_end _ _ _ e)
