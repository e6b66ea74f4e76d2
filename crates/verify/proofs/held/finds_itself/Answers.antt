-- `verify::held::finds_itself` meets its contract: the flag chooses the tables.
use Rattle.std.proofs.Common.{◌∙◌}
use Rattle.verify.proofs.Selves.{itself_resting, itself_rehashing}
use Rattle.verify.proofs.held.finds_itself.Goals.{then-s, else-s}
use Rattle.verify.proofs.held.finds_itself.Goals as goal

pub returns : goal.returns
returns c =
    elim c.if-s.branch [
      | then-s w ↦ itself_rehashing _ _ _ _ _ _ _ _ c.key_of-key.ensures c.found_is.ensures w.if-s.true (w.found-is ∙ w.entry_in_both-found.ensures)
      | else-s w ↦
          itself_resting _ _ _ _ _ _ _ _ c.key_of-key.ensures c.found_is.ensures w.if-s.false (λ t. w.found-is ∙ w.entry_in-found.ensures t)
    ]
