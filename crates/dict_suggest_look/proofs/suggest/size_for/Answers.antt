-- `dict_suggest_look::suggest::size_for` meets its contract: the next power of two is the first that the definition comes to.
use Rattle.dict_suggest_look.proofs.Powers.{size_is}
use Rattle.dict_suggest_look.proofs.suggest.size_for.Goals as goal

pub returns : goal.returns
returns c =
    size_is _ _ _ c.clamp.ensures c.next_power_of_two.ensures.power c.next_power_of_two.ensures.lower_bound
    c.next_power_of_two.ensures.upper_bound
