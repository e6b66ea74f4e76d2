-- `during_rehash::foresee::foresee` meets its contract: the step ends the rehash, or what comes from the next bucket on decides.
use borrow.Author.Rules.{rules}
use Rattle.model.specs.Calls.{ahead_of}
use Rattle.dict_rehash.proofs.Due.{due_rehashing}
use Rattle.search.proofs.Readable.{new_readable}
use Rattle.dict_rehash.proofs.Stepping.{index_fits}
use Rattle.after_step.proofs.Deciding.{exit_is, next_below, next_filled}
use Rattle.during_rehash.proofs.Foretelling.{ended_untold, ended_told, end_untold, empty_untold, empty_told, chain_untold, chain_told}
use Rattle.during_rehash.proofs.foresee.foresee.Goals as goal

pub entry_in-found-requires : goal.entry_in-found-requires
entry_in-found-requires c = search (new_readable, due_rehashing)

pub returns-in_err-held : goal.returns-in_err-held
returns-in_err-held c = rw (exit_is _ _ c.from_residual.ensures.1) (search (ended_untold, c.in_err-held.ensures))

pub returns-then-s-eq0 : goal.returns-then-s-eq0
returns-then-s-eq0 c = search (ended_told, c.in_ok-held.ensures)

pub foresee_chain-requires : goal.foresee_chain-requires
foresee_chain-requires c = record {
  sound = search rules;
  rehashing = search due_rehashing;
  below = search (next_below, index_fits, due_rehashing);
  filled = search (next_filled, index_fits, due_rehashing);
}

pub returns-in_err-chain-in-Filled : goal.returns-in_err-chain-in-Filled
unfolding ahead_of
returns-in_err-chain-in-Filled c = rw (exit_is _ _ c.from_residual-in_err-chain-in-Filled.ensures.1) (search (chain_untold, c.in_err-chain-in-Filled.ensures))

pub entry_in_both-at-requires-clause-new_readable :
    goal.entry_in_both-at-requires-clause-new_readable
entry_in_both-at-requires-clause-new_readable c = search (new_readable, due_rehashing)

pub returns-in_err-held-in-Empty : goal.returns-in_err-held-in-Empty
unfolding ahead_of
returns-in_err-held-in-Empty c = rw (exit_is _ _ c.from_residual-in_err-held-in-Empty.ensures.1) (search (empty_untold, c.in_err-held-in-Empty.ensures))

pub returns-in_ok-chain-in-Filled : goal.returns-in_ok-chain-in-Filled
unfolding ahead_of
returns-in_ok-chain-in-Filled c = search (chain_told, c.in_ok-chain-in-Filled.ensures)

pub returns-in_ok-held-in-Empty : goal.returns-in_ok-held-in-Empty
unfolding ahead_of
returns-in_ok-held-in-Empty c = search (empty_told, c.in_ok-held-in-Empty.ensures)

pub returns-in-End : goal.returns-in-End
unfolding ahead_of
returns-in-End c = search end_untold
