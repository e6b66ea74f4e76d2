-- All that an export computes with, opened by one name: to unfold `exporting` is to unfold every definition named here.
-- Assumes nothing.
use Rattle.model.proofs.Computing.{computing}
use Rattle.little_endian.specs.Words.{word, decode, encode}
use Rattle.lent_bytes.specs.Exports.{flag, state_numbers, state_from, results, state_bytes, answer_bytes, most_bucket_bytes, most_entry_bytes, whole_up_to, lengths_fit, flags_fit, cleared, refused, world_from, written, exported_list, exported_call, exported_flag, started_state, exported_init}

unfoldable pub exporting : Unit {0}
unfolding computing word decode encode flag state_numbers state_from results state_bytes answer_bytes most_bucket_bytes most_entry_bytes whole_up_to lengths_fit flags_fit cleared refused world_from written exported_list exported_call exported_flag started_state exported_init
exporting = tt
