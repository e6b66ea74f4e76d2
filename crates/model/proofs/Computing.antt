-- All that a history computes with, opened by one name: to unfold `computing` is to unfold every definition named here.
-- Assumes nothing.
use Rattle.cursor.specs.Member as member
use Rattle.cursor.specs.Reverse as reversal
use Rattle.cursor.specs.Next as next
use Rattle.cursor.specs.Group as groups
use Rattle.fingerprint.specs.Mix as mix
use Rattle.model.specs.Keys as keys
use Rattle.model.specs.Limits as limits
use Rattle.model.specs.Memory as memory
use Rattle.model.specs.Answers as answers
use Rattle.model.specs.Calls as calls
use Rattle.model.specs.Walk as walk
use Rattle.model.specs.Iterators as iterators
use Rattle.model.specs.Verify as verifying
use Rattle.model.specs.Repair as repairing
use Rattle.model.specs.Sequences as sequences

-- the next cursor and the groups
unfoldable pub the_cursor : Unit {0}
unfolding member.any member.keep member.among reversal.reverse reversal.rev next.set_high next.add_one next.next groups.one_table groups.between_zero groups.sweep groups.two_tables
the_cursor = tt

-- the fingerprint
unfoldable pub the_fingerprint : Unit {0}
unfolding mix.cut mix.plus mix.inverse mix.left mix.right mix.mixed mix.folded mix.fingerprint
the_fingerprint = tt

-- keys, limits, chains
unfoldable pub the_memory : Unit {0}
unfolding keys.hash keys.bucket_of limits.largest_capacity limits.largest_exponent limits.legal_capacity limits.power_up_to limits.legal_size limits.empty_visits limits.least_suggestion limits.force_ratio limits.most_safe_iterators memory.link_of memory.key_of memory.value_of memory.set_link memory.set_key memory.set_value memory.set_entry memory.size_of memory.used_of memory.buckets_of memory.keys_held memory.sound_capacity memory.sound_table memory.sound_rehash memory.sound_base memory.sound_state memory.met memory.chain memory.in_bucket memory.any_key memory.Live memory.key_place memory.head_at memory.budget_at memory.belongs memory.chain_at memory.listed memory.entries_at memory.sum memory.last_or
the_memory = tt

-- the calls and what they answer
unfoldable pub the_calls : Unit {0}
unfolding answers.reply answers.error_number answers.init_reply answers.value_reply answers.done_reply answers.state_reply answers.step_reply answers.table_reply answers.scan_reply answers.verify_reply calls.sound calls.oriented calls.checked calls.reading calls.back calls.writing calls.changed calls.state_of calls.old_new calls.empty_state calls.recounted calls.retabled calls.noted calls.cleared calls.free_link calls.free_entries calls.no_state calls.long_enough calls.init calls.first_with calls.searched calls.both calls.lookup_in calls.lookup_while calls.lookup calls.held calls.found calls.find calls.updated calls.update calls.push calls.with_count calls.pushed calls.target calls.takeable calls.added calls.add_alone calls.unlink_bucket calls.unlink_entry calls.removed calls.deleted calls.delete_alone calls.acceptable calls.resizing calls.resized calls.resize calls.ahead calls.moved calls.advanced calls.finished calls.settled calls.step_done calls.moved_chain calls.moved_from calls.ahead_of calls.step_taken calls.paused calls.stepped calls.rehash_step calls.unless_refused calls.call_after calls.step_due calls.step_first calls.is_added calls.add_after_step calls.is_deleted calls.delete calls.power_from calls.size_for calls.suggested calls.suggested_size calls.crowded calls.growth_due calls.grown_by calls.grown calls.then_grown calls.add calls.allow_resize calls.current_table walk.tables_by walk.tables_of walk.smaller_of walk.group walk.small_first walk.group_places walk.joined walk.chains_at walk.at_most walk.pairs walk.scanned walk.scan iterators.bucket_at iterators.end_place iterators.first_from iterators.first_place iterators.filled iterators.handed iterators.iterate iterators.buffer_number iterators.numbers_of iterators.fingerprint_of iterators.begin_iterator iterators.end_iterator iterators.one_more iterators.begin_safe iterators.one_fewer iterators.end_safe
the_calls = tt

-- the check and the repair of the whole store
unfoldable pub the_whole : Unit {0}
unfolding verifying.is_sound verifying.all_sound verifying.table_verified verifying.all_empty verifying.finds verifying.finds_itself verifying.counted verifying.last_fails verifying.free_verified verifying.verified verifying.verify repairing.followed repairing.followed_in repairing.met_in repairing.met_before repairing.met_at repairing.met_all repairing.first_met repairing.is_kept repairing.kept_at repairing.up_from repairing.freed_list repairing.first_or0 repairing.chained repairing.chained_all repairing.headed repairing.freed repairing.repaired_buckets repairing.repaired_entries repairing.is_filled repairing.or_else repairing.repaired_index repairing.repaired_state repairing.repaired repairing.repair
the_whole = tt

-- histories and the plain map
unfoldable pub the_histories : Unit {0}
unfolding sequences.world sequences.kept sequences.kept_scan sequences.left sequences.given sequences.perform sequences.carried_state sequences.carry sequences.run sequences.event sequences.events sequences.keys_of sequences.value_for sequences.with_value sequences.without sequences.with_pairs sequences.map_answer sequences.map_does
the_histories = tt

unfoldable pub computing : Unit {0}
unfolding the_cursor the_fingerprint the_memory the_calls the_whole the_histories
computing = tt
