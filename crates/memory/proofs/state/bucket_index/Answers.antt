-- `memory::state::bucket_index` meets its contract: a legal size is a power of two, whose mask is the remainder.
use Rattle.std.proofs.Common.{arith}
use Rattle.model.specs.Keys.{bucket_of, hash}
use Rattle.model.specs.Limits.{legal_size, largest_exponent}
use Rattle.model.proofs.Power.{legal_pos, mask_legal, mask_below}
use Rattle.memory.proofs.Masks.{masked_fits}
use Rattle.memory.proofs.state.bucket_index.Goals as goal

pub overflow_sub-result : goal.overflow_sub-result
unfolding legal_size
overflow_sub-result c = omega (arith, legal_pos largest_exponent c.args.size c.requires)

pub overflow_cast-result : goal.overflow_cast-result
overflow_cast-result c = search masked_fits

pub returns : goal.returns
unfolding legal_size bucket_of hash
returns c = (
  mask_legal largest_exponent c.args.size c.args.key c.requires,
  mask_below largest_exponent c.args.size c.args.key c.requires,
)
