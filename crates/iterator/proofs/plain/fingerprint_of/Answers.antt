-- `fingerprint_of` meets its contract: the six numbers are the definition's.
use Rattle.std.proofs.Common.{not}
use Rattle.model.specs.Memory.{size_of, used_of}
use Rattle.model.specs.Iterators.{numbers_of, fingerprint_of}
use Rattle.iterator.proofs.Answering.{flag_is}
use Rattle.iterator.proofs.plain.fingerprint_of.Goals as goal

pub returns : goal.returns
unfolding fingerprint_of numbers_of size_of used_of
returns c = cc (flag_is c.args.s.second_is_current, flag_is (not c.args.s.second_is_current))
