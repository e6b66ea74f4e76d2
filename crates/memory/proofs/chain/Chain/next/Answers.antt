-- `memory::chain::Chain::next` meets its contract.
use Rattle.std.proofs.Common.{refl}
use Rattle.memory.proofs.Stepping.{at_end, goes_out, strays, goes_on}
use Rattle.memory.proofs.chain.Chain.next.Goals as goal

pub returns-then-n-eq0 : goal.returns-then-n-eq0
returns-then-n-eq0 c = search at_end

pub returns-then-self-n : goal.returns-then-self-n
returns-then-self-n c = goes_out c.args.self.now c.if-n-eq0.false c.if-self-n.true

pub returns-then-bucket_index-self : goal.returns-then-bucket_index-self
returns-then-bucket_index-self c = strays c.args.self.now c.if-n-eq0.false c.if-self-n.false _ _ c.key_of.ensures c.bucket_index.ensures.0 c.if-bucket_index-self.true

pub returns : goal.returns
returns c =
    goes_on c.args.self.now c.if-n-eq0.false c.if-self-n.false _ _ c.key_of.ensures c.bucket_index.ensures.0 _
    c.if-bucket_index-self.false refl refl refl refl c.link_of-self.ensures refl
