-- `after_step::presence::survey_chain` meets its contract: the entries met and the chain from here are the chain from the
-- head.
use Rattle.model.specs.Memory.{in_bucket}
use Rattle.after_step.proofs.Surveying.{Surveying}
use Rattle.after_step.proofs.presence.survey_chain.Given as goal

abbrev pub invariant-loop-at : goal.invariant-loop-at
invariant-loop-at l =
    Surveying (in_bucket l.chain.size l.chain.bucket) l.entries l.capacity l.chain.budget l.chain.head l.asked.size l.asked.bucket l.asked.key
    l.asked.entry l.at l.left l.last l.joining l.held l.meets

abbrev pub decreases-loop-at : goal.decreases-loop-at
decreases-loop-at l = l.left
