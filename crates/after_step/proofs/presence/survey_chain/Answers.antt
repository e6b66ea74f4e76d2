-- The goals of `survey_chain` that the search leaves.
use native.Mathlib.Omega.{arith}
use Rattle.model.proofs.Chains.{budget_left, in_range, bucket_same, bucket_other}
use Rattle.after_step.proofs.Surveying.{surveying_start, surveying_out, surveying_stray, surveying_next, surveying_end, surveying_fits}
use Rattle.after_step.proofs.presence.survey_chain.Goals as goal

pub loop-at-init : goal.loop-at-init
loop-at-init c = search surveying_start

pub returns-then-left-capacity : goal.returns-then-left-capacity
returns-then-left-capacity c = search surveying_out

pub key_of-met-requires : goal.key_of-met-requires
key_of-met-requires c = omega (arith, in_range)

pub returns-then-bucket_index-chain : goal.returns-then-bucket_index-chain
returns-then-bucket_index-chain c = search (surveying_stray, bucket_other)

pub overflow_sub-left : goal.overflow_sub-left
overflow_sub-left c = omega (arith, budget_left)

pub overflow_add-joining : goal.overflow_add-joining
overflow_add-joining c = search surveying_fits

pub link_of-at-requires : goal.link_of-at-requires
link_of-at-requires c = omega (arith, in_range)

pub loop-at-smaller : goal.loop-at-smaller
loop-at-smaller c = omega (arith, budget_left)

pub loop-at-preserved : goal.loop-at-preserved
loop-at-preserved c = search (surveying_next, bucket_same)

pub overflow_sub-result : goal.overflow_sub-result
overflow_sub-result c = omega arith

pub returns : goal.returns
returns c = search surveying_end
