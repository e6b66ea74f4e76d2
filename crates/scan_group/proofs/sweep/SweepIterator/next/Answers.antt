-- `Sweep::next` meets its contract: the bucket of the cursor is the first of those that are left.
use Rattle.std.proofs.Common.{◌≡◌, ◌∷◌, length, arith, refl, ap}
use Rattle.scan_group.specs.Sweep.{buckets_left}
use Rattle.scan_group.proofs.Buckets.{sweep_step}
use Rattle.scan_group.proofs.sweep.SweepIterator.next.Goals.{After-bucket_index}
use Rattle.scan_group.proofs.sweep.SweepIterator.next.Goals as goal

first : (c : After-bucket_index)
    → buckets_left c.args.self.now.small c.args.self.now.large c.args.self.now.next
    ≡ c.bucket_index.result ∷ buckets_left c.args.self.now.small c.args.self.now.large c.then_some-self.result
first c = search (sweep_step, c.in_ok-at.was)

pub returns-in_err-at-clause-steps : goal.returns-in_err-at-clause-steps
unfolding buckets_left
returns-in_err-at-clause-steps c = rw (c.from_residual.ensures, c.in_err-at.was) (refl, refl)

pub returns-clause-steps : goal.returns-clause-steps
returns-clause-steps c = first c

pub returns-clause-goes : goal.returns-clause-goes
returns-clause-goes c =
    record { on = λ _. (tt, tt, omega (arith, ap length (first c))); keeps = tt; rests = λ _. tt }
