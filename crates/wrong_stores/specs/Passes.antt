-- Wrong stores by a call that iterates.
use Rattle.std.specs.Prelude.{ℕ, cond, [], ◌∷◌, reverse, get_or, take, ltb}
use Rattle.std.proofs.Math.Option.{Option, none, some}
use Rattle.model.specs.Walk.{Tables, tables_of}
use Rattle.model.specs.Iterators.{end_place, first_place, filled, handed}
use Rattle.model.specs.Sequences.{World, Call, Outcome, kept_scan}
use Rattle.refinement.specs.Worlds.{current, other}
use Rattle.refinement.specs.Demand2.{handing, first_filled, bucket_entries}
use Rattle.wrong_stores.specs.OneCall.{but_iterate, if_done, answering}
use Rattle.wrong_stores.specs.Walks.{overwriting}
use Rattle.wrong_stores.specs.Refusals.{as_damaged, as_short, miscounting, scribbling}

-- Another bucket, made from the place given, if there is one.

unfoldable pub handing_at : (World → ℕ → Option ℕ) → World → Call → Outcome
handing_at choose =
    but_iterate
    (λ place lent w o.
    if_done (kept_scan w (handed w.state (current w) (other w) w.entries lent (choose w place))) o)

-- passes over the new table: looks for a bucket in the old one only
unfoldable pub skips_new : World → Call → Outcome
skips_new =
    handing_at
    (λ w place. first_place (filled w.state (current w) (other w)) (Tables.one w.state.old_size) place)

-- the bucket at the place itself, be it empty
unfoldable pub stops_at_empty : World → Call → Outcome
stops_at_empty = handing_at (λ w place. cond (ltb place (end_place (tables_of w.state))) (some place) none)

-- Another place answered, a part of the chain, or the chain in another order.

-- the place of the bucket that it hands out, and not the one behind it: the next call hands it out again
unfoldable pub again : Outcome → Option ℕ → Outcome
again o none = o
again o (some n) = answering (n ∷ get_or o.reply.values 1 0 ∷ []) o

unfoldable pub hands_again : World → Call → Outcome
hands_again = but_iterate (λ place lent w o. if_done (again o (first_filled w place)) o)

-- the first entry of the bucket, and no other
unfoldable pub hands_part : World → Call → Outcome
hands_part =
    but_iterate
    (λ place lent w o.
    if_done (handing w lent (get_or o.reply.values 0 0) (take 1 (bucket_entries w (first_filled w place)))) o)

-- a forged place, that is one past the end, as it was given
unfoldable pub keeps_forged : World → Call → Outcome
keeps_forged =
    but_iterate
    (λ place lent w o. cond (ltb (end_place (tables_of w.state)) place) (if_done (answering (place ∷ 0 ∷ []) o) o) o)

unfoldable pub iterates_backwards : World → Call → Outcome
iterates_backwards =
    but_iterate
    (λ place lent w o.
    if_done (handing w lent (get_or o.reply.values 0 0) (reverse (bucket_entries w (first_filled w place)))) o)

-- Another list: what lies behind the pairs written too; written and refused.

unfoldable pub iterates_beyond : World → Call → Outcome
iterates_beyond = but_iterate (λ place lent. overwriting)

unfoldable pub iterates_refused : World → Call → Outcome
iterates_refused = but_iterate (λ place lent. scribbling)

-- Another number: damaged, or short, where ours is answered; the keys that come with 9 made up.

unfoldable pub iterates_damaged : World → Call → Outcome
iterates_damaged = but_iterate (λ place lent w o. if_done (as_damaged lent w o) o)

unfoldable pub iterates_short : World → Call → Outcome
iterates_short = but_iterate (λ place. as_short)

unfoldable pub iterates_miscounting : World → Call → Outcome
iterates_miscounting = but_iterate (λ place lent. miscounting)
