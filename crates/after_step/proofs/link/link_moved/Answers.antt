-- The goals of `link_moved` that the search leaves.
use mathlib.Core.Path.{◌≡◌}
use mathlib.Core.Bool.{cond}
use lib.Dec.{eqb}
use borrow.Author.Tests.{eq-eqb, ne_eqb}
use Rattle.after_step.proofs.LinkAfter.{telling_start, telling_pos, telling_fits, telling_met, telling_next, telling_end}
use Rattle.after_step.proofs.link.link_moved.Goals.{then-b-own, else-b-own}
use Rattle.after_step.proofs.link.link_moved.Goals as goal

pub loop-init : goal.loop-init
loop-init c = search telling_start

pub returns-then-at-n : goal.returns-then-at-n
returns-then-at-n c = search telling_met

pub key_of-requires-in-loop : goal.key_of-requires-in-loop
key_of-requires-in-loop c = (search telling_pos, search telling_fits)

pub link_of-at-requires : goal.link_of-at-requires
link_of-at-requires c = (search telling_pos, search telling_fits)

pub loop-preserved : goal.loop-preserved
loop-preserved c =
    let head : c.if-b-own.link ≡ cond (eqb c.bucket_index-b.result c.bucket_index-own.result) c.loop.at c.loop.link =
    elim c.if-b-own.branch [ then-b-own w ↦ rw (eq-eqb _ _ w.if-b-own.true) w.link-is | else-b-own w ↦ rw (ne_eqb _ _ w.if-b-own.false) w.link-is ] in
    search telling_next

pub returns : goal.returns
returns c = search telling_end
