-- What a walk call does with two live tables.
use Rattle.std.specs.Prelude.{ℕ, ◌+◌, List}
use Rattle.cursor.specs.Group.{two_tables}
use Rattle.model.specs.Walk.{AfterScan, at_most, scanned}
use Rattle.scan_group.specs.declared.lent.Group.{Group}
use Rattle.scan_group.specs.Chains.{group_chains}

unfoldable pub scanned_two : Group → List ℕ → AfterScan
scanned_two g list =
    scanned g.entries.fields.now list (two_tables g.small.size g.large.size g.cursor).answered
    (at_most (g.small.used + g.large.used) (group_chains g))
