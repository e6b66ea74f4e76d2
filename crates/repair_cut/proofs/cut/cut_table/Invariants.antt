-- `repair_cut::cut::cut_table` meets its contract: the chains before bucket b are cut.
use Rattle.std.proofs.Common.{drop}
use Rattle.repair_cut.proofs.Cutting.{CuttingUp}
use Rattle.repair_cut.proofs.cut.cut_table.Given as goal

abbrev pub invariant-loop-b : goal.invariant-loop-b
invariant-loop-b l =
    CuttingUp l.capacity l.size (drop l.size l.fn.buckets) l.initial.head-items l.initial.entries l.initial.marks l.head-items l.entries l.marks l.b
