-- `script::answer::Line::values` meets its contract: the values from here, put in from here, come to all of them.
use mathlib.Core.Path.{◌≡◌}
use Rattle.script.proofs.Writing.{Writing}
use Rattle.script.proofs.answer.Line.values.Given as goal

abbrev pub invariant-loop-value : goal.invariant-loop-value
invariant-loop-value l = record {
  same_buffer : l.self.out.ghost_name ≡ l.initial.self.out.ghost_name;
  writing : Writing l.initial.self.out.now l.initial.self.written l.values l.self.out.now l.self.written l.value-index;
}
