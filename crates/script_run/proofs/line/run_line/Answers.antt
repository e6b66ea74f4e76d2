-- `script_run::line::run_line` meets its contract: what the line is answered with is written.
use Rattle.script_run.proofs.Lines.{written_runs}
use Rattle.script_run.proofs.line.run_line.Goals as goal

pub returns-clause-runs : goal.returns-clause-runs
returns-clause-runs c = search written_runs
