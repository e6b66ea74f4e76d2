-- `script_run::line::answer` meets its contract: the line's command is run, if it says one.
use Rattle.script_run.proofs.Lines.{said_leaves, bad_leaves}
use Rattle.script_run.proofs.line.answer.Goals as goal

pub returns-in_err-command-clause-leaves : goal.returns-in_err-command-clause-leaves
returns-in_err-command-clause-leaves c =
    bad_leaves _ _ _ _ _ c.parse_line.ensures c.ok_or.ensures.value _ _ c.in_err-command.was c.from_residual.ensures.1

pub returns-clause-leaves : goal.returns-clause-leaves
returns-clause-leaves c =
    said_leaves _ _ _ _ _ c.parse_line.ensures c.ok_or.ensures.value _ _ _ _ c.in_ok-command.was c.run_command.ensures.leaves
