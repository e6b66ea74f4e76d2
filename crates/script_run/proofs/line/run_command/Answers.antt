-- `script_run::line::run_command` meets its contract: each command is a clause of the definition.
use Rattle.model.specs.Sequences.{world, given, perform}
use Rattle.script.specs.Program.{called, walked, run_command}
use Rattle.script_run.proofs.Calls.{command_leaves, init_done, init_refused, resize_done, resize_refused, kept_done, kept_refused, left_done, left_refused, step_done, step_refused, found, not_found}
use Rattle.script_run.proofs.Walk.{walk_done, walk_refused}
use Rattle.script_run.proofs.line.run_command.Goals as goal

pub returns-in_ok-started-in-Init-clause-leaves : goal.returns-in_ok-started-in-Init-clause-leaves
unfolding run_command called perform given world
returns-in_ok-started-in-Init-clause-leaves c =
    command_leaves _ _ c.in-Init.is
    (init_done _ _ _ _ _ c.limited-capacity.ensures c.limited.ensures c.init-started.ensures.outcome c.in_ok-started-in-Init.was)

pub returns-in_err-started-in-Init-clause-leaves : goal.returns-in_err-started-in-Init-clause-leaves
unfolding run_command called perform given world
returns-in_err-started-in-Init-clause-leaves c =
    command_leaves _ _ c.in-Init.is
    (init_refused _ _ _ _ _ c.limited-capacity.ensures c.limited.ensures c.init-started.ensures.outcome c.in_err-started-in-Init.was c.from_residual.ensures.1)

pub returns-in_ok-add-in-Add-clause-leaves : goal.returns-in_ok-add-in-Add-clause-leaves
unfolding run_command called perform given world
returns-in_ok-add-in-Add-clause-leaves c =
    command_leaves _ _ c.in-Add.is
    (kept_done _ _ _ _ _ _ c.add.ensures.outcome c.in_ok-add-in-Add.was)

pub returns-in_err-add-in-Add-clause-leaves : goal.returns-in_err-add-in-Add-clause-leaves
unfolding run_command called perform given world
returns-in_err-add-in-Add-clause-leaves c =
    command_leaves _ _ c.in-Add.is
    (kept_refused _ _ _ _ _ _ c.add.ensures.outcome c.in_err-add-in-Add.was c.from_residual-in_err-add-in-Add.ensures.1)

pub returns-in_ok-update-in-Update-clause-leaves : goal.returns-in_ok-update-in-Update-clause-leaves
unfolding run_command called perform given world
returns-in_ok-update-in-Update-clause-leaves c =
    command_leaves _ _ c.in-Update.is
    (left_done _ _ _ _ _ _ c.update.ensures.outcome c.in_ok-update-in-Update.was)

pub returns-in_err-update-in-Update-clause-leaves : goal.returns-in_err-update-in-Update-clause-leaves
unfolding run_command called perform given world
returns-in_err-update-in-Update-clause-leaves c =
    command_leaves _ _ c.in-Update.is
    (left_refused _ _ _ _ _ _ c.update.ensures.outcome c.in_err-update-in-Update.was c.from_residual-in_err-update-in-Update.ensures.1)

pub returns-in_ok-delete-in-Delete-clause-leaves : goal.returns-in_ok-delete-in-Delete-clause-leaves
unfolding run_command called perform given world
returns-in_ok-delete-in-Delete-clause-leaves c =
    command_leaves _ _ c.in-Delete.is
    (kept_done _ _ _ _ _ _ c.delete.ensures.outcome c.in_ok-delete-in-Delete.was)

pub returns-in_err-delete-in-Delete-clause-leaves : goal.returns-in_err-delete-in-Delete-clause-leaves
unfolding run_command called perform given world
returns-in_err-delete-in-Delete-clause-leaves c =
    command_leaves _ _ c.in-Delete.is
    (kept_refused _ _ _ _ _ _ c.delete.ensures.outcome c.in_err-delete-in-Delete.was c.from_residual-in_err-delete-in-Delete.ensures.1)

pub returns-in_ok-find-in-Find-clause-leaves : goal.returns-in_ok-find-in-Find-clause-leaves
unfolding run_command called perform given world
returns-in_ok-find-in-Find-clause-leaves c =
    command_leaves _ _ c.in-Find.is
    (found _ _ _ _ _ c.find.ensures c.in_ok-find-in-Find.was)

pub returns-in_err-find-in-Find-clause-leaves : goal.returns-in_err-find-in-Find-clause-leaves
unfolding run_command called perform given world
returns-in_err-find-in-Find-clause-leaves c =
    command_leaves _ _ c.in-Find.is
    (not_found _ _ _ _ _ c.find.ensures c.in_err-find-in-Find.was c.from_residual-in_err-find-in-Find.ensures.1)

pub returns-in_ok-begun-in-Resize-clause-leaves : goal.returns-in_ok-begun-in-Resize-clause-leaves
unfolding run_command called perform given world
returns-in_ok-begun-in-Resize-clause-leaves c =
    command_leaves _ _ c.in-Resize.is
    (resize_done _ _ _ _ _ c.limited-in-Resize.ensures c.resize-begun.ensures.outcome c.in_ok-begun-in-Resize.was)

pub returns-in_err-begun-in-Resize-clause-leaves : goal.returns-in_err-begun-in-Resize-clause-leaves
unfolding run_command called perform given world
returns-in_err-begun-in-Resize-clause-leaves c =
    command_leaves _ _ c.in-Resize.is
    (resize_refused _ _ _ _ _ c.limited-in-Resize.ensures c.resize-begun.ensures.outcome c.in_err-begun-in-Resize.was c.from_residual-in_err-begun-in-Resize.ensures.1)

pub returns-in_ok-moved-in-RehashStep-clause-leaves : goal.returns-in_ok-moved-in-RehashStep-clause-leaves
unfolding run_command called perform given world
returns-in_ok-moved-in-RehashStep-clause-leaves c =
    command_leaves _ _ c.in-RehashStep.is
    (step_done _ _ _ _ _ _ _ _ _ _ c.rehash_step.ensures.outcome c.in_ok-moved-in-RehashStep.was c.from.ensures)

pub returns-in_err-moved-in-RehashStep-clause-leaves : goal.returns-in_err-moved-in-RehashStep-clause-leaves
unfolding run_command called perform given world
returns-in_err-moved-in-RehashStep-clause-leaves c =
    command_leaves _ _ c.in-RehashStep.is
    (step_refused _ _ _ _ _ _ c.rehash_step.ensures.outcome c.in_err-moved-in-RehashStep.was c.from_residual-in_err-moved-in-RehashStep.ensures.1)

pub returns-in_ok-next-in-Scan-clause-leaves : goal.returns-in_ok-next-in-Scan-clause-leaves
unfolding run_command walked perform given world
returns-in_ok-next-in-Scan-clause-leaves c =
    command_leaves _ _ c.in-Scan.is (walk_done _ _ _ _ _ _ c.scan.ensures c.scan.auto.list c.in_ok-next-in-Scan.was)

pub returns-in_err-next-in-Scan-clause-leaves : goal.returns-in_err-next-in-Scan-clause-leaves
unfolding run_command walked perform given world
returns-in_err-next-in-Scan-clause-leaves c =
    command_leaves _ _ c.in-Scan.is
    (walk_refused _ _ _ _ _ _ c.scan.ensures c.in_err-next-in-Scan.was c.from_residual-in_err-next-in-Scan.ensures.1)
