-- `script::line::next_line` meets its contract: the line ends at the next line feed, or where the script does.
use Rattle.script.proofs.Ends.{no_line, no_line_reaches, line_until, line_reaches}
use Rattle.script.proofs.line.next_line.Goals as goal

pub returns-then-from-script : goal.returns-then-from-script
returns-then-from-script c = record { script_value = search line_until; reaches = search line_reaches }

pub returns-else-from-script : goal.returns-else-from-script
returns-else-from-script c = record { script_value = search no_line; reaches = search no_line_reaches }
