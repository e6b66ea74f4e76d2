-- `exports::suspects_scan` meets its contract.
use borrow.Author.Rules.{rules}
use Rattle.export_lists.specs.Room.{Listing}
use Rattle.exports.proofs.suspects_scan.Goals as goal

pub returns : goal.returns
returns c = c.run_list.ensures.called (Listing.scan c.args.cursor) (λ f g e l s a l' p. search (rules, p))
