-- `sheet_feed::feed_command` meets its contract. Assumes nothing.
use Rattle.std.specs.Prelude.{Ok}
use Rattle.sheet_feed.proofs.Feeding.{feeds-obeyed}
use Rattle.sheet_feed.proofs.feed_command.Goals as goal

pub returns-clause-feeds : goal.returns-clause-feeds
returns-clause-feeds c =
    let scan = c.scan-done in
    feeds-obeyed scan.result (Ok tt) scan.ensures.scans c.in-Some.is c.obey-obeyed.ensures.obeys
    c.next_line.ensures
