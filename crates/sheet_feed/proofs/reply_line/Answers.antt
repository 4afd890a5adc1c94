-- `sheet_feed::reply_line` meets its contract. Assumes nothing.
use Rattle.sheet_begun.proofs.Lengthening.{begun-of-some}
use Rattle.sheet_feed.proofs.Feeding.{sheet-sized, replies-told, replies-obeyed}
use Rattle.sheet_feed.proofs.reply_line.Goals as goal

pub returns-in-Told-clause-replies_at : goal.returns-in-Told-clause-replies_at
returns-in-Told-clause-replies_at c =
    let sheet = c.args.sheet in
    let some = begun-of-some sheet.begun (sheet-sized sheet _ c.well_formed.0) in
    let j = c.judge in
    replies-told sheet c.requires.at_in_bounds some c.read_begun-parsed.ensures _ j.result j.ensures c.in-Told.is

pub returns-in-Command-clause-replies_at : goal.returns-in-Command-clause-replies_at
returns-in-Command-clause-replies_at c =
    let sheet = c.args.sheet in
    let some = begun-of-some sheet.begun (sheet-sized sheet _ c.well_formed.0) in
    let j = c.judge in
    replies-obeyed sheet c.requires.at_in_bounds some c.read_begun-parsed.ensures _ _ j.result j.ensures
    c.in-Command.is c.obey-obeyed.ensures.obeys
