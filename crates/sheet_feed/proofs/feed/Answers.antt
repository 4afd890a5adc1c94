-- `sheet_feed::feed` meets its contract. The loop keeps what is so of a piece fed so far. The measure is what is left
-- to read. Assumes nothing.
use Rattle.sheet_feed.proofs.Feeding.{has, fed-start, fed-next}
use Rattle.sheet_feed.proofs.feed.Goals as goal

pub loop-fed-init : goal.loop-fed-init
loop-fed-init c =
    (fed-start _ _ _ c.ask_room.ensures, c.requires)

pub loop-fed-preserved : goal.loop-fed-preserved
loop-fed-preserved c =
    let done = c.feed_command-fed in
    let l = c.loop-fed in (
      fed-next l.fed l.invariant.0 done.ensures.feeds (done.ensures.from_lt_read.0 c.loop-fed-test.true)
          done.ensures.from_lt_read.1 (has _ _ c.has_room.ensures c.if-has_room.true),
      done.ensures.sound_2,
    )
