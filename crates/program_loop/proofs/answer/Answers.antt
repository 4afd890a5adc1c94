-- `program_loop::answer` meets its contract. Assumes nothing.
use Rattle.std.proofs.Common.{◌<◌, ◌∙◌, refl, arith}
use lib.Seq.{length-take-le}
use Rattle.program_loop.proofs.Answering.{part_length, piece-start, piece-more, piece-over, answers-most}
use Rattle.program_loop.proofs.answer.Goals as goal

pub loop-lost-init : goal.loop-lost-init
loop-lost-init c = record {
  same_length = refl;
  so_far = piece-start _ _ _ _ c.requires.out_len.0 c.requires.out_len.2;
  sound = c.requires.sound;
}

pub show-requires : goal.show-requires
show-requires c =
    let so_far = c.loop-lost.invariant.so_far in
    let f = c.feed-fed.ensures.feeds in (
      omega (arith, f.printed, f.same_length),
      omega (
        arith,
        f.printed,
        so_far.space,
        answers-most so_far.answers,
        length-take-le c.loop-lost.from c.args.piece.now so_far.few,
        c.requires.out_len.1,
      ),
      c.loop-lost-test.true,
    )

-- A turn reads at least a byte.
pub loop-lost-smaller : goal.loop-lost-smaller
loop-lost-smaller c =
    let size = part_length c.loop-lost.from c.args.piece.now in
    let some : 0 < c.feed-fed.result.read =
    c.feed-fed.ensures.feeds_all.some (omega (arith, size)) (omega (arith, c.loop-lost.invariant.so_far.space)) in
    omega (arith, some, c.feed-fed.ensures.feeds.read, size)

pub loop-lost-preserved : goal.loop-lost-preserved
loop-lost-preserved c =
    let l = c.loop-lost in
    let f = c.feed-fed.ensures.feeds in
    let size = part_length l.from c.args.piece.now in
    let some : 0 < c.feed-fed.result.read =
    c.feed-fed.ensures.feeds_all.some (omega (arith, size)) (omega (arith, l.invariant.so_far.space)) in
    record {
      same_length = f.same_length ∙ l.invariant.same_length;
      so_far = piece-more _ l.invariant.so_far c.loop-lost-test.true f some c.show.ensures;
      sound = c.feed-fed.ensures.sound;
    }

pub returns-else-from-piece-clause-answers : goal.returns-else-from-piece-clause-answers
returns-else-from-piece-clause-answers c =
    let so_far = c.loop-lost.invariant.so_far in
    piece-over _ so_far (λ e. omega (arith, so_far.few, c.if-from-piece.false))

pub returns-after-loop-lost-clause-answers : goal.returns-after-loop-lost-clause-answers
returns-after-loop-lost-clause-answers c =
    piece-over _ c.loop-lost.invariant.so_far (λ e. absurd (omega (arith, e, c.loop-lost-test.false)))
