-- `program_loop::take_input` meets its contract. Assumes nothing.
use Rattle.std.proofs.Common.{◌∙◌, refl}
use Rattle.program_loop.proofs.Taking.{so-far-start, so_far_more}
use Rattle.program_loop.proofs.take_input.Goals as goal

pub loop-lost-init : goal.loop-lost-init
loop-lost-init c =
    let p = c.requires.read_value in
    record {
      same_input = refl;
      same_out = refl;
      so_far = so-far-start _ _ _ c.requires.input_len_bound.1 p.0 p.1 p.2 p.3;
      sound = c.requires.sound;
    }

pub loop-lost-preserved : goal.loop-lost-preserved
loop-lost-preserved c =
    let l = c.loop-lost in
    let t = c.take_read-s in
    record {
      same_input = t.auto.input ∙ l.invariant.same_input;
      same_out = t.auto.out ∙ l.invariant.same_out;
      so_far = so_far_more _ _ l.invariant.so_far c.loop-lost-test.true t.auto.out t.ensures.takes_read;
      sound = t.ensures.sound_2;
    }
