-- `label_list::labels_of_sound` meets its contract: what was found, counted and written tells the labels. Assumes
-- nothing.
use Prim.Native.Nat.{◌≤◌}
use native.Mathlib.Omega.{arith}
use mathlib.Core.Path.{◌≡◌, refl, ◌∙◌, ap}
use lib.ListN.{length}
use Rattle.theory.specs.Limits.{document}
use Rattle.table.specs.Sets.{member}
use Rattle.table.specs.Words.{table_of}
use Rattle.reading.proofs.SoundArrays.{sound-bounded}
use Rattle.written_lists.specs.Lists.{below}
use Rattle.written_lists.proofs.Lists.{below_length}
use Rattle.label_list.proofs.Writing.{ends-short, ends-written}
use borrow.Author.Rules.{rules}
use Rattle.label_list.proofs.labels_of_sound.Goals as goal

pub occurring-there-requires : goal.occurring-there-requires
occurring-there-requires c =
    sound-bounded (table_of c.args.table.now) c.requires

pub overflow_mul-n : goal.overflow_mul-n
overflow_mul-n c =
    let long : length c.occurring-there.result ≡ document.atoms = search rules in
    let few : c.count_marked-n.result ≤ document.atoms = omega (
      arith,
      c.count_marked-n.ensures,
      below_length (member c.occurring-there.result) (length c.occurring-there.result),
    ) in
    search rules

pub returns-then-buffer-n : goal.returns-then-buffer-n
returns-then-buffer-n c =
    let there = c.occurring-there.result in
    let long : length there ≡ document.atoms = search rules in
    ends-short (table_of c.args.table.now) c.requires c.arrays_of-kept.result c.arrays_of-kept.ensures
    (member there) c.occurring-there.ensures c.args.buffer.now c.count_marked-n.result _
    (c.count_marked-n.ensures ∙ ap (λ k. length (below (member there) k)) long) refl c.if-buffer-n.true

pub returns : goal.returns
returns c =
    let there = c.occurring-there.result in
    let long : length there ≡ document.atoms = search rules in
    ends-written (table_of c.args.table.now) c.requires c.arrays_of-kept.result c.arrays_of-kept.ensures
    (member there) c.occurring-there.ensures c.args.buffer.now c.count_marked-n.result _
    (c.count_marked-n.ensures ∙ ap (λ k. length (below (member there) k)) long) refl c.if-buffer-n.false _ _
    c.write_atoms.ensures
