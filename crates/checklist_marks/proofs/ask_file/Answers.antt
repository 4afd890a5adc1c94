-- `checklist_marks::ask_file` asks whether the rules are a checklist's, and 20. Assumes nothing.
use native.Mathlib.Omega.{arith}
use mathlib.Core.Path.{◌≡◌, sym, ◌∙◌, ap}
use Rattle.std.specs.Prelude.{Some, None}
use Rattle.std.proofs.lemmas.Result.{err_from_is_err_and}
use Rattle.theory.proofs.Lists.{clash}
use Rattle.refusals.specs.declared.Refusal.TheVariants.{TableUnsound}
use Rattle.checklist_frame.specs.Parts.{files_told}
use Rattle.checklist_frame.proofs.Frames.{checklist-of, on-list-few}
use Rattle.checklist_marks.specs.Parts.{unsound, off_list, passed}
use Rattle.checklist_marks.proofs.ask_file.Goals as goal

pub returns-in_err-n : goal.returns-in_err-n
returns-in_err-n c =
    let no : c.file_count.result ≡ None = grind arith in
    let p = err_from_is_err_and c.from_residual.result c.from_residual.ensures.1 in
    let why : c.in_err-n.field-0.0 ≡ TableUnsound = grind arith in
    rw (p.1, p.2, why) (unsound (λ S. sym c.file_count.ensures ∙ ap files_told no))

-- where a number of files was counted, it is that of the rules
pub on_list-requires : goal.on_list-requires
on_list-requires c =
    let found : c.file_count.result ≡ Some c.in_ok-n.n = grind arith in
    (checklist-of _ _ (sym c.file_count.ensures ∙ ap files_told found)).high

pub overflow_cast-file : goal.overflow_cast-file
overflow_cast-file c =
    let found : c.file_count.result ≡ Some c.in_ok-n.n = grind arith in
    let files = sym c.file_count.ensures ∙ ap files_told found in
    omega (arith, (on-list-few _ _ c.args.file files (sym c.on_list.ensures ∙ c.if-on_list.true)).1)

pub mark_atom-requires : goal.mark_atom-requires
mark_atom-requires c =
    let found : c.file_count.result ≡ Some c.in_ok-n.n = grind arith in
    let files = sym c.file_count.ensures ∙ ap files_told found in
    on-list-few _ _ c.args.file files (sym c.on_list.ensures ∙ c.if-on_list.true)

pub returns-then-on_list : goal.returns-then-on_list
returns-then-on_list c =
    let found : c.file_count.result ≡ Some c.in_ok-n.n = grind arith in
    passed _ _ (sym c.file_count.ensures ∙ ap files_told found) (sym c.on_list.ensures ∙ c.if-on_list.true)
    c.mark_atom.ensures

pub returns-then-not-is_sound : goal.returns-then-not-is_sound
returns-then-not-is_sound c = unsound (λ S. absurd (clash (c.is_sound.ensures.1 S) c.if-not-is_sound.true))

pub returns : goal.returns
returns c =
    let found : c.file_count.result ≡ Some c.in_ok-n.n = grind arith in
    off_list _ (c.is_sound.ensures.0 c.if-not-is_sound.false) (sym c.file_count.ensures ∙ ap files_told found)
    (sym c.on_list.ensures ∙ c.if-on_list.false)
