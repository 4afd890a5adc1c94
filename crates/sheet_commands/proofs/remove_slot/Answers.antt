-- `sheet_commands::remove_slot` meets its contract. Assumes nothing.
use Rattle.fields.specs.Texts.{bytes}
use Rattle.sheet_meaning.specs.Lines as prints
use Rattle.sheet_commands.proofs.Still.{change-still}
use Rattle.sheet_commands.proofs.remove_slot.Goals as goal

pub returns : goal.returns
unfolding bytes
returns c =
    record {
      obeys = (λ line e. record {
        printed = _;
        prints = prints.remove _ _ _ e c.remove_from_sound-answer.ensures;
        wrote = c.tell_change-next.ensures;
      });
      sound = change-still _ _ _ _ _ c.requires.0 c.remove_from_sound-answer.ensures;
    }
