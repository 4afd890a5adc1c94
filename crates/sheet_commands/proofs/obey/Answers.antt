-- `sheet_commands::obey` meets its contract. Assumes nothing.
use mathlib.Core.Path.{◌∙◌, ap}
use Rattle.sheet_lines.specs.declared.Command.{Command}
use Rattle.sheet_lines.specs.declared.Parsed.{Parsed}
use Rattle.sheet_lines.specs.Readings.{Line, is, command_of, positives_in, negatives_in}
use Rattle.sheet_commands.proofs.obey.Goals as goal

abbrev told : Parsed → Command → Line
told p x = is (command_of x (positives_in p) (negatives_in p))

pub returns-in-Add : goal.returns-in-Add
returns-in-Add c =
    record {
      obeys = (λ line e. c.add_rule.ensures.obeys line (e ∙ ap (told c.args.parsed) c.in-Add.is));
      sound_2 = c.add_rule.ensures.sound_2;
    }

pub returns-in-Remove : goal.returns-in-Remove
returns-in-Remove c =
    record {
      obeys = (λ line e. c.remove_slot.ensures.obeys line (e ∙ ap (told c.args.parsed) c.in-Remove.is));
      sound_2 = c.remove_slot.ensures.sound;
    }

pub returns-in-Replace : goal.returns-in-Replace
returns-in-Replace c =
    record {
      obeys = (λ line e. c.replace_rule.ensures.obeys line (e ∙ ap (told c.args.parsed) c.in-Replace.is));
      sound_2 = c.replace_rule.ensures.sound_2;
    }

pub returns-in-Why : goal.returns-in-Why
returns-in-Why c =
    record {
      obeys = (λ line e. c.explain-next.ensures line (e ∙ ap (told c.args.parsed) c.in-Why.is));
      sound_2 = c.requires.sound;
    }

pub returns-in-Labels : goal.returns-in-Labels
returns-in-Labels c =
    record {
      obeys = (λ line e. c.list_labels-next.ensures line (e ∙ ap (told c.args.parsed) c.in-Labels.is));
      sound_2 = c.requires.sound;
    }
