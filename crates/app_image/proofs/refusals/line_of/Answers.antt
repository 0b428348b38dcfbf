use Rattle.std.proofs.Common.{◌∙◌, sym}
use Rattle.app_image.proofs.RefusalLemmas.{line_of-other}
use Rattle.app_image.proofs.refusals.line_of.Goals as goal

pub returns-in_default : goal.returns-in_default
returns-in_default c =
    c.first_record.ensures ∙ sym (line_of-other c.args.cause c.args.raw.now c.in_default.not-NoTask c.in_default.not-VectorTwice c.in_default.not-SettingTwice c.in_default.not-NoCode)
