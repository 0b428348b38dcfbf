use Rattle.std.proofs.Common.{◌≡◌, ◌∙◌, true, refl, sym}
use Rattle.std.specs.Result.{is_ok}
use Rattle.app_image.specs.declared.settings.ConfigKey.TheVariants.{IsrLimit}
use Rattle.app_image.proofs.RowLaws.{settings_push, pushed}
use Rattle.app_image.proofs.parts.read_settings.Goals as goal

pub loop-k-preserved : goal.loop-k-preserved
loop-k-preserved c =
    let ok : is_ok c.push.result ≡ true = rw c.is_err.ensures.negation (rw c.if-is_err.false refl) in
    let more = pushed (is_ok c.push.result) c.push.new.self.items c.loop-k.settings.items c.setting_at.result c.push.ensures.items ok in
    rw (c.setting_at.ensures, c.loop-k.invariant) at more ∙ sym (settings_push c.args.keys.now c.args.bytes.now c.args.start c.loop-k.k IsrLimit c.loop-k-test.true)
