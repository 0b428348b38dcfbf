use Rattle.std.proofs.Common.{◌≡◌, ◌∙◌, None, sym, subst}
use Rattle.app_image.specs.Image.{IsValidImage, image_of}
use Rattle.app_image.specs.Refusal.{refusal}
use Rattle.app_image.proofs.ValidLemmas.{IsValidImage-from_check}
use Rattle.app_image.proofs.checking.check.Goals as goal

-- what is not refused is valid
pub of_parts-requires : goal.of_parts-requires
of_parts-requires c =
    let none : refusal c.args.raw ≡ None = sym c.refusal.ensures ∙ c.in_default.is in
    let valid = IsValidImage-from_check c.args.raw c.requires none in
    rw (c.config_of-config.ensures, c.deref.ensures.value) (subst (λ r. IsValidImage (image_of r)) (sym c.raw.view_is) valid)
