-- The listing of a valid image is accepted, and gives the image.
use Rattle.std.proofs.Common.{◌≡◌, ℕ, List, [], ◌∷◌, length, drop, false, refl, sym, ap, ◌∙◌}
use Rattle.std.specs.Prelude.{if◌then◌else◌}
use Rattle.text_lex.specs.declared.Token.{Token}
use Rattle.app_image.specs.Image.{ImageRecord, IsValidImage}
use Rattle.app_image.specs.Layout.{HasWords}
use Rattle.app_image.specs.Refusal.{checked}
use Rattle.rv32_asm.specs.Steps.{empty_image}
use Rattle.rv32_asm.specs.Assembled.{assembled}
use Rattle.rv32_asm.specs.Assembly as asm
use Rattle.inject_list.specs.Lists.{no_injections}
use Rattle.program_model.specs.Case.{Accepts, with_tokens, is_image, is_executable, checked_case, assembled_case, text_case, image_case, executable_case, case_of}
use Rattle.rv32_listing.specs.Disassembly.{disassembly}
use Rattle.listing_law.specs.Law.{AssemblesBack, EveryListingAssemblesBack}
use Rattle.listing_law.proofs.Tokens.Parts.{flat}
use Rattle.listing_law.proofs.Lines.Read.{items_parts, items_tokens, lexed_items}
use Rattle.listing_law.proofs.Lines.Listed.{items_of, listed_text}
use Rattle.listing_law.proofs.Lines.Fit.{listed_fit}
use Rattle.listing_law.proofs.Assembled.Sound.{listed_sound}
use Rattle.listing_law.proofs.Assembled.Texts.{items_added, assembled_text}
use Rattle.listing_law.proofs.Assembled.Image.{IsLined, listed_added, lined_raw}
use Rattle.listing_law.proofs.Accepted.Checked.{lined_image, lined_checked, lined_same}
use Rattle.listing_law.proofs.Accepted.Lengths.{listing_short}

-- a listing is no binary image
no_image : (image : ImageRecord) → is_image (disassembly image) ≡ false
unfolding disassembly
no_image image = refl

-- nor an executable
no_executable : (image : ImageRecord) → is_executable (disassembly image) ≡ false
unfolding disassembly
no_executable image = refl

drop_whole : (ts : List Token) → drop (length ts) ts ≡ []
drop_whole [] = refl
drop_whole (t ∷ ts) = drop_whole ts

module _ (image : ImageRecord) (v : IsValidImage image) (w : HasWords image) where
  abbrev text : List ℕ
  text = flat (items_parts (items_of image))

  abbrev tokens : List Token
  tokens = items_tokens (items_of image)

  given : IsLined image (items_added 1 (items_of image) empty_image)
  given = listed_added image v w

  abbrev lined : ImageRecord
  lined = lined_image given.objects given.tasks given.vectors image

  gives : assembled text tokens ≡ asm.Gives (lined_raw given.objects given.tasks given.vectors given.settings image) (length tokens)
  gives = assembled_text (items_of image) (listed_sound image v w) ∙ ap (λ raw. asm.Gives raw (length tokens)) given.same

  text_accepted : text_case text ≡ Accepts lined no_injections
  unfolding text_case
  text_accepted =
      ap (with_tokens (λ ts. assembled_case text ts (assembled text ts))) (lexed_items (items_of image) (listed_fit image v w))
      ∙ (ap (assembled_case text tokens) gives
      ∙ (ap (λ ts. checked_case text ts (checked (lined_raw given.objects given.tasks given.vectors given.settings image))) (drop_whole tokens)
      ∙ ap (checked_case text []) (lined_checked given.objects given.tasks given.vectors given.settings image v)))

  accepted : case_of (disassembly image) ≡ Accepts lined no_injections
  unfolding case_of
  accepted =
      ap (λ b. if b then image_case (disassembly image) else (if is_executable (disassembly image) then executable_case (disassembly image) else text_case (disassembly image))) (no_image image)
      ∙ (ap (λ b. if b then executable_case (disassembly image) else text_case (disassembly image)) (no_executable image)
      ∙ ap text_case (sym (listed_text image)) ∙ text_accepted)

  pub assembles_back : AssemblesBack image
  assembles_back = record {
    lined = lined;
    same = lined_same given.objects given.tasks given.vectors image;
    case = accepted;
    short = listing_short image v w;
  }

pub every_listing_assembles_back : EveryListingAssemblesBack
every_listing_assembles_back image v w = assembles_back image v w
