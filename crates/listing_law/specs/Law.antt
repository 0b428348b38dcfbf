-- The listing of an image assembles back.
use Rattle.std.specs.Prelude.{◌≡◌, ◌≤◌, length}
use Rattle.app_image.specs.Image.{ImageRecord, IsValidImage}
use Rattle.app_image.specs.Layout.{HasWords}
use Rattle.app_image.specs.RoundTrip.{unlined}
use Rattle.inject_list.specs.Lists.{no_injections}
use Rattle.program_model.specs.Case.{Accepts, case_of}
use Rattle.program_model.specs.Limits.{longest_input}
use Rattle.rv32_listing.specs.Disassembly.{disassembly}

-- The listing is a case: it is accepted, its image is the same but for the numbers of lines, and it has no interrupts and no
-- looks. It is short enough to be read as an input.
pub record AssemblesBack (image : ImageRecord) : Type 0 where
  pub lined : ImageRecord
  pub same : unlined lined ≡ unlined image
  pub case : case_of (disassembly image) ≡ Accepts lined no_injections
  pub short : length (disassembly image) ≤ longest_input

-- the listing of every valid image does
abbrev pub EveryListingAssemblesBack : Type 0
EveryListingAssemblesBack = (image : ImageRecord) → IsValidImage image → HasWords image → AssemblesBack image
