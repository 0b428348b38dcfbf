-- What a draft of an image gives.
use Rattle.std.specs.Prelude.{ℕ, List, []}
use Rattle.app_image.specs.Raw.{RawRecord}
use Rattle.rv32_asm.specs.declared.draft.Draft.{Draft}

abbrev pub raw_of : Draft → RawRecord
raw_of d = record { tasks = d.tasks.items; objects = d.objects.items; vectors = d.vectors.items; config = d.config.items; code = d.code.items; ram = d.ram.items }

-- an image of some words of code and of RAM, and of nothing that is declared
abbrev pub image_of_words : (code ram : List ℕ) → RawRecord
image_of_words code ram = record { tasks = []; objects = []; vectors = []; config = []; code = code; ram = ram }
