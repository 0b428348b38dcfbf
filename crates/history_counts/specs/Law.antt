-- A history tells its counts.
use Rattle.std.specs.Prelude.{◌≡◌}
use Rattle.app_image.specs.Image.{ImageRecord, IsValidImage}
use Rattle.machine_model.specs.Run.{Run, history}
use Rattle.program_model.specs.Summary.{counts_of}

-- two runs of a valid image whose histories are equal have as many calls, switches and lines of their own
abbrev pub HistoriesTellCounts : Type 0
HistoriesTellCounts = (image : ImageRecord) → IsValidImage image → (a b : Run) → history image a ≡ history image b → counts_of a.events ≡ counts_of b.events
