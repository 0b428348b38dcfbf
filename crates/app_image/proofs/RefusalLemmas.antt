-- Laws of the refusal of a raw image.
use Rattle.std.proofs.Common.{◌≡◌, ◌≢◌, refl}
use Rattle.app_image.specs.Raw.{RawRecord}
use Rattle.app_image.specs.Refusal.{line_of, first_record}
use Rattle.app_image.specs.declared.causes.ImageCause.{ImageCause}
use Rattle.app_image.specs.declared.causes.ImageCause.TheVariants.{NoTask, TaskPriority, CodeAddress, StackPointer, Quantum, TaskQueueSize, QueueSize, VectorNumber, VectorTwice, VectorLevel, TimerTime, SettingRange, SettingTwice, NoCode, BadName, Layout}

-- a cause that one record has by itself
pub line_of-other : (cause : ImageCause) (raw : RawRecord) → cause ≢ NoTask → cause ≢ VectorTwice → cause ≢ SettingTwice → cause ≢ NoCode → line_of cause raw ≡ first_record cause raw
line_of-other NoTask raw a b c d = absurd (a refl)
line_of-other TaskPriority raw a b c d = refl
line_of-other CodeAddress raw a b c d = refl
line_of-other StackPointer raw a b c d = refl
line_of-other Quantum raw a b c d = refl
line_of-other TaskQueueSize raw a b c d = refl
line_of-other QueueSize raw a b c d = refl
line_of-other VectorNumber raw a b c d = refl
line_of-other VectorTwice raw a b c d = absurd (b refl)
line_of-other VectorLevel raw a b c d = refl
line_of-other TimerTime raw a b c d = refl
line_of-other SettingRange raw a b c d = refl
line_of-other SettingTwice raw a b c d = absurd (c refl)
line_of-other NoCode raw a b c d = absurd (d refl)
line_of-other BadName raw a b c d = refl
line_of-other Layout raw a b c d = refl
