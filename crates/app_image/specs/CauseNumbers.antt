-- The numbers of the causes.
use Rattle.std.specs.Prelude.{ℕ}
use Rattle.app_image.specs.declared.causes.ImageCause.{ImageCause}
use Rattle.app_image.specs.declared.causes.ImageCause.TheVariants.{NoTask, TaskPriority, CodeAddress, StackPointer, Quantum, TaskQueueSize, QueueSize, VectorNumber, VectorTwice, VectorLevel, TimerTime, SettingRange, SettingTwice, NoCode, BadName, Layout}

-- the number of a cause
abbrev pub cause_number : ImageCause → ℕ
cause_number NoTask = 1
cause_number TaskPriority = 2
cause_number CodeAddress = 3
cause_number StackPointer = 4
cause_number Quantum = 5
cause_number TaskQueueSize = 6
cause_number QueueSize = 7
cause_number VectorNumber = 8
cause_number VectorTwice = 9
cause_number VectorLevel = 10
cause_number TimerTime = 11
cause_number SettingRange = 12
cause_number SettingTwice = 13
cause_number NoCode = 14
cause_number BadName = 15
cause_number Layout = 16
