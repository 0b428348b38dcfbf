-- What interrupt code and traps leave as it was: the memory, the kernel, the current task.
pub mod Kernel
pub mod CurrentTask
pub mod Memory
