pub mod MethodMachine
pub mod Valid
pub mod AnswerView
pub mod LookView
pub mod MachineView
pub mod Posts
pub mod FrameCalls
pub mod IsrStep
