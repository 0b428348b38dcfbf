pub mod TaskTable
pub mod TaskView
pub mod TableView
