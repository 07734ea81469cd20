pub mod Program
pub mod Form
