pub mod Class
pub mod Inside
pub mod Next
pub mod Printed
pub mod Reserved
pub mod Token
pub mod Value
