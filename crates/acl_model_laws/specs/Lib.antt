pub mod ExampleGrants
pub mod ExampleNames
pub mod ExampleRefusals
pub mod ExampleRoles
