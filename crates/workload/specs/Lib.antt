pub mod Amounts
pub mod Program
pub mod Serving
pub mod TenantLines
pub mod Unrecorded
