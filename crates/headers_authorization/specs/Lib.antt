pub mod Base64
pub mod Base64Laws
pub mod Basic
pub mod BasicLaws
pub mod Bearer
pub mod BearerLaws
pub mod CredentialLaws
pub mod Scheme
