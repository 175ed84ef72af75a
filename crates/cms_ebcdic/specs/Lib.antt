pub mod CodePage
pub mod Laws
