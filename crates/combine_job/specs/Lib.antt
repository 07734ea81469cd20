pub mod Once
pub mod Parcels
pub mod Below
pub mod Laws
pub mod Combining
