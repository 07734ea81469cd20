pub mod Goods
pub mod Chains
pub mod Steps
pub mod Hands
pub mod Calls
pub mod Shows
