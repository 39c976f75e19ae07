pub mod Exchange
pub mod Deliveries
pub mod Hearing
pub mod Expected
pub mod Demanding
pub mod Laws
