pub mod Count
pub mod CountFrom
pub mod FirstFrom
pub mod Test
