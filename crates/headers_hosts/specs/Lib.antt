pub mod Host
pub mod HostLaws
pub mod OneLine
pub mod Origin
pub mod OriginLaws
pub mod OriginParts
