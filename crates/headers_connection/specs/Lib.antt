pub mod Chunked
pub mod Connection
pub mod Expect
pub mod SecWebsocketVersion
