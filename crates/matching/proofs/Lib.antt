mod Bytes
mod Spelled
