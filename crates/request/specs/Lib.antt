-- What a reader must believe of requests.
pub mod Requests
